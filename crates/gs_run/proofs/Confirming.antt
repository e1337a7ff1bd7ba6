-- A strategy that is confirmed has no trouble.
use Rattle.std.proofs.Common.{◌≡◌, ℕ, ◌*◌, ◌<◌, List, Ok, ap, subst, inl, inr, arith}
use Rattle.gs_strategy_commands.specs.{Commands.{Evaluates, OfConfirmed, SaysNumbers}, Troubles.{IsFirstWrong, IsTrouble}}
use Rattle.gs_file.specs.{Reading.{FileGame, read_at}, declared.version.Version.{Version}, declared.version.Version.TheVariants.{Two}}
use Rattle.gs_model.specs.{Classes.{ClassLists}, Frame.{total_weight}}
use Rattle.gs_reply.specs.Refusals.{Refusal, Bad_game, Unlike_pair, Overflows, Many_pivots, Too_large, Bad_strategy, Wrong_number, Bad_query, Other_game}
use Rattle.gs_reply.specs.Refusals.{Bad_certificate}
use Rattle.gs_reply.specs.{declared.refusals.Limit.{Limit}, declared.refusals.Limit.TheVariants.{Sequences, Cells, TableNumbers, RawCells}}
use Rattle.gs_reply.specs.{Replies.{OfRead, Reply, Prints}, Troubles.{Passes}, declared.refusals.Which.TheVariants.{Only}, VerdictText.{verdict_text}}
use Rattle.gs_seq.specs.{Stops.{IsSmall}, declared.plan.Plan.{Plan}}
use Rattle.gs_game_commands.specs.Texts.{IsSettledText}
use Rattle.gs_strategy.proofs.{Only.{only}, Verdicts.{scale_some, verdicts_one}}
use Rattle.gs_strategy.specs.{Checks.{ReadResult}, Confirmed.{AreNumbersOf, IsConfirmed, strategy_frame, raw_plan}, Laws.{IsStrategy}}
use Rattle.gs_strategy.specs.{Texts.{strategy_text}, Values.{FractionParts, Numbers, Strategy, file_frame}}
use Rattle.gs_file.proofs.Dealt.{told_dealt}
use Rattle.gs_game_commands.proofs.Printed.{printed_strategy}

-- the weight of all deals and both totals are above 0
pub strategy_scale : (version : Version) (s : Strategy) → IsStrategy version s
    → 0 < total_weight (strategy_frame s) * (raw_plan s s.one).total * (raw_plan s s.two).total
strategy_scale version s h =
    scale_some (total_weight (strategy_frame s)) s.one.total s.two.total (told_dealt version s.game h.written.game).deals h.first.plan.total_in.0
    h.second.plan.total_in.0

-- two lists of numbers of a strategy are the same
pub strategy_numbers : (version : Version) (s : Strategy) (n m : Numbers) → IsStrategy version s → AreNumbersOf s n → AreNumbersOf s m → n ≡ m
strategy_numbers version s n m h a b =
    verdicts_one (strategy_frame s) (raw_plan s s.one) (raw_plan s s.two) n m (strategy_scale version s h)
    a.fractions b.fractions a.verdict b.verdict

pub small_passes : (g : FileGame) (lists : ClassLists) (limit : Limit) → IsSmall (file_frame g) lists → Passes g lists limit → ⊥
small_passes g lists (Sequences player count) small (inl h) = let k = small.sequences.one in let e = h.1 in let o = h.2 in omega arith
small_passes g lists (Sequences player count) small (inr h) = let k = small.sequences.two in let e = h.1.1 in let o = h.1.2 in omega arith
small_passes g lists (Cells count) small h = let k = small.cells in let e = h.1 in let o = h.2 in omega arith
small_passes g lists (TableNumbers count) small h = h
small_passes g lists (RawCells count) small h = h

none_wrong : (n m : Numbers) (name : List ℕ) (one other : FractionParts) → n ≡ m → IsFirstWrong n m name one other → ⊥
none_wrong n m name one other e (inl h) = h.3 (ap (λ (k : Numbers). k.value) e)
none_wrong n m name one other e (inr (inl h)) = h.4 (ap (λ (k : Numbers). k.gap1) e)
none_wrong n m name one other e (inr (inr h)) = h.5 (ap (λ (k : Numbers). k.gap2) e)

pub no_trouble : (version : Version) (s : Strategy) (why : Refusal) → IsStrategy version s → IsConfirmed s → IsTrouble s why → ⊥
no_trouble version s (Unlike_pair round one two) h c t = t.not_lossless c.lossless
no_trouble version s (Too_large limit) h c t = small_passes s.game s.classes limit c.small t.passed
no_trouble version s (Wrong_number name stated found) h c t =
    none_wrong s.numbers t.numbers name stated found (strategy_numbers version s s.numbers t.numbers h c.numbers t.are) t.first
no_trouble version s (Bad_game why) h c t = t
no_trouble version s (Overflows at) h c t = t
no_trouble version s Many_pivots h c t = t
no_trouble version s (Bad_strategy which why) h c t = t
no_trouble version s (Bad_query why) h c t = t
no_trouble version s Other_game h c t = t
no_trouble version s (Bad_certificate why) h c t = t

-- what is said of a confirmed strategy is said without trouble
pub said_of_confirmed : (version : Version) (s : Strategy) (says : Strategy → Reply → Type 0) (reply : Reply) → IsStrategy version s → IsConfirmed s
    → OfConfirmed says s reply → says s reply
said_of_confirmed version s says reply h c (inl p) = p.1
said_of_confirmed version s says reply h c (inr q) = absurd (no_trouble version s q.0 h c q.1)

pub evaluated : (version : Version) (s : Strategy) (reply : Reply) → IsStrategy version s → IsConfirmed s → Evaluates (strategy_text version s) reply
    → reply ≡ Prints (verdict_text s.numbers)
evaluated version s reply h c o =
    said_of_confirmed version s SaysNumbers reply h c (subst (λ (x : ReadResult). OfRead Only (OfConfirmed SaysNumbers) x reply)
    (only version s o.read h o.reads) o.said)

pub printed_evaluated : (bytes : List ℕ) (g : FileGame) (lists : ClassLists) (one two : Plan) (text : List ℕ) (reply : Reply) → read_at bytes ≡ Ok g
    → (t : IsSettledText g lists one two text) → Evaluates text reply → reply ≡ Prints (verdict_text t.strategy.numbers)
printed_evaluated bytes g lists one two text reply e t o =
    evaluated Two t.strategy reply (printed_strategy bytes g lists one two text e t) t.confirmed (subst (λ (b : List ℕ). Evaluates b reply) t.printed o)
