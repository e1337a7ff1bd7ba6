-- What is said of strategy files is one: `evaluate`, `upgrade`, `query` and `judge`.
use Rattle.std.proofs.Common.{◌≡◌, ◌⊎◌, ℕ, suc, ◌*◌, ◌<◌, ◌≤◌, ◌++◌, true, List, [], ◌∷◌, map, Some, Ok, Err, All, codes, pos, refl, sym, ap, ◌∙◌, subst, inl}
use Rattle.std.proofs.{Common.{inr, arith}, lemmas.Nat.Gcd.{dvd_antisymm}, lemmas.Bool.{cases_lt}, lemmas.List.Elements.{All-head, All-tail}}
use Rattle.std.specs.{Prelude.{slice_get, sum_by}, List.{AllByRecursion, flat_map}, Int.{IsGcd}}
use Rattle.gs_frac.proofs.{GcdLaws.{is_gcd_of}, OneForm.{divides_factor}}
use Rattle.gs_game.proofs.{MoneyLaws.{tree_sound}, LineLaws.{named}}
use Rattle.gs_bet.specs.Grammar.{is_sound}
use Rattle.gs_raw_commands.specs.Commands.{Judges, SaysJudged}
use Rattle.gs_strategy_commands.specs.Commands.{Evaluates, OfConfirmed, Queries, SaysNumbers, SaysQueried, SaysUpgraded, Upgrades}
use Rattle.gs_strategy_commands.specs.Queries.{IsBadQuery, IsQueried, IsToldAt, NamesPoint, NamesSignal, gap_of_player, weights_of_player}
use Rattle.gs_strategy_commands.specs.Troubles.{IsFirstWrong, IsTooLarge, IsTrouble, IsWrongNumber}
use Rattle.gs_file.specs.{JsonLaws.{IsRoundTold, IsTold}, Reading.{FileGame, file_rules}, declared.version.Version.{Version}}
use Rattle.gs_frac.specs.{Texts.{number_line}, declared.value.Fraction.{Fraction}}
use Rattle.gs_lift.specs.{Mixtures.{IsMixture, IsShareOf}, declared.fault.QueryFault.{QueryFault}}
use Rattle.gs_lift.specs.declared.fault.QueryFault.TheVariants as query
use Rattle.gs_model.proofs.{Ranges.{signal_count_is}, Walked.{last_round_of, walked_one}}
use Rattle.gs_model.specs.{Classes.{ClassLists}, Frame.{Frame, choices_at, player_at, point, point_count, round_of, total_weight, trees_of}}
use Rattle.gs_model.specs.{Game.{Round, round_count}, Plans.{IsShare, Plan as RawPlan}, Positions.{at_point}}
use Rattle.gs_reply.specs.Refusals.{Refusal, Bad_game, Unlike_pair, Overflows, Many_pivots, Too_large, Bad_strategy, Wrong_number, Bad_query, Other_game}
use Rattle.gs_reply.specs.{Refusals.{Bad_certificate}, declared.refusals.Which.TheVariants.{Only}, VerdictText.{mix_text, verdict_text}}
use Rattle.gs_reply.specs.{declared.refusals.Limit.{Limit}, declared.refusals.Limit.TheVariants.{Sequences, Cells, TableNumbers, RawCells}}
use Rattle.gs_reply.specs.{Replies.{OfFile, OfRead, Reply, Prints, Refuses}, Troubles.{IsUnlikePair, Passes}, declared.refusals.Which.{Which}}
use Rattle.gs_seq.specs.Stops.{IsSmall}
use Rattle.gs_strategy.specs.{Checks.{ReadResult, Reads}, Confirmed.{strategy_frame, raw_plan}, Laws.{IsStrategy}}
use Rattle.gs_strategy.specs.Values.{FractionParts, Numbers, Strategy, file_frame}
use Rattle.gs_tree.proofs.Named.{text_once}
use Rattle.gs_run.proofs.{Confirming.{no_trouble, small_passes, strategy_numbers}, OneGame.{unlike_pair_one}}
use Rattle.gs_strategy.proofs.{Verdicts.{verdicts_one, scale_some}, OneReading.{reads_one}, Strategies.{reads_strategy}}
use Rattle.gs_file.proofs.Dealt.{told_dealt, told_playable}

-- ---- files

-- of bytes that hold a strategy it is said of that strategy
pub over_file : (which : Which) (says : Strategy → Reply → Type 0) → ((version : Version) (s : Strategy) (one two : Reply) → IsStrategy version s → says s one
    → says s two → one ≡ two)
    → (bytes : List ℕ) (one two : Reply) → OfFile which says bytes one → OfFile which says bytes two → one ≡ two
over_file which says h bytes one two a b =
    let e = reads_one bytes b.read a.read b.reads a.reads in
    by a.read a.reads a.said (subst (λ (r : ReadResult). OfRead which says r two) e b.said)
  where
    by : (r : ReadResult) → Reads bytes r → OfRead which says r one → OfRead which says r two → one ≡ two
    by (Ok s) reads p q = let t = reads_strategy bytes s reads in h t.0 s one two t.1 p q
    by (Err why) reads p q = p ∙ sym q

-- ---- troubles

passes_one : (g : FileGame) (lists : ClassLists) (a b : Limit) → Passes g lists a → Passes g lists b → a ≡ b
passes_one g lists (Sequences p c) (Sequences q d) (inl h) (inl k) = let x = h.0 ∙ sym k.0 in let y = h.1 ∙ sym k.1 in cc
passes_one g lists (Sequences p c) (Sequences q d) (inl h) (inr k) = let a = h.1 in let b = h.2 in let l = k.0 in absurd (omega arith)
passes_one g lists (Sequences p c) (Sequences q d) (inr h) (inl k) = let a = k.1 in let b = k.2 in let l = h.0 in absurd (omega arith)
passes_one g lists (Sequences p c) (Sequences q d) (inr h) (inr k) = let x = h.1.0 ∙ sym k.1.0 in let y = h.1.1 ∙ sym k.1.1 in cc
passes_one g lists (Sequences p c) (Cells d) (inl h) k = let l = k.0.one in let a = h.1 in let b = h.2 in absurd (omega arith)
passes_one g lists (Sequences p c) (Cells d) (inr h) k = let l = k.0.two in let a = h.1.1 in let b = h.1.2 in absurd (omega arith)
passes_one g lists (Cells c) (Sequences q d) h (inl k) = let l = h.0.one in let a = k.1 in let b = k.2 in absurd (omega arith)
passes_one g lists (Cells c) (Sequences q d) h (inr k) = let l = h.0.two in let a = k.1.1 in let b = k.1.2 in absurd (omega arith)
passes_one g lists (Cells c) (Cells d) h k = let e = h.1 ∙ sym k.1 in cc
passes_one g lists a (TableNumbers n) h k = absurd k
passes_one g lists a (RawCells n) h k = absurd k
passes_one g lists (TableNumbers n) b h k = absurd h
passes_one g lists (RawCells n) b h k = absurd h

pub limit_one : (g : FileGame) (lists : ClassLists) (a b : Limit) → Passes g lists a → Passes g lists b → a ≡ b
limit_one g lists a b h k = passes_one g lists a b h k

small_or_large : (s : Strategy) (limit : Limit) → IsSmall (file_frame s.game) s.classes → Passes s.game s.classes limit → ⊥
small_or_large s limit small h = small_passes s.game s.classes limit small h

wrong_one : (n m : Numbers) (name : List ℕ) (a b : FractionParts) (name' : List ℕ) (c d : FractionParts) → IsFirstWrong n m name a b
    → IsFirstWrong n m name' c d → Wrong_number name a b ≡ Wrong_number name' c d
wrong_one n m name a b name' c d (inl h) (inl k) =
    let x = h.0 ∙ sym k.0 in let y = h.1 ∙ sym k.1 in let z = h.2 ∙ sym k.2 in cc
wrong_one n m name a b name' c d (inl h) (inr (inl k)) = absurd (h.3 k.3)
wrong_one n m name a b name' c d (inl h) (inr (inr k)) = absurd (h.3 k.3)
wrong_one n m name a b name' c d (inr (inl h)) (inl k) = absurd (k.3 h.3)
wrong_one n m name a b name' c d (inr (inl h)) (inr (inl k)) =
    let x = h.0 ∙ sym k.0 in let y = h.1 ∙ sym k.1 in let z = h.2 ∙ sym k.2 in cc
wrong_one n m name a b name' c d (inr (inl h)) (inr (inr k)) = absurd (h.4 k.4)
wrong_one n m name a b name' c d (inr (inr h)) (inl k) = absurd (k.3 h.3)
wrong_one n m name a b name' c d (inr (inr h)) (inr (inl k)) = absurd (k.4 h.4)
wrong_one n m name a b name' c d (inr (inr h)) (inr (inr k)) =
    let x = h.0 ∙ sym k.0 in let y = h.1 ∙ sym k.1 in let z = h.2 ∙ sym k.2 in cc

-- a trouble is of three kinds
abbrev AsUnlike : Strategy → Refusal → Type 0
AsUnlike s why = (round : ℕ) × (one : List ℕ) × (two : List ℕ) × (why ≡ Unlike_pair round one two) × IsUnlikePair s.game s.classes round one two

abbrev AsLarge : Strategy → Refusal → Type 0
AsLarge s why = (limit : Limit) × (why ≡ Too_large limit) × IsTooLarge s limit

abbrev AsWrong : Strategy → Refusal → Type 0
AsWrong s why = (name : List ℕ) × (a : FractionParts) × (b : FractionParts) × (why ≡ Wrong_number name a b) × IsWrongNumber s name a b

kind_of : (s : Strategy) (why : Refusal) → IsTrouble s why → AsUnlike s why ⊎ (AsLarge s why ⊎ AsWrong s why)
kind_of s (Unlike_pair round one two) t = inl (round, one, two, refl, t)
kind_of s (Too_large limit) t = inr (inl (limit, refl, t))
kind_of s (Wrong_number name a b) t = inr (inr (name, a, b, refl, t))
kind_of s (Bad_game why) t = absurd t
kind_of s (Overflows at) t = absurd t
kind_of s Many_pivots t = absurd t
kind_of s (Bad_strategy which why) t = absurd t
kind_of s (Bad_query why) t = absurd t
kind_of s Other_game t = absurd t
kind_of s (Bad_certificate why) t = absurd t

trouble_one : (version : Version) (s : Strategy) (v w : Refusal) → IsStrategy version s → IsTrouble s v → IsTrouble s w → v ≡ w
trouble_one version s v w is h k = by (kind_of s v h) (kind_of s w k)
  where
    by : AsUnlike s v ⊎ (AsLarge s v ⊎ AsWrong s v) → AsUnlike s w ⊎ (AsLarge s w ⊎ AsWrong s w) → v ≡ w
    by (inl (r, a, b, e, u)) (inl (r', a', b', e', u')) = let p = unlike_pair_one s.game s.classes r a b r' a' b' u u' in cc
    by (inl (r, a, b, e, u)) (inr (inl (l, e', t))) = absurd (u.not_lossless t.lossless)
    by (inl (r, a, b, e, u)) (inr (inr (n, c, d, e', t))) = absurd (u.not_lossless t.lossless)
    by (inr (inl (l, e, t))) (inl (r, a, b, e', u)) = absurd (u.not_lossless t.lossless)
    by (inr (inl (l, e, t))) (inr (inl (m, e', t'))) = let p = passes_one s.game s.classes l m t.passed t'.passed in cc
    by (inr (inl (l, e, t))) (inr (inr (n, c, d, e', t'))) = absurd (small_or_large s l t'.small t.passed)
    by (inr (inr (n, c, d, e, t))) (inl (r, a, b, e', u)) = absurd (u.not_lossless t.lossless)
    by (inr (inr (n, c, d, e, t))) (inr (inl (l, e', t'))) = absurd (small_or_large s l t.small t'.passed)
    by (inr (inr (n, a, b, e, t))) (inr (inr (m, c, d, e', t'))) =
        let same = strategy_numbers version s t.numbers t'.numbers is t.are t'.are in
        let p = wrong_one s.numbers t'.numbers n a b m c d (subst (λ (x : Numbers). IsFirstWrong s.numbers x n a b) same t.first) t'.first in
        cc

pub confirmed_one : (version : Version) (s : Strategy) (says : Strategy → Reply → Type 0) → IsStrategy version s
    → ((one two : Reply) → says s one → says s two → one ≡ two)
    → (one two : Reply) → OfConfirmed says s one → OfConfirmed says s two → one ≡ two
confirmed_one version s says is h one two (inl p) (inl q) = h one two p.1 q.1
confirmed_one version s says is h one two (inl p) (inr q) = absurd (no_trouble version s q.0 is p.0 q.1)
confirmed_one version s says is h one two (inr p) (inl q) = absurd (no_trouble version s p.0 is q.0 p.1)
confirmed_one version s says is h one two (inr p) (inr q) =
    let e = trouble_one version s p.0 q.0 is p.1 q.1 in
    p.2 ∙ ap (λ (why : Refusal). Refuses why) e ∙ sym q.2

pub evaluates_one : (bytes : List ℕ) (one two : Reply) → Evaluates bytes one → Evaluates bytes two → one ≡ two
evaluates_one = over_file Only (OfConfirmed SaysNumbers) (λ version s one two is. confirmed_one version s SaysNumbers is (λ x y p q. p ∙ sym q) one two)

pub upgrades_one : (bytes : List ℕ) (one two : Reply) → Upgrades bytes one → Upgrades bytes two → one ≡ two
upgrades_one = over_file Only (OfConfirmed SaysUpgraded) (λ version s one two is. confirmed_one version s SaysUpgraded is (λ x y p q. p ∙ sym q) one two)

-- ---- `judge`

judged_one : (version : Version) (s : Strategy) (one two : Reply) → IsStrategy version s → SaysJudged s one → SaysJudged s two → one ≡ two
judged_one version s one two is (inl (few, (n, a, e))) (inl (low, (m, b, e'))) =
    let f = strategy_frame s in
    let some = scale_some (total_weight f) s.one.total s.two.total (told_dealt version s.game is.written.game).deals is.first.plan.total_in.0
    is.second.plan.total_in.0 in
    let same = verdicts_one f (raw_plan s s.one) (raw_plan s s.two) n m some a.fractions
    b.fractions a.verdict b.verdict in
    e ∙ ap (λ (x : Numbers). Prints (verdict_text x)) same ∙ sym e'
judged_one version s one two is (inl (few, (n, a, e))) (inr (many, e')) = absurd (omega arith)
judged_one version s one two is (inr (many, e)) (inl (few, (n, a, e'))) = absurd (omega arith)
judged_one version s one two is (inr (many, e)) (inr (more, e')) = e ∙ sym e'

pub judges_one : (bytes : List ℕ) (one two : Reply) → Judges bytes one → Judges bytes two → one ≡ two
judges_one = over_file Only SaysJudged judged_one

-- ---- `query`

sound_trees : (rs : List Round) → All IsRoundTold rs → AllByRecursion (λ t. is_sound 16 t ≡ true) (map (λ (r : Round). r.tree) rs)
sound_trees [] h = tt
sound_trees (r ∷ rs) h = (tree_sound r.tree (All-head IsRoundTold r rs h).tree, sound_trees rs (All-tail IsRoundTold r rs h))

same_point : (p q : ℕ) → Some (at_point p) ≡ Some (at_point q) → p ≡ q
same_point p q e = cc

point_one : (version : Version) (g : FileGame) (line : List ℕ) (p q : ℕ) → IsTold version g → NamesPoint g line p → NamesPoint g line q → p ≡ q
point_one version g line p q t h k =
    let sound = sound_trees g.rounds t.rounds in
    same_point p q (sym (named (trees_of (file_rules g)) line (at_point p) sound h) ∙ named (trees_of (file_rules g)) line (at_point q) sound k)

signal_one : (version : Version) (g : FileGame) (q : ℕ) (text : List ℕ) (i k : ℕ) → IsTold version g → q < point_count (file_frame g)
    → NamesSignal g (round_of (file_frame g) (at_point q)) text i → NamesSignal g (round_of (file_frame g) (at_point q)) text k → i ≡ k
signal_one version g q text i k t inside h l =
    let r = file_rules g in
    let w = walked_one r (told_playable version g t) in
    let round = round_of (file_frame g) (at_point q) in
    let some = w.some_round q inside in
    let top = w.point_in q inside in
    let last = last_round_of r in
    let within : round ≤ round_count r = omega arith in
    let count = signal_count_is r round some within in
    let a = h.in_range in
    let b = l.in_range in
    text_once r g.deck round i k t.deck t.deck.counted (omega arith) (omega arith) (sym h.named ∙ l.named)

-- shares are one
cancelled : (a b k : ℕ) → 0 < k → a * k ≡ b * k → a ≡ b
cancelled a b k some e = grind arith

reduced_one : (a b c d : ℕ) → 0 < b → 0 < d → IsGcd a b 1 → IsGcd c d 1 → a * d ≡ c * b → (a ≡ c) × (b ≡ d)
reduced_one a b c d pb pd h k cross =
    let there = divides_factor a b d c pd (sym (is_gcd_of a b 1 h)) cross in
    let back = divides_factor c d b a pb (sym (is_gcd_of c d 1 k)) (sym cross) in
    let e : b ≡ d = dvd_antisymm there back in
    (cancelled a c d pd (cross ∙ ap (λ (n : ℕ). c * n) e), e)

share_cross : (a b c d all x : ℕ) → 0 < all → a * all ≡ x * b → c * all ≡ x * d → a * d ≡ c * b
share_cross a b c d all x some e g = cancelled (a * d) (c * b) all some (omega (arith, ap (λ n. d * n) e, ap (λ n. b * n) g))

share_one : (f : Frame) (x : RawPlan) (q s m a b c d : ℕ) → IsShare f x q s m a b → IsShare f x q s m c d → (a ≡ c) × (b ≡ d)
share_one f x q s m a b c d h k =
    let all = sum_by (λ i. x.number q s i) (choices_at f q) in
    elim (cases_lt 0 all) [
      | inl some ↦ reduced_one a b c d h.positive k.positive h.reduced k.reduced (share_cross a b c d all (x.number q s m) some (h.some some) (k.some some))
      | inr none ↦ let z : all ≡ 0 = omega arith in
          let p = h.none z in let r = k.none z in (p.0 ∙ sym r.0, p.1 ∙ sym r.1)
    ]

share_of_one : (f : Frame) (x : RawPlan) (q s m : ℕ) (r t : Fraction) → IsShareOf f x q s m r → IsShareOf f x q s m t → (r.num ≡ t.num) × (r.den ≡ t.den)
share_of_one f x q s m r t h k =
    let e = share_one f x q s m h.above h.below k.above k.below h.is k.is in
    (h.num ∙ ap (λ (n : ℕ). pos n) e.0 ∙ sym k.num, h.den ∙ ap (λ (n : ℕ). pos n) e.1 ∙ sym k.den)

-- mixtures have one text
abbrev letter_of : ℕ × Fraction → ℕ
letter_of p = p.0

abbrev line_of : ℕ × Fraction → List ℕ
line_of m = number_line (m.0 ∷ []) (m.1.num, m.1.den)

line_one : (p r : ℕ × Fraction) → p.0 ≡ r.0 → p.1.num ≡ r.1.num → p.1.den ≡ r.1.den → line_of p ≡ line_of r
line_one p r a b c = rw (a, b, c) refl

mix_one : (ps rs : List (ℕ × Fraction)) → map letter_of ps ≡ map letter_of rs
    → ((m : ℕ) (p r : ℕ × Fraction) → slice_get ps m ≡ Some p → slice_get rs m ≡ Some r → (p.1.num ≡ r.1.num) × (p.1.den ≡ r.1.den))
    → flat_map line_of ps ≡ flat_map line_of rs
mix_one [] [] e h = refl
mix_one [] (r ∷ rs) e h = absurd (cc)
mix_one (p ∷ ps) [] e h = absurd (cc)
mix_one (p ∷ ps) (r ∷ rs) e h =
    let first : p.0 ≡ r.0 = cc in
    let others : map letter_of ps ≡ map letter_of rs = cc in
    let here = h 0 p r refl refl in
    let rest = mix_one ps rs others (λ m x y a b. h (suc m) x y a b) in
    let line = line_one p r first here.0 here.1 in
    ap (λ (l : List ℕ). l ++ flat_map line_of ps) line ∙ ap (λ (l : List ℕ). line_of r ++ l) rest

mixture_one : (f : Frame) (x : RawPlan) (q s : ℕ) (ps rs : List (ℕ × Fraction)) (gap : FractionParts) → IsMixture f x q s ps → IsMixture f x q s rs
    → mix_text ps gap ≡ mix_text rs gap
mixture_one f x q s ps rs gap h k =
    let e = mix_one ps rs (h.letters ∙ sym k.letters) (λ m p r a b. share_of_one f x q s m p.1 r.1 (h.shares m p a) (k.shares m r b)) in
    ap (λ (l : List ℕ). l ++ number_line (codes "gap") gap) e

told_one : (s : Strategy) (player point place : ℕ) (one two : List ℕ) → IsToldAt s player point place one → IsToldAt s player point place two → one ≡ two
told_one s player point place one two h k =
    h.printed
    ∙ mixture_one (strategy_frame s) (raw_plan s (weights_of_player s player)) point place h.moves k.moves (gap_of_player s player) h.mixture k.mixture
    ∙ sym k.printed

queried_text : (version : Version) (s : Strategy) (player : ℕ) (line signal one two : List ℕ) → IsStrategy version s → IsQueried s player line signal one
    → IsQueried s player line signal two → one ≡ two
queried_text version s player line signal one two is h k =
    let t = is.written.game in
    let p : h.point ≡ k.point = point_one version s.game line h.point k.point t h.own.named k.own.named in
    let named : NamesSignal s.game (round_of (strategy_frame s) (at_point k.point)) signal h.place =
    subst (λ (q : ℕ). NamesSignal s.game (round_of (strategy_frame s) (at_point q)) signal h.place) p h.named in
    let i : h.place ≡ k.place = signal_one version s.game k.point signal h.place k.place t k.own.in_range named k.named in
    told_one s player k.point k.place one two
    (subst (λ (j : ℕ). IsToldAt s player k.point j one) i (subst (λ (q : ℕ). IsToldAt s player q h.place one) p h.told)) k.told

-- a query that names a spot breaks no rule, and the first broken rule is one
spot_or_bad : (version : Version) (s : Strategy) (player : ℕ) (line signal text : List ℕ) (why : QueryFault) → IsStrategy version s
    → IsQueried s player line signal text → IsBadQuery s.game player line signal why → ⊥
spot_or_bad version s player line signal text query.Line is h b = b h.point h.own.named
spot_or_bad version s player line signal text query.Player is h (q, named, other) =
    let e : h.point ≡ q = point_one version s.game line h.point q is.written.game h.own.named named in
    other (ap (player_at (file_frame s.game)) (sym e) ∙ h.own.own)
spot_or_bad version s player line signal text query.Signal is h (q, own, none) =
    let w = walked_one (file_rules s.game) (told_playable version s.game is.written.game) in
    none (round_of (file_frame s.game) (at_point h.point), w.some_round h.point h.own.in_range, w.point_in h.point h.own.in_range, h.place, h.named)
spot_or_bad version s player line signal text query.Round is h (q, own, some, none) =
    let e : h.point ≡ q = point_one version s.game line h.point q is.written.game h.own.named own.named in
    none h.place (subst (λ (p : ℕ). NamesSignal s.game (round_of (file_frame s.game) (at_point p)) signal h.place) e h.named)

bad_one : (version : Version) (g : FileGame) (player : ℕ) (line signal : List ℕ) (v w : QueryFault) → IsTold version g
    → IsBadQuery g player line signal v → IsBadQuery g player line signal w → v ≡ w
bad_one version g player line signal query.Line query.Line t h k = refl
bad_one version g player line signal query.Line query.Player t h k = absurd (h k.0 k.1)
bad_one version g player line signal query.Line query.Signal t h k = absurd (h k.0 k.1.named)
bad_one version g player line signal query.Line query.Round t h k = absurd (h k.0 k.1.named)
bad_one version g player line signal query.Player query.Line t h k = absurd (k h.0 h.1)
bad_one version g player line signal query.Player query.Player t h k = refl
bad_one version g player line signal query.Player query.Signal t h k =
    absurd (h.2 (ap (player_at (file_frame g)) (point_one version g line h.0 k.0 t h.1 k.1.named) ∙ k.1.own))
bad_one version g player line signal query.Player query.Round t h k =
    absurd (h.2 (ap (player_at (file_frame g)) (point_one version g line h.0 k.0 t h.1 k.1.named) ∙ k.1.own))
bad_one version g player line signal query.Signal query.Line t h k = absurd (k h.0 h.1.named)
bad_one version g player line signal query.Signal query.Player t h k =
    absurd (k.2 (ap (player_at (file_frame g)) (point_one version g line k.0 h.0 t k.1 h.1.named) ∙ h.1.own))
bad_one version g player line signal query.Signal query.Signal t h k = refl
bad_one version g player line signal query.Signal query.Round t h k = absurd (h.2 k.2)
bad_one version g player line signal query.Round query.Line t h k = absurd (k h.0 h.1.named)
bad_one version g player line signal query.Round query.Player t h k =
    absurd (k.2 (ap (player_at (file_frame g)) (point_one version g line k.0 h.0 t k.1 h.1.named) ∙ h.1.own))
bad_one version g player line signal query.Round query.Signal t h k = absurd (k.2 h.2)
bad_one version g player line signal query.Round query.Round t h k = refl

queried_one : (version : Version) (s : Strategy) (player : ℕ) (line signal : List ℕ) (one two : Reply) → IsStrategy version s
    → SaysQueried player line signal s one → SaysQueried player line signal s two → one ≡ two
queried_one version s player line signal one two is (inl (a, h, e)) (inl (b, k, e')) =
    let t = queried_text version s player line signal a b is h k in e ∙ ap (λ (x : List ℕ). Prints x) t ∙ sym e'
queried_one version s player line signal one two is (inl (a, h, e)) (inr (why, k, e')) = absurd (spot_or_bad version s player line signal a why is h k)
queried_one version s player line signal one two is (inr (why, h, e)) (inl (b, k, e')) = absurd (spot_or_bad version s player line signal b why is k h)
queried_one version s player line signal one two is (inr (v, h, e)) (inr (w, k, e')) =
    let t = bad_one version s.game player line signal v w is.written.game h k in e ∙ ap (λ (x : QueryFault). Refuses (Bad_query x)) t ∙ sym e'

pub queries_one : (player : ℕ) (line signal : List ℕ) (bytes : List ℕ) (one two : Reply) → Queries player line signal bytes one
    → Queries player line signal bytes two → one ≡ two
queries_one player line signal = over_file Only (OfConfirmed (SaysQueried player line signal)) (λ version s one two is.
    confirmed_one version s (SaysQueried player line signal) is (λ x y p q. queried_one version s player line signal x y is p q) one two)
