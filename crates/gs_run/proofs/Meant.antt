-- What a task says is printed is what its command means.
use Rattle.std.proofs.Common.{◌≡◌, inl, inr, ℕ, ◌++◌, [], ◌∷◌, ◌==◌, Bool, List, true, false, Result, Ok, Err, pos, refl, sym, ap, ◌∙◌, subst}
use Rattle.std.proofs.lemmas.Bool.{cases_Bool}
use Rattle.gs_certificate.specs.{Texts.{certificate_text}, Views.{certificate_view}}
use Rattle.gs_strategy_commands.specs.{Certificates.{IsCertified, SaysCertified}, Verifying.{SaysVerified}}
use Rattle.gs_strategy_commands.specs.{Commands.{OfConfirmed, OfStrategy, SaysNumbers, SaysQueried, SaysUpgraded}, Queries.{IsQueried}}
use Rattle.gs_raw_commands.specs.{Commands.{OnRawCards, SaysDuel, SaysHands, SaysJudged}, Judging.{AreHandValues, hands_text, plan_in}}
use Rattle.gs_file.proofs.States.{states_ok}
use Rattle.gs_file.specs.{Faults.{Fault}, Reading.{FileGame, read_at, file_rules}, declared.version.Version.{Version}}
use Rattle.gs_file.specs.declared.version.Version.TheVariants.{Two}
use Rattle.gs_game_commands.specs.{Checking.{ChecksGame, IsChecked, IsGrouping}, Shrinking.{IsShrunk, ShrinksGame}, Paths.{IsPathShown, ShowsPath}}
use Rattle.gs_game_commands.specs.{Playing.{IsPlayed, Plays}, Settling.{OfGrouping}, Solving.{IsSolved, Solves}, Texts.{IsSettledText}}
use Rattle.gs_json.specs.FirstLine.{first_line}
use Rattle.gs_raw_commands.proofs.RawGames.{hands_weigh}
use Rattle.gs_game_commands.proofs.Printed.{printed_raw, printed_strategy}
use Rattle.gs_strategy.proofs.Strategies.{reads_strategy, strategies_raw}
use Rattle.gs_words.specs.declared.request.Grouping.{Grouping}
use Rattle.gs_words.specs.Tasks.{StrategyTask, Task, make, of_game, of_raw, of_strategy, Certify, Evaluate, Query, Upgrade, Verify}
use Rattle.gs_words.specs.{declared.request.Make.{Make}, declared.request.OfGame.{OfGame}, declared.request.OfRaw.{OfRaw}}
use Rattle.gs_words.specs.declared.request.OfGame.TheVariants as game
use Rattle.gs_words.specs.declared.request.OfRaw.TheVariants as raw
use Rattle.gs_game_commands.specs.Asks.{GameAsks}
use Rattle.gs_raw_commands.specs.Asks.{RawAsks}
use Rattle.gs_strategy_commands.specs.Asks.{StrategyAsks}
use Rattle.gs_model.specs.{Classes.{ClassLists}, Plans.{lift}, Play.{IsFictitiousPlay}, Verdict.{IsVerdict}}
use Rattle.gs_reply.specs.{Refusals.{Refusal, Bad_strategy}, Replies.{OfFile, OfRead, OfReading, Reply, Prints, Refuses}}
use Rattle.gs_reply.specs.declared.refusals.Which.TheVariants.{Only, First, Second}
use Rattle.gs_reply.specs.VerdictText.{verdict_text}
use Rattle.gs_seq.specs.{Slots.{plan_of}, declared.plan.Plan.{Plan}}
use Rattle.gs_strategy.specs.{Checks.{ReadResult, Reads}, Confirmed.{IsConfirmed, over, raw_plan}, Laws.{IsStrategy}, Texts.{strategy_text}}
use Rattle.gs_strategy.specs.{Values.{FractionParts, Numbers, Strategy, Weights, file_frame}, Views.{weights_of}}
use Rattle.gs_run.specs.{Asking.{Asks}, Making.{Makes, made_file}, Meanings.{IsMade, OfTwoFiles, OverLossless, ShowsSolution}}
use Rattle.gs_run.specs.Meanings.{AreOnRawCards, IsDuelled, IsJudgedText, IsPlayedOut, IsStrategyFile, Means, OfCertifiedFile, OfGameFile, OfStrategyFile}

-- ---- texts

text_is : (one two : List ℕ) → Prints one ≡ Prints two → two ≡ one
text_is one two e = cc

-- what is printed is no refusal
printed : (text : List ℕ) (why : Refusal) → Prints text ≡ Refuses why → ⊥
printed text why e = cc

-- ---- game files

of_reading : (says : FileGame → Reply → Type 0) (read : Result FileGame Fault) (text : List ℕ) → OfReading says read (Prints text)
    → (g : FileGame) × (read ≡ Ok g) × says g (Prints text)
of_reading says (Ok g) text h = (g, refl, h)
of_reading says (Err why) text h = cc

of_game_file : (says : FileGame → Reply → Type 0) (tells : FileGame → List ℕ → Type 0) (bytes text : List ℕ)
    → ((g : FileGame) → read_at bytes ≡ Ok g → says g (Prints text) → tells g text) → OfReading says (read_at bytes) (Prints text)
    → OfGameFile tells bytes text
of_game_file says tells bytes text told h =
    let r = of_reading says (read_at bytes) text h in
    record { game = r.0; states = states_ok bytes r.0 r.1; said = told r.0 r.1 r.2 }

-- what is printed over the classes of a grouping, which are lossless and small
of_grouping : (grouping : Grouping) (says : FileGame → ClassLists → Reply → Type 0) (g : FileGame) (text : List ℕ)
    → OfGrouping grouping says g (Prints text) → OverLossless grouping (λ g lists text. says g lists (Prints text)) g text
of_grouping grouping says g text (inl (single, lists, are, (round, one, two, pair, said))) = cc
of_grouping grouping says g text (inr (lists, grouped, lossless, inl (limit, passed, said))) = cc
of_grouping grouping says g text (inr (lists, grouped, lossless, inr h)) =
    record { classes = lists; grouped = grouped; lossless = lossless; small = h.0; said = h.1 }

-- ---- printed strategies

strategy_file : (grouping : Grouping) (says : Strategy → Type 0) (bytes : List ℕ) (g : FileGame) (lists : ClassLists) (one two : Plan) (text : List ℕ)
    → read_at bytes ≡ Ok g → IsGrouping grouping (file_rules g) lists → (t : IsSettledText g lists one two text) → says t.strategy
    → IsStrategyFile grouping says g text
strategy_file grouping says bytes g lists one two text e grouped t h = record {
  strategy = t.strategy;
  game = t.game;
  grouped = subst (λ (x : ClassLists). IsGrouping grouping (file_rules g) x) (sym t.classes) grouped;
  is = printed_strategy bytes g lists one two text e t;
  raw = printed_raw bytes g lists one two text e t;
  confirmed = t.confirmed;
  said = h;
  text_is = t.printed;
}

abbrev NoGaps : Strategy → Type 0
NoGaps s = (s.numbers.gap1 ≡ (pos 0, pos 1)) × (s.numbers.gap2 ≡ (pos 0, pos 1))

solved : (grouping : Grouping) (bytes : List ℕ) (g : FileGame) (text : List ℕ) → read_at bytes ≡ Ok g → OfGrouping grouping Solves g (Prints text)
    → IsStrategyFile grouping NoGaps g text
solved grouping bytes g text e h =
    let o = of_grouping grouping Solves g text h in
    let s : IsSolved g o.classes text = o.said in
    strategy_file grouping NoGaps bytes g o.classes s.one s.two text e o.grouped s.told (s.gap1, s.gap2)

-- the plans of the play are those of the strategy
played_out : (turns : ℕ) (g : FileGame) (lists : ClassLists) (a b : Weights) (s : Strategy) → s.game ≡ g → s.classes ≡ lists → s.one ≡ a → s.two ≡ b
    → IsFictitiousPlay (file_frame g) lists turns (plan_of (file_frame g) lists a.total a.weights) (plan_of (file_frame g) lists b.total b.weights)
    → IsPlayedOut turns s
played_out turns g lists a b s e1 e2 e3 e4 h =
    subst (λ (x : FileGame). IsFictitiousPlay (file_frame x) s.classes turns (plan_of (file_frame x) s.classes s.one.total s.one.weights)
    (plan_of (file_frame x) s.classes s.two.total s.two.weights)) (sym e1)
    (subst (λ (x : ClassLists). IsFictitiousPlay (file_frame g) x turns (plan_of (file_frame g) x s.one.total s.one.weights)
    (plan_of (file_frame g) x s.two.total s.two.weights)) (sym e2)
    (subst (λ (x : Weights). IsFictitiousPlay (file_frame g) lists turns (plan_of (file_frame g) lists x.total x.weights)
    (plan_of (file_frame g) lists s.two.total s.two.weights)) (sym e3)
    (subst (λ (x : Weights). IsFictitiousPlay (file_frame g) lists turns (plan_of (file_frame g) lists a.total a.weights)
    (plan_of (file_frame g) lists x.total x.weights)) (sym e4) h)))

played : (turns : ℕ) (grouping : Grouping) (bytes : List ℕ) (g : FileGame) (text : List ℕ) → read_at bytes ≡ Ok g
    → OfGrouping grouping (Plays turns) g (Prints text) → IsStrategyFile grouping (IsPlayedOut turns) g text
played turns grouping bytes g text e h =
    let o = of_grouping grouping (Plays turns) g text h in
    let p : IsPlayed turns g o.classes text = o.said in
    strategy_file grouping (IsPlayedOut turns) bytes g o.classes p.one p.two text e o.grouped p.told
    (played_out turns g o.classes (weights_of p.one) (weights_of p.two) p.told.strategy p.told.game p.told.classes p.told.first p.told.second p.played)

-- ---- strategy files

of_strategy_file : (tells : Strategy → List ℕ → Type 0) (bytes text : List ℕ) (s : Strategy) → Reads bytes (Ok s) → tells s text → OfStrategyFile tells bytes text
of_strategy_file tells bytes text s h told =
    let r = reads_strategy bytes s h in
    record { version = r.0; strategy = s; is = r.1; written = r.2; raw = strategies_raw r.0 r.0 s s r.1 r.1 refl; said = told }

abbrev Confirmed : (Strategy → List ℕ → Type 0) → Strategy → List ℕ → Type 0
Confirmed tells s text = IsConfirmed s × tells s text

of_confirmed : (says : Strategy → Reply → Type 0) (tells : Strategy → List ℕ → Type 0) (bytes text : List ℕ) (read : ReadResult)
    → ((s : Strategy) → says s (Prints text) → tells s text) → Reads bytes read → OfRead Only (OfConfirmed says) read (Prints text)
    → OfStrategyFile (Confirmed tells) bytes text
of_confirmed says tells bytes text (Ok s) told reads (inl h) = of_strategy_file (Confirmed tells) bytes text s reads (h.0, told s h.1)
of_confirmed says tells bytes text (Ok s) told reads (inr h) = absurd (printed text _ h.2)
of_confirmed says tells bytes text (Err why) told reads h = absurd (printed text (Bad_strategy Only why) h)

-- what is said of a strategy file is said of its strategy, which is confirmed
confirmed : (says : Strategy → Reply → Type 0) (tells : Strategy → List ℕ → Type 0) (bytes text : List ℕ)
    → ((s : Strategy) → says s (Prints text) → tells s text) → OfStrategy (OfConfirmed says) bytes (Prints text) → OfStrategyFile (Confirmed tells) bytes text
confirmed says tells bytes text told h = of_confirmed says tells bytes text h.read told h.reads h.said

number_lines : (s : Strategy) (text : List ℕ) → SaysNumbers s (Prints text) → text ≡ verdict_text s.numbers
number_lines s text h = sym (text_is text (verdict_text s.numbers) h)

queried : (player : ℕ) (line signal : List ℕ) (s : Strategy) (text : List ℕ) → SaysQueried player line signal s (Prints text)
    → IsQueried s player line signal text
queried player line signal s text (inl h) = subst (λ (x : List ℕ). IsQueried s player line signal x) (text_is text h.0 h.2) h.1
queried player line signal s text (inr h) = absurd (printed text _ h.2)

upgraded : (s : Strategy) (text : List ℕ) → SaysUpgraded s (Prints text) → text ≡ strategy_text Two s
upgraded s text h = cc

certified : (s : Strategy) (text : List ℕ) → SaysCertified s (Prints text) → IsCertified s text
certified s text h = subst (IsCertified s) (text_is text h.0 h.2) h.1

-- ---- strategies over classes of any kind

-- what is said of two strategies of one game on raw cards
on_raw_cards : (says : Numbers → Reply → Type 0) (one two : Strategy) (text : List ℕ) → one.game ≡ two.game → OnRawCards says one two (Prints text)
    → (n : Numbers) × AreOnRawCards one two n × says n (Prints text)
on_raw_cards says one two text same (inl h) =
    let n = h.1.0 in
    let j = h.1.1 in
    let verdict = subst (λ (g : FileGame). IsVerdict (file_frame one.game) (raw_plan one one.one) (lift (file_frame g) two.classes (plan_in two two.two))
    (over n.value) (over n.gap1) (over n.gap2)) same j.verdict in
    (n, record { few = h.0; fractions = j.fractions; verdict = verdict }, h.1.2)
on_raw_cards says one two text same (inr h) = absurd (printed text _ h.1)

judged : (s : Strategy) (text : List ℕ) → SaysJudged s (Prints text) → IsJudgedText s text
judged s text h =
    let r = on_raw_cards (λ n reply. reply ≡ Prints (verdict_text n)) s s text refl h in
    (r.0, r.1, sym (text_is text (verdict_text r.0) r.2))

of_judged : (bytes text : List ℕ) (read : ReadResult) → Reads bytes read → OfRead Only SaysJudged read (Prints text) → OfStrategyFile IsJudgedText bytes text
of_judged bytes text (Ok s) reads h = of_strategy_file IsJudgedText bytes text s reads (judged s text h)
of_judged bytes text (Err why) reads h = absurd (printed text (Bad_strategy Only why) h)

-- ---- two files

-- the first line and what stands behind it are all bytes
joined : (bytes : List ℕ) → (first_line bytes).0 ++ (first_line bytes).1 ≡ bytes
joined [] = refl
joined (b ∷ bytes) = elim (cases_Bool (b == 10)) [
  | inl e ↦ rw e refl
  | inr e ↦ rw e (ap (λ (rest : List ℕ). b ∷ rest) (joined bytes))
]

-- both parts are texts, so the whole is one text behind the other
both_written : (bytes one two : List ℕ) → (first_line bytes).0 ≡ one → (first_line bytes).1 ≡ two → bytes ≡ one ++ two
both_written bytes one two a b = sym (joined bytes) ∙ (ap (λ (x : List ℕ). x ++ (first_line bytes).1) a ∙ ap (λ (y : List ℕ). one ++ y) b)

abbrev hand_lines : Strategy → Numbers → List FractionParts → List ℕ
hand_lines one n hands = verdict_text n ++ hands_text one.game.deck (file_rules one.game) hands

duelled : (version : Version) (one two : Strategy) (text : List ℕ) → IsStrategy version one → one.game ≡ two.game → SaysHands one two (Prints text)
    → IsDuelled one two text
duelled version one two text is same h =
    let r = on_raw_cards (λ n reply. (hands : List FractionParts) × AreHandValues one two hands × (reply ≡ Prints (hand_lines one n hands))) one two
    text same h in
    let dealt = λ (signal : ℕ). hands_weigh version one.game signal is.written.game in
    (r.0, r.1, dealt, (r.2.0, r.2.1, sym (text_is text (hand_lines one r.0 r.2.0) r.2.2)))

second_file : (bytes text : List ℕ) (one : Strategy) (read : ReadResult) → Reads (first_line bytes).0 (Ok one) → Reads (first_line bytes).1 read
    → OfRead Second (SaysDuel one) read (Prints text) → OfTwoFiles IsDuelled bytes text
second_file bytes text one (Ok two) a b (inl h) = absurd (printed text _ h.1)
second_file bytes text one (Ok two) a b (inr h) =
    let f = reads_strategy (first_line bytes).0 one a in
    let g = reads_strategy (first_line bytes).1 two b in
    record {
      first_version = f.0;
      second_version = g.0;
      one = one;
      two = two;
      first = f.1;
      second = g.1;
      written = both_written bytes (strategy_text f.0 one) (strategy_text g.0 two) f.2 g.2;
      one_game = h.0;
      raw = strategies_raw f.0 g.0 one two f.1 g.1 h.0;
      said = duelled f.0 one two text f.1 h.0 h.1;
    }
second_file bytes text one (Err why) a b h = absurd (printed text (Bad_strategy Second why) h)

first_file : (bytes text : List ℕ) (read : ReadResult) → Reads (first_line bytes).0 read
    → OfRead First (λ one. OfFile Second (SaysDuel one) (first_line bytes).1) read (Prints text) → OfTwoFiles IsDuelled bytes text
first_file bytes text (Ok one) a h = second_file bytes text one h.read a h.reads h.said
first_file bytes text (Err why) a h = absurd (printed text (Bad_strategy First why) h)

-- ---- certificates

verified : (bytes text : List ℕ) (read : ReadResult) → Reads (first_line bytes).0 read → OfRead Only (SaysVerified (first_line bytes).1) read (Prints text)
    → OfCertifiedFile bytes text
verified bytes text (Ok s) reads (inl h) = absurd (printed text _ h.told)
verified bytes text (Ok s) reads (inr h) =
    let f = reads_strategy (first_line bytes).0 s reads in
    record {
      version = f.0;
      strategy = s;
      certificate = h.0;
      is = f.1;
      written = both_written bytes (strategy_text f.0 s) (certificate_text (certificate_view h.0)) f.2 h.1.text;
      raw = strategies_raw f.0 f.0 s s f.1 f.1 refl;
      verified = h.2;
    }
verified bytes text (Err why) reads h = absurd (printed text (Bad_strategy Only why) h)

-- ---- the table

made : (m : Make) (summary : Bool) (text : List ℕ) → Makes m summary (Prints text) → IsMade m summary text
made m false text h = cc
made m true text h = of_game_file (ShrinksGame true) (IsShrunk true) (made_file m) text (λ g e said. said) h

game_means : (t : OfGame) (bytes text : List ℕ) → GameAsks t bytes (Prints text) → Means (of_game t) bytes text
game_means (game.Shrink summary) bytes text h = of_game_file (ShrinksGame summary) (IsShrunk summary) bytes text (λ g e said. said) h
game_means (game.Check grouping summary) bytes text h =
    of_game_file (ChecksGame grouping summary) (IsChecked grouping summary) bytes text (λ g e said. said) h
game_means (game.Solve grouping) bytes text h =
    of_game_file (OfGrouping grouping Solves) (IsStrategyFile grouping NoGaps) bytes text (λ g. solved grouping bytes g text) h
game_means (game.Play grouping turns) bytes text h =
    of_game_file (OfGrouping grouping (Plays turns)) (IsStrategyFile grouping (IsPlayedOut turns)) bytes text (λ g. played turns grouping bytes g text) h
game_means (game.Path grouping) bytes text h =
    of_game_file (OfGrouping grouping ShowsPath) (OverLossless grouping IsPathShown) bytes text (λ g e said. of_grouping grouping ShowsPath g text said) h

strategy_means : (t : StrategyTask) (bytes text : List ℕ) → StrategyAsks t bytes (Prints text) → Means (of_strategy t) bytes text
strategy_means Evaluate bytes text h = confirmed SaysNumbers (λ s text. text ≡ verdict_text s.numbers) bytes text (λ s. number_lines s text) h
strategy_means (Query player line signal) bytes text h =
    confirmed (SaysQueried player line signal) (λ s text. IsQueried s player line signal text) bytes text (λ s. queried player line signal s text) h
strategy_means Upgrade bytes text h = confirmed SaysUpgraded (λ s text. text ≡ strategy_text Two s) bytes text (λ s. upgraded s text) h
strategy_means Certify bytes text h = confirmed SaysCertified IsCertified bytes text (λ s. certified s text) h
strategy_means Verify bytes text h = verified bytes text h.read h.reads h.said

raw_means : (t : OfRaw) (bytes text : List ℕ) → RawAsks t bytes (Prints text) → Means (of_raw t) bytes text
raw_means raw.Judge bytes text h = of_judged bytes text h.read h.reads h.said
raw_means raw.Duel bytes text h = first_file bytes text h.read h.reads h.said

pub means_of : (task : Task) (bytes text : List ℕ) → Asks task bytes (Prints text) → Means task bytes text
means_of (of_game t) bytes text h = game_means t bytes text h
means_of (of_strategy t) bytes text h = strategy_means t bytes text h
means_of (of_raw t) bytes text h = raw_means t bytes text h
means_of (make m) bytes text h = made m m.summary text h

-- and the plans of `solve` are read off its path
pub solution_of : (grouping : Grouping) (bytes text : List ℕ) → Asks (of_game (game.Solve grouping)) bytes (Prints text) → ShowsSolution grouping bytes text
solution_of grouping bytes text h =
    of_game_file (OfGrouping grouping Solves) (OverLossless grouping IsSolved) bytes text (λ g e said. of_grouping grouping Solves g text said) h
