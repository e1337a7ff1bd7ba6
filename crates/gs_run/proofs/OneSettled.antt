-- What is said of a game over classes is one, where each of its commands says one thing; and `play` does.
use Rattle.std.proofs.Common.{◌≡◌, ℕ, ◌≤◌, List, get_or, Result, Ok, Err, refl, sym, ap, ◌∙◌, subst, inl, inr, arith}
use Rattle.std.proofs.lemmas.List.{get_or_default, same_lists}
use Rattle.gs_file.specs.{Faults.{Fault}, JsonLaws.{IsTold}, Reading.{FileGame, read_at, file_rules}, declared.version.Version.TheVariants.{Two}}
use Rattle.gs_game_commands.specs.{Checking.{IsGrouping}, Playing.{Plays}, Settling.{OfForm, OfGrouping, Settles}, Texts.{IsSettledText}}
use Rattle.gs_filter.proofs.ClassLaws.{single_are_classes}
use Rattle.gs_model.proofs.{Ranges.{in_range, signal_count_is}, Walked.{last_round_of, walked_one, walked_two}}
use Rattle.gs_model.specs.{Classes.{ClassLists}, Frame.{Frame, point_count, total_weight}, Game.{round_count}, Lossless.{IsLossless}, Plans.{lift}}
use Rattle.gs_model.specs.Verdict.{IsVerdict}
use Rattle.gs_reply.specs.Replies.{OfReading, Reply, Prints, Refuses}
use Rattle.gs_seq.specs.{Plans.{class_plan}, Slots.{IsPlan, plan_of}, declared.plan.Plan.{Plan}}
use Rattle.gs_strategy.specs.{Checks.{AreClasses}, Confirmed.{over}, Texts.{strategy_text}, Values.{Numbers, Strategy, Weights, file_frame}, Views.{weights_of}}
use Rattle.gs_words.specs.{declared.request.Grouping.{Grouping}, declared.request.Grouping.TheVariants.{Isomorphism, Coarsest, Single}}
use Rattle.gs_play.proofs.OnePlay.{play_one}
use Rattle.gs_run.proofs.{Confirming.{small_passes}, OneGame.{groupings_one, not_both, not_lossless_one}, OneStrategy.{limit_one}}
use Rattle.gs_strategy.proofs.Verdicts.{verdicts_one, scale_some}
use Rattle.gs_file.proofs.{Dealt.{told_dealt, told_playable}, Told.{file_told}}
use Rattle.gs_play.specs.PlanSums.{ArePlansAlike}
use Rattle.gs_seq.proofs.PlanSlots.{place_at}

-- ---- settling

-- what a command says of a game and classes is one
abbrev pub SaysOne : (FileGame → ClassLists → Reply → Type 0) → Type 0
SaysOne says = (g : FileGame) (lists : ClassLists) (one two : Reply) → IsTold Two g → AreClasses g lists → says g lists one → says g lists two → one ≡ two

form_one : (says : FileGame → ClassLists → Reply → Type 0) → SaysOne says → (g : FileGame) (lists : ClassLists) (one two : Reply) → IsTold Two g
    → AreClasses g lists → OfForm says g lists one → OfForm says g lists two → one ≡ two
form_one says h g lists one two t c (inl (l, p, e)) (inl (m, q, e')) = let s = limit_one g lists l m p q in cc
form_one says h g lists one two t c (inl (l, p, e)) (inr (small, q)) = absurd (small_passes g lists l small p)
form_one says h g lists one two t c (inr (small, p)) (inl (m, q, e')) = absurd (small_passes g lists m small q)
form_one says h g lists one two t c (inr (small, p)) (inr (low, q)) = h g lists one two t c p q

-- the lossless classes of a grouping are classes of the game
grouped_classes : (grouping : Grouping) (g : FileGame) (lists : ClassLists) → IsGrouping grouping (file_rules g) lists → IsLossless (file_frame g) lists
    → AreClasses g lists
grouped_classes Isomorphism g lists h l =
    let last = last_round_of (file_rules g) in
    record {
      rounds = h.rounds ∙ sym last;
      lengths = λ round some top. (let within : round ≤ round_count (file_rules g) = omega arith in
          h.lengths round some within ∙ sym (signal_count_is (file_rules g) round some within));
      numbered = λ round some top. (h.classes round some (omega arith)).numbered;
      filter = l.filter;
    }
grouped_classes Coarsest g lists (from, is, h) l = h.classes
grouped_classes Single g lists h l = subst (λ (x : ClassLists). AreClasses g x) (sym h) (single_are_classes (file_frame g).parents)

grouping_one : (grouping : Grouping) (says : FileGame → ClassLists → Reply → Type 0) → SaysOne says → (g : FileGame) (one two : Reply) → IsTold Two g
    → OfGrouping grouping says g one → OfGrouping grouping says g two → one ≡ two
grouping_one grouping says h g one two t (inl p) (inl q) = not_lossless_one grouping g one two p q
grouping_one grouping says h g one two t (inl p) (inr (b, are, l, q)) = absurd (not_both grouping g b one p are l)
grouping_one grouping says h g one two t (inr (a, are, l, p)) (inl q) = absurd (not_both grouping g a two q are l)
grouping_one grouping says h g one two t (inr (a, is, l, p)) (inr (b, it, m, q)) =
    let e = groupings_one grouping (file_rules g) b a it is in
    form_one says h g a one two t (grouped_classes grouping g a is l) p (subst (λ (x : ClassLists). OfForm says g x two) e q)

pub settles_one : (says : FileGame → ClassLists → Reply → Type 0) → SaysOne says → (grouping : Grouping) (bytes : List ℕ) (one two : Reply)
    → Settles says grouping bytes one → Settles says grouping bytes two → one ≡ two
settles_one says h grouping bytes one two p q = by (read_at bytes) refl p q
  where
    by : (r : Result FileGame Fault) → read_at bytes ≡ r → OfReading (OfGrouping grouping says) r one → OfReading (OfGrouping grouping says) r two → one ≡ two
    by (Ok g) e a b = grouping_one grouping says h g one two (file_told bytes g e) a b
    by (Err why) e a b = a ∙ sym b

-- ---- texts

-- plans of the program with the same numbers have the same weights
pub weights_one : (f : Frame) (lists : ClassLists) (player : ℕ) (x y : Plan) → IsPlan f lists player x.total x.weights.items
    → IsPlan f lists player y.total y.weights.items → ArePlansAlike f lists player (class_plan f lists x) (class_plan f lists y) → weights_of x ≡ weights_of y
weights_one f lists player x y h k same =
    let lx = h.long in
    let ly = k.long in
    let items : x.weights.items ≡ y.weights.items = same_lists x.weights.items y.weights.items (lx ∙ sym ly) (λ i d l. (
    let at = place_at f lists player i (point_count f) (omega arith) (omega arith) in
    let there = same.numbers at.point at.class at.move at.point_in at.own at.class_in at.move_in in
    let here : get_or x.weights.items i 0 ≡ get_or y.weights.items i 0 =
    subst (λ (j : ℕ). get_or x.weights.items j 0 ≡ get_or y.weights.items j 0) at.is there in
    get_or_default x.weights.items i d 0 l ∙ here ∙ get_or_default y.weights.items i 0 d (omega arith))) in
    both x.total y.total x.weights.items y.weights.items same.total items
  where
    made : ℕ → List ℕ → Weights
    made n xs = record { total = n; weights = xs }

    both : (n m : ℕ) (xs ys : List ℕ) → n ≡ m → xs ≡ ys → made n xs ≡ made m ys
    both n m xs ys e h = ap (λ (i : ℕ). made i xs) e ∙ ap (λ (l : List ℕ). made m l) h

-- the verdict on two lists of weights
abbrev VerdictBy : FileGame → ClassLists → Weights → Weights → Numbers → Type 0
VerdictBy g lists a b n =
    IsVerdict (file_frame g) (lift (file_frame g) lists (plan_of (file_frame g) lists a.total a.weights))
    (lift (file_frame g) lists (plan_of (file_frame g) lists b.total b.weights))
    (over n.value) (over n.gap1) (over n.gap2)

abbrev core : FileGame → ClassLists → Weights → Weights → Numbers → Strategy
core g lists a b n = record { game = g; classes = lists; one = a; two = b; numbers = n }

same_core : (g g' : FileGame) (l l' : ClassLists) (a a' b b' : Weights) (n n' : Numbers) → g ≡ g' → l ≡ l' → a ≡ a' → b ≡ b' → n ≡ n'
    → core g l a b n ≡ core g' l' a' b' n'
same_core g g' l l' a a' b b' n n' e1 e2 e3 e4 e5 =
    ap (λ (x : FileGame). core x l a b n) e1 ∙ ap (λ (x : ClassLists). core g' x a b n) e2 ∙ ap (λ (x : Weights). core g' l' x b n) e3
    ∙ ap (λ (x : Weights). core g' l' a' x n) e4 ∙ ap (λ (x : Numbers). core g' l' a' b' x) e5

verdict_over : (g g' : FileGame) (l l' : ClassLists) (a a' b b' : Weights) (n : Numbers) → g ≡ g' → l ≡ l' → a ≡ a' → b ≡ b' → VerdictBy g l a b n
    → VerdictBy g' l' a' b' n
verdict_over g g' l l' a a' b b' n e1 e2 e3 e4 v =
    subst (λ (x : Weights). VerdictBy g' l' a' x n) e4 (subst (λ (x : Weights). VerdictBy g' l' x b n) e3
    (subst (λ (x : ClassLists). VerdictBy g' x a b n) e2 (subst (λ (x : FileGame). VerdictBy x l a b n) e1 v)))

pub text_of_one : (g : FileGame) (lists : ClassLists) (one two one' two' : Plan) (a b : List ℕ) → IsTold Two g → weights_of one ≡ weights_of one'
    → weights_of two ≡ weights_of two' → IsSettledText g lists one two a → IsSettledText g lists one' two' b → a ≡ b
text_of_one g lists one two one' two' a b t ones twos h k =
    let s = h.strategy in
    let u = k.strategy in
    let e1 : u.game ≡ s.game = k.game ∙ sym h.game in
    let e2 : u.classes ≡ s.classes = k.classes ∙ sym h.classes in
    let e3 : u.one ≡ s.one = k.first ∙ sym ones ∙ sym h.first in
    let e4 : u.two ≡ s.two = k.second ∙ sym twos ∙ sym h.second in
    let n = h.confirmed.numbers in
    let m = k.confirmed.numbers in
    let v = verdict_over u.game s.game u.classes s.classes u.one s.one u.two s.two u.numbers e1 e2 e3 e4 m.verdict in
    let told : IsTold Two s.game = subst (IsTold Two) (sym h.game) t in
    let some = scale_some (total_weight (file_frame s.game)) s.one.total s.two.total (told_dealt Two s.game told).deals h.first_is.plan.total_in.0
    h.second_is.plan.total_in.0 in
    let e5 : s.numbers ≡ u.numbers = verdicts_one (file_frame s.game) _ _ s.numbers u.numbers some
    n.fractions m.fractions n.verdict v in
    let same : u ≡ s = same_core u.game s.game u.classes s.classes u.one s.one u.two s.two u.numbers s.numbers e1 e2 e3 e4 (sym e5) in
    h.printed ∙ ap (strategy_text Two) (sym same) ∙ sym k.printed

-- the plans of a text are plans over the classes
pub first_plan : (g : FileGame) (lists : ClassLists) (one two : Plan) (text : List ℕ) → IsSettledText g lists one two text
    → IsPlan (file_frame g) lists 1 one.total one.weights.items
first_plan g lists one two text h =
    subst (λ (w : Weights). IsPlan (file_frame g) lists 1 w.total w.weights) h.first
    (subst (λ (l : ClassLists). IsPlan (file_frame g) l 1 h.strategy.one.total h.strategy.one.weights) h.classes
    (subst (λ (x : FileGame). IsPlan (file_frame x) h.strategy.classes 1 h.strategy.one.total h.strategy.one.weights) h.game h.first_is))

pub second_plan : (g : FileGame) (lists : ClassLists) (one two : Plan) (text : List ℕ) → IsSettledText g lists one two text
    → IsPlan (file_frame g) lists 2 two.total two.weights.items
second_plan g lists one two text h =
    subst (λ (w : Weights). IsPlan (file_frame g) lists 2 w.total w.weights) h.second
    (subst (λ (l : ClassLists). IsPlan (file_frame g) l 2 h.strategy.two.total h.strategy.two.weights) h.classes
    (subst (λ (x : FileGame). IsPlan (file_frame x) h.strategy.classes 2 h.strategy.two.total h.strategy.two.weights) h.game h.second_is))

-- ---- `play`

played_one : (turns : ℕ) → SaysOne (Plays turns)
played_one turns g lists (Prints a) (Prints b) t c h k =
    let r = file_rules g in
    let p = told_playable Two g t in
    let f = file_frame g in
    let both = play_one f lists (in_range r p) (walked_one r p) (walked_two r p) c turns (class_plan f lists h.one) (class_plan f lists h.two)
    (class_plan f lists k.one) (class_plan f lists k.two) h.played k.played in
    let ones = weights_one f lists 1 h.one k.one (first_plan g lists h.one h.two a h.told) (first_plan g lists k.one k.two b k.told) both.0 in
    let twos = weights_one f lists 2 h.two k.two (second_plan g lists h.one h.two a h.told) (second_plan g lists k.one k.two b k.told) both.1 in
    ap (λ (x : List ℕ). Prints x) (text_of_one g lists h.one h.two k.one k.two a b t ones twos h.told k.told)
played_one turns g lists (Prints a) (Refuses why) t c h k = absurd k
played_one turns g lists (Refuses why) two t c h k = absurd h

pub plays_one : (turns : ℕ) (grouping : Grouping) (bytes : List ℕ) (one two : Reply) → Settles (Plays turns) grouping bytes one
    → Settles (Plays turns) grouping bytes two → one ≡ two
plays_one turns = settles_one (Plays turns) (played_one turns)
