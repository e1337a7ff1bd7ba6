-- What `solve` and `path` say is one.
use Rattle.std.proofs.Common.{◌≡◌, ◌⊎◌, ℕ, zero, suc, ◌+◌, ◌*◌, ◌^◌, ◌<◌, ◌≤◌, ◌==◌, ◌||◌, ◌++◌, Bool, List, map, length, slice_index_or, ℤ, pos, ◌*ℤ◌, refl}
use Rattle.std.proofs.Common.{sym, ap, ◌∙◌, subst, inl, inr, arith, unsigned_abs}
use Rattle.std.proofs.{lemmas.List.{get_or_default, same_lists}, lemmas.Nat.Gcd.{dvd_antisymm, le_of_dvd}}
use Rattle.std.specs.{Prelude.{filter, not, slice_index}, Int.{◌∣◌}, List.{list_any, range_with_len}}
use Rattle.gs_frac.proofs.OneForm.{lower_of}
use Rattle.gs_frac.specs.{Gcd.{IsLcm}, declared.value.Fraction.{Fraction}}
use Rattle.gs_model.proofs.{BestOnce.{best_values_are_one}, Ranges.{in_range}, Walked.{walked_one, walked_two}}
use Rattle.gs_model.specs.{Classes.{ClassLists, IsClass, IsClasses}, Frame.{Frame, player_at, point_count, round_of}, FrameFacts.{InRange, IsWalked}}
use Rattle.gs_model.specs.{Plans.{lift}, Positions.{at_point}}
use Rattle.gs_simplex.specs.{Path.{PathStop, PathStops, ends, pivots, unbounded, wide}, Program.{Listing}, declared.program.Program.{Program}}
use Rattle.gs_simplex.specs.{Answer.{IsBest, IsSmallTable}, declared.answer.Best.{Best}}
use Rattle.gs_simplex.proofs.OneStop.{stops_agree}
use Rattle.gs_seq.specs.{Slots.{plan_of}, declared.plan.Plan.{Plan}}
use Rattle.gs_solve.proofs.{Chosen.{filter_tests, map_same}, GameEnd.{some_of}, Least.{multiple_divides_totals, multiple_is_least}, Multiples.{lcm_some}}
use Rattle.gs_solve.proofs.Numbering.{set_below}
use Rattle.gs_solve.specs.{GamePrograms.{IsGameOpening, sequences_by}, Openings.{is_chosen, opening_of}, Solutions.{most_pivots, table_numbers}}
use Rattle.gs_solve.specs.{Programs.{Sizes, first_answer, first_bound, first_slack}, Sequences.{constraints, form_sizes, payoffs, sequence_of}}
use Rattle.gs_solve.specs.Solutions.{AreEndPlans, AreShares, IsFirstOver, IsGamePath, IsGameSolution, IsLeastPlan, IsLcmOfFirst, IsTotalOver, IsLcmWithin}
use Rattle.gs_solve.specs.Weights.{sequence_weight}
use Rattle.gs_strategy.specs.{Values.{Weights}, Views.{weights_of}, Values.{file_frame}}
use Rattle.gs_play.proofs.{OnePlay.{best_same}, PlansAlike.{firsts_same}}
use Rattle.gs_run.proofs.{OneProgram.{Same, SameEnds, SameFractions, best_one, best_over, programs_same, stops_over}}
use Rattle.gs_run.proofs.OneSettled.{SaysOne, settles_one, text_of_one}
use Rattle.gs_strategy.proofs.OneReading.{one_least}
use Rattle.gs_file.proofs.Dealt.{told_playable}
use Rattle.gs_file.specs.{Reading.{FileGame, file_rules}, declared.version.Version.TheVariants.{Two}}
use Rattle.gs_reply.specs.Refusals.{Refusal, Overflows, Many_pivots, Too_large, Bad_game, Unlike_pair, Bad_strategy, Wrong_number, Bad_query, Other_game}
use Rattle.gs_reply.specs.{Refusals.{Bad_certificate}, declared.refusals.Limit.TheVariants.{Sequences, Cells, TableNumbers, RawCells}}
use Rattle.gs_reply.specs.{declared.refusals.Overflow.TheVariants.{AtStep, AtTotal}, Replies.{Reply, Prints, Refuses}}
use Rattle.gs_game_commands.specs.{Solving.{SaysStopped, SaysUnsolved, Solves}, Settling.{Settles}}
use Rattle.gs_words.specs.declared.request.Grouping.{Grouping}

-- ---- the opening

any_same : (p q : ℕ → Bool) (a n : ℕ) → ((k : ℕ) → a ≤ k → k < a + n → p k ≡ q k) → list_any p (range_with_len a n) ≡ list_any q (range_with_len a n)
any_same p q a zero h = refl
any_same p q a (suc n) h =
    let here = h a (omega arith) (omega arith) in
    let rest = any_same p q (a + 1) n (λ k lo hi. h k (omega arith) (omega arith)) in
    ap (λ (b : Bool). b || list_any p (range_with_len (a + 1) n)) here ∙ ap (λ (b : Bool). q a || b) rest

opening_same : (n : Sizes) (A C D : ℕ → ℕ) → ((k : ℕ) → k < n.two_rows → C k ≡ D k) → opening_of n A C ≡ opening_of n A D
opening_same n A C D h =
    let chosen : (t : ℕ) → is_chosen C n.two_rows t ≡ is_chosen D n.two_rows t =
    λ t. any_same (λ k. C k == t) (λ k. D k == t) 0 n.two_rows (λ k lo hi. ap (λ (i : ℕ). i == t) (h k (omega arith))) in
    let kept : filter (λ t. not (is_chosen C n.two_rows t)) (range_with_len 0 n.twos) ≡ filter (λ t. not (is_chosen D n.two_rows t)) (range_with_len 0 n.twos) =
    filter_tests (λ t. not (is_chosen C n.two_rows t)) (λ t. not (is_chosen D n.two_rows t)) (range_with_len 0 n.twos) (λ t. ap not (chosen t)) in
    let middle : map {B = ℕ × ℕ} (λ k. (first_answer n + C k + 1, first_bound n + k + 1)) (range_with_len 0 n.two_rows)
    ≡ map {B = ℕ × ℕ} (λ k. (first_answer n + D k + 1, first_bound n + k + 1)) (range_with_len 0 n.two_rows) =
    map_same (λ k. (first_answer n + C k + 1, first_bound n + k + 1)) (λ k. (first_answer n + D k + 1, first_bound n + k + 1)) 0 n.two_rows
    (λ k lo hi. ap (λ (i : ℕ). (first_answer n + i + 1, first_bound n + k + 1)) (h k (omega arith))) in
    let first : Listing = map (λ k. (k + 1, A k + 1)) (range_with_len 0 n.one_rows) in
    let slack : List ℕ → Listing = λ ts. map (λ t. (first_answer n + t + 1, first_slack n + t + 1)) ts in
    ap (λ (l : Listing). first ++ l ++ slack (filter (λ t. not (is_chosen C n.two_rows t)) (range_with_len 0 n.twos))) middle
    ∙ ap (λ (ts : List ℕ). first ++ map (λ k. (first_answer n + D k + 1, first_bound n + k + 1)) (range_with_len 0 n.two_rows) ++ slack ts) kept

sequences_same : (f : Frame) (lists : ClassLists) (move other : ℕ → ℕ → ℕ) → ((q c : ℕ) → q < point_count f → player_at f q ≡ 2
    → IsClass lists (round_of f (at_point q)) c → move q c ≡ other q c)
    → (k : ℕ) → k < (form_sizes f lists).two_rows → sequences_by f lists 2 move k ≡ sequences_by f lists 2 other k
sequences_same f lists move other h zero l = refl
sequences_same f lists move other h (suc k) l =
    let (q, c, set, low, is) = set_below f lists 2 (point_count f) k (omega arith) (omega arith) in
    let same = h q c set.point_in set.own set.class_in in
    let at = λ (m : ℕ → ℕ → ℕ) (i : ℕ × ℕ). sequence_of f lists i.0 i.1 (m i.0 i.1) in
    ap (at move) is ∙ ap (sequence_of f lists q c) same ∙ sym (ap (at other) is)

pub record SamePath (f : Frame) (lists : ClassLists) (p : Program) (o : Listing) (q : Program) (l : Listing) : Type 0 where
  pub programs : Same p q
  pub openings : o ≡ l

module _ (f : Frame) (lists : ClassLists) (r : InRange f) (w1 : IsWalked f 1) (w2 : IsWalked f 2) (k : IsClasses f.parents lists) where
  pub opening_one : (o l : Listing) → IsGameOpening f lists o → IsGameOpening f lists l → o ≡ l
  opening_one o l h g =
      let firsts = firsts_same f lists 1 r w1 k (plan_of f lists 1 h.first) (plan_of f lists 1 g.first) h.first_moves g.first_moves in
      let best = best_same f lists 2 (plan_of f lists 1 h.first) (plan_of f lists 1 g.first) h.values h.move r w1 k firsts h.best in
      let moves = (best_values_are_one f lists 2 (lift f lists (plan_of f lists 1 g.first)) h.values g.values h.move g.move w2 k best g.best).2 in
      h.list
      ∙ opening_same (form_sizes f lists) (sequences_by f lists 1 (λ q c. 0)) (sequences_by f lists 2 h.move) (sequences_by f lists 2 g.move)
      (sequences_same f lists h.move g.move moves)
      ∙ sym g.list

  pub path_one : (p : Program) (o : Listing) (q : Program) (l : Listing) → IsGamePath f lists p o → IsGamePath f lists q l → SamePath f lists p o q l
  path_one p o q l h g = record {
    programs = programs_same p q (form_sizes f lists) (constraints f lists 1) (constraints f lists 2) (payoffs f lists) h.shaped g.shaped h.program g.program;
    openings = opening_one o l h.opening g.opening;
  }

-- a stop of one path of a game is one of the other
pub stop_there : (f : Frame) (lists : ClassLists) (p : Program) (o : Listing) (q : Program) (l : Listing) (stop : PathStop) → SamePath f lists p o q l
    → PathStops p o most_pivots stop → PathStops q l most_pivots stop
stop_there f lists p o q l stop s h =
    subst (λ (x : Listing). PathStops q x most_pivots stop) s.openings (stops_over p q s.programs o most_pivots stop h)

best_there : (f : Frame) (lists : ClassLists) (p : Program) (o : Listing) (q : Program) (l : Listing) (b : Best) → SamePath f lists p o q l
    → IsBest p o most_pivots b → IsBest q l most_pivots b
best_there f lists p o q l b s h = subst (λ (x : Listing). IsBest q x most_pivots b) s.openings (best_over p q s.programs o most_pivots b h)

-- ---- plans by fractions

-- two lists of fractions with the same parts, so many of them
shares_same : (n : ℕ) (xs ys : List Fraction) (from count total : ℕ) (weight : ℕ → ℕ) → SameFractions n xs ys → from + count ≤ n
    → AreShares xs from count total weight → AreShares ys from count total weight
shares_same n xs ys from count total weight same few h s l d =
    let e = same (from + s) d d (omega arith) in
    let x = slice_index_or xs (from + s) d in
    let y = slice_index_or ys (from + s) d in
    ap (λ (z : ℤ). z *ℤ pos total) (sym e.0) ∙ h s l d ∙ ap (λ (z : ℤ). pos (weight s) *ℤ z) e.1

turned : (n : ℕ) (xs ys : List Fraction) → SameFractions n xs ys → SameFractions n ys xs
turned n xs ys h j d e l = let r = h j e d l in (sym r.0, sym r.1)

weight_one : (f : Fraction) (a b : ℕ) → pos a *ℤ f.den ≡ pos b *ℤ f.den → a ≡ b
weight_one f a b e =
    let l = lower_of f.num f.den f.reduced in
    let same : pos a *ℤ pos l.below ≡ pos b *ℤ pos l.below = ap (λ (z : ℤ). pos a *ℤ z) (sym l.is) ∙ e ∙ ap (λ (z : ℤ). pos b *ℤ z) l.is in
    let some = l.some in
    cancel_pos a b l.below some (whole a b l.below same)
  where
    whole : (a b d : ℕ) → pos a *ℤ pos d ≡ pos b *ℤ pos d → a * d ≡ b * d
    whole a b d e = ap unsigned_abs e

    cancel_pos : (a b d : ℕ) → 0 < d → a * d ≡ b * d → a ≡ b
    cancel_pos a b d some e = grind arith

abbrev made : ℕ → List ℕ → Weights
made n xs = record { total = n; weights = xs }

same_made : (n m : ℕ) (xs ys : List ℕ) → n ≡ m → xs ≡ ys → made n xs ≡ made m ys
same_made n m xs ys e h = ap (λ (i : ℕ). made i xs) e ∙ ap (λ (l : List ℕ). made m l) h

-- plans with the least totals over the same fractions have the same weights
least_one : (n : ℕ) (xs ys : List Fraction) (from count : ℕ) (x y : Plan) → Fraction → SameFractions n xs ys → from + count ≤ n → 0 < x.total → 0 < y.total
    → length x.weights.items + 1 ≡ count → length y.weights.items + 1 ≡ count → IsLeastPlan xs from count x → IsLeastPlan ys from count y
    → weights_of x ≡ weights_of y
least_one n xs ys from count x y any same few sx sy lx ly h k =
    let back = shares_same n ys xs from count y.total (sequence_weight y.total y.weights.items) (turned n xs ys same) few k.shares in
    let on = shares_same n xs ys from count x.total (sequence_weight x.total x.weights.items) same few h.shares in
    let totals : x.total ≡ y.total = dvd_antisymm (h.least y.total (sequence_weight y.total y.weights.items) sy back)
    (k.least x.total (sequence_weight x.total x.weights.items) sx on) in
    let each : (i : ℕ) → i < length x.weights.items → slice_index x.weights.items i ≡ slice_index y.weights.items i = λ i l. (
    let f = slice_index_or xs (from + suc i) any in
    weight_one f (slice_index x.weights.items i) (slice_index y.weights.items i)
    (sym (h.shares (suc i) (omega arith) any) ∙ ap (λ (t : ℕ). f.num *ℤ pos t) totals ∙ back (suc i) (omega arith) any)) in
    let items : x.weights.items ≡ y.weights.items = same_lists x.weights.items y.weights.items (omega arith) (λ i d l.
    get_or_default x.weights.items i d 0 l ∙ each i l ∙ get_or_default y.weights.items i 0 d (omega arith)) in
    same_made x.total y.total x.weights.items y.weights.items totals items

-- ---- the plans of a solution

few_columns : (f : Frame) (lists : ClassLists) (p : Program) (o : Listing) → IsGamePath f lists p o → p.cols
    ≡ ((form_sizes f lists).ones + (form_sizes f lists).two_rows) + (form_sizes f lists).twos
few_columns f lists p o h = h.program.cols

pub record SamePlans (x y x' y' : Plan) : Type 0 where
  pub one : weights_of x ≡ weights_of x'
  pub two : weights_of y ≡ weights_of y'

pub solution_one : (f : Frame) (lists : ClassLists) → InRange f → IsWalked f 1 → IsWalked f 2 → IsClasses f.parents lists → (x y x' y' : Plan)
    → IsGameSolution f lists x y → IsGameSolution f lists x' y' → SamePlans x y x' y'
solution_one f lists r w1 w2 k x y x' y' h g =
    let (p, o, b, path, best, plans) = h.path in
    let (q, l, c, path', best', plans') = g.path in
    let s = path_one f lists r w1 w2 k p o q l path path' in
    let there = best_there f lists p o q l b s best in
    let ends = best_one q l most_pivots b c path'.opens there best' in
    let cols = few_columns f lists q l path' in
    let long = there.values in
    let any = some_of b.value.items (omega arith) in
    let lx = h.one.plan.long in
    let lx' = g.one.plan.long in
    let ly = h.two.plan.long in
    let ly' = g.two.plan.long in
    record {
      one = least_one q.cols b.value.items c.value.items 0 (form_sizes f lists).ones x x' any ends.values (omega arith) h.one.plan.plan.total_in.0
          g.one.plan.plan.total_in.0 (omega arith) (omega arith) plans.one plans'.one;
      two = least_one q.cols b.price.items c.price.items (first_slack (form_sizes f lists)) (form_sizes f lists).twos y y' any ends.prices (omega arith)
          h.two.plan.plan.total_in.0 g.two.plan.plan.total_in.0 (omega arith) (omega arith) plans.two plans'.two;
    }

-- ---- multiples

multiple_same : (n : ℕ) (xs ys : List Fraction) (from k m : ℕ) → SameFractions n xs ys → from + k ≤ n → IsLcmOfFirst xs from k m → IsLcmOfFirst ys from k m
multiple_same n xs ys from zero m same few h = h
multiple_same n xs ys from (suc k) m same few (old, h, lcm) = (
  old,
  multiple_same n xs ys from k old same (omega arith) h,
  λ d. subst (λ (z : ℤ). IsLcm old (unsigned_abs z) m) (same (from + k) d d (omega arith)).1 (lcm d),
)

den_some : (f : Fraction) → 0 < unsigned_abs f.den
den_some f = let l = lower_of f.num f.den f.reduced in let some = l.some in subst (λ (z : ℤ). 0 < unsigned_abs z) (sym l.is) some

multiple_some : (xs : List Fraction) (from k m : ℕ) → Fraction → IsLcmOfFirst xs from k m → 0 < m
multiple_some xs from zero m any h = omega arith
multiple_some xs from (suc k) m any (old, h, lcm) =
    let x = slice_index_or xs (from + k) any in
    lcm_some old (unsigned_abs x.den) m (multiple_some xs from k old any h) (den_some x) (lcm any)

multiple_divides : (xs : List Fraction) (from k l m n : ℕ) → Fraction → k ≤ l → IsLcmOfFirst xs from k m → IsLcmOfFirst xs from l n → m ∣ n
multiple_divides xs from k l m n any le h g =
    (multiple_is_least xs from k m h).least n any (λ s low. (multiple_is_least xs from l n g).each s any (omega arith))

-- of multiples of no more fractions none is more
multiple_le : (xs : List Fraction) (from k l m n : ℕ) → Fraction → k ≤ l → IsLcmOfFirst xs from k m → IsLcmOfFirst xs from l n → m ≤ n
multiple_le xs from k l m n any le h g = le_of_dvd (multiple_some xs from l n any g) (multiple_divides xs from k l m n any le h g)

first_over_one : (xs : List Fraction) (from count m n : ℕ) → Fraction → IsFirstOver xs from count m → IsFirstOver xs from count n → m ≡ n
first_over_one xs from count m n any h g =
    let (k, lk, (old, is, few), next) = h.place in
    let (l, ll, (older, it, low), after) = g.place in
    let a = h.over in
    let b = g.over in
    let places : k ≡ l = one_least k l
    (λ less. let le = multiple_le xs from (suc k) l m older any (omega arith) next it in absurd (omega arith))
    (λ less. let le = multiple_le xs from (suc l) k n old any (omega arith) after is in absurd (omega arith)) in
    let same : IsLcmOfFirst xs from (suc l) m = subst (λ (i : ℕ). IsLcmOfFirst xs from (suc i) m) places next in
    dvd_antisymm (multiple_divides xs from (suc l) (suc l) m n any (omega arith) same after)
    (multiple_divides xs from (suc l) (suc l) n m any (omega arith) after same)

within_or_over : (xs : List Fraction) (from count m : ℕ) → Fraction → IsLcmWithin xs from count → IsFirstOver xs from count m → ⊥
within_or_over xs from count m any (n, h, few) g =
    let (k, lk, old, next) = g.place in
    let over = g.over in
    let le = multiple_le xs from (suc k) count m n any (omega arith) next h in
    omega arith

over_same : (n : ℕ) (xs ys : List Fraction) (from count m : ℕ) → SameFractions n xs ys → from + count ≤ n → IsFirstOver xs from count m
    → IsFirstOver ys from count m
over_same n xs ys from count m same few h =
    let (k, lk, (old, is, low), next) = h.place in
    record {
      place = (k, lk, (old, multiple_same n xs ys from k old same (omega arith) is, low), multiple_same n xs ys from (suc k) m same (omega arith) next);
      over = h.over;
    }

within_same : (n : ℕ) (xs ys : List Fraction) (from count : ℕ) → SameFractions n xs ys → from + count ≤ n → IsLcmWithin xs from count
    → IsLcmWithin ys from count
within_same n xs ys from count same few (m, h, low) = (m, multiple_same n xs ys from count m same few h, low)

-- a plan of little total has no total that is too large
plan_or_over : (xs : List Fraction) (from count m : ℕ) (x : Plan) → Fraction → 0 < x.total → x.total ≤ 2 ^ 36 → IsLeastPlan xs from count x
    → IsFirstOver xs from count m → ⊥
plan_or_over xs from count m x any some few h g =
    let (k, lk, old, next) = g.place in
    let over = g.over in
    let divides = multiple_divides_totals xs from (suc k) m any next x.total (sequence_weight x.total x.weights.items) some
    (λ s l d. h.shares s (omega arith) d) in
    let le = le_of_dvd some divides in
    omega arith

-- ---- why there is no solution

abbrev Tells : PathStop → Refusal → Type 0
Tells (wide step row col number) why = why ≡ Overflows (AtStep step row col number)
Tells pivots why = why ≡ Many_pivots
Tells (ends n l) why = ⊥
Tells (unbounded col) why = ⊥

-- the table is too large
abbrev AsTable : FileGame → ClassLists → Refusal → Type 0
AsTable g lists why = (count : ℕ) × (why ≡ Too_large (TableNumbers count)) × (count ≡ table_numbers (file_frame g) lists) × (1048576 < count)

-- the path stops before its end
abbrev AsPath : FileGame → ClassLists → Refusal → Type 0
AsPath g lists why =
    (stop : PathStop) × Tells stop why × (p : Program) × (o : Listing) × IsGamePath (file_frame g) lists p o × IsSmallTable p × PathStops p o most_pivots stop

-- a total is too large
abbrev AsTotal : FileGame → ClassLists → Refusal → Type 0
AsTotal g lists why =
    (player : ℕ) × (m : ℕ) × (why ≡ Overflows (AtTotal player m)) × (p : Program) × (o : Listing) × (b : Best) × IsGamePath (file_frame g) lists p o
    × IsBest p o most_pivots b × IsTotalOver (file_frame g) lists b player m

stopped_kind : (g : FileGame) (lists : ClassLists) (why : Refusal) → SaysStopped g lists why → AsTable g lists why ⊎ AsPath g lists why
stopped_kind g lists (Too_large (TableNumbers count)) h = inl (count, refl, h.0, h.1)
stopped_kind g lists (Overflows (AtStep step row col number)) h = inr (wide step row col number, refl, h.0, h.1, h.2, h.3, h.4)
stopped_kind g lists Many_pivots h = inr (pivots, refl, h.0, h.1, h.2, h.3, h.4)
stopped_kind g lists (Too_large (Sequences player count)) h = absurd h
stopped_kind g lists (Too_large (Cells count)) h = absurd h
stopped_kind g lists (Too_large (RawCells count)) h = absurd h
stopped_kind g lists (Overflows (AtTotal player m)) h = absurd h
stopped_kind g lists (Bad_game why) h = absurd h
stopped_kind g lists (Unlike_pair round one two) h = absurd h
stopped_kind g lists (Bad_strategy which why) h = absurd h
stopped_kind g lists (Wrong_number name a b) h = absurd h
stopped_kind g lists (Bad_query why) h = absurd h
stopped_kind g lists Other_game h = absurd h
stopped_kind g lists (Bad_certificate why) h = absurd h

unsolved_kind : (g : FileGame) (lists : ClassLists) (why : Refusal) → SaysUnsolved g lists why
    → AsTable g lists why ⊎ (AsPath g lists why ⊎ AsTotal g lists why)
unsolved_kind g lists (Overflows (AtTotal player m)) h = inr (inr (player, m, refl, h.0, h.1, h.2, h.3, h.4, h.5))
unsolved_kind g lists why h = elim (stopped_kind g lists why h) [ inl a ↦ inl a | inr b ↦ inr (inl b) ]

small_or_table : (f : Frame) (lists : ClassLists) (p : Program) (o : Listing) (count : ℕ) → IsGamePath f lists p o → IsSmallTable p
    → count ≡ table_numbers f lists
    → 1048576 < count → ⊥
small_or_table f lists p o count path small e over =
    let rows = path.program.rows in
    let cols = path.program.cols in
    let same : (p.rows + 1) * (p.cols + 1) ≡ table_numbers f lists =
    ap (λ (r : ℕ). (r + 1) * (p.cols + 1)) rows
    ∙ ap (λ (c : ℕ). (((form_sizes f lists).one_rows + (form_sizes f lists).twos) + 1) * (c + 1)) cols in
    omega arith

tells_one : (s t : PathStop) (v w : Refusal) → s ≡ t → Tells s v → Tells t w → v ≡ w
tells_one s t v w e h k = by t (subst (λ (x : PathStop). Tells x v) e h) k
  where
    by : (t : PathStop) → Tells t v → Tells t w → v ≡ w
    by (wide step row col number) a b = a ∙ sym b
    by pivots a b = a ∙ sym b
    by (ends n l) a b = absurd a
    by (unbounded col) a b = absurd a

ends_or_stop : (n : ℕ) (l : Listing) (s : PathStop) (why : Refusal) → ends n l ≡ s → Tells s why → ⊥
ends_or_stop n l s why e h = subst (λ (x : PathStop). Tells x why) (sym e) h

module _ (g : FileGame) (lists : ClassLists) (r : InRange (file_frame g)) (w1 : IsWalked (file_frame g) 1) (w2 : IsWalked (file_frame g) 2)
    (k : IsClasses (file_frame g).parents lists) where
  table_or_path : (v w : Refusal) → AsTable g lists v → AsPath g lists w → ⊥
  table_or_path v w (count, e, is, over) (stop, tells, p, o, path, small, stops) = small_or_table (file_frame g) lists p o count path small is over

  table_or_best : (v : Refusal) (p : Program) (o : Listing) (b : Best) → AsTable g lists v → IsGamePath (file_frame g) lists p o → IsBest p o most_pivots b → ⊥
  table_or_best v p o b (count, e, is, over) path best = small_or_table (file_frame g) lists p o count path best.small is over

  path_or_best : (v : Refusal) (q : Program) (l : Listing) (c : Best) → AsPath g lists v → IsGamePath (file_frame g) lists q l → IsBest q l most_pivots c → ⊥
  path_or_best v q l c (stop, tells, p, o, path, small, stops) other best =
      let s = path_one (file_frame g) lists r w1 w2 k p o q l path other in
      let there = stop_there (file_frame g) lists p o q l stop s stops in
      ends_or_stop c.pivots c.basis.items stop v
      (stops_agree q l most_pivots (ends c.pivots c.basis.items) stop other.opens best.stops there) tells

  pub ended_or_stopped : (v : Refusal) (q : Program) (l : Listing) (n : ℕ) (k' : Listing) → SaysStopped g lists v → IsGamePath (file_frame g) lists q l
      → IsSmallTable q → PathStops q l most_pivots (ends n k') → ⊥
  ended_or_stopped v q l n k' h road few end = by (stopped_kind g lists v h)
    where
      by : AsTable g lists v ⊎ AsPath g lists v → ⊥
      by (inl (count, e, is, over)) = small_or_table (file_frame g) lists q l count road few is over
      by (inr (stop, tells, p, o, path, small, stops)) =
          let s = path_one (file_frame g) lists r w1 w2 k p o q l path road in
          let there = stop_there (file_frame g) lists p o q l stop s stops in
          ends_or_stop n k' stop v (stops_agree q l most_pivots (ends n k') stop road.opens end there) tells

  paths_one : (v w : Refusal) → AsPath g lists v → AsPath g lists w → v ≡ w
  paths_one v w (stop, tells, p, o, path, small, stops) (end, says, q, l, other, few, ends_so) =
      let s = path_one (file_frame g) lists r w1 w2 k p o q l path other in
      let there = stop_there (file_frame g) lists p o q l stop s stops in
      tells_one stop end v w (stops_agree q l most_pivots stop end other.opens there ends_so) tells says

  pub stopped_one : (v w : Refusal) → SaysStopped g lists v → SaysStopped g lists w → v ≡ w
  stopped_one v w h i = by (stopped_kind g lists v h) (stopped_kind g lists w i)
    where
      by : AsTable g lists v ⊎ AsPath g lists v → AsTable g lists w ⊎ AsPath g lists w → v ≡ w
      by (inl (a, e, is, over)) (inl (b, d, it, past)) = e ∙ ap (λ (n : ℕ). Too_large (TableNumbers n)) (is ∙ sym it) ∙ sym d
      by (inl a) (inr b) = absurd (table_or_path v w a b)
      by (inr a) (inl b) = absurd (table_or_path w v b a)
      by (inr a) (inr b) = paths_one v w a b

  totals_one : (v w : Refusal) → AsTotal g lists v → AsTotal g lists w → v ≡ w
  totals_one v w (player, m, e, p, o, b, path, best, over) (other, n, d, q, l, c, road, end, past) =
      let s = path_one (file_frame g) lists r w1 w2 k p o q l path road in
      let there = best_there (file_frame g) lists p o q l b s best in
      let same = best_one q l most_pivots b c road.opens there end in
      let cols = few_columns (file_frame g) lists q l road in
      let long = there.values in
      let any = some_of b.value.items (omega arith) in
      let sizes = form_sizes (file_frame g) lists in
      by q b c cols same any over past e d
    where
      by : (q : Program) (b c : Best) → q.cols ≡ ((form_sizes (file_frame g) lists).ones + (form_sizes (file_frame g) lists).two_rows)
          + (form_sizes (file_frame g) lists).twos → SameEnds q b c → Fraction → IsTotalOver (file_frame g) lists b player m
          → IsTotalOver (file_frame g) lists c other n → v ≡ Overflows (AtTotal player m) → w ≡ Overflows (AtTotal other n) → v ≡ w
      by q b c cols same any (inl h) (inl i) e d =
          let sizes = form_sizes (file_frame g) lists in
          let x = first_over_one c.value.items 0 sizes.ones m n any
          (over_same q.cols b.value.items c.value.items 0 sizes.ones m same.values (omega arith) h.1) i.1 in
          let y = h.0 ∙ sym i.0 in
          e ∙ ap (λ (z : ℕ). Overflows (AtTotal z m)) y ∙ ap (λ (z : ℕ). Overflows (AtTotal other z)) x ∙ sym d
      by q b c cols same any (inl h) (inr i) e d =
          let sizes = form_sizes (file_frame g) lists in
          absurd (within_or_over c.value.items 0 sizes.ones m any i.1
          (over_same q.cols b.value.items c.value.items 0 sizes.ones m same.values (omega arith) h.1))
      by q b c cols same any (inr h) (inl i) e d =
          let sizes = form_sizes (file_frame g) lists in
          absurd (within_or_over c.value.items 0 sizes.ones n any
          (within_same q.cols b.value.items c.value.items 0 sizes.ones same.values (omega arith) h.1) i.1)
      by q b c cols same any (inr h) (inr i) e d =
          let sizes = form_sizes (file_frame g) lists in
          let x = first_over_one c.price.items (first_slack sizes) sizes.twos m n any
          (over_same q.cols b.price.items c.price.items (first_slack sizes) sizes.twos m same.prices (omega arith) h.2) i.2 in
          let y = h.0 ∙ sym i.0 in
          e ∙ ap (λ (z : ℕ). Overflows (AtTotal z m)) y ∙ ap (λ (z : ℕ). Overflows (AtTotal other z)) x ∙ sym d

  pub unsolved_one : (v w : Refusal) → SaysUnsolved g lists v → SaysUnsolved g lists w → v ≡ w
  unsolved_one v w h i = by (unsolved_kind g lists v h) (unsolved_kind g lists w i)
    where
      by : AsTable g lists v ⊎ (AsPath g lists v ⊎ AsTotal g lists v) → AsTable g lists w ⊎ (AsPath g lists w ⊎ AsTotal g lists w) → v ≡ w
      by (inl (a, e, is, over)) (inl (b, d, it, past)) = e ∙ ap (λ (n : ℕ). Too_large (TableNumbers n)) (is ∙ sym it) ∙ sym d
      by (inl a) (inr (inl b)) = absurd (table_or_path v w a b)
      by (inl a) (inr (inr (player, m, e, p, o, b, path, best, over))) = absurd (table_or_best v p o b a path best)
      by (inr (inl a)) (inl b) = absurd (table_or_path w v b a)
      by (inr (inl a)) (inr (inl b)) = paths_one v w a b
      by (inr (inl a)) (inr (inr (player, m, e, p, o, b, path, best, over))) = absurd (path_or_best v p o b a path best)
      by (inr (inr (player, m, e, p, o, b, path, best, over))) (inl a) = absurd (table_or_best w p o b a path best)
      by (inr (inr (player, m, e, p, o, b, path, best, over))) (inr (inl a)) = absurd (path_or_best w p o b a path best)
      by (inr (inr a)) (inr (inr b)) = totals_one v w a b

  pub solved_or_not : (x y : Plan) (v : Refusal) → IsGameSolution (file_frame g) lists x y → SaysUnsolved g lists v → ⊥
  solved_or_not x y v h i =
      let (p, o, b, path, best, plans) = h.path in
      by p o b path best plans (unsolved_kind g lists v i)
    where
      total : (p : Program) (o : Listing) (b : Best) → IsGamePath (file_frame g) lists p o → IsBest p o most_pivots b
          → AreEndPlans (file_frame g) lists b x y → (player m : ℕ) (q : Program) (l : Listing) (c : Best) → IsGamePath (file_frame g) lists q l
          → IsBest q l most_pivots c → IsTotalOver (file_frame g) lists c player m → ⊥
      total p o b path best plans player m q l c road end over =
          let s = path_one (file_frame g) lists r w1 w2 k q l p o road path in
          let there = best_there (file_frame g) lists q l p o c s end in
          let same = best_one p o most_pivots c b path.opens there best in
          let cols = few_columns (file_frame g) lists p o path in
          let long = there.values in
          let any = some_of c.value.items (omega arith) in
          elim over [
            | inl a ↦ plan_or_over b.value.items 0 (form_sizes (file_frame g) lists).ones m x any h.one.plan.plan.total_in.0
                h.one.plan.plan.total_in.1 plans.one
                (over_same p.cols c.value.items b.value.items 0 (form_sizes (file_frame g) lists).ones m same.values (omega arith) a.1)
            | inr a ↦ plan_or_over b.price.items (first_slack (form_sizes (file_frame g) lists)) (form_sizes (file_frame g) lists).twos m y any
                h.two.plan.plan.total_in.0 h.two.plan.plan.total_in.1 plans.two
                (over_same p.cols c.price.items b.price.items (first_slack (form_sizes (file_frame g) lists))
                (form_sizes (file_frame g) lists).twos m same.prices
                (omega arith) a.2)
          ]

      by : (p : Program) (o : Listing) (b : Best) → IsGamePath (file_frame g) lists p o → IsBest p o most_pivots b → AreEndPlans (file_frame g) lists b x y
          → AsTable g lists v ⊎ (AsPath g lists v ⊎ AsTotal g lists v) → ⊥
      by p o b path best plans (inl a) = table_or_best v p o b a path best
      by p o b path best plans (inr (inl a)) = path_or_best v p o b a path best
      by p o b path best plans (inr (inr (player, m, e, q, l, c, road, end, over))) = total p o b path best plans player m q l c road end over

-- ---- `solve`

solved_one : SaysOne Solves
solved_one g lists (Prints a) (Prints b) t c h i =
    let p = told_playable Two g t in
    let both = solution_one (file_frame g) lists (in_range (file_rules g) p) (walked_one (file_rules g) p)
    (walked_two (file_rules g) p) c h.one h.two i.one i.two
    h.solution i.solution in
    ap (λ (x : List ℕ). Prints x) (text_of_one g lists h.one h.two i.one i.two a b t both.one both.two h.told i.told)
solved_one g lists (Prints a) (Refuses w) t c h i =
    let p = told_playable Two g t in
    absurd (solved_or_not g lists (in_range (file_rules g) p) (walked_one (file_rules g) p) (walked_two (file_rules g) p) c h.one h.two w h.solution i)
solved_one g lists (Refuses v) (Prints b) t c h i =
    let p = told_playable Two g t in
    absurd (solved_or_not g lists (in_range (file_rules g) p) (walked_one (file_rules g) p) (walked_two (file_rules g) p) c i.one i.two v i.solution h)
solved_one g lists (Refuses v) (Refuses w) t c h i =
    let p = told_playable Two g t in
    ap (λ (x : Refusal). Refuses x) (unsolved_one g lists (in_range (file_rules g) p) (walked_one (file_rules g) p) (walked_two (file_rules g) p) c v w h i)

pub solves_one : (grouping : Grouping) (bytes : List ℕ) (one two : Reply) → Settles Solves grouping bytes one → Settles Solves grouping bytes two → one ≡ two
solves_one = settles_one Solves solved_one
