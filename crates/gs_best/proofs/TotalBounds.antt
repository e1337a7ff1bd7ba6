-- Class totals are small: at most the greatest payoff times the other player's total times the weight of all deals.
use Rattle.std.proofs.Common.{◌≡◌, ◌≢◌, ℕ, zero, suc, ◌+◌, ◌-◌, ◌*◌, ◌<◌, ◌≤◌, Bool, true, false, cond, List, [], ◌∷◌, length, get_or, refl, sym, ap, ◌∙◌}
use Rattle.std.proofs.{Common.{arith, eqb, ⊎_elim, Option, Some, None}, lemmas.List.Elements.{All-head, All-tail}, lemmas.List.Sums.{sum_by-cons}}
use Rattle.std.proofs.{Math.Nat.{mul-le-mul_left}, lemmas.Bool.{cases_eq}, lemmas.Bool.Decides.{Decides-eqb}, lemmas.Int.{ints, unsigned_abs-mul}}
use Rattle.std.specs.{Prelude.{◌==◌, if◌then◌else◌, ℤ, pos, ◌*ℤ◌, unsigned_abs, sum_by, All}, List.{range_with_len}}
use borrow.Author.Differences.{abs_is}
use Rattle.gs_model.specs.{BestAnswers.{Values, end_worth}, Classes.{ClassLists, IsClass, IsClasses, class_count, class_of, classes_in, first_member}}
use Rattle.gs_model.specs.{Deals.{Deal}, Frame.{player_at, point_count, round_of, signal_count, signals_in, total_weight}}
use Rattle.gs_model.specs.Frame.{Frame, ancestor, at_round, choices_at, end_count, last_round, last_step, leads_to, move_count, other_player, payoff_to}
use Rattle.gs_model.specs.{FrameFacts.{InRange, IsFrom, IsInside, IsWalked}, Plans.{IsClassPlan, IsRawPlan, Plan, lift, number_before}}
use Rattle.gs_model.specs.{Positions.{Step, Target, at_end, at_point}, Sums.{sum_z}}
use Rattle.gs_model.proofs.{Alike.{keeps_from, kin_above}, ClassTotals.{end_total_by_pairs}, Deviations.{lift_is_raw_plan}, FirstBest.{sum-same_range}}
use Rattle.gs_model.proofs.{Flow.{by_ancestor}, Gather.{class_in, firsts_from, grouping_from, known_from, member_in, plan_by}, Lift.{one_guard}}
use Rattle.gs_model.proofs.{PlanLaws.{numbers_within}, RawBound.{range_once}, Regroup.{sum_z-pos}, Tables.{is_table}}
use Rattle.gs_model.proofs.{Total.{sum_z-regroup, sum_z-same, sum_z-same_all}, Basics.{pos-cond, pos-injective, sum-cond}}
use Rattle.gs_seq.specs.Payoffs.{end_sum}
use Rattle.gs_seq.proofs.{RowFacts.{abs_all, sum-times}, EndTotals.{abs_range}, EarlierRows.{sum-same_all}}
use Rattle.gs_best.specs.{ClassTotals.{earlier_class, total_worth}, Places.{IsFollowedFrom}}
use Rattle.gs_best.proofs.{Ranges.{range_add, sum_same}, Shares.{first_class}, Last.{IsLast, all_last, next_last}}

-- what the members of a class face at a position: over their deals the weight times the other's number before
abbrev faced : Frame → ClassLists → ℕ → Plan → Target → ℕ → ℕ
faced f lists player y g c =
    sum_by (λ (d : Deal). if class_of lists (round_of f g) (at_round f (round_of f g) d.one) == c
    then d.weight * number_before f (lift f lists y) (last_step f (other_player player) g) (round_of f g) (at_round f (round_of f g) d.two)
    else 0) f.deals

-- ---- sums

few_over : {X : Type 0} (f g : X → ℕ) (xs : List X) → All (λ x. f x ≤ g x) xs → sum_by f xs ≤ sum_by g xs
few_over f g [] h = omega arith
few_over f g (x ∷ xs) h = omega (
  arith,
  sum_by-cons f x xs,
  sum_by-cons g x xs,
  All-head (λ x. f x ≤ g x) x xs h,
  few_over f g xs (All-tail (λ x. f x ≤ g x) x xs h),
)

tested_few : (b : Bool) (w n t : ℕ) → n ≤ t → cond b (w * n) 0 ≤ t * w
tested_few true w n t l = omega (arith, mul-le-mul_left w l)
tested_few false w n t l = omega arith

abs_tested : (b : Bool) (x : ℤ) (most n : ℕ) → unsigned_abs x ≤ most * n → unsigned_abs (cond b x (pos 0)) ≤ most * cond b n 0
abs_tested true x most n h = h
abs_tested false x most n h = omega (arith, ints, abs_is (pos 0))

abs_times : (n most : ℕ) (u : ℤ) → unsigned_abs u ≤ most → unsigned_abs (pos n *ℤ u) ≤ most * n
abs_times n most u h = omega (arith, unsigned_abs-mul (pos n) u, abs_is (pos n), mul-le-mul_left n h, turned n most)
  where
    turned : (n most : ℕ) → n * most ≡ most * n
    turned n most = omega arith

test_out : (a b e : Bool) (n : ℕ) → (a ≡ true → b ≡ e) → cond a (pos (cond b n 0)) (pos 0) ≡ pos (cond e (cond a n 0) 0)
test_out true b e n h = ap (λ x. pos (cond x n 0)) (h refl)
test_out false b true n h = refl
test_out false b false n h = refl

-- the other's numbers at his moves, over deals
flow_sum : (n : ℕ) (B : Deal → Bool) (N : Deal → ℕ → ℕ) (T : Deal → ℕ) (xs : List Deal) → All (λ d. sum_by (N d) (range_with_len 0 n) ≡ T d) xs
    → sum_by (λ m. sum_by (λ (d : Deal). cond (B d) (d.weight * N d m) 0) xs) (range_with_len 0 n) ≡ sum_by (λ (d : Deal). cond (B d) (d.weight * T d) 0) xs
flow_sum n B N T [] h = sum-cond false (λ (m : ℕ). 0) (range_with_len 0 n)
flow_sum n B N T (x ∷ xs) h =
    let one = λ (m : ℕ). cond (B x) (x.weight * N x m) 0 in
    let rest = λ (m : ℕ). sum_by (λ (d : Deal). cond (B d) (d.weight * N d m) 0) xs in
    let split = sum-same_all (λ (m : ℕ). sum_by (λ (d : Deal). cond (B d) (d.weight * N d m) 0) (x ∷ xs)) (λ m. one m + rest m) (range_with_len 0 n)
    (λ i d l. sum_by-cons (λ (e : Deal). cond (B e) (e.weight * N e (get_or (range_with_len 0 n) i d)) 0) x xs) in
    let head = sum-cond (B x) (λ m. x.weight * N x m) (range_with_len 0 n)
    ∙ ap (λ v. cond (B x) v 0) (sum-times x.weight (N x) (range_with_len 0 n)
    ∙ ap (λ v. x.weight * v) (All-head (λ d. sum_by (N d) (range_with_len 0 n) ≡ T d) x xs h)) in
    omega (
      arith,
      split,
      range_add one rest n,
      head,
      flow_sum n B N T xs (All-tail (λ d. sum_by (N d) (range_with_len 0 n) ≡ T d) x xs h),
      sum_by-cons (λ (d : Deal). cond (B d) (d.weight * T d) 0) x xs,
    )

-- ---- positions

module _ (f : Frame) (r : InRange f) (lists : ClassLists) (k : IsClasses f.parents lists) where
  abbrev own_class : ℕ → Deal → ℕ
  own_class j d = class_of lists j (at_round f j d.one)

  -- over the classes below a class of an earlier round: its own deals
  deals_below : (i j c : ℕ) (X : Deal → ℕ) → 0 < j → j ≤ i → i ≤ last_round f
      → sum_by (λ e. cond (earlier_class f lists i j e == c) (sum_by (λ d. cond (own_class i d == e) (X d) 0) f.deals) 0) (classes_in lists i)
      ≡ sum_by (λ d. cond (own_class j d == c) (X d) 0) f.deals
  deals_below i j c X some l top =
      let h = is_table f r in
      let g = grouping_from f lists k in
      let one = λ (d : Deal). cond (own_class j d == c) (X d) 0 in
      let last = last_round f in
      let inside : (n : ℕ) (d : Deal) → n < length f.deals → at_round f i (get_or f.deals n d).one < signal_count f i =
      λ n d ln. h.kept last i (get_or f.deals n d).one (omega arith) top (h.dealt n d ln) in
      let per_class : (e : ℕ) → 1 ≤ e → e < 1 + class_count lists i
      → sum_z (λ d. cond (eqb (own_class i d) e) (pos (one d)) (pos 0)) f.deals
      ≡ pos (cond (earlier_class f lists i j e == c) (sum_by (λ d. cond (own_class i d == e) (X d) 0) f.deals) 0) = λ e lo hi.
      (let le : IsClass lists i e = (omega arith, omega arith) in
      let at = member_in f lists k i e (omega arith) top le in
      let first = first_class f lists k i e (omega arith) top le in
      sum_z-same_all (λ d. cond (eqb (own_class i d) e) (pos (one d)) (pos 0))
      (λ d. pos (cond (earlier_class f lists i j e == c) (cond (own_class i d == e) (X d) 0) 0)) f.deals
      (λ n d ln.
      let x = get_or f.deals n d in
      test_out (eqb (own_class i x) e) (own_class j x == c) (earlier_class f lists i j e == c) (X x)
      (λ t. ap (λ v. v == c)
      (ap (class_of lists j) (sym (h.chain last i j x.one l top))
      ∙ kin_above f h lists g.kin j (i - j) i (at_round f i x.one) (first_member lists i e) some (omega arith) top (record {
        first_in =
            inside n d ln;
        second_in = at;
        same = (Decides-eqb (own_class i x) e).0 t ∙ sym first;
      }))))
      ∙ sum_z-pos (λ d. cond (earlier_class f lists i j e == c) (cond (own_class i d == e) (X d) 0) 0) f.deals
      ∙ ap pos (sum-cond (earlier_class f lists i j e == c) (λ d. cond (own_class i d == e) (X d) 0) f.deals)) in
      pos-injective (sum_by (λ e. cond (earlier_class f lists i j e == c) (sum_by (λ d. cond (own_class i d == e) (X d) 0) f.deals) 0) (classes_in lists i))
      (sum_by one f.deals)
      (sym
      (sym (sum_z-pos one f.deals)
      ∙ sum_z-regroup (λ d e. eqb (own_class i d) e) (λ d. pos (one d)) (classes_in lists i) f.deals
      (λ n d ln. g.once i (at_round f i (get_or f.deals n d).one) (omega arith) top (inside n d ln))
      ∙ sum_same (λ e. sum_z (λ d. cond (eqb (own_class i d) e) (pos (one d)) (pos 0)) f.deals)
      (λ e. pos (cond (earlier_class f lists i j e == c) (sum_by (λ d. cond (own_class i d == e) (X d) 0) f.deals) 0)) 1 (class_count lists i) per_class
      ∙ sum_z-pos (λ e. cond (earlier_class f lists i j e == c) (sum_by (λ d. cond (own_class i d == e) (X d) 0) f.deals) 0) (classes_in lists i)))

  module _ (player : ℕ) (w : IsWalked f player) (v : IsWalked f (other_player player)) (apart : player
      ≢ other_player player) (y : Plan) (plan : IsClassPlan f lists (other_player player) y) (most : ℕ)
      (pays : (z n : ℕ) (d : Deal) → z < end_count f → n < length f.deals
      → unsigned_abs (payoff_to f player z (get_or f.deals n d).outcome) ≤ most) (V : Values) (move : ℕ → ℕ → ℕ) (from : ℕ)
      (at_ends : (z c : ℕ) → z < end_count f → IsClass lists (round_of f (at_end z)) c
      → V (at_end z) c ≡ end_sum f lists player y z c) (followed : IsFollowedFrom f lists player V move from) where
    abbrev Y : Plan
    Y = lift f lists y

    -- the other's number before a position in a deal
    abbrev facing : Target → Deal → ℕ
    facing g d = number_before f Y (last_step f (other_player player) g) (round_of f g) (at_round f (round_of f g) d.two)

    abbrev IsBounded : Target → Type 0
    IsBounded g = (c : ℕ) → IsClass lists (round_of f g) c → unsigned_abs (V g c) ≤ most * faced f lists player y g c

    -- what an end pays a class, over its deals
    end_by_deals : (z c : ℕ) → z < end_count f
        → end_sum f lists player y z c ≡ sum_z (λ (d : Deal). cond (eqb (own_class (round_of f (at_end z)) d) c)
        (pos (d.weight * facing (at_end z) d) *ℤ payoff_to f player z d.outcome) (pos 0)) f.deals
    end_by_deals z c lz =
        let h = is_table f r in
        let kn = known_from f player r w in
        let j = round_of f (at_end z) in
        let last = last_round f in
        let X = λ (d : Deal). pos (d.weight * facing (at_end z) d) *ℤ payoff_to f player z d.outcome in
        sym (end_total_by_pairs f h lists (grouping_from f lists k) player kn y z c lz)
        ∙ sym
        (sum_z-same (λ d. cond (eqb (own_class j d) c) (X d) (pos 0)) (λ d. pos (cond (eqb (own_class j d) c) 1 0) *ℤ X d)
        (λ d. one_guard (eqb (own_class j d) c) (X d)) f.deals
        ∙ by_ancestor eqb Decides-eqb (λ (d : Deal). ancestor f last j d.one) (λ s. cond (class_of lists j s == c) 1 0) X f.deals (signals_in f j)
        (λ i o l. range_once (ancestor f last j (get_or f.deals i o).one) 0 (signal_count f j) (omega arith) (let q =
        h.kept last j (get_or f.deals i o).one (w.end_round z lz) (w.end_in z lz) (h.dealt i o l) in omega arith))
        ∙ sum_z-same (λ s. pos (cond (class_of lists j s == c) 1 0) *ℤ end_worth f player Y z s)
        (λ s. cond (class_of lists j s == c) (end_worth f player Y z s) (pos 0))
        (λ s. sym (one_guard (class_of lists j s == c) (end_worth f player Y z s))) (signals_in f j))

    end_bounded : (z : ℕ) → z < end_count f → IsBounded (at_end z)
    end_bounded z lz c lc =
        let j = round_of f (at_end z) in
        let X = λ (d : Deal). pos (d.weight * facing (at_end z) d) *ℤ payoff_to f player z d.outcome in
        let n = λ (d : Deal). d.weight * facing (at_end z) d in
        let size = abs_all (λ d. cond (eqb (own_class j d) c) (X d) (pos 0)) (λ d. most * cond (eqb (own_class j d) c) (n d) 0) f.deals
        (λ i d l. let e = get_or f.deals i d in abs_tested (eqb (own_class j e) c) (X e) most (n e)
        (abs_times (n e) most (payoff_to f player z e.outcome) (pays z i d lz l))) in
        let all = sum-times most (λ d. cond (eqb (own_class j d) c) (n d) 0) f.deals in
        omega (arith, ap unsigned_abs (at_ends z c lz lc ∙ end_by_deals z c lz), size, all)

    -- the other's number of a step before a later round, in a deal
    number_up : (o : Option Step) (i j : ℕ) (d : Deal) → j ≤ i → i ≤ last_round f → ((u : Step) → o ≡ Some u → round_of f (at_point u.point) ≤ j)
        → number_before f Y o i (at_round f i d.two) ≡ number_before f Y o j (at_round f j d.two)
    number_up None i j d l top past = refl
    number_up (Some u) i j d l top past =
        let h = is_table f r in
        let last = last_round f in
        let to = round_of f (at_point u.point) in
        let before = past u refl in
        ap (λ s. Y.number u.point s u.choice) (h.chain last i to d.two (omega arith) top ∙ sym (h.chain last j to d.two before (omega arith)))

    -- what a move is worth, by what is faced where it leads
    move_bounded : (q m c : ℕ) → q < point_count f → m < move_count f q → IsBounded (leads_to f q m)
        → unsigned_abs (total_worth f lists V q m c) ≤ most * sum_by (λ d.
        cond (own_class (round_of f (at_point q)) d == c) (d.weight * facing (leads_to f q m) d) 0) f.deals
    move_bounded q m c lq lm bounded =
        let g = leads_to f q m in
        let i = round_of f g in
        let j = round_of f (at_point q) in
        let t = λ (e : ℕ). earlier_class f lists i j e == c in
        let size = abs_range (λ e. cond (t e) (V g e) (pos 0)) (λ e. most * cond (t e) (faced f lists player y g e) 0) 1 (class_count lists i)
        (λ e lo hi. abs_tested (t e) (V g e) most (faced f lists player y g e) (bounded e (omega arith, omega arith))) in
        let all = sum-times most (λ e. cond (t e) (faced f lists player y g e) 0) (classes_in lists i) in
        let below = deals_below i j c (λ d. d.weight * facing g d) (w.some_round q lq) (w.onward q m lq lm) (w.within q m lq lm) in
        omega (arith, size, all, ap (λ n. most * n) below)

    own_bounded : (q : ℕ) → from ≤ q → q < point_count f → player_at f q ≡ player → ((m : ℕ) → m < move_count f q → IsBounded (leads_to f q m))
        → IsBounded (at_point q)
    own_bounded q lo lq own next c lc =
        let m = move q c in
        let lm = followed.in_range q c lo lq own lc in
        let i = round_of f (leads_to f q m) in
        let j = round_of f (at_point q) in
        let o = last_step f (other_player player) (at_point q) in
        let keeps = v.others q m lq lm (λ his. apart (sym own ∙ his)) in
        let same = sum-same_all (λ d. cond (own_class j d == c) (d.weight * facing (leads_to f q m) d) 0)
        (λ d. cond (own_class j d == c) (d.weight * facing (at_point q) d) 0) f.deals
        (λ n d l. let x = get_or f.deals n d in
        ap (λ a. cond (own_class j x == c) (x.weight * a) 0)
        (ap (λ s. number_before f Y s i (at_round f i x.two)) keeps ∙ number_up o i j x (w.onward q m lq lm) (w.within q m lq lm) (λ u is. v.past q u lq is)))
        in
        omega (arith, ap unsigned_abs (followed.reached q c lo lq own lc), move_bounded q m c lq lm (next m lm), ap (λ n. most * n) same)

    other_bounded : (q : ℕ) → from ≤ q → q < point_count f → (player_at f q ≡ player → ⊥) → player_at f q ≡ other_player player
        → ((m : ℕ) → m < move_count f q → IsBounded (leads_to f q m)) → IsBounded (at_point q)
    other_bounded q lo lq other his next c lc =
        let h = is_table f r in
        let j = round_of f (at_point q) in
        let last = last_round f in
        let raw : IsRawPlan f (other_player player) Y = lift_is_raw_plan f h lists (keeps_from f lists k.filter) (firsts_from f lists k) (other_player player)
        (known_from f (other_player player) r v) y v.point_in (plan_by f lists (other_player player) y v k plan) in
        let parts = λ (m : ℕ). sum_by (λ d. cond (own_class j d == c) (d.weight * facing (leads_to f q m) d) 0) f.deals in
        let size = abs_range (λ m. total_worth f lists V q m c) (λ m. most * parts m) 0 (move_count f q) (λ m low hi. let lm : m
        < move_count f q = omega arith in move_bounded q m c lq lm (next m lm)) in
        let all = sum-times most parts (choices_at f q) in
        let turn : (m : ℕ) → m < move_count f q → parts m ≡ sum_by (λ (d : Deal). cond (own_class j d == c) (d.weight * Y.number q (at_round f j d.two) m) 0)
        f.deals = λ m lm.
        (let i = round_of f (leads_to f q m) in
        sum-same_all (λ d. cond (own_class j d == c) (d.weight * facing (leads_to f q m) d) 0)
        (λ (d : Deal). cond (own_class j d == c) (d.weight * Y.number q (at_round f j d.two) m) 0) f.deals
        (λ n d l. let x = get_or f.deals n d in
        ap (λ a. cond (own_class j x == c) (x.weight * a) 0)
        (ap (λ s. number_before f Y s i (at_round f i x.two)) (v.own q m lq lm his)
        ∙ ap (λ s. Y.number q s m) (h.chain last i j x.two (w.onward q m lq lm) (w.within q m lq lm))))) in
        let moves = sum-same_range parts (λ m. sum_by (λ (d : Deal). cond (own_class j d == c) (d.weight * Y.number q (at_round f j d.two) m) 0) f.deals)
        (move_count f q) turn in
        let flow = flow_sum (move_count f q) (λ d. own_class j d == c) (λ d m. Y.number q (at_round f j d.two) m) (λ d. facing (at_point q) d) f.deals
        (λ n d l. raw.flow q (at_round f j (get_or f.deals n d).two) lq his
        (h.kept last j (get_or f.deals n d).two (w.some_round q lq) (w.point_in q lq) (h.dealt_two n d l))) in
        omega (arith, ap unsigned_abs (followed.at_others q c lo lq other lc), size, all, ap (λ n. most * n) (moves ∙ flow))

    from_later : (g : Target) (p : ℕ) → from ≤ p → IsFrom p g → IsFrom from g
    from_later (at_point q) p lo i = omega arith
    from_later (at_end z) p lo i = tt

    bounded_last : (either : (q : ℕ) → q < point_count f → (player_at f q ≡ player → ⊥) → player_at f q ≡ other_player player) (n : ℕ) (g : Target)
        → IsInside f g → IsFrom from g → IsLast f n g → IsBounded g
    bounded_last either n (at_end z) i a l = end_bounded z i
    bounded_last either zero (at_point q) i a l = λ c lc. absurd (omega arith)
    bounded_last either (suc n) (at_point q) i a l =
        let next : (m : ℕ) → m < move_count f q → IsBounded (leads_to f q m) = λ m lm.
        bounded_last either n (leads_to f q m) (w.inside q m i lm) (from_later (leads_to f q m) (q + 1) (omega arith) (w.later q m i lm))
        (next_last f n q (leads_to f q m) l (w.later q m i lm)) in
        ⊎_elim
        (λ (own : player_at f q ≡ player). own_bounded q a i own next)
        (λ (other : player_at f q ≡ player → ⊥). other_bounded q a i other (either q i other) next)
        (cases_eq (player_at f q) player)

    step_few : (u : Step) (j n : ℕ) (d : Deal) → n < length f.deals → u.point < point_count f → player_at f u.point ≡ other_player player
        → u.choice < move_count f u.point → round_of f (at_point u.point) ≤ j → j ≤ last_round f
        → number_before f Y (Some u) j (at_round f j (get_or f.deals n d).two) ≤ y.total
    step_few u j n d l lu his lm past top =
        let h = is_table f r in
        let to = round_of f (at_point u.point) in
        let some = v.some_round u.point lu in
        let s = ancestor f j to (at_round f j (get_or f.deals n d).two) in
        let at = h.kept j to (at_round f j (get_or f.deals n d).two) some past
        (h.kept (last_round f) j (get_or f.deals n d).two (omega (arith, some, past)) top (h.dealt_two n d l)) in
        numbers_within f lists (other_player player) r v k y plan u.point (class_of lists to s) u.choice lu his
        (class_in f lists k to s some (omega (arith, past, top)) at) lm

    -- the other's number is at most his total
    facing_few : (g : Target) → IsInside f g → (n : ℕ) (d : Deal) → n < length f.deals → facing g (get_or f.deals n d) ≤ y.total
    facing_few (at_point q) lq n d l = by (last_step f (other_player player) (at_point q)) refl
      where
        by : (o : Option Step) → last_step f (other_player player) (at_point q) ≡ o
            → number_before f Y o (round_of f (at_point q)) (at_round f (round_of f (at_point q)) (get_or f.deals n d).two) ≤ y.total
        by None is = omega arith
        by (Some u) is = let early = v.earlier q u lq is in step_few u (round_of f (at_point q)) n d l (omega (arith, early, lq)) (v.chosen q u lq is).0
            (v.chosen q u lq is).1 (v.past q u lq is) (v.point_in q lq)
    facing_few (at_end z) lz n d l = by (last_step f (other_player player) (at_end z)) refl
      where
        by : (o : Option Step) → last_step f (other_player player) (at_end z) ≡ o
            → number_before f Y o (round_of f (at_end z)) (at_round f (round_of f (at_end z)) (get_or f.deals n d).two) ≤ y.total
        by None is = omega arith
        by (Some u) is = step_few u (round_of f (at_end z)) n d l (v.earlier_end z u lz is) (v.chosen_end z u lz is).0 (v.chosen_end z u lz is).1
            (v.past_end_own z u lz is) (v.end_in z lz)

    few_at : (j c : ℕ) (g : Target) → IsInside f g → sum_by (λ d. cond (own_class j d == c) (d.weight * facing g d) 0) f.deals ≤ y.total * total_weight f
    few_at j c g i =
        let few = few_over (λ d. cond (own_class j d == c) (d.weight * facing g d) 0) (λ (d : Deal). y.total * d.weight) f.deals
        (λ n d l. let x = get_or f.deals n d in tested_few (own_class j x == c) x.weight (facing g x) y.total (facing_few g i n d l)) in
        omega (arith, few, sum-times y.total (λ (d : Deal). d.weight) f.deals)

    -- totals are at most the greatest payoff times the other's total times the weight of all deals
    pub totals_few : ((q : ℕ) → q < point_count f → (player_at f q ≡ player → ⊥) → player_at f q ≡ other_player player) → (g : Target) (c : ℕ) → IsInside f g
        → IsFrom from g → IsClass lists (round_of f g) c
        → unsigned_abs (V g c) ≤ most * (y.total * total_weight f)
    totals_few either g c i a lc = omega (
      arith,
      bounded_last either (point_count f) g i a (all_last f g) c lc,
      mul-le-mul_left most (few_at (round_of f g) c g i),
    )

    -- and so is what a move is worth
    pub worth_few : ((q : ℕ) → q < point_count f → (player_at f q ≡ player → ⊥) → player_at f q ≡ other_player player) → (q m c : ℕ) → q < point_count f
        → from ≤ q + 1 → m < move_count f q → IsClass lists (round_of f (at_point q)) c
        → unsigned_abs (total_worth f lists V q m c) ≤ most * (y.total * total_weight f)
    worth_few either q m c lq lo lm lc =
        let g = leads_to f q m in
        let i = w.inside q m lq lm in
        let h = move_bounded q m c lq lm (bounded_last either (point_count f) g i (from_later g (q + 1) lo (w.later q m lq lm)) (all_last f g)) in
        omega (arith, h, mul-le-mul_left most (few_at (round_of f (at_point q)) c g i))

    -- all classes of a round face together what all deals do
    faced_together : (g : Target) → IsInside f g → 0 < round_of f g → round_of f g ≤ last_round f
        → sum_by (faced f lists player y g) (classes_in lists (round_of f g)) ≤ y.total * total_weight f
    faced_together g i some top =
        let h = is_table f r in
        let j = round_of f g in
        let e = grouping_from f lists k in
        let X = λ (d : Deal). d.weight * facing g d in
        let inside : (n : ℕ) (d : Deal) → n < length f.deals → at_round f j (get_or f.deals n d).one < signal_count f j =
        λ n d ln. h.kept (last_round f) j (get_or f.deals n d).one some top (h.dealt n d ln) in
        let once =
        pos-injective (sum_by (faced f lists player y g) (classes_in lists j)) (sum_by X f.deals)
        (sym
        (sym (sum_z-pos X f.deals)
        ∙ sum_z-regroup (λ d c. eqb (own_class j d) c) (λ d. pos (X d)) (classes_in lists j) f.deals
        (λ n d ln. e.once j (at_round f j (get_or f.deals n d).one) some top (inside n d ln))
        ∙ sum_same (λ c. sum_z (λ d. cond (eqb (own_class j d) c) (pos (X d)) (pos 0)) f.deals) (λ c. pos (faced f lists player y g c)) 1 (class_count lists j)
        (λ c lo hi.
        sum_z-same (λ d. cond (eqb (own_class j d) c) (pos (X d)) (pos 0)) (λ d. pos (cond (own_class j d == c) (X d) 0))
        (λ d. pos-cond (eqb (own_class j d) c) (X d)) f.deals
        ∙ sum_z-pos (λ d. cond (own_class j d == c) (X d) 0) f.deals)
        ∙ sum_z-pos (faced f lists player y g) (classes_in lists j))) in
        let few = few_over X (λ (d : Deal). y.total * d.weight) f.deals
        (λ n d l. let x = get_or f.deals n d in tested_few true x.weight (facing g x) y.total (facing_few g i n d l)) in
        omega (arith, once, few, sum-times y.total (λ (d : Deal). d.weight) f.deals)

    -- so the totals of all classes of a round are small together
    pub round_few : ((q : ℕ) → q < point_count f → (player_at f q ≡ player → ⊥) → player_at f q ≡ other_player player) → (g : Target) → IsInside f g
        → IsFrom from g → 0 < round_of f g → round_of f g ≤ last_round f
        → unsigned_abs (sum_z (V g) (classes_in lists (round_of f g))) ≤ most * (y.total * total_weight f)
    round_few either g i a some top =
        let j = round_of f g in
        let size = abs_range (V g) (λ c. most * faced f lists player y g c) 1 (class_count lists j)
        (λ c lo hi. bounded_last either (point_count f) g i a (all_last f g) c (omega arith, omega arith)) in
        let all = sum-times most (faced f lists player y g) (classes_in lists j) in
        omega (arith, size, all, mul-le-mul_left most (faced_together g i some top))
