-- What an end pays at a class, over the pairs of its row.
use Rattle.std.proofs.Common.{◌≡◌, ◌≢◌, ℕ, ℤ, pos, neg_ℤ, ◌+◌, ◌-◌, ◌*◌, ◌<◌, ◌≤◌, ◌^◌, Bool, true, false, cond, List, [], length, get_or, refl, sym, ap, ◌∙◌}
use Rattle.std.proofs.{Common.{arith, eqb, take, ⊎_elim}, lemmas.List.Sums.{get_or-le-sum_by, sum_by-cons, sum_by-take-le}}
use Rattle.std.proofs.{Math.Nat.{mul-le-mul_left, mul-le-mul_right}, Math.IntN.{*ℤ_comm, *ℤ-zero}, lemmas.Bool.Decides.{Decides-eqb}}
use Rattle.std.proofs.{lemmas.Int.{ints, unsigned_abs-mul}, lemmas.List.Elements.{All-take}, lemmas.List.FromFn.{get_or-range_with_len, length-range_with_len}}
use Rattle.std.specs.{Prelude.{◌==◌, ◌*ℤ◌, ◌⊎◌, All, unsigned_abs}, List.{range_with_len}}
use borrow.Author.Differences.{abs_is, neg_is, product_is}
use Rattle.gs_model.specs.Classes.{ClassLists, IsClass, IsClasses, class_count, classes_in}
use Rattle.gs_model.specs.{Frame.{Frame, end_at, end_count, last_round, other_player, payoff_to, round_of}, FrameFacts.{InRange, IsWalked}}
use Rattle.gs_model.specs.{Pairs.{class_number, pair_sum}, Plans.{Plan}, Positions.{End, EndKind, Folded1, Folded2, Show, at_end}, Sums.{sum_z}}
use Rattle.gs_model.proofs.{Flow.{by_ancestor}, Payoff.{pair_constant, pair_signed as pair_times}, RawBound.{range_once}, Regroup.{sum_z-pos}}
use Rattle.gs_model.proofs.{Tables.{is_table}, Total.{sum_z-mul, sum_z-same, sum_z-same_all}, Basics.{neg-neg, pos-cond, not_eq}}
use Rattle.gs_seq.specs.{Payoffs.{AreNumbersAt, end_sum, number_sum, pair_pays, stake}, Rows.{IsRow, signed_in, weight_in}, declared.pair.Pair.{Pair}}
use Rattle.gs_seq.proofs.{RowFacts.{abs_all, class_weight, classes_weigh, row_class, row_signed, row_weighs, sum-times}, Sizes.{AreModest}}

-- ---- what ends pay

-- a fold pays the same at every outcome
pub folded : (f : Frame) (player z : ℕ) → (player ≡ 1) ⊎ (player ≡ 2) → (end_at f z).kind ≡ Folded1 → (o : ℤ)
    → payoff_to f player z o ≡ stake player 1 (end_at f z).put
unfolding payoff_to
folded f player z p k o = ⊎_elim
    (λ one. let t : (player == 1) ≡ true = (Decides-eqb player 1).1 one in rw (t, k) refl)
    (λ two. let t : (player == 1) ≡ false = not_eq player 1 (λ e. omega arith) in rw (t, k) (neg-neg (pos (end_at f z).put)))
    p

pub folded_other : (f : Frame) (player z : ℕ) → (player ≡ 1) ⊎ (player ≡ 2) → (end_at f z).kind ≡ Folded2 → (o : ℤ)
    → payoff_to f player z o ≡ stake player 2 (end_at f z).put
unfolding payoff_to
folded_other f player z p k o = ⊎_elim
    (λ one. let t : (player == 1) ≡ true = (Decides-eqb player 1).1 one in let s : (player == 2) ≡ false = not_eq player 2 (λ e. omega arith) in
    rw (t, s, k) refl)
    (λ two. let t : (player == 1) ≡ false = not_eq player 1 (λ e. omega arith) in let s : (player == 2) ≡ true = (Decides-eqb player 2).1 two in
    rw (t, s, k) refl)
    p

turned : (n : ℕ) (o : ℤ) → neg_ℤ (neg_ℤ o *ℤ pos n) ≡ pos n *ℤ o
turned n o =
    let e : neg_ℤ (neg_ℤ o *ℤ pos n) ≡ o *ℤ pos n = omega (arith, ints, ap (λ k. k * n) (neg_is o).0, ap (λ k. k * n) (neg_is o).1) in
    e ∙ *ℤ_comm o (pos n)

pub shown : (f : Frame) (player z : ℕ) → (player ≡ 1) ⊎ (player ≡ 2) → (end_at f z).kind ≡ Show → (o : ℤ) → payoff_to f player z o ≡ pos (end_at f z).put *ℤ o
unfolding payoff_to
shown f player z p k o = ⊎_elim
    (λ one. let t : (player == 1) ≡ true = (Decides-eqb player 1).1 one in rw (t, k) (*ℤ_comm o (pos (end_at f z).put)))
    (λ two. let t : (player == 1) ≡ false = not_eq player 1 (λ e. omega arith) in rw (t, k) (turned (end_at f z).put o))
    p

-- ---- sums over a row

out : (b : Bool) (a z : ℤ) → cond b (a *ℤ z) (pos 0) ≡ a *ℤ cond b z (pos 0)
out true a z = refl
out false a z = sym (*ℤ-zero a)

constant_row : (row : List Pair) (e : ℕ) (a : ℤ) → sum_z (λ (p : Pair). cond (p.two == e) (a *ℤ pos p.weight) (pos 0)) row ≡ a *ℤ pos (weight_in row e)
constant_row row e a =
    sum_z-same (λ (p : Pair). cond (p.two == e) (a *ℤ pos p.weight) (pos 0)) (λ p. a *ℤ cond (p.two == e) (pos p.weight) (pos 0))
    (λ p. out (p.two == e) a (pos p.weight)) row
    ∙ sum_z-mul a (λ (p : Pair). cond (p.two == e) (pos p.weight) (pos 0)) row
    ∙ ap (λ z. a *ℤ z)
    (sum_z-same (λ (p : Pair). cond (p.two == e) (pos p.weight) (pos 0)) (λ p. pos (cond (p.two == e) p.weight 0)) (λ p. pos-cond (p.two == e) p.weight) row
    ∙ sum_z-pos (λ (p : Pair). cond (p.two == e) p.weight 0) row)

signed_row : (row : List Pair) (e : ℕ) (a : ℤ) → sum_z (λ (p : Pair). cond (p.two == e) (a *ℤ p.signed) (pos 0)) row ≡ a *ℤ signed_in row e
signed_row row e a =
    sum_z-same (λ (p : Pair). cond (p.two == e) (a *ℤ p.signed) (pos 0)) (λ p. a *ℤ cond (p.two == e) p.signed (pos 0)) (λ p. out (p.two == e) a p.signed) row
    ∙ sum_z-mul a (λ (p : Pair). cond (p.two == e) p.signed (pos 0)) row

-- what an end pays in the deals of a pair, from the row
module _ (f : Frame) (lists : ClassLists) (player : ℕ) (either : (player ≡ 1)
    ⊎ (player ≡ 2)) (w : IsWalked f player) (z : ℕ) (l : z < end_count f) (c : ℕ) (row : List Pair)
    (h : IsRow f lists (round_of f (at_end z)) c row) where
  same_constant : (e : ℕ) (a : ℤ) → ((o : ℤ) → payoff_to f player z o ≡ a)
      → a *ℤ pos (weight_in row e) ≡ pair_sum f lists lists (round_of f (at_end z)) (payoff_to f player z) c e
  same_constant e a k = ap (λ v. a *ℤ v) (h.weights e) ∙ sym (pair_constant f lists lists (round_of f (at_end z)) c e (payoff_to f player z) a k)

  same_shown : (e : ℕ) (put : ℕ) → ((o : ℤ) → payoff_to f player z o ≡ pos put *ℤ o)
      → pos put *ℤ signed_in row e ≡ pair_sum f lists lists (round_of f (at_end z)) (payoff_to f player z) c e
  same_shown e put k = ap (λ v. pos put *ℤ v) (h.signed e) ∙ by (round_of f (at_end z) == last_round f) refl
    where
      by : (b : Bool) → (round_of f (at_end z) == last_round f) ≡ b
          → pos put *ℤ cond b (pair_sum f lists lists (round_of f (at_end z)) (λ o. o) c e) (pos 0)
          ≡ pair_sum f lists lists (round_of f (at_end z)) (payoff_to f player z) c e
      by true t = sym (pair_times f lists lists (round_of f (at_end z)) c e (payoff_to f player z) put k)
      by false t =
          let before : round_of f (at_end z) < last_round f =
          let other : round_of f (at_end z) ≢ last_round f = λ s. (let y = (Decides-eqb (round_of f (at_end z)) (last_round f)).1 s in cc) in
          omega (arith, w.end_in z l) in
          let one : pos put *ℤ pos 1 ≡ pos put *ℤ pos 0 = sym (k (pos 1)) ∙ w.folds z (pos 1) (pos 0) l before ∙ k (pos 0) in
          let none : put ≡ 0 = omega (arith, ints, one, product_is (pos put) (pos 1), product_is (pos put) (pos 0)) in
          let zero_all : (o : ℤ) → payoff_to f player z o ≡ pos 0 = λ o. k o ∙ ap (λ n. pos n *ℤ o) none ∙ omega (arith, ints, product_is (pos 0) o) in
          *ℤ-zero (pos put) ∙ sym (omega (arith, ints, product_is (pos 0) (pos (weight_in row e)))) ∙ same_constant e (pos 0) zero_all

  pays_is : (e : ℕ) → sum_z (λ (p : Pair). cond (p.two == e) (pair_pays player (end_at f z) p) (pos 0)) row
      ≡ pair_sum f lists lists (round_of f (at_end z)) (payoff_to f player z) c e
  pays_is e = by (end_at f z).kind refl
    where
      by : (k : EndKind) → (end_at f z).kind ≡ k
          → sum_z (λ (p : Pair). cond (p.two == e) (pair_pays player (end_at f z) p) (pos 0)) row
          ≡ pair_sum f lists lists (round_of f (at_end z)) (payoff_to f player z) c e
      by Folded1 k = rw k (constant_row row e (stake player 1 (end_at f z).put)
          ∙ same_constant e (stake player 1 (end_at f z).put) (folded f player z either k))
      by Folded2 k = rw k (constant_row row e (stake player 2 (end_at f z).put)
          ∙ same_constant e (stake player 2 (end_at f z).put) (folded_other f player z either k))
      by Show k = rw k (signed_row row e (pos (end_at f z).put) ∙ same_shown e (end_at f z).put (shown f player z either k))

  -- over all classes of the other player, each with a number
  pub row_sum : InRange f → IsClasses f.parents lists → (n : ℕ → ℕ)
      → sum_z (λ (p : Pair). pos (n p.two) *ℤ pair_pays player (end_at f z) p) row
      ≡ sum_z (λ e. pos (n e) *ℤ pair_sum f lists lists (round_of f (at_end z)) (payoff_to f player z) c e) (classes_in lists (round_of f (at_end z)))
  row_sum r k n =
      let round = round_of f (at_end z) in
      by_ancestor eqb Decides-eqb (λ (p : Pair). p.two) n (pair_pays player (end_at f z)) row (classes_in lists round)
      (λ i d m. let a = row_class f (is_table f r) lists k round (w.end_round z l) (w.end_in z l) c row h i d m in
      range_once (get_or row i d).two 1 (class_count lists round) (omega (arith, a.0)) (omega (arith, a.1)))
      ∙ sum_z-same (λ e. pos (n e) *ℤ sum_z (λ (p : Pair). cond (p.two == e) (pair_pays player (end_at f z) p) (pos 0)) row)
      (λ e. pos (n e) *ℤ pair_sum f lists lists round (payoff_to f player z) c e) (λ e. ap (λ v. pos (n e) *ℤ v) (pays_is e)) (classes_in lists round)

-- ---- sizes

pub stake_size : (player folder put : ℕ) → unsigned_abs (stake player folder put) ≤ put
stake_size player folder put = by (player == folder)
  where
    by : (b : Bool) → unsigned_abs (cond b (neg_ℤ (pos put)) (pos put)) ≤ put
    by true = omega (arith, ints, abs_is (neg_ℤ (pos put)))
    by false = omega (arith, ints, abs_is (pos put))

-- what an end pays is at most nine times its chips a deal
pub pays_size : (player most : ℕ) (z : End) (p : Pair) → z.put ≤ most → unsigned_abs p.signed ≤ 9 * p.weight
    → unsigned_abs (pair_pays player z p) ≤ most * (9 * p.weight)
pays_size player most z p few moderate = by z.kind refl
  where
    once : most * p.weight ≤ most * (9 * p.weight)
    once = mul-le-mul_left most (omega arith)

    by : (k : EndKind) → z.kind ≡ k → unsigned_abs (pair_pays player z p) ≤ most * (9 * p.weight)
    by Folded1 k = rw k (omega (
      arith,
      unsigned_abs-mul (stake player 1 z.put) (pos p.weight),
      abs_is (pos p.weight),
      mul-le-mul_right p.weight (stake_size player 1 z.put),
      mul-le-mul_right p.weight few,
      once,
    ))
    by Folded2 k = rw k (omega (
      arith,
      unsigned_abs-mul (stake player 2 z.put) (pos p.weight),
      abs_is (pos p.weight),
      mul-le-mul_right p.weight (stake_size player 2 z.put),
      mul-le-mul_right p.weight few,
      once,
    ))
    by Show k = rw k (omega (arith, unsigned_abs-mul (pos z.put) p.signed, mul-le-mul_left z.put moderate, mul-le-mul_right (9 * p.weight) few))

-- what a pair adds
abbrev pub pair_term : Frame → ClassLists → ℕ → Plan → ℕ → Pair → ℤ
pair_term f lists player y z p = pos (class_number f lists (other_player player) y z p.two) *ℤ pair_pays player (end_at f z) p

-- ---- partial sums are small

pub scaled_few : (n t p w : ℕ) → n ≤ t → p ≤ 36864 * w → n * p ≤ (36864 * t) * w
scaled_few n t p w l m =
    let a = mul-le-mul_left n m in
    let b = mul-le-mul_right w l in
    omega (arith, a, b, ap (λ k. 36864 * k) (mul_comm n w))
  where
    mul_comm : (a b : ℕ) → a * b ≡ b * a
    mul_comm a b = omega arith

-- a product with one factor of a class's weight
pub product_few : (t w : ℕ) → t ≤ 2 ^ 36 → w ≤ 67108864 → (36864 * t) * w < 2 ^ 127
product_few t w l m =
    let up : 36864 * t ≤ 36864 * 2 ^ 36 = omega (arith, l) in
    let a = mul-le-mul_right w up in
    omega (arith, a, m)

module _ (f : Frame) (r : InRange f) (lists : ClassLists) (k : IsClasses f.parents lists) (player : ℕ) (w : IsWalked f player) (few : AreModest f) (z : ℕ)
    (l : z < end_count f) (c : ℕ) (row : List Pair)
    (h : IsRow f lists (round_of f (at_end z)) c row) where
  abbrev pub weight_here : ℕ
  weight_here = class_weight f (is_table f r) lists k (round_of f (at_end z)) (w.end_round z l) (w.end_in z l) c

  -- a pair weighs no more than all deals
  pub weight_few : (i : ℕ) (d : Pair) → i < length row → (get_or row i d).weight ≤ 67108864
  weight_few i d m =
      let round = round_of f (at_end z) in
      let all = classes_weigh f (is_table f r) lists k round (w.end_round z l) (w.end_in z l) c 1 in
      let one = sum_by-cons (class_weight f (is_table f r) lists k round (w.end_round z l) (w.end_in z l)) c [] in
      omega (
        arith,
        get_or-le-sum_by (λ (p : Pair). p.weight) row i d m,
        row_weighs f (is_table f r) lists k round (w.end_round z l) (w.end_in z l) c row h,
        all,
        one,
        few.weight,
      )

  pub class_few_weight : weight_here ≤ 67108864
  class_few_weight =
      let round = round_of f (at_end z) in
      let all = classes_weigh f (is_table f r) lists k round (w.end_round z l) (w.end_in z l) c 1 in
      let one = sum_by-cons (class_weight f (is_table f r) lists k round (w.end_round z l) (w.end_in z l)) c [] in
      omega (arith, all, one, few.weight)

  pub signed_few : (i : ℕ) (d : Pair) → i < length row → unsigned_abs (get_or row i d).signed ≤ 9 * (get_or row i d).weight
  signed_few = row_signed f (is_table f r) lists k (round_of f (at_end z)) (w.end_round z l) (w.end_in z l) c row h few.outcomes

  pub pays_few : (i : ℕ) (d : Pair) → i < length row → unsigned_abs (pair_pays player (end_at f z) (get_or row i d)) ≤ 36864 * (get_or row i d).weight
  pays_few i d m = omega (arith, pays_size player 4096 (end_at f z) (get_or row i d) (few.puts z l) (signed_few i d m))

  -- the sum over some first pairs of a row, with numbers that are not over a bound
  pub prefix_small : (n : ℕ → ℕ) (t : ℕ) → ((e : ℕ) → IsClass lists (round_of f (at_end z)) e → n e ≤ t) → (i : ℕ)
      → unsigned_abs (sum_z (λ (p : Pair). pos (n p.two) *ℤ pair_pays player (end_at f z) p) (take i row)) ≤ (36864 * t) * weight_here
  prefix_small n t within i =
      let m = 36864 * t in
      let bound : Pair → ℕ = λ p. m * p.weight in
      let term : Pair → ℤ = λ p. pos (n p.two) *ℤ pair_pays player (end_at f z) p in
      let each : All (λ p. unsigned_abs (term p) ≤ bound p) row = λ j d lj.
      (let p = get_or row j d in
      omega (
        arith,
        unsigned_abs-mul (pos (n p.two)) (pair_pays player (end_at f z) p),
        abs_is (pos (n p.two)),
        scaled_few (n p.two) t (unsigned_abs (pair_pays player (end_at f z) p)) p.weight
            (within p.two (row_class f (is_table f r) lists k (round_of f (at_end z)) (w.end_round z l) (w.end_in z l) c row h j d lj)) (pays_few j d lj),
      )) in
      let a = abs_all term bound (take i row) (All-take (λ p. unsigned_abs (term p) ≤ bound p) i row each) in
      omega (
        arith,
        a,
        sum-times m (λ (p : Pair). p.weight) (take i row),
        mul-le-mul_left m (sum_by-take-le (λ (p : Pair). p.weight) row i),
        ap (λ n. m * n) (row_weighs f (is_table f r) lists k (round_of f (at_end z)) (w.end_round z l) (w.end_in z l) c row h),
      )

-- ---- sums by numbers in a list

-- where the numbers are a plan's, the sum is that of the plan
pub by_numbers : (f : Frame) (lists : ClassLists) (player : ℕ) (y : Plan) (z : ℕ) (numbers : List ℕ) → AreNumbersAt f lists (other_player player) y z numbers
    → (c : ℕ) → number_sum f lists player numbers z c ≡ end_sum f lists player y z c
by_numbers f lists player y z numbers h c =
    let round = round_of f (at_end z) in
    let n = class_count lists round in
    let pays : ℕ → ℤ = λ e. pair_sum f lists lists round (payoff_to f player z) c e in
    sum_z-same_all (λ e. pos (get_or numbers (e - 1) 0) *ℤ pays e) (λ e. pos (class_number f lists (other_player player) y z e) *ℤ pays e)
    (classes_in lists round) (λ i d l.
    (let at : get_or (range_with_len 1 n) i d ≡ 1 + i = get_or-range_with_len 1 n i d (omega (arith, l, length-range_with_len 1 n)) in
    let class : IsClass lists round (get_or (range_with_len 1 n) i d) = (omega (arith, at), omega (arith, at, l, length-range_with_len 1 n)) in
    ap (λ v. pos v *ℤ pays (get_or (range_with_len 1 n) i d)) (h (get_or (range_with_len 1 n) i d) class)))
