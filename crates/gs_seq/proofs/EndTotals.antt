-- What two plans pay at an end, over the classes of player 1, and at all ends.
use Rattle.std.proofs.Common.{◌≡◌, ℕ, ℤ, pos, zero, suc, ◌+◌, ◌*◌, ◌<◌, ◌≤◌, ◌^◌, [], get_or, refl, inl, sym, ap, ◌∙◌, arith, sum_by}
use Rattle.std.proofs.{Math.Nat.{mul-le-mul_left, mul-le-mul_right}, lemmas.Int.{ints, unsigned_abs-mul}, lemmas.List.Sums.{sum_by-cons}, Math.IntN.{+ℤ_idr}}
use Rattle.std.specs.{Prelude.{◌⊎◌, ◌+ℤ◌, ◌*ℤ◌, unsigned_abs}, List.{range_with_len}}
use borrow.Author.Differences.{abs_is}
use Rattle.gs_model.specs.{Classes.{ClassLists, IsClass, IsClasses, class_count}, Frame.{Frame, end_at, end_count, other_player, payoff_to, round_of}}
use Rattle.gs_model.specs.{FrameFacts.{InRange, IsWalked}, Pairs.{class_number, pair_sum}, Payoff.{raw_payoff}, Plans.{IsClassPlan, Plan, lift}}
use Rattle.gs_model.specs.{Positions.{EndKind, Folded1, Folded2, Show, at_end}, Sums.{sum_z}}
use Rattle.gs_model.proofs.{Exchange.{raw_payoff_is_gain}, Gather.{grouping_from, known_from}, Payoff.{gain_by_pairs}, Sparse.{abs_sum, range_append}}
use Rattle.gs_model.proofs.{Tables.{is_table}, Total.{sum_z-append}}
use Rattle.gs_seq.specs.Payoffs.{end_classes, end_sum, payoff_at}
use Rattle.gs_seq.proofs.{Ends.{number_few}, EndSums.{folded, folded_other, scaled_few, shown, stake_size}, Forms.{AreGiven}}
use Rattle.gs_seq.proofs.{RowFacts.{beside_weigh, both_weight, class_weight, classes_weigh, pair_few, sum-times}, Sizes.{AreModest}}

-- what a class of player 1 adds at an end
abbrev pub class_term : Frame → ClassLists → Plan → Plan → ℕ → ℕ → ℤ
class_term f lists x y z c = pos (class_number f lists 1 x z c) *ℤ end_sum f lists 1 y z c

-- the two plans' raw payoff is what they pay at all ends
pub payoff_is : (f : Frame) (lists : ClassLists) (x y : Plan) → InRange f → IsWalked f 1 → IsClasses f.parents lists
    → sum_z (payoff_at f lists x y) (range_with_len 0 (end_count f)) ≡ raw_payoff f (lift f lists x) (lift f lists y)
payoff_is f lists x y r w k =
    sym (raw_payoff_is_gain f (lift f lists x) (lift f lists y)
    ∙ gain_by_pairs f (is_table f r) (grouping_from f lists k) (grouping_from f lists k) 1 (known_from f 1 r w) w.past_end_own x y)

-- what is added up over all classes of player 1 is what the plans pay at the end
pub end_put : (f : Frame) (lists : ClassLists) (x y : Plan) (z n : ℕ) (sum : ℤ) → n ≡ end_classes f lists z
    → sum ≡ sum_z (class_term f lists x y z) (range_with_len 1 n) → sum ≡ payoff_at f lists x y z
end_put f lists x y z n sum all is = is ∙ ap (λ m. sum_z (class_term f lists x y z) (range_with_len 1 m)) all

-- one more number of a range
pub range_more : (v : ℕ → ℤ) (b n : ℕ) → sum_z v (range_with_len b (n + 1)) ≡ sum_z v (range_with_len b n) +ℤ v (b + n)
range_more v b n =
    ap (sum_z v) (range_append b n 1) ∙ sum_z-append v (range_with_len b n) (range_with_len (b + n) 1)
    ∙ ap (λ z. sum_z v (range_with_len b n) +ℤ z) (+ℤ_idr (v (b + n)))

pub range_put : (v : ℕ → ℤ) (b n : ℕ) (sum part : ℤ) → sum ≡ sum_z v (range_with_len b n) → part ≡ v (b + n)
    → sum +ℤ part ≡ sum_z v (range_with_len b (n + 1))
range_put v b n sum part h e = ap (λ z. z +ℤ part) h ∙ ap (λ z. sum_z v (range_with_len b n) +ℤ z) e ∙ sym (range_more v b n)

pub from_zero : (n : ℕ) → n ≡ 0 + n
from_zero n = omega arith

pub range_begun : (v : ℕ → ℤ) (n : ℕ) (sum part : ℤ) → sum ≡ sum_z v (range_with_len 0 n) → part ≡ v n → sum +ℤ part ≡ sum_z v (range_with_len 0 (n + 1))
range_begun v n sum part h e = range_put v 0 n sum part h (e ∙ ap v (from_zero n))

-- the size of a sum over a range
pub abs_range : (v : ℕ → ℤ) (bound : ℕ → ℕ) (b n : ℕ) → ((m : ℕ) → b ≤ m → m < b + n → unsigned_abs (v m) ≤ bound m)
    → unsigned_abs (sum_z v (range_with_len b n)) ≤ sum_by bound (range_with_len b n)
abs_range v bound b zero h = omega (arith, ints, abs_is (pos 0))
abs_range v bound b (suc n) h =
    let a = abs_sum (v b) (sum_z v (range_with_len (b + 1) n)) in
    let r = abs_range v bound (b + 1) n (λ m lo hi. h m (omega arith) (omega arith)) in
    omega (arith, a, r, h b (omega arith) (omega arith), sum_by-cons bound b (range_with_len (b + 1) n))

pub equal_sum : (m b n : ℕ) → sum_by (λ _. m) (range_with_len b n) ≡ n * m
equal_sum m b zero = omega arith
equal_sum m b (suc n) = omega (arith, sum_by-cons (λ (_ : ℕ). m) b (range_with_len (b + 1) n), equal_sum m (b + 1) n)

-- what two plans pay at an end is below 2^114
abbrev pub end_room : ℕ
end_room = 36864 * 2 ^ 98

-- so a class's part fits 128 bits
pub term_fits : (n m : ℕ) (v w : ℤ) → n ≡ m → v ≡ w → unsigned_abs (pos m *ℤ w) ≤ end_room → n * unsigned_abs v < 2 ^ 127
term_fits n m v w e h size = omega (arith, size, unsigned_abs-mul (pos m) w, abs_is (pos m), ap (λ z. n * unsigned_abs z) h, ap (λ k. k * unsigned_abs w) e)

-- a product is the part of the next class
pub term_is : (f : Frame) (lists : ClassLists) (x y : Plan) (z k n : ℕ) (w p : ℤ) → n ≡ class_number f lists 1 x z (k + 1) → w ≡ end_sum f lists 1 y z (k + 1)
    → p ≡ pos n *ℤ w → p ≡ class_term f lists x y z (1 + k)
term_is f lists x y z k n w p e h is =
    let more : k + 1 ≡ 1 + k = omega arith in
    is ∙ ap (λ v. pos n *ℤ v) h ∙ ap (λ m. pos m *ℤ end_sum f lists 1 y z (k + 1)) e ∙ ap (class_term f lists x y z) more

product_room : (n a t u w : ℕ) → n ≤ t → a ≤ (36864 * u) * w → n * a ≤ (t * (36864 * u)) * w
product_room n a t u w l m =
    let s = (36864 * u) * w in
    let first = mul-le-mul_left n m in
    let second = mul-le-mul_right s l in
    omega (arith, first, second)

all_room : (t u w : ℕ) → t ≤ 2 ^ 36 → u ≤ 2 ^ 36 → w ≤ 67108864 → (t * (36864 * u)) * w ≤ end_room
all_room t u w lt lu lw =
    let up : 36864 * u ≤ 36864 * 2 ^ 36 = omega (arith, lu) in
    let a = mul-le-mul_left t up in
    let b : t * (36864 * u) ≤ 2 ^ 36 * (36864 * 2 ^ 36) = omega (arith, a, lt) in
    let c = mul-le-mul_right w b in
    omega (arith, c, lw)

-- what an end pays a player is at most 36,864 chips
pays_within : (f : Frame) (player z : ℕ) → (player ≡ 1) ⊎ (player ≡ 2) → (end_at f z).put ≤ 4096 → (o : ℤ) → unsigned_abs o ≤ 9
    → unsigned_abs (payoff_to f player z o) ≤ 36864
pays_within f player z either few o small = by (end_at f z).kind refl
  where
    by : (k : EndKind) → (end_at f z).kind ≡ k → unsigned_abs (payoff_to f player z o) ≤ 36864
    by Folded1 k = omega (arith, ap unsigned_abs (folded f player z either k o), stake_size player 1 (end_at f z).put, few)
    by Folded2 k = omega (arith, ap unsigned_abs (folded_other f player z either k o), stake_size player 2 (end_at f z).put, few)
    by Show k = omega (
      arith,
      ap unsigned_abs (shown f player z either k o),
      unsigned_abs-mul (pos (end_at f z).put) o,
      abs_is (pos (end_at f z).put),
      mul-le-mul_left (end_at f z).put small,
      mul-le-mul_right 9 few,
    )

module _ (f : Frame) (r : InRange f) (lists : ClassLists) (k : IsClasses f.parents lists) (few : AreModest f) where
  -- what an end pays at a class is at most 36,864 times the other's total times the weight of the class
  pub worth_few : (player : ℕ) → (player ≡ 1) ⊎ (player ≡ 2) → (w : IsWalked f player) → IsWalked f (other_player player) → (y : Plan)
      → IsClassPlan f lists (other_player player) y
      → (z c : ℕ) → (l : z < end_count f) → unsigned_abs (end_sum f lists player y z c)
      ≤ (36864 * y.total) * class_weight f (is_table f r) lists k (round_of f (at_end z)) (w.end_round z l) (w.end_in z l) c
  worth_few player either w v y plan z c l =
      let round = round_of f (at_end z) in
      let some = w.end_round z l in
      let top = w.end_in z l in
      let m = 36864 * y.total in
      let count = class_count lists round in
      let both = both_weight f (is_table f r) lists k round some top c in
      let n = λ (e : ℕ). class_number f lists (other_player player) y z e in
      let s = λ (e : ℕ). pair_sum f lists lists round (payoff_to f player z) c e in
      let each : (e : ℕ) → 1 ≤ e → e < 1 + count → unsigned_abs (pos (n e) *ℤ s e) ≤ m * both e = λ e lo hi.
      (let number = number_few f lists (other_player player) y z e r v k plan l (omega arith, omega arith) in
      let size = pair_few f (is_table f r) lists k round some top 36864 (payoff_to f player z)
      (λ i d li. pays_within f player z either (few.puts z l) (get_or f.deals i d).outcome (few.outcomes i d li)) c e in
      omega (arith, unsigned_abs-mul (pos (n e)) (s e), abs_is (pos (n e)), scaled_few (n e) y.total (unsigned_abs (s e)) (both e) number size)) in
      let a = abs_range (λ e. pos (n e) *ℤ s e) (λ e. m * both e) 1 count each in
      omega (arith, a, sum-times m both (range_with_len 1 count), mul-le-mul_left m (beside_weigh f (is_table f r) lists k round some top c 1 count))

  module _ (w : IsWalked f 1) (v : IsWalked f 2) (x y : Plan) (px : IsClassPlan f lists 1 x) (py : IsClassPlan f lists 2 y) where
    -- a class's part of what two plans pay at an end
    pub term_few : (z c : ℕ) → z < end_count f → IsClass lists (round_of f (at_end z)) c → unsigned_abs (class_term f lists x y z c) ≤ end_room
    term_few z c l h =
        let round = round_of f (at_end z) in
        let some = w.end_round z l in
        let top = w.end_in z l in
        let n = class_number f lists 1 x z c in
        let s = end_sum f lists 1 y z c in
        let weight = class_weight f (is_table f r) lists k round some top c in
        let number = number_few f lists 1 x z c r w k px l h in
        let size = worth_few 1 (inl refl) w v y py z c l in
        let all = classes_weigh f (is_table f r) lists k round some top c 1 in
        let one = sum_by-cons (class_weight f (is_table f r) lists k round some top) c [] in
        let less : weight ≤ 67108864 = omega (arith, all, one, few.weight) in
        omega (
          arith,
          unsigned_abs-mul (pos n) s,
          abs_is (pos n),
          product_room n (unsigned_abs s) x.total y.total weight number size,
          all_room x.total y.total weight px.total_in.1 py.total_in.1 less,
        )

    -- the parts of some first classes
    pub classes_few : (z n : ℕ) → z < end_count f → n ≤ class_count lists (round_of f (at_end z))
        → unsigned_abs (sum_z (class_term f lists x y z) (range_with_len 1 n)) ≤ end_room
    classes_few z n l top_n =
        let round = round_of f (at_end z) in
        let some = w.end_round z l in
        let top = w.end_in z l in
        let m = x.total * (36864 * y.total) in
        let weight = class_weight f (is_table f r) lists k round some top in
        let each : (c : ℕ) → 1 ≤ c → c < 1 + n → unsigned_abs (class_term f lists x y z c) ≤ m * weight c = λ c lo hi.
        (let number = number_few f lists 1 x z c r w k px l (omega arith, omega arith) in
        let size = worth_few 1 (inl refl) w v y py z c l in
        omega (
          arith,
          unsigned_abs-mul (pos (class_number f lists 1 x z c)) (end_sum f lists 1 y z c),
          abs_is (pos (class_number f lists 1 x z c)),
          product_room (class_number f lists 1 x z c) (unsigned_abs (end_sum f lists 1 y z c)) x.total y.total (weight c) number size,
        )) in
        let a = abs_range (class_term f lists x y z) (λ c. m * weight c) 1 n each in
        let less : sum_by weight (range_with_len 1 n) ≤ 67108864 = omega (arith, classes_weigh f (is_table f r) lists k round some top 1 n, few.weight) in
        omega (
          arith,
          a,
          sum-times m weight (range_with_len 1 n),
          all_room x.total y.total
              (sum_by weight (range_with_len 1 n)) px.total_in.1 py.total_in.1 less,
        )

    -- what they pay at some first ends fits 128 bits
    pub ends_few : (n : ℕ) → n ≤ end_count f → unsigned_abs (sum_z (payoff_at f lists x y) (range_with_len 0 n)) < 2 ^ 127
    ends_few n l =
        let a = abs_range (payoff_at f lists x y) (λ _. end_room) 0 n (λ z lo hi.
        classes_few z (class_count lists (round_of f (at_end z))) (omega arith) (omega arith)) in
        let few_n : n ≤ 8192 = omega (arith, few.ends) in
        let b = mul-le-mul_right end_room few_n in
        omega (arith, a, equal_sum end_room 0 n, b)

-- the same by what the laws ask of a frame and classes, for sums as they are computed
module _ (f : Frame) (lists : ClassLists) (g : AreGiven f lists) (x y : Plan) (px : IsClassPlan f lists 1 x) (py : IsClassPlan f lists 2 y) where
  one : IsWalked f 1
  one = g.walked 1 (omega arith) (omega arith)

  two : IsWalked f 2
  two = g.walked 2 (omega arith) (omega arith)

  pub term_within : (z c : ℕ) → z < end_count f → IsClass lists (round_of f (at_end z)) c → unsigned_abs (class_term f lists x y z c) ≤ end_room
  term_within = term_few f g.in_range lists g.classes g.modest one two x y px py

  pub classes_within : (z n : ℕ) → z < end_count f → n ≤ class_count lists (round_of f (at_end z)) → (s : ℤ)
      → s ≡ sum_z (class_term f lists x y z) (range_with_len 1 n) → unsigned_abs s < 2 ^ 127
  classes_within z n l top s is = omega (arith, classes_few f g.in_range lists g.classes g.modest one two x y px py z n l top, ap unsigned_abs is)

  pub ends_within : (n : ℕ) → n ≤ end_count f → (s : ℤ) → s ≡ sum_z (payoff_at f lists x y) (range_with_len 0 n) → unsigned_abs s < 2 ^ 127
  ends_within n l s is = omega (arith, ends_few f g.in_range lists g.classes g.modest one two x y px py n l, ap unsigned_abs is)

  -- a sum over the first ends fits with the part of the next
  pub end_within : (n : ℕ) → n < end_count f → (sum part : ℤ) → sum ≡ sum_z (payoff_at f lists x y) (range_with_len 0 n) → part ≡ payoff_at f lists x y n
      → unsigned_abs (sum +ℤ part) < 2 ^ 127
  end_within n l sum part h e = ends_within (n + 1) (omega arith) _ (range_begun (payoff_at f lists x y) n sum part h e)

  pub ends_are_all : (n : ℕ) → n ≡ end_count f → (s : ℤ) → s ≡ sum_z (payoff_at f lists x y) (range_with_len 0 n)
      → s ≡ raw_payoff f (lift f lists x) (lift f lists y)
  ends_are_all n all s is = is ∙ ap (λ k. sum_z (payoff_at f lists x y) (range_with_len 0 k)) all ∙ payoff_is f lists x y g.in_range one g.classes

-- what is known at the class behind the first n classes of an end: a number is that of player 1, and another one is what the end pays him there
pub record IsNext (f : Frame) (lists : ClassLists) (x y : Plan) (z n k : ℕ) (w : ℤ) : Type 0 where
  pub class : IsClass lists (round_of f (at_end z)) (n + 1)
  pub number : k ≡ class_number f lists 1 x z (n + 1)
  pub worth : w ≡ end_sum f lists 1 y z (n + 1)

-- so their product fits, and a sum over the first classes fits with that product and is the sum over one more
module _ (f : Frame) (lists : ClassLists) (g : AreGiven f lists) (x y : Plan) (px : IsClassPlan f lists 1 x) (py : IsClassPlan f lists 2 y) (z n k : ℕ) (w : ℤ)
    (l : z < end_count f) (u : IsNext f lists x y z n k w) where
  pub next_fits : k * unsigned_abs w < 2 ^ 127
  next_fits = term_fits k _ w _ u.number u.worth (term_within f lists g x y px py z (n + 1) l u.class)

  pub next_put : (sum part : ℤ) → sum ≡ sum_z (class_term f lists x y z) (range_with_len 1 n) → part ≡ pos k *ℤ w
      → sum +ℤ part ≡ sum_z (class_term f lists x y z) (range_with_len 1 (n + 1))
  next_put sum part h e = range_put (class_term f lists x y z) 1 n sum part h (term_is f lists x y z n k w part u.number u.worth e)

  pub next_within : (sum part : ℤ) → sum ≡ sum_z (class_term f lists x y z) (range_with_len 1 n) → part ≡ pos k *ℤ w → unsigned_abs (sum +ℤ part) < 2 ^ 127
  next_within sum part h e = classes_within f lists g x y px py z (n + 1) l u.class.1 _ (next_put sum part h e)
