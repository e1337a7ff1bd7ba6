-- What a row holds, pair by pair: its classes, weights and signed weights, and how much they weigh.
use Rattle.std.proofs.Common.{◌≡◌, ℕ, ℤ, pos, zero, suc, ◌+◌, ◌*◌, ◌<◌, ◌≤◌, Bool, true, false, cond, List, [], ◌∷◌, length, get_or, refl, sym, ap, ◌∙◌, arith}
use Rattle.std.proofs.{Common.{sum_by, eqb, ⊎_elim}, lemmas.Int.{ints, unsigned_abs-mul}, lemmas.List.Sums.{sum_by-cons}}
use Rattle.std.proofs.{Math.Nat.{mul-le-mul_left}, Math.IntN.{+ℤ_idl, +ℤ_idr}, lemmas.Bool.{cases_lt}, lemmas.Bool.Decides.{Decides-eqb}}
use Rattle.std.specs.{Prelude.{◌==◌, ◌+ℤ◌, ◌*ℤ◌, All, unsigned_abs}, List.{range_with_len}}
use borrow.Author.Differences.{abs_is, product_is}
use Rattle.gs_model.specs.{Classes.{ClassLists, IsClass, IsClasses, class_count, class_of}, Deals.{Deal}, Frame.{Frame, at_round, last_round, total_weight}}
use Rattle.gs_model.specs.{Pairs.{pair_sum}, Sums.{sum_z}}
use Rattle.gs_model.proofs.{Gather.{class_in}, Known.{Tabled}, Regroup.{sum_z-pos}, Sparse.{abs_sum}, Total.{sum_z-same, sum_z-same_all, sum_z-zero}}
use Rattle.gs_model.proofs.Basics.{pos-injective, pos-cond, sum-same, not_eq}
use Rattle.gs_seq.specs.{Cells.{pair_signed, pair_weight}, Rows.{IsRow, Rises, signed_in, weight_in}, declared.pair.Pair.{Pair}}
use Rattle.gs_seq.proofs.ClassRows.{alike_lists}

-- ---- lists

-- in a list whose keys differ, the items with the key of one are that one
alone : {X : Type 0} (key : X → ℕ) (v : X → ℤ) (xs : List X) → ((i j : ℕ) (d : X) → i < j → j < length xs → key (get_or xs i d) < key (get_or xs j d))
    → (i : ℕ) (d : X) → i < length xs
    → sum_z (λ x. cond (key x == key (get_or xs i d)) (v x) (pos 0)) xs ≡ v (get_or xs i d)
alone key v [] h i d l = absurd (omega arith)
alone {X} key v (x ∷ xs) h zero d l =
    let here : (key x == key x) ≡ true = (Decides-eqb (key x) (key x)).1 refl in
    let rest : sum_z (λ y. cond (key y == key x) (v y) (pos 0)) xs ≡ pos 0 =
    sum_z-same_all (λ y. cond (key y == key x) (v y) (pos 0)) (λ y. pos 0) xs
    (λ k e lk. let up = h 0 (suc k) e (omega arith) (omega arith) in
    ap (λ b. cond {A = ℤ} b (v (get_or xs k e)) (pos 0)) (not_eq (key (get_or xs k e)) (key x) (λ s. omega arith)))
    ∙ sum_z-zero xs in
    ap (λ b. cond {A = ℤ} b (v x) (pos 0) +ℤ sum_z (λ y. cond (key y == key x) (v y) (pos 0)) xs) here ∙ ap (λ z. v x +ℤ z) rest ∙ +ℤ_idr (v x)
alone {X} key v (x ∷ xs) h (suc i) d l =
    let e = get_or xs i d in
    let up = h 0 (suc i) d (omega arith) (omega arith) in
    let other = not_eq (key x) (key e) (λ s. omega arith) in
    ap (λ b. cond {A = ℤ} b (v x) (pos 0) +ℤ sum_z (λ y. cond (key y == key e) (v y) (pos 0)) xs) other
    ∙ +ℤ_idl (sum_z (λ y. cond (key y == key e) (v y) (pos 0)) xs) ∙ alone key v xs (λ i j d a b. h (suc i) (suc j) d (omega arith) (omega arith)) i d
    (omega arith)

-- the size of a sum of members whose sizes are known
pub abs_all : {X : Type 0} (v : X → ℤ) (bound : X → ℕ) (xs : List X) → All (λ x. unsigned_abs (v x) ≤ bound x) xs
    → unsigned_abs (sum_z v xs) ≤ sum_by bound xs
abs_all v bound [] h = omega (arith, ints, abs_is (pos 0))
abs_all v bound (x ∷ xs) h =
    let a = abs_sum (v x) (sum_z v xs) in
    let r = abs_all v bound xs (λ k d l. h (suc k) d (omega arith)) in
    omega (arith, a, r, h 0 x (omega arith), sum_by-cons bound x xs)

pub sum-times : {X : Type 0} (m : ℕ) (w : X → ℕ) (xs : List X) → sum_by (λ x. m * w x) xs ≡ m * sum_by w xs
sum-times m w [] = omega arith
sum-times m w (x ∷ xs) = omega (arith, sum_by-cons (λ x. m * w x) x xs, sum-times m w xs, ap (λ n. m * n) (sum_by-cons w x xs))

pub sum-add : {X : Type 0} (f g : X → ℕ) (xs : List X) → sum_by (λ x. f x + g x) xs ≡ sum_by f xs + sum_by g xs
sum-add f g [] = refl
sum-add f g (x ∷ xs) = omega (arith, sum_by-cons (λ x. f x + g x) x xs, sum_by-cons f x xs, sum_by-cons g x xs, sum-add f g xs)

-- ---- a row

-- what a row holds for the class of one of its pairs is that pair's
pub weight_at_pair : (row : List Pair) (d : Pair) → Rises row → (i : ℕ) → i < length row → weight_in row (get_or row i d).two ≡ (get_or row i d).weight
weight_at_pair row d r i l =
    let e = (get_or row i d).two in
    pos-injective (weight_in row e) (get_or row i d).weight
    (sym (sum_z-same (λ (p : Pair). cond (p.two == e) (pos p.weight) (pos 0)) (λ p. pos (cond (p.two == e) p.weight 0))
    (λ p. pos-cond (p.two == e) p.weight) row ∙ sum_z-pos (λ (p : Pair). cond (p.two == e) p.weight 0) row)
    ∙ alone (λ (p : Pair). p.two) (λ p. pos p.weight) row r.ascends i d l)

pub signed_at_pair : (row : List Pair) (d : Pair) → Rises row → (i : ℕ) → i < length row → signed_in row (get_or row i d).two ≡ (get_or row i d).signed
signed_at_pair row d r i l = alone (λ (p : Pair). p.two) (λ p. p.signed) row r.ascends i d l

-- no class of a range is one before it
pub past : (a w b n : ℕ) → a < b → sum_by (λ c. cond (a == c) w 0) (range_with_len b n) ≡ 0
past a w b zero l = refl
past a w b (suc n) l =
    omega (
      arith,
      sum_by-cons (λ c. cond (a == c) w 0) b (range_with_len (b + 1) n),
      ap (λ t. cond {A = ℕ} t w 0) (not_eq a b (λ e. omega arith)),
      past a w (b + 1) n (omega arith),
    )

module _ (f : Frame) (t : Tabled f) (lists : ClassLists) (k : IsClasses f.parents lists) (round : ℕ) (some : 0 < round) (top : round ≤ last_round f) where
  abbrev pub one_of : Deal → ℕ
  one_of d = class_of lists round (at_round f round d.one)

  abbrev pub two_of : Deal → ℕ
  two_of d = class_of lists round (at_round f round d.two)

  -- the weight of the deals of a class of player 1
  abbrev pub class_weight : ℕ → ℕ
  class_weight c = sum_by (λ (d : Deal). cond (one_of d == c) d.weight 0) f.deals

  -- of two classes
  abbrev pub both_weight : ℕ → ℕ → ℕ
  both_weight c e = sum_by (λ (d : Deal). cond (two_of d == e) (cond (one_of d == c) d.weight 0) 0) f.deals

  plain : (a b : Bool) (w : ℕ) → cond a (cond b (pos w *ℤ pos 1) (pos 0)) (pos 0) ≡ pos (cond a (cond b w 0) 0)
  plain true true w = omega (arith, ints, product_is (pos w) (pos 1))
  plain true false w = refl
  plain false b w = refl

  pub pair_weight_is : (c e : ℕ) → pair_weight f lists round c e ≡ pos (both_weight c e)
  pair_weight_is c e =
      sum_z-same (λ (d : Deal). cond (two_of d == e) (cond (one_of d == c) (pos d.weight *ℤ pos 1) (pos 0)) (pos 0))
      (λ d. pos (cond (two_of d == e) (cond (one_of d == c) d.weight 0) 0))
      (λ d. plain (two_of d == e) (one_of d == c) d.weight) f.deals
      ∙ sum_z-pos (λ (d : Deal). cond (two_of d == e) (cond (one_of d == c) d.weight 0) 0) f.deals

  sized : (m : ℕ) (a b : Bool) (w : ℕ) (o : ℤ) → unsigned_abs o ≤ m → unsigned_abs (cond a (cond b (pos w *ℤ o) (pos 0)) (pos 0)) ≤ m * cond a (cond b w 0) 0
  sized m true true w o l = omega (arith, unsigned_abs-mul (pos w) o, abs_is (pos w), mul-le-mul_left w l)
  sized m true false w o l = omega (arith, ints, abs_is (pos 0))
  sized m false b w o l = omega (arith, ints, abs_is (pos 0))

  nothing : (c e : ℕ) (ds : List Deal) → All (λ (d : Deal). two_of d ≡ e → ⊥) ds
      → sum_by (λ (d : Deal). cond (two_of d == e) (cond (one_of d == c) d.weight 0) 0) ds ≡ 0
  nothing c e [] h = refl
  nothing c e (d ∷ ds) h =
      omega (
        arith,
        sum_by-cons (λ (d : Deal). cond (two_of d == e) (cond (one_of d == c) d.weight 0) 0) d ds,
        ap (λ b. cond {A = ℕ} b (cond (one_of d == c) d.weight 0) 0) (not_eq (two_of d) e (h 0 d (omega arith))),
        nothing c e ds (λ i b l. h (suc i) b (omega arith)),
      )

  -- a class that some deal of a class has beside it
  pub both_class : (c e : ℕ) → 0 < both_weight c e → IsClass lists round e
  both_class c e l =
      let none : ((n : ℕ) → IsClass lists round n → n ≡ e → ⊥) → ⊥ = λ other.
      (let z = nothing c e f.deals (λ i d m. other (two_of (get_or f.deals i d))
      (class_in f lists k round (at_round f round (get_or f.deals i d).two) some top
      (t.kept (last_round f) round (get_or f.deals i d).two some top (t.dealt_two i d m)))) in omega arith) in
      ⊎_elim (λ low. ⊎_elim (λ high. (omega arith, omega arith)) (λ high. absurd (none (λ n w b. (let top = w.1 in omega arith))))
      (cases_lt e (class_count lists round + 1)))
      (λ low. absurd (none (λ n w b. (let some = w.0 in omega arith)))) (cases_lt 0 e)

  -- the weights of the classes of a range
  once : (a w b n : ℕ) → sum_by (λ c. cond (a == c) w 0) (range_with_len b n) ≤ w
  once a w b zero = omega arith
  once a w b (suc n) = by (a == b) refl (once a w (b + 1) n)
    where
      by : (t : Bool) → (a == b) ≡ t → sum_by (λ c. cond (a == c) w 0) (range_with_len (b + 1) n) ≤ w
          → sum_by (λ c. cond (a == c) w 0) (b ∷ range_with_len (b + 1) n) ≤ w
      by true e h =
          let same = (Decides-eqb a b).0 e in
          omega (arith, sum_by-cons (λ c. cond (a == c) w 0) b (range_with_len (b + 1) n), ap (λ t. cond {A = ℕ} t w 0) e, past a w (b + 1) n (omega arith))
      by false e h = omega (arith, sum_by-cons (λ c. cond (a == c) w 0) b (range_with_len (b + 1) n), ap (λ t. cond {A = ℕ} t w 0) e)

  spread_few : (key w : Deal → ℕ) (b n : ℕ) (ds : List Deal) → sum_by (λ c. sum_by (λ (d : Deal). cond (key d == c) (w d) 0) ds) (range_with_len b n)
      ≤ sum_by w ds
  spread_few key w b n [] = zero_all (range_with_len b n)
    where
      zero_all : (xs : List ℕ) → sum_by (λ c. 0) xs ≤ 0
      zero_all [] = omega arith
      zero_all (x ∷ xs) = omega (arith, sum_by-cons (λ (c : ℕ). 0) x xs, zero_all xs)
  spread_few key w b n (d ∷ ds) =
      let one = λ (d : Deal) (c : ℕ). cond {A = ℕ} (key d == c) (w d) 0 in
      let rest = λ (c : ℕ). sum_by (λ (d : Deal). one d c) ds in
      let e : sum_by (λ c. sum_by (λ d. one d c) (d ∷ ds)) (range_with_len b n) ≡ sum_by (λ c. one d c + rest c) (range_with_len b n) =
      sum-same (λ c. sum_by (λ d. one d c) (d ∷ ds)) (λ c. one d c + rest c) (λ c. sum_by-cons (λ d. one d c) d ds) (range_with_len b n) in
      omega (arith, e, sum-add (one d) rest (range_with_len b n), once (key d) (w d) b n, spread_few key w b n ds, sum_by-cons w d ds)

  -- the classes of a range weigh no more than all deals
  pub classes_weigh : (b n : ℕ) → sum_by class_weight (range_with_len b n) ≤ total_weight f
  classes_weigh b n = spread_few one_of (λ d. d.weight) b n f.deals

  -- and beside one class no more than that class
  pub beside_weigh : (c b n : ℕ) → sum_by (both_weight c) (range_with_len b n) ≤ class_weight c
  beside_weigh c b n = spread_few two_of (λ d. cond (one_of d == c) d.weight 0) b n f.deals

  -- a sum over the deals of two classes, of weights times numbers of a bounded size
  pub pair_few : (m : ℕ) (v : ℤ → ℤ) → All (λ (d : Deal). unsigned_abs (v d.outcome) ≤ m) f.deals → (c e : ℕ)
      → unsigned_abs (pair_sum f lists lists round v c e) ≤ m * both_weight c e
  pair_few m v h c e =
      let w : Deal → ℕ = λ d. cond (two_of d == e) (cond (one_of d == c) d.weight 0) 0 in
      let a = abs_all (λ (d : Deal). cond (two_of d == e) (cond (one_of d == c) (pos d.weight *ℤ v d.outcome) (pos 0)) (pos 0)) (λ d. m * w d) f.deals
      (λ i d l. let x = get_or f.deals i d in sized m (two_of x == e) (one_of x == c) x.weight (v x.outcome) (h i d l)) in
      omega (arith, a, sum-times m w f.deals)

  signed_few : All (λ (d : Deal). unsigned_abs d.outcome ≤ 9) f.deals → (c e : ℕ) → unsigned_abs (pair_signed f lists round c e) ≤ 9 * both_weight c e
  signed_few h c e = by (round == last_round f)
    where
      by : (b : Bool) → unsigned_abs (cond b (pair_sum f lists lists round (λ o. o) c e) (pos 0)) ≤ 9 * both_weight c e
      by true = pair_few 9 (λ o. o) h c e
      by false = omega (arith, ints, abs_is (pos 0))

  module _ (c : ℕ) (row : List Pair) (h : IsRow f lists round c row) where
    pub weight_both : (e : ℕ) → weight_in row e ≡ both_weight c e
    weight_both e = pos-injective (weight_in row e) (both_weight c e) (h.weights e ∙ pair_weight_is c e)

    -- the pairs of a row are of classes of the other player
    pub row_class : (i : ℕ) (d : Pair) → i < length row → IsClass lists round (get_or row i d).two
    row_class i d l = both_class c (get_or row i d).two (omega (
      arith,
      weight_at_pair row d h.rises i l,
      weight_both (get_or row i d).two,
      h.rises.some i d l,
    ))

    -- and their signed weights no larger than nine times their weights
    pub row_signed : All (λ (d : Deal). unsigned_abs d.outcome ≤ 9) f.deals → (i : ℕ) (d : Pair) → i < length row
        → unsigned_abs (get_or row i d).signed ≤ 9 * (get_or row i d).weight
    row_signed few i d l =
        let p = get_or row i d in
        let e : p.signed ≡ pair_signed f lists round c p.two = sym (signed_at_pair row d h.rises i l) ∙ h.signed p.two in
        omega (arith, ap unsigned_abs e, signed_few few c p.two, weight_at_pair row d h.rises i l, weight_both p.two)

    -- a row weighs what the deals of its class weigh
    pub row_weighs : sum_by (λ (p : Pair). p.weight) row ≡ class_weight c
    row_weighs =
        let u : Deal → ℕ = λ d. cond (one_of d == c) d.weight 0 in
        let times_one : (w : ℕ) → pos w *ℤ pos 1 ≡ pos w = λ w. omega (arith, ints, product_is (pos w) (pos 1)) in
        let same = alike_lists eqb Decides-eqb (λ (p : Pair). p.two) (λ p. p.weight) two_of u (λ e. pos 1) row f.deals weight_both in
        let left = sum_z-same (λ (p : Pair). pos p.weight *ℤ pos 1) (λ p. pos p.weight) (λ p. times_one p.weight) row
        ∙ sum_z-pos (λ (p : Pair). p.weight) row in
        let right = sum_z-same (λ (d : Deal). pos (u d) *ℤ pos 1) (λ d. pos (u d)) (λ d. times_one (u d)) f.deals ∙ sum_z-pos u f.deals in
        pos-injective (sum_by (λ (p : Pair). p.weight) row) (class_weight c) (sym left ∙ same ∙ right)
