-- Sums along a row, each pair times the number of its class: that they are small, and what an end pays there.
use Rattle.std.proofs.Common.{◌≡◌, ℕ, ℤ, pos, ◌+◌, ◌-◌, ◌*◌, ◌<◌, ◌≤◌, ◌^◌, List, length, get_or, ap, refl, sym, ◌∙◌, arith, take, of_z, to_z, to_z-of_z}
use Rattle.std.proofs.{Math.Nat.{mul-le-mul_left}, Math.IntN.{*ℤ_comm}, lemmas.Int.{fits_signed_from_abs, unsigned_abs-mul}}
use Rattle.std.proofs.{lemmas.List.Elements.{All-take}, lemmas.List.Sums.{get_or-le-sum_by, sum_by-take-le}}
use Rattle.std.specs.{Int.{w64}, Prelude.{◌+ℤ◌, ◌*ℤ◌, All, unsigned_abs}}
use borrow.Author.Differences.{abs_is}
use Rattle.gs_model.specs.{Frame.{end_at, round_of}, FrameFacts.{IsWalked}, Positions.{End, EndKind, Folded1, Folded2, Show, at_end}, Sums.{sum_z}}
use Rattle.gs_model.proofs.{Sparse.{sum_z-more}, Tables.{is_table}, Total.{mul_assoc_z, sum_z-mul, sum_z-same}}
use Rattle.gs_seq.specs.{Abstracts.{abstract_frame, lists_of}, Payoffs.{AreFew, HasNumbers, chips_of, end_classes, number_sum, pair_pays, row_pays, weight_of}, Rows.{IsSlim}}
use Rattle.gs_seq.specs.{declared.form.Abstract.{Abstract}, declared.pair.Pair.{Pair}}
use Rattle.gs_seq.proofs.{EndSums.{row_sum, scaled_few, signed_few}, Forms.{AreGiven, given_in, one_or_two}, RowFacts.{abs_all, row_class, sum-times}}
use Rattle.gs_seq.proofs.{Turns.{IsAlong}, Wholes.{whole_few}}

-- the number of a pair's class
abbrev pub number_to : List ℕ → Pair → ℕ
number_to numbers p = get_or numbers (p.two - 1) 0

-- a sum along a row of what is at most 128 times the weight in size, each times the number of its class
module _ (row : List Pair) (numbers : List ℕ) (v : Pair → ℤ) (slim : IsSlim row) (has : HasNumbers numbers row)
    (moderate : All (λ p. unsigned_abs (v p) ≤ 128 * p.weight) row) where
  abbrev term : Pair → ℤ
  term p = pos (number_to numbers p) *ℤ v p

  -- the product at a pair
  pub product_small : (i : ℕ) (d : Pair) → i < length row → number_to numbers (get_or row i d) * unsigned_abs (v (get_or row i d)) < 2 ^ 127
  product_small i d l =
      let p = get_or row i d in
      omega (
        arith,
        scaled_few (number_to numbers p) (2 ^ 36) (unsigned_abs (v p)) p.weight (has i d l).2 (omega (arith, moderate i d l)),
        get_or-le-sum_by (λ (q : Pair). q.weight) row i d l,
        slim.few,
      )

  -- the weight at a pair fits 64 bits
  pub weight_kept : (i : ℕ) (d : Pair) → i < length row → (z : ℤ) → z ≡ v (get_or row i d) → to_z w64 (of_z w64 z) ≡ v (get_or row i d)
  weight_kept i d l z is = ap (λ y. to_z w64 (of_z w64 y)) is ∙ to_z-of_z {w = w64} {z = v (get_or row i d)} (fits_signed_from_abs w64 (v (get_or row i d))
      (omega (arith, moderate i d l, get_or-le-sum_by (λ (q : Pair). q.weight) row i d l, slim.few)))

  each_small : All (λ p. unsigned_abs (term p) ≤ (36864 * 2 ^ 36) * p.weight) row
  each_small j d l =
      let p = get_or row j d in
      omega (
        arith,
        unsigned_abs-mul (pos (number_to numbers p)) (v p),
        abs_is (pos (number_to numbers p)),
        scaled_few (number_to numbers p) (2 ^ 36) (unsigned_abs (v p)) p.weight (has j d l).2 (omega (arith, moderate j d l)),
      )

  pub along_small : (i : ℕ) → unsigned_abs (sum_z term (take i row)) < 2 ^ 90
  along_small i =
      let m = 36864 * 2 ^ 36 in
      let bound : Pair → ℕ = λ p. m * p.weight in
      omega (
        arith,
        abs_all term bound (take i row) (All-take (λ p. unsigned_abs (term p) ≤ bound p) i row each_small),
        sum-times m (λ (p : Pair). p.weight) (take i row),
        mul-le-mul_left m (sum_by-take-le (λ (p : Pair). p.weight) row i),
        slim.few,
      )

  -- the sum with one pair more
  pub along_more : (i : ℕ) (d : Pair) → i < length row → (sum part : ℤ) → sum ≡ sum_z term (take i row) → part ≡ term (get_or row i d)
      → sum +ℤ part ≡ sum_z term (take (i + 1) row)
  along_more i d l sum part h e = ap (λ s. s +ℤ part) h ∙ ap (λ s. sum_z term (take i row) +ℤ s) e ∙ sym (sum_z-more term row i d l)

  pub more_small : (i : ℕ) (d : Pair) → i < length row → (sum part : ℤ) → sum ≡ sum_z term (take i row) → part ≡ term (get_or row i d)
      → unsigned_abs (sum +ℤ part) < 2 ^ 127
  more_small i d l sum part h e = omega (arith, along_small (i + 1), ap unsigned_abs (along_more i d l sum part h e))

-- the weight that counts at an end is small where the signed weight is
pub weight_small : (k : EndKind) (p : Pair) → unsigned_abs p.signed ≤ 9 * p.weight → unsigned_abs (weight_of k p) ≤ 9 * p.weight
weight_small Folded1 p h = omega (arith, abs_is (pos p.weight))
weight_small Folded2 p h = omega (arith, abs_is (pos p.weight))
weight_small Show p h = h

-- each weight that counts at an end is at most 128 times the weight in size
pub weights_moderate : (k : EndKind) (row : List Pair) → IsSlim row → All (λ p. unsigned_abs (weight_of k p) ≤ 128 * p.weight) row
weights_moderate Folded1 row slim i d l = omega (arith, abs_is (pos (get_or row i d).weight))
weights_moderate Folded2 row slim i d l = omega (arith, abs_is (pos (get_or row i d).weight))
weights_moderate Show row slim i d l = slim.moderate i d l

-- ---- what an end pays along a row

-- what an end pays in the deals of a pair: the chips times the weight that counts
pub pays_as : (player : ℕ) (z : End) (p : Pair) → pair_pays player z p ≡ chips_of player z.kind z.put *ℤ weight_of z.kind p
pays_as player z p = by z.kind refl
  where
    by : (k : EndKind) → z.kind ≡ k → pair_pays player z p ≡ chips_of player z.kind z.put *ℤ weight_of z.kind p
    by Folded1 k = rw k refl
    by Folded2 k = rw k refl
    by Show k = rw k refl

swapped : (n : ℕ) (c w : ℤ) → pos n *ℤ (c *ℤ w) ≡ c *ℤ (pos n *ℤ w)
swapped n c w = sym (mul_assoc_z (pos n) c w) ∙ ap (λ v. v *ℤ w) (*ℤ_comm (pos n) c) ∙ mul_assoc_z c (pos n) w

pub pays_along : (player : ℕ) (z : End) (numbers : List ℕ) (row : List Pair)
    → row_pays player z numbers row ≡ chips_of player z.kind z.put *ℤ sum_z (λ (p : Pair). pos (number_to numbers p) *ℤ weight_of z.kind p) row
pays_along player z numbers row =
    let chips = chips_of player z.kind z.put in
    let term : Pair → ℤ = λ p. pos (number_to numbers p) *ℤ weight_of z.kind p in
    sum_z-same (λ (p : Pair). pos (number_to numbers p) *ℤ pair_pays player z p) (λ p. chips *ℤ term p)
    (λ p. ap (λ v. pos (number_to numbers p) *ℤ v) (pays_as player z p) ∙ swapped (number_to numbers p) chips (weight_of z.kind p)) row
    ∙ sum_z-mul chips term row

-- ---- the row of a class at an end

module _ (a : Abstract) (player z c : ℕ) (row : List Pair) (u : IsAlong a player z c row) (numbers : List ℕ)
    (wide : end_classes (abstract_frame a) (lists_of a) z ≤ length numbers)
    (few : AreFew (end_classes (abstract_frame a) (lists_of a) z) numbers) where
  g : AreGiven (abstract_frame a) (lists_of a)
  g = given_in a

  w : IsWalked (abstract_frame a) player
  w = g.walked player u.some u.two

  pub row_slim : IsSlim row
  row_slim = record {
    few = omega (arith, whole_few (abstract_frame a) g.in_range (lists_of a) g.classes player w g.modest z u.inside c row u.is_row);
    moderate = λ i d l. omega (arith, signed_few (abstract_frame a) g.in_range (lists_of a) g.classes player w g.modest z u.inside c row u.is_row i d l);
  }

  pub row_numbers : HasNumbers numbers row
  row_numbers i d l =
      let class = row_class (abstract_frame a) (is_table (abstract_frame a) g.in_range) (lists_of a) g.classes (round_of (abstract_frame a) (at_end z))
      (w.end_round z u.inside) (w.end_in z u.inside) c row u.is_row i d l in
      (class.0, omega (arith, class.1, wide), few ((get_or row i d).two - 1) (omega (arith, class.0, class.1)))

  pub row_total : row_pays player (end_at (abstract_frame a) z) numbers row ≡ number_sum (abstract_frame a) (lists_of a) player numbers z c
  row_total = row_sum (abstract_frame a) (lists_of a) player (one_or_two player u.some u.two) w z u.inside c row u.is_row g.in_range g.classes
      (λ e. get_or numbers (e - 1) 0)
