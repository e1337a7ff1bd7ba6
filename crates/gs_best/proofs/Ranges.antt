-- Sums over ranges and over runs of descendants.
use Rattle.std.proofs.{Common.{◌≡◌, ℕ, zero, suc, ◌+◌, ◌-◌, ◌*◌, ◌<◌, ◌≤◌, refl, sym, ap, ◌∙◌, arith, sum_by}}
use Rattle.std.proofs.lemmas.Int.{ints}
use Rattle.std.specs.{Prelude.{ℤ, ◌+ℤ◌, unsigned_abs}, List.{range_with_len}}
use Rattle.gs_model.specs.{Sums.{sum_z}}
use Rattle.gs_model.proofs.{Sparse.{abs_sum}}
use Rattle.gs_seq.proofs.{EndTotals.{range_more}, SlotLaws.{sum_range_more}}

pub sum_same : (u v : ℕ → ℤ) (a n : ℕ) → ((m : ℕ) → a ≤ m → m < a + n → u m ≡ v m) → sum_z u (range_with_len a n) ≡ sum_z v (range_with_len a n)
sum_same u v a zero h = refl
sum_same u v a (suc n) h =
    let here = h a (omega arith) (omega arith) in
    let rest = sum_same u v (a + 1) n (λ m lo hi. h m (omega arith) (omega arith)) in
    omega (arith, ints, here, rest)

-- the size of a sum over a range
pub range_abs : (u : ℕ → ℤ) (a n most : ℕ) → ((m : ℕ) → a ≤ m → m < a + n → unsigned_abs (u m) ≤ most)
    → unsigned_abs (sum_z u (range_with_len a n)) ≤ n * most
range_abs u a zero most h = omega (arith, ints)
range_abs u a (suc n) most h =
    let here = h a (omega arith) (omega arith) in
    let rest = range_abs u (a + 1) n most (λ m lo hi. h m (omega arith) (omega arith)) in
    let s = abs_sum (u a) (sum_z u (range_with_len (a + 1) n)) in
    omega (arith, here, rest, s)

-- one more signal of a run
pub run_step : (u : ℕ → ℤ) (first signal : ℕ) (sum : ℤ) → first ≤ signal → sum ≡ sum_z u (range_with_len first (signal - first))
    → sum +ℤ u signal ≡ sum_z u (range_with_len first (signal + 1 - first))
run_step u first signal sum l is =
    let e : signal + 1 - first ≡ (signal - first) + 1 = omega arith in
    let at : first + (signal - first) ≡ signal = omega arith in
    ap (λ z. z +ℤ u signal) is ∙ ap (λ k. sum_z u (range_with_len first (signal - first)) +ℤ u k) (sym at) ∙ sym (range_more u first (signal - first))
    ∙ ap (λ k. sum_z u (range_with_len first k)) (sym e)

-- sums of counts, one beside another
pub range_le : (f g : ℕ → ℕ) (n : ℕ) → ((k : ℕ) → k < n → f k ≤ g k) → sum_by f (range_with_len 0 n) ≤ sum_by g (range_with_len 0 n)
range_le f g zero h = omega arith
range_le f g (suc n) h =
    let e : suc n ≡ n + 1 = omega arith in
    omega (
      arith,
      ap (λ k. sum_by f (range_with_len 0 k)) e,
      ap (λ k. sum_by g (range_with_len 0 k)) e,
      sum_range_more f n,
      sum_range_more g n,
      h n (omega arith),
      range_le f g n (λ k l. h k (omega arith)),
    )

pub range_add : (f g : ℕ → ℕ) (n : ℕ) → sum_by (λ k. f k + g k) (range_with_len 0 n) ≡ sum_by f (range_with_len 0 n) + sum_by g (range_with_len 0 n)
range_add f g zero = refl
range_add f g (suc n) =
    let e : suc n ≡ n + 1 = omega arith in
    omega (
      arith,
      ap (λ k. sum_by (λ k. f k + g k) (range_with_len 0 k)) e,
      ap (λ k. sum_by f (range_with_len 0 k)) e,
      ap (λ k. sum_by g (range_with_len 0 k)) e,
      sum_range_more (λ k. f k + g k) n,
      sum_range_more f n,
      sum_range_more g n,
      range_add f g n,
    )
