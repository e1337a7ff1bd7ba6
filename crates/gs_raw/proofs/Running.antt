-- A running sum that stays within a bound fits 128 bits.
use Rattle.std.proofs.{Common.{◌≡◌, ℕ, ℤ, ◌+◌, ◌-◌, ◌*◌, ◌<◌, ◌≤◌, ◌^◌, ap, sym, ◌∙◌, arith, of_z, sum_by}, Math.Nat.{mul-add, mul-le-mul_left}}
use Rattle.std.specs.{Prelude.{unsigned_abs, ◌+ℤ◌}, List.{range_with_len}}
use mir.Syntax.{w128}
use mir.Val.{to_z}
use Rattle.gs_model.specs.Sums.{sum_z}
use Rattle.gs_model.proofs.Sparse.{abs_sum}
use Rattle.gs_seq.proofs.EndTotals.{from_zero, range_put}
use Rattle.gs_raw.proofs.{Numbers.{kept}, Sums.{range_more as run_more, weight_more}}

-- a sum and one more part: it fits, is this, and stays within a bound
pub record IsAdded (sum part to : ℤ) (bound : ℕ) : Type 0 where
  pub fits : unsigned_abs (sum +ℤ to_z w128 (of_z w128 part)) < 2 ^ 127
  pub is : (p : ℤ) → p ≡ sum +ℤ to_z w128 (of_z w128 part) → to_z w128 (of_z w128 p) ≡ to
  pub within : (p : ℤ) → p ≡ sum +ℤ to_z w128 (of_z w128 part) → unsigned_abs (to_z w128 (of_z w128 p)) ≤ bound

pub added : (sum part to : ℤ) (m n bound : ℕ) → unsigned_abs sum ≤ m → unsigned_abs part ≤ n → m + n ≤ bound → bound < 2 ^ 127 → sum +ℤ part ≡ to
    → IsAdded sum part to bound
added sum part to m n bound lm ln l few e =
    let read = kept part n ln (omega arith) in
    let size : unsigned_abs (sum +ℤ to_z w128 (of_z w128 part)) ≤ bound =
    omega (arith, abs_sum sum (to_z w128 (of_z w128 part)), ap unsigned_abs read, lm, ln, l) in
    let back : (p : ℤ) → p ≡ sum +ℤ to_z w128 (of_z w128 part) → to_z w128 (of_z w128 p) ≡ p =
    λ p h. kept p bound (omega (arith, size, ap unsigned_abs h)) few in
    record {
      fits = omega (arith, size, few);
      is = λ p h. back p h ∙ h ∙ ap (λ v. sum +ℤ v) read ∙ e;
      within = λ p h. omega (arith, ap unsigned_abs (back p h), ap unsigned_abs h, size);
    }

-- over ends, of which there are at most 8,192
pub ends_added : (v : ℕ → ℤ) (n : ℕ) (sum part : ℤ) → n < 8192 → sum ≡ sum_z v (range_with_len 0 n) → unsigned_abs sum ≤ n * (2 ^ 110) → part ≡ v n
    → unsigned_abs part ≤ 2 ^ 110
    → IsAdded sum part (sum_z v (range_with_len 0 (n + 1))) ((n + 1) * (2 ^ 110))
ends_added v n sum part few h l e m = added sum part _ (n * (2 ^ 110)) (2 ^ 110) _ l m (omega arith) (omega (arith, few)) (range_put v 0 n sum part h (e
    ∙ ap v (from_zero n)))

-- over a run of members that weigh at most all deals
pub run_added : (v : ℕ → ℤ) (weigh : ℕ → ℕ) (first i all : ℕ) (sum part : ℤ) → first ≤ i → sum ≡ sum_z v (range_with_len first (i - first))
    → unsigned_abs sum ≤ (2 ^ 84) * sum_by weigh (range_with_len first (i - first))
    → part ≡ v i → unsigned_abs part ≤ (2 ^ 84) * weigh i → sum_by weigh (range_with_len first (i + 1 - first)) ≤ all → all ≤ 67108864
    → IsAdded sum part (sum_z v (range_with_len first (i + 1 - first))) ((2 ^ 84) * sum_by weigh (range_with_len first (i + 1 - first)))
run_added v weigh first i all sum part past h l e m less few =
    let before = sum_by weigh (range_with_len first (i - first)) in
    let most : sum_by weigh (range_with_len first (i + 1 - first)) ≤ 67108864 = omega (arith, less, few) in
    added sum part _ ((2 ^ 84) * before) ((2 ^ 84) * weigh i) _ l m (omega (
      arith,
      ap (λ n. (2 ^ 84) * n) (weight_more weigh first i past),
      mul-add (2 ^ 84) before (weigh i),
    )) (omega (arith, mul-le-mul_left (2 ^ 84) most))
    (ap (λ z. z +ℤ part) h ∙ ap (λ z. sum_z v (range_with_len first (i - first)) +ℤ z) e ∙ sym (run_more v first i past))
