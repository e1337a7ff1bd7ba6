-- What holds at each of a few numbers holds at all of them.
use Rattle.std.proofs.Common.{ℕ, zero, suc, ◌+◌, ◌<◌, ◌≤◌, List, get_or, take, arith}
use Rattle.gs_model.specs.Numbering.{greatest}

-- one number of a numbering
abbrev pub IsNumberedAt : List ℕ → ℕ → Type 0
IsNumberedAt xs k = (0 < get_or xs k 0) × (get_or xs k 0 ≤ 1 + greatest (take k xs))

module _ (P : ℕ → Type 0) where
  pub below_two : P 0 → P 1 → (n : ℕ) → n < 2 → P n
  below_two a b zero l = a
  below_two a b (suc zero) l = b
  below_two a b (suc (suc n)) l = absurd (omega arith)

  pub below_three : P 0 → P 1 → P 2 → (n : ℕ) → n < 3 → P n
  below_three a b c zero l = a
  below_three a b c (suc zero) l = b
  below_three a b c (suc (suc zero)) l = c
  below_three a b c (suc (suc (suc n))) l = absurd (omega arith)

  pub from_one_to_one : P 1 → (n : ℕ) → 0 < n → n ≤ 1 → P n
  from_one_to_one a zero lo hi = absurd (omega arith)
  from_one_to_one a (suc zero) lo hi = a
  from_one_to_one a (suc (suc n)) lo hi = absurd (omega arith)

  pub from_one_to_two : P 1 → P 2 → (n : ℕ) → 0 < n → n ≤ 2 → P n
  from_one_to_two a b zero lo hi = absurd (omega arith)
  from_one_to_two a b (suc zero) lo hi = a
  from_one_to_two a b (suc (suc zero)) lo hi = b
  from_one_to_two a b (suc (suc (suc n))) lo hi = absurd (omega arith)

  pub from_one_to_four : P 1 → P 2 → P 3 → P 4 → (n : ℕ) → 0 < n → n ≤ 4 → P n
  from_one_to_four a b c d zero lo hi = absurd (omega arith)
  from_one_to_four a b c d (suc zero) lo hi = a
  from_one_to_four a b c d (suc (suc zero)) lo hi = b
  from_one_to_four a b c d (suc (suc (suc zero))) lo hi = c
  from_one_to_four a b c d (suc (suc (suc (suc zero)))) lo hi = d
  from_one_to_four a b c d (suc (suc (suc (suc (suc n))))) lo hi = absurd (omega arith)
