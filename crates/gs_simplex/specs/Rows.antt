-- Whole-number rows that stand for a list of basic pairs, after Edmonds' elimination that keeps numbers whole.
-- A row is defined by multipliers of the program's rows, not by a way to compute it.
--
-- Rows, columns and program rows count from 0. A row is a function of the column, and column `cols` is its right side.
use Rattle.std.specs.Prelude.{◌≡◌, ◌≢◌, ℕ, suc, ◌<◌, ◌≤◌, ◌^◌, ◌⊎◌, ℤ, pos, ◌-ℤ◌, ◌*ℤ◌, ◌<ℤ◌, unsigned_abs}
use Prim.Native.Nat.{◌∣◌}
use Rattle.gs_simplex.specs.Sums.{sum_to}

-- scale times the row is the sum of multiplier times program row, in each column and in the right side
pub record IsCombination (count cols : ℕ) (number : ℕ → ℕ → ℤ) (scale : ℤ) (multiplier row : ℕ → ℤ) : Type 0 where
  pub positive : pos 0 <ℤ scale
  pub each : (j : ℕ) → j ≤ cols → scale *ℤ row j ≡ sum_to count (λ i. multiplier i *ℤ number i j)

-- The row of an unlisted program row. Its own multiplier is above 0, and those of the other unlisted rows are 0. It is 0 in each listed column.
pub record IsUnlistedRow (count cols : ℕ) (number : ℕ → ℕ → ℤ) (RowIn ColIn : ℕ → Type 0) (own_row : ℕ) (scale : ℤ) (multiplier row : ℕ → ℤ) : Type 0 where
  pub combination : IsCombination count cols number scale multiplier row
  pub own : pos 0 <ℤ multiplier own_row
  pub others : (i : ℕ) → i < count → ¬ RowIn i → i ≢ own_row → multiplier i ≡ pos 0
  pub zeros : (j : ℕ) → ColIn j → row j ≡ pos 0

-- the row of a listed pair: a combination of listed program rows, above 0 in its own column and 0 in each other listed one
pub record IsListedRow (count cols : ℕ) (number : ℕ → ℕ → ℤ) (RowIn ColIn : ℕ → Type 0) (own_column : ℕ) (scale : ℤ) (multiplier row : ℕ → ℤ) : Type 0 where
  pub combination : IsCombination count cols number scale multiplier row
  pub own : pos 0 <ℤ row own_column
  pub others : (i : ℕ) → i < count → ¬ RowIn i → multiplier i ≡ pos 0
  pub zeros : (j : ℕ) → ColIn j → j ≢ own_column → row j ≡ pos 0

-- The aim's row has a number for each column, the last number in column `cols` and the multiple in the column after it. It states that
-- the multiple times the aim is the last number plus the sum of each number times its column. For this, the multiple times the aim, less
-- the row's numbers, with the last number for its right side, is a combination of listed program rows. The row is 0 in every listed column.
-- So the last number is the multiple times the aim's value where the unlisted columns are 0: the law `the_last_number_is_the_value` says so.
pub record IsAimRow (count cols : ℕ) (number : ℕ → ℕ → ℤ) (RowIn ColIn : ℕ → Type 0) (aim : ℕ → ℤ) (scale : ℤ) (multiplier row : ℕ → ℤ) : Type 0 where
  pub multiple : pos 0 <ℤ row (suc cols)
  pub positive : pos 0 <ℤ scale
  pub each : (j : ℕ) → j < cols → scale *ℤ (row (suc cols) *ℤ aim j -ℤ row j) ≡ sum_to count (λ i. multiplier i *ℤ number i j)
  pub side : scale *ℤ row cols ≡ sum_to count (λ i. multiplier i *ℤ number i cols)
  pub others : (i : ℕ) → i < count → ¬ RowIn i → multiplier i ≡ pos 0
  pub zeros : (j : ℕ) → ColIn j → row j ≡ pos 0

-- all numbers up to place `last` are 0, or no number but 1 divides them all
pub record IsPrimitive (last : ℕ) (row : ℕ → ℤ) : Type 0 where
  pub form : ((j : ℕ) → j ≤ last → row j ≡ pos 0) ⊎ ((d : ℕ) → ((j : ℕ) → j ≤ last → d ∣ unsigned_abs (row j)) → d ≡ 1)

-- multipliers of listed program rows that are not all 0 never give 0 in every listed column
pub record IsRegular (count : ℕ) (number : ℕ → ℕ → ℤ) (RowIn ColIn : ℕ → Type 0) : Type 0 where
  pub only : (z : ℕ → ℤ) → ((i : ℕ) → i < count → ¬ RowIn i → z i ≡ pos 0) → ((j : ℕ) → ColIn j → sum_to count (λ i. z i *ℤ number i j) ≡ pos 0) → (i : ℕ)
      → i < count → z i ≡ pos 0

-- z is below 2^62 in size
abbrev pub IsNarrow : ℤ → Type 0
IsNarrow z = unsigned_abs z < 2 ^ 62
