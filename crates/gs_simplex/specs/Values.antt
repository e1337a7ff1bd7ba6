-- Values column by column.
use Rattle.std.specs.Prelude.{◌≡◌, ℕ, ◌+◌, ◌<◌, List, length, slice_index, ℤ, pos, ◌*ℤ◌, ◌<ℤ◌}
use Rattle.gs_simplex.specs.{declared.program.Program.{Program}, Program.{Listing, IsListed, ColListed}}
use Rattle.gs_frac.specs.declared.value.Fraction.{Fraction}

-- for each column the row that it is listed with, counted from 1, or 0 if it is unlisted
pub record IsRowIndex (p : Program) (l : Listing) (rows : List ℕ) : Type 0 where
  pub long : length rows ≡ p.cols
  pub listed : (i j : ℕ) → IsListed l i j → slice_index rows j ≡ i + 1
  pub unlisted : (j : ℕ) → ¬ ColListed l j → slice_index rows j ≡ 0

-- `row` is 0, or a row counted from 1 that has a number above 0 in column j
pub record CanValue (p : Program) (rows : ℕ → ℕ → ℤ) (row j : ℕ) : Type 0 where
  pub inside : (i : ℕ) → row ≡ i + 1 → (i < p.rows) × (pos 0 <ℤ rows i j)

-- f is the value of column j; `row` is the row that the column is listed with, counted from 1, or 0 if it is unlisted
pub record IsColumnValue (p : Program) (rows : ℕ → ℕ → ℤ) (row j : ℕ) (f : Fraction) : Type 0 where
  pub listed : (i : ℕ) → row ≡ i + 1 → f.num *ℤ rows i j ≡ rows i p.cols *ℤ f.den
  pub unlisted : row ≡ 0 → f.num ≡ pos 0
