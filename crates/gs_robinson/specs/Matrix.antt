-- Turns of fictitious play of a matrix game, in whole numbers, with any best answers. Source: Brown 1951, Robinson 1951.
use Rattle.std.specs.Prelude.{ℕ, suc, ◌<◌, ◌≡◌, ℤ, pos, ◌+ℤ◌, ◌≤ℤ◌}

-- what row i pays against column j is A i j. Of m rows and n columns, no entry is further than a from 0
pub record IsMatrix (a m n : ℕ) (A : ℕ → ℕ → ℤ) : Type 0 where
  pub below : (i j : ℕ) → i < m → j < n → A i j ≤ℤ pos a
  pub above : (i j : ℕ) → i < m → j < n → pos 0 ≤ℤ (A i j +ℤ pos a)

-- at the turn t no row total is more than g above a column total
abbrev pub IsWithin : ℕ → ℕ → (ℕ → ℕ → ℤ) → (ℕ → ℕ → ℤ) → ℕ → ℕ → Type 0
IsWithin m n U V t g = (i j : ℕ) → i < m → j < n → V t i ≤ℤ (U t j +ℤ pos g)

-- the turns below `turns`. At each the row player takes a row of greatest total, and the column player a column of least total; then each column total
-- grows by the entry of the taken row, and each row total by the entry of the taken column. Which of the best is taken is left open
pub record AreTurns (m n turns : ℕ) (A : ℕ → ℕ → ℤ) (U V : ℕ → ℕ → ℤ) (row column : ℕ → ℕ) : Type 0 where
  pub row_in : (t : ℕ) → t < turns → row t < m
  pub column_in : (t : ℕ) → t < turns → column t < n
  pub row_best : (t i : ℕ) → t < turns → i < m → V t i ≤ℤ V t (row t)
  pub column_best : (t j : ℕ) → t < turns → j < n → U t (column t) ≤ℤ U t j
  pub columns_grow : (t j : ℕ) → t < turns → j < n → U (suc t) j ≡ U t j +ℤ A (row t) j
  pub rows_grow : (t i : ℕ) → t < turns → i < m → V (suc t) i ≡ V t i +ℤ A i (column t)
