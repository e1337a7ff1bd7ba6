-- Worked values of Bland's rule: a linear program in three rows whose path has one pivot. Source: worked by hand, and by an independent implementation that
-- solves each step's rows from the program.
use Rattle.std.specs.Prelude.{◌≡◌, ℕ, ◌<◌, [], ◌∷◌, false, pos}
use Rattle.gs_simplex.specs.{declared.program.Program.{Program}, Path.{IsPath, PathStops, States, ends}, Program.{IsOpening, Listing, rows_of}}

-- x1 + x4 + x5 = 2, x2 + x4 + 2 x5 = 2 and x3 + 2 x4 + x5 = 4; no column is free; the aim is 3 x4 + 2 x5
pub record IsTied (p : Program) : Type 0 where
  pub rows : p.rows ≡ 3
  pub cols : p.cols ≡ 5
  pub numbers : rows_of p ≡ (pos 1 ∷ pos 0 ∷ pos 0 ∷ pos 1 ∷ pos 1 ∷ pos 2 ∷ []) ∷ (pos 0 ∷ pos 1 ∷ pos 0 ∷ pos 1 ∷ pos 2 ∷ pos 2 ∷ [])
      ∷ (pos 0 ∷ pos 0 ∷ pos 1 ∷ pos 2 ∷ pos 1 ∷ pos 4 ∷ []) ∷ []
  pub aim : p.parts.aim ≡ pos 0 ∷ pos 0 ∷ pos 0 ∷ pos 3 ∷ pos 2 ∷ []
  pub free : p.parts.free ≡ false ∷ false ∷ false ∷ false ∷ false ∷ []

-- the opening: each row with its own column, from the last row to the first
abbrev pub each_own : Listing
each_own = (3, 3) ∷ (2, 2) ∷ (1, 1) ∷ []

-- Columns 4 and 5 rise, and column 4 enters. The ratios are 2 over 1, 2 over 1 and 4 over 2, and column 1 leaves. Then no column rises.
abbrev pub TiedPath : Type 0
TiedPath = (p : Program) → IsTied p → IsOpening p each_own × PathStops p each_own 9 (ends 1 ((3, 3) ∷ (2, 2) ∷ (1, 4) ∷ []))

-- on every path of the program the first pivot is this one; columns count from 0
abbrev pub TiedPivot : Type 0
TiedPivot = (p : Program) → IsTied p → (t : ℕ) (s : States) → IsPath p each_own t s → 3 < t → (s.entering 3 ≡ 3) × (s.leaving 3 ≡ 0)
