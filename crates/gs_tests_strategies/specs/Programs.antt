-- Programs that the tests make.
use Rattle.std.specs.Prelude.{◌≡◌, ℕ, false, [], ◌∷◌, length, slice_index_or, pos}
use Rattle.gs_simplex.specs.{declared.program.Program.{Program}, Program.{rows_of}}

-- the program of two rows whose first step has a number of 2^62 + 1
pub record IsWideSample (p : Program) : Type 0 where
  pub rows : p.rows ≡ 2
  pub cols : p.cols ≡ 2
  pub numbers : rows_of p ≡ (pos 2305843009213693951 ∷ pos 3 ∷ pos 1 ∷ []) ∷ (pos 2305843009213693950 ∷ pos 5 ∷ pos 1 ∷ []) ∷ []
  pub free : p.parts.free ≡ false ∷ false ∷ []
  pub aim : p.parts.aim ≡ pos 0 ∷ pos 0 ∷ []

-- a program with no row and this many columns, none of them free or in the aim
pub record IsRowless (count : ℕ) (p : Program) : Type 0 where
  pub rows : p.rows ≡ 0
  pub cols : p.cols ≡ count
  pub numbers : p.parts.numbers ≡ []
  pub free_long : length p.parts.free ≡ count
  pub free : (j : ℕ) → slice_index_or p.parts.free j false ≡ false
  pub aim_long : length p.parts.aim ≡ count
  pub aim : (j : ℕ) → slice_index_or p.parts.aim j (pos 0) ≡ pos 0
