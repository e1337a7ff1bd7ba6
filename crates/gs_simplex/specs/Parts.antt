-- The lists of a linear program, and the numbers of a sparse row.
use Rattle.std.specs.Prelude.{ℕ, Bool, ℤ, pos, List, [], ◌∷◌, ◌++◌, replicate}

-- for each column whether it may be below 0, the rows, each with its right side at the end, and the aim
pub record PartLists : Type 0 where
  pub free : List Bool
  pub numbers : List (List ℤ)
  pub aim : List ℤ

-- the numbers that a sparse row keeps, each behind its zeros
abbrev pub spread : List (ℕ × ℤ) → List ℤ
spread [] = []
spread (e ∷ kept) = replicate e.0 (pos 0) ++ e.1 ∷ spread kept
