-- What the simplex method answers.
use Rattle.std.specs.{Prelude.{◌≡◌, ℕ, ◌+◌, ◌*◌, ◌<◌, ◌≤◌, Result, Ok, Err, List, ℤ, pos, neg_ℤ, ◌*ℤ◌, length}, List.{HoldsAt}}
use Rattle.gs_frac.specs.declared.value.Fraction.{Fraction}
use Rattle.gs_simplex.specs.{declared.program.Program.{Program}, Program.{Listing, IsListed, ColListed, IsRowsOf}}
use Rattle.gs_simplex.specs.{Path.{ends, wide, pivots, unbounded, PathStops}, declared.answer.Best.{Best}}
use Rattle.gs_simplex.specs.{declared.answer.PathFault.{PathFault}, declared.answer.PathFault.TheVariants.{TableTooLarge, Wide, Pivots, Unbounded}}
use Rattle.gs_simplex.specs.{declared.answer.PathError.{PathError}, declared.answer.PathError.TheVariants.{Fault, Memory}}

-- the table is within the limit of 1,048,576 numbers
abbrev pub IsSmallTable : Program → Type 0
IsSmallTable p = (p.rows + 1) * (p.cols + 1) ≤ 1048576

-- why the path stops before its end: the table is above the limit, or it is within the limit and the path stops in this way
abbrev pub IsPathFault : Program → Listing → ℕ → PathFault → Type 0
IsPathFault p o limit (TableTooLarge count) = (count ≡ (p.rows + 1) * (p.cols + 1)) × (1048576 < count)
IsPathFault p o limit (Wide step row col number) = IsSmallTable p × PathStops p o limit (wide step row col number)
IsPathFault p o limit Pivots = IsSmallTable p × PathStops p o limit pivots
IsPathFault p o limit (Unbounded col) = IsSmallTable p × PathStops p o limit (unbounded col)

-- why the path is not followed to its end: this fault, or memory ran out, which may be reported for any program
abbrev pub IsPathError : Program → Listing → ℕ → PathError → Type 0
IsPathError p o limit Memory = Unit {0}
IsPathError p o limit (Fault why) = IsPathFault p o limit why

-- The values and prices at a list with these rows. A listed column's value is its row's right side over its row's number in the column, and an
-- unlisted column's is 0. A price is minus the column's number in the aim's row, over the multiple; so the price of a listed column is 0.
pub record IsBestAt (p : Program) (l : Listing) (rows : ℕ → ℕ → ℤ) (aim : ℕ → ℤ) (value price : List Fraction) : Type 0 where
  pub rows_of : IsRowsOf p l rows aim
  pub listed : (i j : ℕ) → IsListed l i j → HoldsAt (λ f. f.num *ℤ rows i j ≡ rows i p.cols *ℤ f.den) value j
  pub unlisted : (j : ℕ) → j < p.cols → ¬ ColListed l j → HoldsAt (λ f. f.num ≡ pos 0) value j
  pub prices : (j : ℕ) → j < p.cols → HoldsAt (λ f. f.num *ℤ aim (p.cols + 1) ≡ neg_ℤ (aim j) *ℤ f.den) price j

-- the path ends at the list of b after this number of pivots, and b has the values and prices at that list
pub record IsBest (p : Program) (o : Listing) (limit : ℕ) (b : Best) : Type 0 where
  pub small : IsSmallTable p
  pub stops : PathStops p o limit (ends b.pivots b.basis.items)
  pub values : length b.value.items ≡ p.cols
  pub prices : length b.price.items ≡ p.cols
  pub last : (rows : ℕ → ℕ → ℤ) × (aim : ℕ → ℤ) × IsBestAt p b.basis.items rows aim b.value.items b.price.items

-- b has this list and this number of pivots, and the values and prices at the list
pub record IsBestTable (p : Program) (l : Listing) (pivots : ℕ) (b : Best) : Type 0 where
  pub pivots_are : b.pivots ≡ pivots
  pub basis_is : b.basis.items ≡ l
  pub values : length b.value.items ≡ p.cols
  pub prices : length b.price.items ≡ p.cols
  pub best : (rows : ℕ → ℕ → ℤ) × (aim : ℕ → ℤ) × IsBestAt p l rows aim b.value.items b.price.items

-- what `run` answers
abbrev pub IsAnswer : Program → Listing → ℕ → Result Best PathError → Type 0
IsAnswer p o limit (Ok b) = IsBest p o limit b
IsAnswer p o limit (Err s) = IsPathError p o limit s
