-- A linear program in whole numbers, lists of basic pairs, and the rows that a list determines.
use Rattle.std.specs.Prelude.{◌≡◌, ◌≢◌, ℕ, ◌+◌, ◌<◌, ◌≤◌, ◌^◌, false, List, [], length, take, slice_index_or, ℤ, pos, ◌*ℤ◌, ◌<ℤ◌, ◌≤ℤ◌, IsTrue, Contains}
use Rattle.gs_simplex.specs.{declared.program.Program.{Program}, Sums.{sum_to}, Rows.{IsUnlistedRow, IsListedRow, IsAimRow, IsPrimitive, IsRegular, IsNarrow}}

-- the rows as lists, each with its right side at the end
abbrev pub rows_of : Program → List (List ℤ)
rows_of p = p.parts.numbers

-- the number in row i and column j, both from 0; column `cols` is the right side
abbrev pub number : Program → ℕ → ℕ → ℤ
number p i j = slice_index_or (slice_index_or (rows_of p) i []) j (pos 0)

-- the aim's number in column j
abbrev pub aim_of : Program → ℕ → ℤ
aim_of p j = slice_index_or p.parts.aim j (pos 0)

-- column j may be below 0
abbrev pub IsFree : Program → ℕ → Type 0
IsFree p j = IsTrue (slice_index_or p.parts.free j false)

-- all lengths agree with the numbers of rows and columns, and each number is narrow
pub record IsShaped (p : Program) : Type 0 where
  pub rows : length p.parts.numbers ≡ p.rows
  pub row : (i : ℕ) → i < p.rows → length (slice_index_or (rows_of p) i []) ≡ p.cols + 1
  pub free : length p.parts.free ≡ p.cols
  pub aim : length p.parts.aim ≡ p.cols
  pub narrow : (i j : ℕ) → i < p.rows → j ≤ p.cols → IsNarrow (number p i j)
  pub narrow_aim : (j : ℕ) → j < p.cols → IsNarrow (aim_of p j)

-- pairs of a row and a column, both counted from 1
abbrev pub Listing : Type 0
Listing = List (ℕ × ℕ)

-- row i stands in a pair with column j, both from 0
abbrev pub IsListed : Listing → ℕ → ℕ → Type 0
IsListed l i j = Contains l (i + 1, j + 1)

-- row i stands in some pair
abbrev pub RowListed : Listing → ℕ → Type 0
RowListed l i = (j : ℕ) × IsListed l i j

-- column j stands in some pair
abbrev pub ColListed : Listing → ℕ → Type 0
ColListed l j = (i : ℕ) × IsListed l i j

-- each pair names a row and a column of the program, and no row and no column comes twice
pub record IsPairList (p : Program) (l : Listing) : Type 0 where
  pub named : (k : ℕ) → k < length l → (i : ℕ) × (j : ℕ) × (slice_index_or l k (0, 0) ≡ (i + 1, j + 1)) × (i < p.rows) × (j < p.cols)
  pub rows_differ : (k h : ℕ) → k < length l → h < length l → (slice_index_or l k (0, 0)).0 ≡ (slice_index_or l h (0, 0)).0 → k ≡ h
  pub columns_differ : (k h : ℕ) → k < length l → h < length l → (slice_index_or l k (0, 0)).1 ≡ (slice_index_or l h (0, 0)).1 → k ≡ h

-- the rows of a list, each of them primitive: row i belongs to program row i, listed or not
pub record IsRowsOf (p : Program) (l : Listing) (rows : ℕ → ℕ → ℤ) (aim : ℕ → ℤ) : Type 0 where
  pub listed : (i j : ℕ) → IsListed l i j → (scale : ℤ) × (multiplier : ℕ → ℤ)
      × IsListedRow p.rows p.cols (number p) (RowListed l) (ColListed l) j scale multiplier (rows i)
  pub unlisted : (i : ℕ) → i < p.rows → ¬ RowListed l i → (scale : ℤ) × (multiplier : ℕ → ℤ)
      × IsUnlistedRow p.rows p.cols (number p) (RowListed l) (ColListed l) i scale multiplier (rows i)
  pub aim_row : (scale : ℤ) × (multiplier : ℕ → ℤ) × IsAimRow p.rows p.cols (number p) (RowListed l) (ColListed l) (aim_of p) scale multiplier aim
  pub primitive : (i : ℕ) → i < p.rows → IsPrimitive p.cols (rows i)
  pub primitive_aim : IsPrimitive (p.cols + 1) aim

-- multipliers of listed program rows that are not all 0 never give 0 in every listed column
abbrev pub IsRegularList : Program → Listing → Type 0
IsRegularList p l = IsRegular p.rows (number p) (RowListed l) (ColListed l)

-- The pair of row r and column c can be taken after the list. Both are unlisted, and the row of r has a number other than 0 in c.
pub record CanTake (p : Program) (l : Listing) (r c : ℕ) : Type 0 where
  pub row : r < p.rows
  pub column : c < p.cols
  pub row_free : ¬ RowListed l r
  pub column_free : ¬ ColListed l c
  pub found : (scale : ℤ) × (multiplier : ℕ → ℤ) × (row : ℕ → ℤ) × (IsUnlistedRow p.rows p.cols (number p) (RowListed l) (ColListed l) r scale multiplier row)
      × (row c ≢ pos 0)

-- each pair can be taken after those before it
abbrev pub IsTakenInTurn : Program → Listing → Type 0
IsTakenInTurn p l = (k : ℕ) → k < length l → (r : ℕ) × (c : ℕ) × (slice_index_or l k (0, 0) ≡ (r + 1, c + 1)) × CanTake p (take k l) r c

-- the values v over d satisfy the program's rows
pub record IsSolution (p : Program) (d : ℤ) (v : ℕ → ℤ) : Type 0 where
  pub positive : pos 0 <ℤ d
  pub solves : (i : ℕ) → i < p.rows → sum_to p.cols (λ j. number p i j *ℤ v j) ≡ d *ℤ number p i p.cols

-- a feasible solution: a column that is not free is at least 0
pub record IsFeasible (p : Program) (d : ℤ) (v : ℕ → ℤ) : Type 0 where
  pub solution : IsSolution p d v
  pub nonnegative : (j : ℕ) → j < p.cols → ¬ IsFree p j → pos 0 ≤ℤ v j

-- An opening names each row once and each free column, and its pairs can be taken in turn. Its solution, in which the unlisted columns are 0, is feasible.
pub record IsOpening (p : Program) (l : Listing) : Type 0 where
  pub long : length l ≡ p.rows
  pub each_row : (i : ℕ) → i < p.rows → RowListed l i
  pub taken : IsTakenInTurn p l
  pub free_named : (j : ℕ) → j < p.cols → IsFree p j → ColListed l j
  pub feasible : (d : ℤ) × (v : ℕ → ℤ) × (IsFeasible p d v) × ((j : ℕ) → j < p.cols → ¬ ColListed l j → v j ≡ pos 0)

-- a program and an opening of it, of a size that the path can be begun in
pub record IsOpened (p : Program) (l : Listing) : Type 0 where
  pub small_rows : p.rows < 2 ^ 31
  pub small_cols : p.cols < 2 ^ 31
  pub shaped : IsShaped p
  pub opens : IsOpening p l

-- these, and a most number of pivots that can be counted
pub record IsTask (p : Program) (l : Listing) (limit : ℕ) : Type 0 where
  pub opened : IsOpened p l
  pub small_limit : limit < 2 ^ 31
