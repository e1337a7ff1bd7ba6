-- What the tests check of a program and an opening before they call `run`.
use Rattle.std.specs.Prelude.{◌≡◌, ◌≢◌, ℕ, ◌+◌, ◌<◌, ◌^◌, List, length, take, slice_index_or, ℤ, pos, ◌*ℤ◌, ◌≤ℤ◌, ◌<ℤ◌}
use Rattle.gs_simplex.specs.{declared.sparse.Program.{Program}, Program.{Listing, number, IsFree, CanTake, IsShaped, IsOpening}, Numbers.{at, AreNarrowNumbers}, Sums.{sum_to}}

-- a row has this width and narrow numbers
pub record IsWideRow (width : ℕ) (row : List ℤ) : Type 0 where
  pub long : length row ≡ width
  pub narrow : AreNarrowNumbers row

-- a pair before this step has row i
abbrev pub HasRowBefore : Listing → ℕ → ℕ → Type 0
HasRowBefore o step i = (k : ℕ) × (k < step) × ((slice_index_or o k (0, 0)).0 ≡ i + 1)

-- no earlier pair has the row or the column of the pair at this step
abbrev pub IsNewPair : Listing → ℕ → Type 0
IsNewPair o step = (k : ℕ) → k < step → ((slice_index_or o k (0, 0)).0 ≢ (slice_index_or o step (0, 0)).0)
    × ((slice_index_or o k (0, 0)).1 ≢ (slice_index_or o step (0, 0)).1)

-- the pair at this step can be taken after those before it
abbrev pub IsTakenAt : Program → Listing → ℕ → Type 0
IsTakenAt p o step = (r : ℕ) × (c : ℕ) × (slice_index_or o step (0, 0) ≡ (r + 1, c + 1)) × CanTake p (take step o) r c

-- column j of the sum of the multiples of the program's rows
abbrev pub combined : Program → List ℤ → ℕ → ℤ
combined p xs j = sum_to p.rows (λ i. at xs i *ℤ number p i j)

-- a pair has column j
abbrev pub HasColumn : Listing → ℕ → Type 0
HasColumn o j = (k : ℕ) × (k < length o) × ((slice_index_or o k (0, 0)).1 ≡ j + 1)

-- at these values column j is as a feasible solution has it: a free column is in a pair, another one is at least 0, and a column in no pair is 0
pub record IsPlaced (p : Program) (o : Listing) (values : List ℤ) (j : ℕ) : Type 0 where
  pub free : IsFree p j → HasColumn o j
  pub least : ¬ IsFree p j → pos 0 ≤ℤ at values j
  pub unnamed : ¬ HasColumn o j → at values j ≡ pos 0

-- the values over this number are a feasible solution in which the columns in no pair are 0
pub record IsFeasibleOver (p : Program) (o : Listing) (over : ℤ) (values : List ℤ) : Type 0 where
  pub positive : pos 0 <ℤ over
  pub placed : (j : ℕ) → j < p.cols → IsPlaced p o values j
  pub solves : (i : ℕ) → i < p.rows → sum_to p.cols (λ j. number p i j *ℤ at values j) ≡ over *ℤ number p i p.cols
