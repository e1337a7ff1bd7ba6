-- The state of the method after some steps, and what comes next: the path ends, is unbounded, or goes on with a pivot.
use Rattle.std.specs.Prelude.{◌≡◌, ℕ, ◌+◌, ◌*◌, ◌<◌, ◌≤◌, ◌⊎◌, [], List, ℤ, pos, length, slice_index_or, slice_set, Some, nat_eq, nat_lt, if◌then◌else◌}
use Rattle.gs_simplex.specs.{declared.program.Program.{Program}, Program.{number, aim_of, Listing, IsPairList}, Columns.{IsSetRow}}
use Rattle.gs_simplex.specs.{Path.{States, IsPath, Enters, NoneEnters, NoneLeaves}, Choice.{IsLeaving}, declared.answer.Turn.{Turn}}
use Rattle.gs_simplex.specs.{declared.path.Choice.{Choice}, declared.path.Choice.TheVariants.{Ends, Unbounded, Leaves}, Numbers.{at, cell, AreNarrowNumbers}}
use Rattle.gs_simplex.specs.{Table.{grid_of, table_aim, IsTable, IsHeld, IsKept, IsTableOf, IsTableAfter, IsWideAfter}, declared.table.Table.{Table}}

-- row i of the program with its right side and 0; or, for i ≡ rows, the aim with 0 and 1
abbrev pub raw : Program → ℕ → ℕ → ℤ
raw p i j = if nat_lt i p.rows then (if nat_eq j (p.cols + 1) then pos 0 else number p i j)
    else (if nat_lt j p.cols then aim_of p j else (if nat_eq j p.cols then pos 0 else pos 1))

-- the list has that row
pub record IsRawRow (p : Program) (i : ℕ) (row : List ℤ) : Type 0 where
  pub long : length row ≡ p.cols + 2
  pub each : (j : ℕ) → j < p.cols + 2 → at row j ≡ raw p i j

-- each column is noted as the only row, among the first `count`, in which it is other than 0; 2 ^ 32 - 1 is for several
abbrev pub AreOnly : Program → ℕ → (ℕ → ℕ) → Type 0
AreOnly p count stands = (h j : ℕ) → h < count → j < p.cols + 2 → (stands j ≡ h) ⊎ ((stands j ≡ 4294967295) ⊎ (raw p h j ≡ pos 0))

-- the rows stand by places, not yet divided
pub record AreRaw (p : Program) (width : ℕ) (stands : ℕ → ℕ) (xs : List ℤ) : Type 0 where
  pub long : length xs ≡ (p.rows + 1) * width
  pub rows : (i : ℕ) → i < p.rows + 1 → IsSetRow p.rows width (p.cols + 2) stands i (raw p i) (cell xs width i)
  pub narrow : AreNarrowNumbers xs

-- the table holds positive multiples of the rows of the empty list
pub record IsStart (p : Program) (t : Table) : Type 0 where
  pub laid : IsHeld p t
  pub table : IsTable p (grid_of p t)
  pub rows : IsTableOf p [] (grid_of p t)

-- t steps of the path from the opening lead to this list, and the table holds positive multiples of the list's rows
pub record IsSoFar (p : Program) (opening : Listing) (t : ℕ) (basis : Listing) (grid : ℕ → ℕ → ℤ) : Type 0 where
  pub states : (s : States) × (IsPath p opening t s) × (s.lists t ≡ basis) × IsKept p (s.rows t) (s.aim t) grid

-- the state of the method after t steps
pub record IsState (p : Program) (opening : Listing) (t : ℕ) (basis : Listing) (held : Table) : Type 0 where
  pub laid : IsHeld p held
  pub table : IsTable p (grid_of p held)
  pub pairs : IsPairList p basis
  pub so_far : IsSoFar p opening t basis (grid_of p held)

-- what comes next: the path ends, is unbounded, or the row at a place of the list leaves
abbrev pub IsChoice : Program → Listing → (ℕ → ℕ → ℤ) → (ℕ → ℤ) → Choice → Type 0
IsChoice p l rows aim Ends = NoneEnters p l aim
IsChoice p l rows aim (Unbounded e) = (Enters p l aim e) × NoneLeaves p l rows e
IsChoice p l rows aim (Leaves q e) = (Enters p l aim e) × IsLeaving p l rows e (Some q)

-- the list and the table after a pivot that lists the row at place q with column e
pub record IsPivoted (p : Program) (l next : Listing) (old new : ℕ → ℕ → ℤ) (q e : ℕ) : Type 0 where
  pub pair : (r : ℕ) × (c : ℕ) × (slice_index_or l q (0, 0) ≡ (r + 1, c + 1)) × (next ≡ slice_set l q (r + 1, e + 1)) × IsTableAfter p old new r e

-- After the pivot that lists the row at place q with column e, z is the first number that is not narrow. It is in row i and column j of the table.
pub record IsWidePivot (p : Program) (l : Listing) (old : ℕ → ℕ → ℤ) (q e i j : ℕ) (z : ℤ) : Type 0 where
  pub pair : (r : ℕ) × (c : ℕ) × (slice_index_or l q (0, 0) ≡ (r + 1, c + 1)) × IsWideAfter p old r e i j z

-- the path ends after n pivots
pub record IsEnd (p : Program) (opening : Listing) (limit n : ℕ) (basis : Listing) (held : Table) : Type 0 where
  pub state : IsState p opening (length opening + n) basis held
  pub within : n ≤ limit
  pub none : NoneEnters p basis (table_aim p (grid_of p held))

-- after t steps this pivot follows
abbrev pub IsTurnAt : Program → Listing → ℕ → Turn → Type 0
IsTurnAt p o t turn = (s : States) × (IsPath p o (t + 1) s) × (turn.enter ≡ s.entering t + 1) × (turn.leave ≡ s.leaving t + 1)

-- the state after n pivots and then this one
pub record IsTurnedState (p : Program) (opening : Listing) (limit n : ℕ) (turn : Turn) (basis : Listing) (held : Table) : Type 0 where
  pub state : IsState p opening (length opening + (n + 1)) basis held
  pub within : n < limit
  pub pivot : IsTurnAt p opening (length opening + n) turn
