-- What follows from the definitions, for every program.
use Rattle.std.specs.Prelude.{◌≡◌, ℕ, suc, ◌+◌, ◌<◌, ◌≤◌, ◌↔◌, length, ℤ, pos, ◌*ℤ◌}
use Rattle.gs_simplex.specs.{declared.program.Program.{Program}, Sums.{sum_to}, Path.{IsPivot, States, IsPath, PathStop, PathStops}}
use Rattle.gs_simplex.specs.Program.{aim_of, Listing, ColListed, IsPairList, IsRowsOf, IsRegularList, IsTakenInTurn, IsSolution, IsOpening}

-- a regular list and the program determine the rows
abbrev pub RowsAreDetermined : Type 0
RowsAreDetermined = (p : Program) (l : Listing) (rows others : ℕ → ℕ → ℤ) (aim other : ℕ → ℤ) → IsPairList p l → IsRegularList p l → IsRowsOf p l rows aim
    → IsRowsOf p l others other
    → ((i j : ℕ) → i < p.rows → j ≤ p.cols → rows i j ≡ others i j) × ((j : ℕ) → j ≤ p.cols + 1 → aim j ≡ other j)

-- if the pairs of a list can be taken in turn, the list has different rows and different columns and is regular
abbrev pub TakenInTurnIsRegular : Type 0
TakenInTurnIsRegular = (p : Program) (l : Listing) → IsTakenInTurn p l → IsPairList p l × IsRegularList p l

-- a list whose pairs can be taken in turn has rows
abbrev pub TakenInTurnHasRows : Type 0
TakenInTurnHasRows = (p : Program) (l : Listing) → IsTakenInTurn p l → (rows : ℕ → ℕ → ℤ) × (aim : ℕ → ℤ) × IsRowsOf p l rows aim

-- a pivot keeps a list regular
abbrev pub PivotKeepsRegular : Type 0
PivotKeepsRegular = (p : Program) (l : Listing) (rows : ℕ → ℕ → ℤ) (aim : ℕ → ℤ) (next : Listing) (e c : ℕ) → IsPairList p l → IsRegularList p l
    → IsRowsOf p l rows aim → IsPivot p l rows aim next e c
    → IsPairList p next × IsRegularList p next

-- the last number of the aim's row is its multiple times the aim's value at a solution whose unlisted columns are 0
abbrev pub LastNumberIsValue : Type 0
LastNumberIsValue = (p : Program) (l : Listing) (rows : ℕ → ℕ → ℤ) (aim : ℕ → ℤ) (d : ℤ) (v : ℕ → ℤ) → IsPairList p l → IsRowsOf p l rows aim
    → IsSolution p d v → ((j : ℕ) → j < p.cols → ¬ ColListed l j → v j ≡ pos 0)
    → d *ℤ aim p.cols ≡ aim (suc p.cols) *ℤ sum_to p.cols (λ j. aim_of p j *ℤ v j)

-- a path stops in one way only
abbrev pub StopsAreOne : Type 0
StopsAreOne = (p : Program) (o : Listing) (limit : ℕ) (stop other : PathStop) → IsOpening p o → PathStops p o limit stop → PathStops p o limit other
    → stop ≡ other

-- no two steps of a path, from the end of the opening on, list the same columns
abbrev pub BasesDiffer : Type 0
BasesDiffer = (p : Program) (o : Listing) (t : ℕ) (s : States) → IsOpening p o → IsPath p o t s → (k h : ℕ) → length o ≤ k → k < h → h ≤ t
    → ¬ ((j : ℕ) → ColListed (s.lists k) j ↔ ColListed (s.lists h) j)
