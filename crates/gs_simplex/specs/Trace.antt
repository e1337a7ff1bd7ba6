-- The trace of a path: its pivots, its bases, and the aim's value at both ends.
use Rattle.std.specs.{Prelude.{◌≡◌, ℕ, ◌+◌, ◌<◌, ◌≤◌, Result, Ok, Err, List, length, slice_index, ℤ, ◌*ℤ◌, Contains, Vec}, List.{HoldsAt}}
use Rattle.std.specs.declared.alloc.Global.{Global}
use Rattle.gs_frac.specs.declared.value.Fraction.{Fraction}
use Rattle.gs_simplex.specs.{declared.program.Program.{Program}, Program.{ColListed, IsTask, Listing}, Path.{States, IsPath, ends, Stops}}
use Rattle.gs_simplex.specs.{declared.answer.Turn.{Turn}, declared.answer.Path.{Path}, declared.answer.PathTrace.{PathTrace}, declared.answer.PathError.{PathError}}
use Rattle.gs_simplex.specs.{declared.path.Position.{Position}, declared.table.Table.{Table}, State.{IsState, IsTurnAt}, Answer.{IsSmallTable, IsPathError}}

-- the listed columns, counted from 1, in rising order
pub record IsBasis (l : Listing) (columns : List ℕ) : Type 0 where
  pub rises : (k h : ℕ) → k < h → h < length columns → slice_index columns k < slice_index columns h
  pub listed : (k : ℕ) → k < length columns → (j : ℕ) × (slice_index columns k ≡ j + 1) × ColListed l j
  pub all : (j : ℕ) → ColListed l j → Contains columns (j + 1)

-- the aim's value as the aim's row gives it: the last number over the multiple
abbrev pub IsAimValue : Program → (ℕ → ℤ) → Fraction → Type 0
IsAimValue p aim f = f.num *ℤ aim (p.cols + 1) ≡ aim p.cols *ℤ f.den

-- the pivot after t steps: the column that enters and the column that leaves
abbrev pub IsTurnOf : States → ℕ → Turn → Type 0
IsTurnOf s t turn = (turn.enter ≡ s.entering t + 1) × (turn.leave ≡ s.leaving t + 1)

-- what is shown of the path s, which has n pivots
pub record IsShownOf (p : Program) (o : Listing) (n : ℕ) (s : States) (t : Path) : Type 0 where
  pub turns_long : length t.turns.items ≡ n
  pub turns : (k : ℕ) → k < n → HoldsAt (IsTurnOf s (length o + k)) t.turns.items k
  pub start : IsAimValue p (s.aim (length o)) t.start
  pub aim : IsAimValue p (s.aim (length o + n)) t.aim

-- the path ends, and t shows it
pub record IsShown (p : Program) (o : Listing) (limit : ℕ) (t : Path) : Type 0 where
  pub small : IsSmallTable p
  pub path : (n : ℕ) × (l : Listing) × (s : States) × (Stops p o limit (length o + n) s (ends n l)) × IsShownOf p o n s t

-- what `path` answers
abbrev pub IsPathAnswer : Program → Listing → ℕ → Result Path PathError → Type 0
IsPathAnswer p o limit (Ok t) = IsShown p o limit t
IsPathAnswer p o limit (Err s) = IsPathError p o limit s

-- a trace without its bases
abbrev pub without_bases : PathTrace → Path
without_bases t = record { start = t.start; turns = t.turns; aim = t.aim }

-- the trace of the path s, which has n pivots
pub record IsTraceOf (p : Program) (o : Listing) (n : ℕ) (s : States) (t : PathTrace) : Type 0 where
  pub shown : IsShownOf p o n s (without_bases t)
  pub bases_long : length t.bases.items ≡ n + 1
  pub bases : (k : ℕ) → k ≤ n → HoldsAt (λ b. IsBasis (s.lists (length o + k)) b.items) t.bases.items k

-- the path ends, t is its trace, and no two of its bases are equal
pub record IsTrace (p : Program) (o : Listing) (limit : ℕ) (t : PathTrace) : Type 0 where
  pub small : IsSmallTable p
  pub path : (n : ℕ) × (l : Listing) × (s : States) × (Stops p o limit (length o + n) s (ends n l)) × IsTraceOf p o n s t
  pub bases_differ : (k h : ℕ) → k < h → h < length t.bases.items → HoldsAt (λ a. HoldsAt (λ b. ¬ (a.items ≡ b.items)) t.bases.items h) t.bases.items k

-- what `trace` answers
abbrev pub IsTraceAnswer : Program → Listing → ℕ → Result PathTrace PathError → Type 0
IsTraceAnswer p o limit (Ok t) = IsTrace p o limit t
IsTraceAnswer p o limit (Err s) = IsPathError p o limit s

-- ---- while the path is followed
-- these are the columns of the list after t steps
abbrev pub IsBasisAt : Program → Listing → ℕ → List ℕ → Type 0
IsBasisAt p o t columns = (s : States) × (IsPath p o t s) × IsBasis (s.lists t) columns

-- the list after the opening and so many pivots
abbrev pub IsReachedBy : Program → Listing → ℕ → Listing → Type 0
IsReachedBy p o n l = (s : States) × (IsPath p o (length o + n) s) × (s.lists (length o + n) ≡ l)

-- these are the first pivots
abbrev pub AreTurns : Program → Listing → List Turn → Type 0
AreTurns p o made = (k : ℕ) → k < length made → HoldsAt (IsTurnAt p o (length o + k)) made k

-- these are the first n bases, from that of the opening on
pub record AreBases (p : Program) (o : Listing) (n : ℕ) (found : List (Vec ℕ Global)) : Type 0 where
  pub long : length found ≡ n
  pub bases : (k : ℕ) → k < n → HoldsAt (λ b. IsBasisAt p o (length o + k) b.items) found k

-- the list and the table after the opening
pub record IsBegun (p : Program) (o : Listing) (at : Position) : Type 0 where
  pub small : IsSmallTable p
  pub same : at.basis.items ≡ o
  pub state : IsState p o (length o) o at.table

-- The path can be followed from the end of the opening: this list is the opening, and this table is the state there.
pub record CanFollow (p : Program) (o : Listing) (limit : ℕ) (basis : Listing) (held : Table) : Type 0 where
  pub task : IsTask p o limit
  pub small : IsSmallTable p
  pub same : basis ≡ o
  pub state : IsState p o (length o) o held
