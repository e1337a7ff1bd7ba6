-- The steps of a path, and what stops it. The rows at each step are those of the step's list. Bland's rule (Bland 1977, "New finite pivoting rules for
-- the simplex method") chooses the pivots. The column of least index enters, and among equal ratios the column of least index leaves.
use Rattle.std.specs.Prelude.{◌≡◌, ℕ, suc, ◌+◌, ◌<◌, ◌≤◌, ◌⊎◌, length, take, slice_index_or, slice_set, ℤ, pos, ◌*ℤ◌, ◌≤ℤ◌, ◌<ℤ◌}
use Rattle.gs_simplex.specs.{declared.program.Program.{Program}, Rows.{IsNarrow}, Program.{Listing, IsListed, ColListed, IsFree, IsRowsOf}}

-- column e enters: it is the unlisted column of least index with a number above 0 in the aim's row
pub record Enters (p : Program) (l : Listing) (aim : ℕ → ℤ) (e : ℕ) : Type 0 where
  pub column : e < p.cols
  pub unlisted : ¬ ColListed l e
  pub rises : pos 0 <ℤ aim e
  pub least : (j : ℕ) → j < e → ¬ ColListed l j → aim j ≤ℤ pos 0

-- no unlisted column has a number above 0 in the aim's row
abbrev pub NoneEnters : Program → Listing → (ℕ → ℤ) → Type 0
NoneEnters p l aim = (j : ℕ) → j < p.cols → ¬ ColListed l j → aim j ≤ℤ pos 0

-- Row r, listed with column c, leaves when column e enters. A row may leave if its listed column is not free and it has a number above 0 in column e.
-- Row r has the least ratio of right side to that number; among equal ratios its listed column has the least index.
pub record Leaves (p : Program) (l : Listing) (rows : ℕ → ℕ → ℤ) (e r c : ℕ) : Type 0 where
  pub listed : IsListed l r c
  pub not_free : ¬ IsFree p c
  pub pivot : pos 0 <ℤ rows r e
  pub ratio : (i j : ℕ) → IsListed l i j → ¬ IsFree p j → pos 0 <ℤ rows i e → (rows r p.cols *ℤ rows i e) ≤ℤ (rows i p.cols *ℤ rows r e)
  pub tie : (i j : ℕ) → IsListed l i j → ¬ IsFree p j → pos 0 <ℤ rows i e → rows r p.cols *ℤ rows i e ≡ rows i p.cols *ℤ rows r e → c ≤ j

-- no row bounds the entering column e: a listed row with a number above 0 there has a free column
abbrev pub NoneLeaves : Program → Listing → (ℕ → ℕ → ℤ) → ℕ → Type 0
NoneLeaves p l rows e = (i j : ℕ) → IsListed l i j → ¬ IsFree p j → rows i e ≤ℤ pos 0

-- one pivot: the row that leaves is listed with the entering column, at its former place in the list
pub record IsPivot (p : Program) (l : Listing) (rows : ℕ → ℕ → ℤ) (aim : ℕ → ℤ) (next : Listing) (entering leaving : ℕ) : Type 0 where
  pub enters : Enters p l aim entering
  pub place : (q : ℕ) × (r : ℕ) × (q < length l) × (slice_index_or l q (0, 0) ≡ (r + 1, leaving + 1)) × (Leaves p l rows entering r leaving)
      × (next ≡ slice_set l q (r + 1, entering + 1))

-- every number of the rows and of the aim's row, with its multiple, is below 2^62 in size
abbrev pub AllNarrow : Program → (ℕ → ℕ → ℤ) → (ℕ → ℤ) → Type 0
AllNarrow p rows aim = ((i j : ℕ) → i < p.rows → j ≤ p.cols → IsNarrow (rows i j)) × ((j : ℕ) → j ≤ p.cols + 1 → IsNarrow (aim j))

-- z, in row i and column j, is the first number of 2^62 or more in size, by row and then by column. The aim's row is row `rows`.
pub record IsFirstWide (p : Program) (rows : ℕ → ℕ → ℤ) (aim : ℕ → ℤ) (i j : ℕ) (z : ℤ) : Type 0 where
  pub row : i ≤ p.rows
  pub here : ((i < p.rows) × (j ≤ p.cols) × (rows i j ≡ z)) ⊎ ((i ≡ p.rows) × (j ≤ p.cols + 1) × (aim j ≡ z))
  pub wide : ¬ IsNarrow z
  pub before : (h k : ℕ) → h < p.rows → k ≤ p.cols → (h < i) ⊎ ((h ≡ i) × (k < j)) → IsNarrow (rows h k)
  pub before_aim : (k : ℕ) → k < j → i ≡ p.rows → IsNarrow (aim k)

-- at each step the list, its rows, its aim's row, and the columns that enter and leave in the pivot to the next step
pub record States : Type 0 where
  pub lists : ℕ → Listing
  pub rows : ℕ → ℕ → ℕ → ℤ
  pub aim : ℕ → ℕ → ℤ
  pub entering : ℕ → ℕ
  pub leaving : ℕ → ℕ

-- t steps: first the pairs of the opening one by one, and then pivots; only the last step may have a wide number
pub record IsPath (p : Program) (opening : Listing) (t : ℕ) (s : States) : Type 0 where
  pub opens : (k : ℕ) → k ≤ t → k ≤ length opening → s.lists k ≡ take k opening
  pub pivots : (k : ℕ) → length opening ≤ k → k < t → IsPivot p (s.lists k) (s.rows k) (s.aim k) (s.lists (suc k)) (s.entering k) (s.leaving k)
  pub rows : (k : ℕ) → k ≤ t → IsRowsOf p (s.lists k) (s.rows k) (s.aim k)
  pub narrow : (k : ℕ) → 0 < k → k < t → AllNarrow p (s.rows k) (s.aim k)

-- a path that has passed the opening, within the limit on pivots, with no wide number
pub record IsWhole (p : Program) (opening : Listing) (limit t : ℕ) (s : States) : Type 0 where
  pub path : IsPath p opening t s
  pub whole : length opening ≤ t
  pub within : t ≤ length opening + limit
  pub narrow : 0 < t → AllNarrow p (s.rows t) (s.aim t)

-- how a path stops; steps, rows and columns count from 1, the first pair of the opening being step 1
pub data PathStop : Type 0 where
  ends : (pivots : ℕ) → Listing → PathStop
  wide : (step row col : ℕ) → ℤ → PathStop
  pivots : PathStop
  unbounded : (col : ℕ) → PathStop

-- after t steps the path stops in this way
abbrev pub Stops : Program → Listing → ℕ → ℕ → States → PathStop → Type 0
Stops p o limit t s (ends n l) = (IsWhole p o limit t s) × (NoneEnters p (s.lists t) (s.aim t)) × (t ≡ length o + n) × (l ≡ s.lists t)
Stops p o limit t s (wide step row col z) = (IsPath p o t s) × (0 < t) × (t ≤ length o + limit) × (step ≡ t)
    × ((i : ℕ) × (j : ℕ) × (row ≡ i + 1) × (col ≡ j + 1) × IsFirstWide p (s.rows t) (s.aim t) i j z)
Stops p o limit t s pivots = (IsWhole p o limit t s) × (t ≡ length o + limit)
    × ((e : ℕ) × (r : ℕ) × (c : ℕ) × (Enters p (s.lists t) (s.aim t) e) × (Leaves p (s.lists t) (s.rows t) e r c))
Stops p o limit t s (unbounded col) = (IsWhole p o limit t s) × ((e : ℕ) × (col ≡ e + 1) × (Enters p (s.lists t) (s.aim t) e)
    × (NoneLeaves p (s.lists t) (s.rows t) e))

-- the path of the program from the opening stops in this way
pub record PathStops (p : Program) (opening : Listing) (limit : ℕ) (stop : PathStop) : Type 0 where
  pub stops : (t : ℕ) × (s : States) × Stops p opening limit t s stop
