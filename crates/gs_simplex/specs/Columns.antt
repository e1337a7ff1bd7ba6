-- Where the columns of a table stand. A column that may be other than 0 in several rows has a slot: one place in every row. A column that is 0 in all rows
-- but one may be that row's own column. A row has its own number first, then its slots, and last a spare place.
use Rattle.std.specs.Prelude.{◌≡◌, ◌≢◌, ℕ, ◌+◌, ◌-◌, ◌<◌, ◌≤◌, ◌^◌, ◌⊎◌, List, length, slice_index, ℤ, pos, ◌*ℤ◌, unsigned_abs, nat_eq, nat_lt, if◌then◌else◌}
use Rattle.gs_simplex.specs.{Rows.{IsNarrow}, Support.{IsSupport}, Numbers.{at, cell, AreNarrowNumbers, IsMixed, IsLeadOf, IsWideReduced}}

-- The place of a column in row i, or `width` if it has none there. `stand` is the row whose own column it is, or above `rows` it is `rows` plus its slot.
abbrev pub place_in : ℕ → ℕ → ℕ → ℕ → ℕ
place_in rows width stand i = if nat_lt rows stand then stand - rows else (if nat_eq stand i then 0 else width)

-- the number at a place of a row, and 0 at `width`
abbrev pub at_place : ℕ → (ℕ → ℤ) → ℕ → ℤ
at_place width row k = if nat_lt k width then row k else pos 0

-- row i by columns, where `row` is the row by places
abbrev pub in_columns : ℕ → ℕ → (ℕ → ℕ) → ℕ → (ℕ → ℤ) → ℕ → ℤ
in_columns rows width stands i row j = at_place width row (place_in rows width (stands j) i)

-- each of `count` columns stands before the spare place, and no two stand alike
pub record AreStands (rows width count : ℕ) (stands : ℕ → ℕ) : Type 0 where
  pub inside : (j : ℕ) → j < count → stands j + 1 < rows + width
  pub differ : (j h : ℕ) → j < count → h < count → stands j ≡ stands h → j ≡ h

-- each place of the row has a column or the number 0
abbrev pub IsCovered : ℕ → ℕ → ℕ → (ℕ → ℕ) → ℕ → (ℕ → ℤ) → Type 0
IsCovered rows width count stands i row = (k : ℕ) → k < width → (row k ≡ pos 0) ⊎ ((j : ℕ) × (j < count) × (place_in rows width (stands j) i ≡ k))

-- where the columns stand after row r is listed with column c: the column that was the row's own takes the slot of c
pub record AreStandsAfter (count : ℕ) (old new : ℕ → ℕ) (r c : ℕ) : Type 0 where
  pub own : new c ≡ r
  pub taken : (j : ℕ) → j < count → j ≢ c → old j ≡ r → new j ≡ old c
  pub kept : (j : ℕ) → j < count → j ≢ c → old j ≢ r → new j ≡ old j

-- the numbers at places a and b are exchanged
pub record IsSwapped (a b width : ℕ) (old new : ℕ → ℤ) : Type 0 where
  pub first : new a ≡ old b
  pub second : new b ≡ old a
  pub others : (k : ℕ) → k < width → k ≢ a → k ≢ b → new k ≡ old k

-- the number at slot q is moved to the spare place b; at place 0 there is no slot, and the row stays
pub record IsSlotFreed (q b width : ℕ) (old new : ℕ → ℤ) : Type 0 where
  pub slot : 0 < q → IsSwapped q b width old new
  pub none : q ≡ 0 → (k : ℕ) → k < width → new k ≡ old k

-- the number at place q is moved to the spare place b, the row's own number to place q, and what was at the spare place to place 0
pub record IsOwnFreed (q b width : ℕ) (old new : ℕ → ℤ) : Type 0 where
  pub spare : new b ≡ old q
  pub own : new 0 ≡ old b
  pub slot : 0 < q → new q ≡ old 0
  pub others : (k : ℕ) → k < width → 0 < k → k ≢ q → k ≢ b → new k ≡ old k

-- the first `found` places of the list: the own number's, the spare one, and the slot of each of `count` columns
pub record AreLivePlaces (rows width count : ℕ) (stands : ℕ → ℕ) (live : List ℕ) (found : ℕ) : Type 0 where
  pub some : 1 < found
  pub few : found ≤ length live
  pub own : slice_index live 0 ≡ 0
  pub spare : slice_index live 1 ≡ width - 1
  pub inside : (k : ℕ) → k < found → slice_index live k < width
  pub differ : (k h : ℕ) → k < h → h < found → slice_index live k ≢ slice_index live h
  pub all : (j : ℕ) → j < count → rows < stands j → (k : ℕ) × (k < found) × (slice_index live k ≡ stands j - rows)

-- ---- where columns stand at the start
-- A column with the number z in row i was noted. Before, it was noted as `old`: a row, 2 ^ 32 - 2 for none, or 2 ^ 32 - 1 for several.
abbrev pub IsNoted : ℕ → ℤ → ℕ → ℕ → Type 0
IsNoted i z old new = ((z ≡ pos 0) × (new ≡ old)) ⊎ (((old ≡ 4294967294) × (new ≡ i)) ⊎ (new ≡ 4294967295))

-- Each column that is noted as a row's own among the rows `owns` stays, and each other one has a slot before `place`. No two slots are the same.
pub record AreSlots (rows count : ℕ) (owns : List ℕ) (old new : ℕ → ℕ) (place : ℕ) : Type 0 where
  pub each : (j : ℕ) → j < count → ((new j ≡ old j) × (new j ≤ rows) × (slice_index owns (new j) ≡ j)) ⊎ ((rows < new j) × (new j < rows + place))
  pub differ : (j h : ℕ) → j < count → h < count → rows < new j → new j ≡ new h → j ≡ h
  pub some : 0 < place
  pub few : place ≤ count + 1

-- row i has these numbers by columns, and each of its places has a column or 0
pub record IsSetRow (rows width count : ℕ) (stands : ℕ → ℕ) (i : ℕ) (numbers row : ℕ → ℤ) : Type 0 where
  pub each : (j : ℕ) → j < count → in_columns rows width stands i row j ≡ numbers j
  pub covered : IsCovered rows width count stands i row

-- ---- a pivot on rows by places; the spare place is the last
-- the row cleared by the lead, after its number at slot q was moved to place b
pub record IsRowCleared (lead : ℕ → ℤ) (q b width : ℕ) (old new : ℕ → ℤ) : Type 0 where
  pub row : (mid : ℕ → ℤ) × (IsSlotFreed q b width old mid) × IsMixed lead b width mid new

-- the row taken to the lead, after its number at place q was moved to place b
pub record IsRowLed (old lead : ℕ → ℤ) (q b width : ℕ) : Type 0 where
  pub row : (mid : ℕ → ℤ) × (IsOwnFreed q b width old mid) × IsLeadOf mid lead b width
  pub narrow : (k : ℕ) → k < width → IsNarrow (lead k)

-- outside the places `live`, which differ, the freed row and the lead are 0
abbrev pub IsLiveRow : List ℕ → ℕ → ℕ → ℕ → (ℕ → ℤ) → (ℕ → ℤ) → Type 0
IsLiveRow live q b width row lead = (mid : ℕ → ℤ) → IsSlotFreed q b width row mid → IsSupport live (length live) width mid lead

-- the same of each of `count` rows but r, whatever lead row r is taken to
abbrev pub IsLive : List ℕ → List ℤ → ℕ → ℕ → ℕ → ℕ → Type 0
IsLive live old count width r q = (lead : ℕ → ℤ) → IsRowLed (cell old width r) lead q (width - 1) width → (i : ℕ) → i < count → i ≢ r
    → IsLiveRow live q (width - 1) width (cell old width i) lead

-- each of `count` rows but r is cleared, and row r stays
pub record AreRowsCleared (old new : List ℤ) (count width r q b : ℕ) (lead : ℕ → ℤ) : Type 0 where
  pub others : (i : ℕ) → i < count → i ≢ r → IsRowCleared lead q b width (cell old width i) (cell new width i)
  pub kept : (k : ℕ) → k < width → cell new width r k ≡ cell old width r k
  pub narrow : AreNarrowNumbers new

-- row i is the first that has a number that is not narrow; `mixed` has its numbers, times `by`
pub record AreRowsClearedTo (old mixed : List ℤ) (count width r q b : ℕ) (lead : ℕ → ℤ) (i by : ℕ) : Type 0 where
  pub inside : i < count
  pub apart : i ≢ r
  pub here : (mid : ℕ → ℤ) × (IsSlotFreed q b width (cell old width i) mid) × IsWideReduced lead b width mid mixed by
  pub before : (h : ℕ) → h < i → h ≢ r → (new : ℕ → ℤ) × (IsRowCleared lead q b width (cell old width h) new) × ((k : ℕ) → k < width → IsNarrow (new k))

-- row r is taken to the lead, and the other rows are cleared; then the lead's number is row r's own
pub record IsPivotDone (old new : List ℤ) (count width r q : ℕ) : Type 0 where
  pub lead : (lead : ℕ → ℤ) × (IsRowLed (cell old width r) lead q (width - 1) width) × (IsSwapped 0 (width - 1) width lead (cell new width r))
      × ((i : ℕ) → i < count → i ≢ r → IsRowCleared lead q (width - 1) width (cell old width i) (cell new width i))
  pub narrow : AreNarrowNumbers new

-- row r is taken to the lead, and row i is the first that has a number that is not narrow
pub record IsPivotWide (old mixed : List ℤ) (count width r q i by : ℕ) : Type 0 where
  pub lead : (lead : ℕ → ℤ) × (IsRowLed (cell old width r) lead q (width - 1) width) × AreRowsClearedTo old mixed count width r q (width - 1) lead i by

-- ---- the first wide number
-- `mixed` has the numbers of `row`, times `by`
abbrev pub IsTimes : ℕ → List ℤ → (ℕ → ℤ) → Type 0
IsTimes by mixed row = (k : ℕ) → k < length mixed → at mixed k ≡ pos by *ℤ row k

-- z, in column j, is the first of `count` numbers that is not narrow
pub record IsFirstWideOf (count : ℕ) (row : ℕ → ℤ) (j : ℕ) (z : ℤ) : Type 0 where
  pub inside : j < count
  pub here : row j ≡ z
  pub size : unsigned_abs z ≤ 2 ^ 125
  pub wide : ¬ IsNarrow z
  pub before : (k : ℕ) → k < j → IsNarrow (row k)

-- a row, times `by`, has a column whose number is not narrow
pub record HasWideColumn (rows : ℕ) (stands : List ℕ) (i by : ℕ) (mixed : List ℤ) : Type 0 where
  pub found : (row : ℕ → ℤ) × (IsTimes by mixed row) × ((j : ℕ) × (j < length stands)
      × (¬ IsNarrow (in_columns rows (length mixed) (slice_index stands) i row j)))
