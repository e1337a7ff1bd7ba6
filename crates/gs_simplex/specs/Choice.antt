-- The choice of the entering column and of the leaving row as the code finds it, place by place.
use Rattle.std.specs.Prelude.{◌≡◌, ℕ, ◌+◌, ◌<◌, ◌≤◌, ◌⊎◌, Option, Some, None, length, slice_index_or, ℤ, pos, ◌*ℤ◌, ◌≤ℤ◌, ◌<ℤ◌}
use Rattle.gs_simplex.specs.{declared.program.Program.{Program}, Rows.{IsNarrow}, Program.{Listing, IsFree}, Path.{Leaves, NoneLeaves}}
use Rattle.gs_simplex.specs.declared.choice.Ratio.{Ratio}

-- the place of the first of `count` numbers that is above 0, or none if no number is
abbrev pub IsEntering : (ℕ → ℤ) → ℕ → Option ℕ → Type 0
IsEntering aim count None = (j : ℕ) → j < count → aim j ≤ℤ pos 0
IsEntering aim count (Some e) = (e < count) × (pos 0 <ℤ aim e) × ((j : ℕ) → j < e → aim j ≤ℤ pos 0)

-- the ratio of a is less than that of b, or equal with a column of lower index
abbrev pub Before : Ratio → Ratio → Type 0
Before a b = ((a.side *ℤ b.over) <ℤ (b.side *ℤ a.over)) ⊎ ((a.side *ℤ b.over ≡ b.side *ℤ a.over) × (a.column < b.column))

-- the ratio of a is less than that of b, or equal with a column of no higher index
abbrev pub NotAfter : Ratio → Ratio → Type 0
NotAfter a b = ((a.side *ℤ b.over) ≤ℤ (b.side *ℤ a.over)) × (a.side *ℤ b.over ≡ b.side *ℤ a.over → a.column ≤ b.column)

-- both numbers of a ratio are below 2^62 in size
abbrev pub IsNarrowRatio : Ratio → Type 0
IsNarrowRatio a = IsNarrow a.side × IsNarrow a.over

-- a is the ratio of the row at place k, which may leave when column e enters
pub record IsRatio (p : Program) (l : Listing) (rows : ℕ → ℕ → ℤ) (e k : ℕ) (a : Ratio) : Type 0 where
  pub pair : (r : ℕ) × (c : ℕ) × (slice_index_or l k (0, 0) ≡ (r + 1, c + 1)) × (a.column ≡ c) × (¬ IsFree p c) × (a.over ≡ rows r e)
      × (a.side ≡ rows r p.cols)
  pub place : a.place ≡ k
  pub rises : pos 0 <ℤ a.over
  pub narrow : IsNarrow a.over
  pub narrow_side : IsNarrow a.side

-- the row at place k may not leave
pub record IsNoRatio (p : Program) (l : Listing) (rows : ℕ → ℕ → ℤ) (e k : ℕ) : Type 0 where
  pub pair : (r : ℕ) × (c : ℕ) × (slice_index_or l k (0, 0) ≡ (r + 1, c + 1)) × (IsFree p c ⊎ rows r e ≤ℤ pos 0)

-- the ratio of the row at place k, or none if that row may not leave
abbrev pub IsRatioAt : Program → Listing → (ℕ → ℕ → ℤ) → ℕ → ℕ → Option Ratio → Type 0
IsRatioAt p l rows e k None = IsNoRatio p l rows e k
IsRatioAt p l rows e k (Some a) = IsRatio p l rows e k a

-- of two rows the one that leaves first; if only one may leave, that one
abbrev pub IsBetter : Option Ratio → Option Ratio → Option Ratio → Type 0
IsBetter None next found = found ≡ next
IsBetter (Some b) None found = found ≡ Some b
IsBetter (Some b) (Some n) found = ((found ≡ Some n) × Before n b) ⊎ ((found ≡ Some b) × NotAfter b n)

-- the place of the row that leaves, or none if no row bounds the entering column
abbrev pub IsLeaving : Program → Listing → (ℕ → ℕ → ℤ) → ℕ → Option ℕ → Type 0
IsLeaving p l rows e None = NoneLeaves p l rows e
IsLeaving p l rows e (Some q) = (r : ℕ) × (c : ℕ) × (q < length l) × (slice_index_or l q (0, 0) ≡ (r + 1, c + 1)) × Leaves p l rows e r c
