-- Rows as lists of numbers, and what a pivot makes of a row.
use Rattle.std.specs.Prelude.{◌≡◌, ℕ, ◌+◌, ◌-◌, ◌*◌, ◌<◌, ◌≤◌, ◌^◌, ◌⊎◌, ℤ, pos, neg_ℤ, ◌≤ℤ◌, ◌-ℤ◌, ◌*ℤ◌, ◌<ℤ◌, unsigned_abs}
use Rattle.std.specs.Prelude.{List, slice_index, slice_index_or, length}
use Prim.Native.Nat.{◌∣◌}
use Rattle.gs_simplex.specs.Rows.{IsNarrow, IsPrimitive}

-- the number at a place, 0 past the end
abbrev pub at : List ℤ → ℕ → ℤ
at xs j = slice_index_or xs j (pos 0)

-- each number is below 2^62 in size
abbrev pub AreNarrowNumbers : List ℤ → Type 0
AreNarrowNumbers xs = (j : ℕ) → j < length xs → IsNarrow (at xs j)

-- the first `width` numbers of a row are at most `most` in size
abbrev pub IsAtMost : ℕ → (ℕ → ℤ) → ℕ → Type 0
IsAtMost width row most = (j : ℕ) → j < width → unsigned_abs (row j) ≤ most

-- each number is at most `most` in size
abbrev pub AllAtMost : List ℤ → ℕ → Type 0
AllAtMost xs most = IsAtMost (length xs) (at xs) most

-- the greatest number that divides the first `count` numbers, or 0 if all are 0
pub record IsDivisor (count : ℕ) (f : ℕ → ℤ) (d : ℕ) : Type 0 where
  pub divides : (j : ℕ) → j < count → d ∣ unsigned_abs (f j)
  pub greatest : (e : ℕ) → ((j : ℕ) → j < count → e ∣ unsigned_abs (f j)) → e ∣ d

-- a and b are own and far over a common divisor
pub record IsShared (own far a b : ℤ) : Type 0 where
  pub by : (g : ℤ) × (pos 0 <ℤ g) × (own ≡ g *ℤ a) × (far ≡ g *ℤ b)

-- the first `count` numbers of `row` are narrow and, times `by`, are those of `mixed`
pub record IsQuotient (by : ℕ) (mixed row : List ℤ) (count : ℕ) : Type 0 where
  pub each : (j : ℕ) → j < count → at mixed j ≡ pos by *ℤ at row j
  pub narrow : (j : ℕ) → j < count → IsNarrow (at row j)

-- some number of `mixed` is `by` times a number that is not narrow
pub record HasWideQuotient (by : ℕ) (mixed : List ℤ) : Type 0 where
  pub found : (k : ℕ) × (z : ℤ) × (k < length mixed) × (at mixed k ≡ pos by *ℤ z) × (¬ IsNarrow z)

-- the old row is a positive multiple of the new one
pub record IsMultiple (width : ℕ) (old new : ℕ → ℤ) : Type 0 where
  pub by : (g : ℤ) × (pos 0 <ℤ g) × ((j : ℕ) → j < width → old j ≡ g *ℤ new j)

-- the new row is the old one divided by its greatest common divisor
pub record IsDivided (width : ℕ) (old new : ℕ → ℤ) : Type 0 where
  pub multiple : IsMultiple width old new
  pub primitive : IsPrimitive (width - 1) new

-- The old row cleared by the lead, so that it has 0 in column c. It is the lead's number in column c times the old row, less the old row's number in
-- column c times the lead.
abbrev pub cleared_by : (ℕ → ℤ) → ℕ → (ℕ → ℤ) → ℕ → ℤ
cleared_by lead c old j = lead c *ℤ old j -ℤ old c *ℤ lead j

-- the cleared row is a positive multiple of the new one
abbrev pub IsMixed : (ℕ → ℤ) → ℕ → ℕ → (ℕ → ℤ) → (ℕ → ℤ) → Type 0
IsMixed lead c width old new = IsMultiple width (cleared_by lead c old) new

-- the new row is the cleared row divided by its greatest common divisor
abbrev pub IsReduced : (ℕ → ℤ) → ℕ → ℕ → (ℕ → ℤ) → (ℕ → ℤ) → Type 0
IsReduced lead c width old new = IsDivided width (cleared_by lead c old) new

-- the numbers of `mixed` are `by` times those of the reduced row, of which one is not narrow
pub record IsWideReduced (lead : ℕ → ℤ) (c width : ℕ) (old : ℕ → ℤ) (mixed : List ℤ) (by : ℕ) : Type 0 where
  pub some : 0 < by
  pub small : by ≤ 2 ^ 125
  pub within : AllAtMost mixed (2 ^ 125)
  pub row : (new : ℕ → ℤ) × (IsReduced lead c width old new) × ((k : ℕ) → k < width → at mixed k ≡ pos by *ℤ new k)
      × ((k : ℕ) × (k < width) × (¬ IsNarrow (new k)))

-- the number in row i and column j, where rows of this width stand one after the other
abbrev pub cell : List ℤ → ℕ → ℕ → ℕ → ℤ
cell xs width i j = at xs (i * width + j)

-- no number of the first `count` rows is above its row's bound in size
abbrev pub AreTops : ℕ → ℕ → List ℤ → List ℕ → Type 0
AreTops count width xs tops = (i : ℕ) → i < count → IsAtMost width (cell xs width i) (slice_index tops i)

-- the new row is the old one or its negative; its number in column c is not negative
pub record IsTurned (old new : ℕ → ℤ) (c width : ℕ) : Type 0 where
  pub own : pos 0 ≤ℤ new c
  pub self : ((j : ℕ) → j < width → new j ≡ old j) ⊎ ((j : ℕ) → j < width → new j ≡ neg_ℤ (old j))

-- the new row is the old one or its negative, divided by its greatest common divisor; its number in column c is not negative
pub record IsLeadOf (old new : ℕ → ℤ) (c width : ℕ) : Type 0 where
  pub own : pos 0 ≤ℤ new c
  pub divided : (IsDivided width old new) ⊎ IsDivided width (λ j. neg_ℤ (old j)) new

-- a narrow number, and a number below 2^62 that divides it
pub record IsNarrowMultiple (number : ℤ) (by : ℕ) : Type 0 where
  pub some : 0 < by
  pub small : by < 2 ^ 62
  pub narrow : IsNarrow number
  pub divides : by ∣ unsigned_abs number

-- their quotient
pub record IsNarrowQuotient (number : ℤ) (by : ℕ) (quotient : ℤ) : Type 0 where
  pub value : number ≡ pos by *ℤ quotient
  pub narrow : IsNarrow quotient
