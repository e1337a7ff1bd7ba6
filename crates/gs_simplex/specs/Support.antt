-- Rows that are 0, or do not change, outside some places.
use Rattle.std.specs.Prelude.{◌≡◌, ◌≢◌, ℕ, ◌<◌, ◌≤◌, List, length, slice_index, ℤ, pos, ◌-ℤ◌, ◌*ℤ◌}

-- outside the first `found` places, which are different places, the row and the lead are 0
pub record IsSupport (places : List ℕ) (found width : ℕ) (row lead : ℕ → ℤ) : Type 0 where
  pub few : found ≤ length places
  pub inside : (k : ℕ) → k < found → slice_index places k < width
  pub differ : (k h : ℕ) → k < found → h < found → slice_index places k ≡ slice_index places h → k ≡ h
  pub outside : (j : ℕ) → j < width → ((k : ℕ) → k < found → slice_index places k ≢ j) → (row j ≡ pos 0) × (lead j ≡ pos 0)

-- outside the first `found` places, which differ, own times the row less far times the lead is the row itself
pub record IsChange (places : List ℕ) (found width : ℕ) (row lead : ℕ → ℤ) (own far : ℤ) : Type 0 where
  pub few : found ≤ length places
  pub inside : (k : ℕ) → k < found → slice_index places k < width
  pub differ : (k h : ℕ) → k < found → h < found → slice_index places k ≡ slice_index places h → k ≡ h
  pub outside : (j : ℕ) → j < width → ((k : ℕ) → k < found → slice_index places k ≢ j) → own *ℤ row j -ℤ far *ℤ lead j ≡ row j
