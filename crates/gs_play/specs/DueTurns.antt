-- For each place the turn from which it has to be looked at again.
use Rattle.std.specs.Prelude.{ℕ, ◌/◌, ◌*◌, ◌<◌, ◌≤◌, List, length, slice_index}
use Rattle.gs_play.specs.declared.dues.Dues.{Dues}

-- what is kept for each 64 places is not after any of theirs
pub record IsDues (d : Dues) : Type 0 where
  pub blocks : length d.turns.items ≤ 64 * length d.soonest.items
  pub least : (k : ℕ) → k < length d.turns.items → slice_index d.soonest.items (k / 64) ≤ slice_index d.turns.items k

-- of the places from one on, before another, none is due in a turn
abbrev pub IsNoneDue : List ℕ → ℕ → ℕ → ℕ → Type 0
IsNoneDue turns from end now = (k : ℕ) → from ≤ k → k < end → now < slice_index turns k
