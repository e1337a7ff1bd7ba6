-- The order of places: by board, and on one board by strength.
use Rattle.std.specs.Prelude.{ℕ, ◌≡◌, ◌<◌, ◌≤◌, All, List, length, slice_index_or}
use Rattle.gs_boards.specs.declared.place.Place.{Place}

-- the place p comes no later than q: its board is no later, and on one board p is not the stronger one
pub record IsNoLater (p q : Place) : Type 0 where
  pub board : p.board ≤ q.board
  pub strength : p.board ≡ q.board → p.strength ≤ q.strength

-- places are ordered by board, and on one board by strength
abbrev pub AreInOrder : List Place → Type 0
AreInOrder places = (i j : ℕ) (d : Place) → i ≤ j → j < length places → IsNoLater (slice_index_or places i d) (slice_index_or places j d)

-- no signal has two places
abbrev pub AreApart : List Place → Type 0
AreApart places = (i j : ℕ) (d : Place) → i < j → j < length places → (slice_index_or places i d).signal ≡ (slice_index_or places j d).signal → ⊥

-- places that a walk goes over: each has its number and its sum, in lists of these lengths
pub record AreWalkable (places : List Place) (number_count sum_count : ℕ) : Type 0 where
  pub order : AreInOrder places
  pub apart : AreApart places
  pub numbers : All (λ p. p.signal < number_count) places
  pub sums : All (λ p. p.signal < sum_count) places
  pub few : length places ≤ 200000
