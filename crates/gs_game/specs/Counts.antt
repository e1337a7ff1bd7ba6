-- The numbers of points and ends that a betting tree leads to.
use Rattle.std.specs.Prelude.{ℕ, suc, ◌+◌, List, [], ◌∷◌}
use Rattle.gs_model.specs.Betting.{Bet, Moves, act, fold, even, none, move}

abbrev mutual
  -- the number of ends below a tree; behind each even leaf there are `more`
  pub ends_of : ℕ → Bet → ℕ
  ends_of more (act player moves) = move_ends more moves
  ends_of more fold = 1
  ends_of more even = more

  -- the number of ends below the moves of a choice
  pub move_ends : ℕ → Moves → ℕ
  move_ends more none = 0
  move_ends more (move letter chips next moves) = ends_of more next + move_ends more moves

abbrev mutual
  -- the number of points of a tree and below it; behind each even leaf there are `more`
  pub points_of : ℕ → Bet → ℕ
  points_of more (act player moves) = suc (move_points more moves)
  points_of more fold = 0
  points_of more even = more

  -- the number of points below the moves of a choice
  pub move_points : ℕ → Moves → ℕ
  move_points more none = 0
  move_points more (move letter chips next moves) = points_of more next + move_points more moves

-- the number of ends of the rounds that are left; after the last round comes the showdown, one end
abbrev pub ends_in : List Bet → ℕ
ends_in [] = 1
ends_in (t ∷ ts) = ends_of (ends_in ts) t

-- the number of points of the rounds that are left
abbrev pub points_in : List Bet → ℕ
points_in [] = 0
points_in (t ∷ ts) = points_of (points_in ts) t
