-- The lines of a game: each position of its betting trees, in the order of the walk, with the text that leads to it. Source: this project's texts.
use Rattle.std.specs.Prelude.{ℕ, ◌+◌, ◌-◌, ◌^◌, ◌<◌, ◌≤◌, ◌≡◌, ◌==◌, List, [], ◌∷◌, ◌++◌, Option, Some, None, slice_get, if◌then◌else◌}
use Rattle.gs_model.specs.{Betting.{Bet, Moves, act, fold, even, none, move}, Positions.{Target, at_point, at_end}}
use Rattle.gs_game.specs.{Counts.{points_of, ends_of, move_points, move_ends, points_in, ends_in}, Refusals.{no_even_from}}

-- the texts of points and of ends, by number
pub record Texts : Type 0 where
  pub points : List (List ℕ)
  pub ends : List (List ℕ)

abbrev mutual
  -- the texts of the positions of a tree, each beginning with `before`; `go_on` gives the texts of what follows an even leaf
  pub tree_lines : (List ℕ → Texts) → List ℕ → Bet → Texts
  tree_lines go_on before (act player moves) = let below = move_lines go_on before moves in record { points = before ∷ below.points; ends = below.ends }
  tree_lines go_on before fold = record { points = []; ends = before ∷ [] }
  tree_lines go_on before even = go_on before

  -- the texts of the positions that the moves of a choice lead to, each beginning with the text of the choice
  pub move_lines : (List ℕ → Texts) → List ℕ → Moves → Texts
  move_lines go_on before none = record { points = []; ends = [] }
  move_lines go_on before (move letter chips next moves) =
      let first = tree_lines go_on (before ++ letter ∷ []) next in
      let others = move_lines go_on before moves in
      record { points = first.points ++ others.points; ends = first.ends ++ others.ends }

-- the texts of the positions of the rounds that are left, with a slash before each round; after the last round there is one end
abbrev pub lines_from : List Bet → List ℕ → Texts
lines_from [] before = record { points = []; ends = before ∷ [] }
lines_from (t ∷ ts) before = tree_lines (lines_from ts) (before ++ 47 ∷ []) t

-- the texts of all positions of a game, by its trees
abbrev pub lines : List Bet → Texts
lines trees = lines_from trees []

-- the text of a position
abbrev pub text_at : Texts → Target → Option (List ℕ)
text_at x (at_point q) = slice_get x.points q
text_at x (at_end z) = slice_get x.ends z

-- ---- the position that a text names, by going along it; points and ends are numbered from the given numbers on

abbrev mutual
  -- the position that a text names in a tree. Behind each even leaf there are `more_points` and `more_ends`, and `go_on` follows the text there
  pub follow : (ℕ → ℕ → List ℕ → Option Target) → ℕ → ℕ → ℕ → ℕ → Bet → List ℕ → Option Target
  follow go_on more_points more_ends points ends (act player moves) [] = Some (at_point points)
  follow go_on more_points more_ends points ends (act player moves) (b ∷ text) = follow_moves go_on more_points more_ends (points + 1) ends moves b text
  follow go_on more_points more_ends points ends fold [] = Some (at_end ends)
  follow go_on more_points more_ends points ends fold (b ∷ text) = None
  follow go_on more_points more_ends points ends even text = go_on points ends text

  -- the position that a text names behind a choice; the letter b names the move
  pub follow_moves : (ℕ → ℕ → List ℕ → Option Target) → ℕ → ℕ → ℕ → ℕ → Moves → ℕ → List ℕ → Option Target
  follow_moves go_on more_points more_ends points ends none b text = None
  follow_moves go_on more_points more_ends points ends (move letter chips next moves) b text =
      if letter == b then follow go_on more_points more_ends points ends next text
      else follow_moves go_on more_points more_ends (points + points_of more_points next) (ends + ends_of more_ends next) moves b text

-- the position that a text names in the rounds that are left, with a slash before each round
abbrev pub follow_from : List Bet → ℕ → ℕ → List ℕ → Option Target
follow_from [] points ends [] = Some (at_end ends)
follow_from [] points ends (b ∷ text) = None
follow_from (t ∷ ts) points ends [] = None
follow_from (t ∷ ts) points ends (b ∷ text) = if b == 47 then follow (follow_from ts) (points_in ts) (ends_in ts) points ends t text else None

-- ---- the numbers of points and ends along the way are small

-- each tree of the rounds that are left, but the last, has an even leaf; the numbers of their points and ends stay below 2^32
pub record RoundsFollow (ts : List Bet) (points ends : ℕ) : Type 0 where
  pub evens : no_even_from 1 ts ≡ None
  pub few_points : points + points_in ts < 2 ^ 32
  pub few_ends : ends + ends_in ts < 2 ^ 32

-- a tree and the rounds after it: each round but the last has an even leaf, and the numbers of all points and ends stay below 2^32
pub record TreeFollows (rest : List Bet) (t : Bet) (points ends : ℕ) : Type 0 where
  pub evens : no_even_from 1 rest ≡ None
  pub few_points : points + points_of (points_in rest) t < 2 ^ 32
  pub few_ends : ends + ends_of (ends_in rest) t < 2 ^ 32

-- the moves of a choice and the rounds after it: each round but the last has an even leaf, and the numbers of all points and ends stay below 2^32
pub record MovesFollow (rest : List Bet) (ms : Moves) (points ends : ℕ) : Type 0 where
  pub evens : no_even_from 1 rest ≡ None
  pub few_points : points + move_points (points_in rest) ms < 2 ^ 32
  pub few_ends : ends + move_ends (ends_in rest) ms < 2 ^ 32

-- ---- positions by number among points and ends

-- a position is among the first points, or among the first ends, by these counts
abbrev pub IsAmong : ℕ → ℕ → Target → Type 0
IsAmong points ends (at_point q) = q < points
IsAmong points ends (at_end z) = z < ends

-- a position comes after the first points and ends; `further` is the same position, numbered without these
abbrev pub IsPast : ℕ → ℕ → Target → Target → Type 0
IsPast points ends (at_point q) further = (points ≤ q) × (further ≡ at_point (q - points))
IsPast points ends (at_end z) further = (ends ≤ z) × (further ≡ at_end (z - ends))
