-- Best values kept as one list: the points in order, for each point the classes of its round.
use Rattle.std.specs.{Prelude.{ℕ, ◌+◌, ◌-◌, ◌<◌, ◌≡◌, List, get_or, slice_index, ℤ, pos, sum_by}, List.{range_with_len}}
use Rattle.gs_model.specs.{BestAnswers.{Values, end_worth}, Classes.{ClassLists, IsClass, class_count, first_member}}
use Rattle.gs_model.specs.{Frame.{Frame, move_count, player_at, point_count, round_of}, Plans.{Plan}, Positions.{at_end, at_point}}

-- how many classes the round of a point has
abbrev pub classes_at : Frame → ClassLists → ℕ → ℕ
classes_at f lists q = class_count lists (round_of f (at_point q))

-- the place of a point's first class in the list
abbrev pub start_of : Frame → ClassLists → ℕ → ℕ
start_of f lists q = sum_by (classes_at f lists) (range_with_len 0 q)

-- the values at points, read from a list; at an end, what it is worth to the class's first member
abbrev pub table_of : Frame → ClassLists → ℕ → Plan → List ℤ → Values
table_of f lists player y values (at_point q) c = get_or values (start_of f lists q + (c - 1)) (pos 0)
table_of f lists player y values (at_end z) c = end_worth f player y z (first_member lists (round_of f (at_end z)) c)

-- the moves at points, read from a list
abbrev pub moves_of : Frame → ClassLists → List ℕ → ℕ → ℕ → ℕ
moves_of f lists picks q c = slice_index picks (start_of f lists q + (c - 1))

-- `starts` has for each point the place of its first class
abbrev pub AreStarts : Frame → ClassLists → List ℕ → Type 0
AreStarts f lists starts = (q : ℕ) → q < point_count f → slice_index starts q ≡ start_of f lists q

-- at each class of a player's points `move` names a move of the point
abbrev pub AreInMoves : Frame → ClassLists → ℕ → (ℕ → ℕ → ℕ) → Type 0
AreInMoves f lists player move = (q c : ℕ) → q < point_count f → player_at f q ≡ player → IsClass lists (round_of f (at_point q)) c
    → move q c < move_count f q
