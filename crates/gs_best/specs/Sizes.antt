-- The room that best answers need.
use Rattle.std.specs.{Prelude.{ℕ, ◌-◌, ◌*◌, ◌<◌, ◌≤◌, ◌==◌, List, length, map, get_or, sum_by, count_by}, List.{range_with_len}}
use Rattle.gs_model.specs.{Classes.{ClassLists, class_count}, Frame.{Frame, last_round, point_count, round_of}, Positions.{at_point}}
use Rattle.gs_best.specs.{Rooms.{AreOfLength, HoldsEntries}, declared.tables.Scratch.{Scratch}, declared.tables.Table.{Table}}

-- how many points a round has
abbrev pub points_of_round : Frame → ℕ → ℕ
points_of_round f round = count_by (λ q. round_of f (at_point q) == round) (range_with_len 0 (point_count f))

-- for each round how many points and how many classes it has
abbrev pub sizes_of : Frame → ClassLists → List (ℕ × ℕ)
sizes_of f lists = map (λ round. (points_of_round f round, class_count lists round)) (range_with_len 1 (last_round f))

-- ---- room by sizes

-- how many points rounds of these sizes have
abbrev pub point_room : List (ℕ × ℕ) → ℕ
point_room sizes = sum_by (λ (n : ℕ × ℕ). n.0) sizes

-- how many values rounds of these sizes have: in each round one for each point and class
abbrev pub value_room : List (ℕ × ℕ) → ℕ
value_room sizes = sum_by (λ (n : ℕ × ℕ). n.0 * n.1) sizes

-- none of the first `rounds` rounds of these sizes has more than `wide` classes
abbrev pub IsWideFor : List (ℕ × ℕ) → ℕ → ℕ → Type 0
IsWideFor sizes rounds wide = (i : ℕ) (d : ℕ × ℕ) → i < rounds → (get_or sizes i d).1 ≤ wide

-- the table and the scratch rows have room for rounds of these sizes
pub record IsRoomy (sizes : List (ℕ × ℕ)) (t : Table) (s : Scratch) : Type 0 where
  pub table : HoldsEntries (point_room sizes) (value_room sizes) t
  pub rows : AreOfLength (IsWideFor sizes (length sizes)) (IsWideFor sizes (length sizes - 1)) s
