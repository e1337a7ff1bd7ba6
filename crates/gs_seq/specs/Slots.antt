-- Plans over classes as lists of weights in slot order: a player's points in order, for each point the classes of its round, for each class the moves.
-- Source: the sequences of the sequence form (von Stengel 1996).
use Rattle.std.specs.{Prelude.{ℕ, ◌+◌, ◌-◌, ◌*◌, ◌==◌, ◌≡◌, ◌<◌, List, length, slice_index, if◌then◌else◌, sum_by}, List.{range_with_len}}
use Rattle.gs_model.specs.{Classes.{ClassLists, class_count}, Frame.{Frame, point_count, player_at, move_count, round_of}, Plans.{Plan, IsClassPlan}}
use Rattle.gs_model.specs.Positions.{at_point}

-- how many slots a player has at a point: one for each class of its round and each move, or 0 if the other player chooses there
abbrev pub slots_at : Frame → ClassLists → ℕ → ℕ → ℕ
slots_at f lists player q = if player_at f q == player then class_count lists (round_of f (at_point q)) * move_count f q else 0

-- how many slots a player has at the points before a point
abbrev pub slots_before : Frame → ClassLists → ℕ → ℕ → ℕ
slots_before f lists player q = sum_by (slots_at f lists player) (range_with_len 0 q)

-- how many slots a player has
abbrev pub slot_count : Frame → ClassLists → ℕ → ℕ
slot_count f lists player = slots_before f lists player (point_count f)

-- a player's sequences: one for each slot, and the empty one
abbrev pub sequence_count : Frame → ClassLists → ℕ → ℕ
sequence_count f lists player = slot_count f lists player + 1

-- the slot of a move at a point and a class, among those of the player who chooses there
abbrev pub slot_of : Frame → ClassLists → ℕ → ℕ → ℕ → ℕ
slot_of f lists q c m = slots_before f lists (player_at f q) q + ((c - 1) * move_count f q + m)

-- a total and weights in slot order, as a plan
abbrev pub plan_of : Frame → ClassLists → ℕ → List ℕ → Plan
plan_of f lists total weights = record { total = total; number = λ q c m. slice_index weights (slot_of f lists q c m) }

-- a total and weights form a plan of a player: there is one weight for each slot, and they are a plan over classes
pub record IsPlan (f : Frame) (lists : ClassLists) (player total : ℕ) (weights : List ℕ) : Type 0 where
  pub long : length weights ≡ slot_count f lists player
  pub plan : IsClassPlan f lists player (plan_of f lists total weights)

-- for each point the slot of its first class and its first move
pub record AreOffsets (f : Frame) (lists : ClassLists) (offsets : List ℕ) : Type 0 where
  pub long : length offsets ≡ point_count f
  pub first : (q : ℕ) → q < point_count f → slice_index offsets q ≡ slots_before f lists (player_at f q) q
