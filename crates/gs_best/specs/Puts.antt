-- Weights of the plan that puts all weight on given moves, while they are being written.
use Rattle.std.specs.Prelude.{ℕ, ◌≡◌, ◌<◌, ◌==◌, List, slice_index, if◌then◌else◌}
use Rattle.gs_model.specs.{Classes.{ClassLists, IsClass, first_member}, Frame.{Frame, last_step, move_count, player_at, round_of}, Plans.{lift, number_before}}
use Rattle.gs_model.specs.Positions.{at_point}
use Rattle.gs_seq.specs.Slots.{plan_of, slot_of}

-- at a class of a point the given move has all the weight that comes there, and the other moves have 0
abbrev pub IsPutAt : Frame → ClassLists → ℕ → (ℕ → ℕ → ℕ) → List ℕ → ℕ → ℕ → Type 0
IsPutAt f lists player move weights q c =
    let round = round_of f (at_point q) in
    (m : ℕ) → m < move_count f q
    → slice_index weights (slot_of f lists q c m) ≡ (if m == move q c then number_before f (lift f lists (plan_of f lists 1 weights))
    (last_step f player (at_point q)) round (first_member lists round c) else 0)

-- the given move has all the weight at all classes of the player's points before the point `q`
abbrev pub ArePutBefore : Frame → ClassLists → ℕ → (ℕ → ℕ → ℕ) → List ℕ → ℕ → Type 0
ArePutBefore f lists player move weights q = (p c : ℕ) → p < q → player_at f p ≡ player → IsClass lists (round_of f (at_point p)) c
    → IsPutAt f lists player move weights p c
