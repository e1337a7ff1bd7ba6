-- Weights of the plan that takes the first move everywhere, while they are being written, and the weight that comes to a class.
use Rattle.std.specs.Prelude.{ℕ, ◌≡◌, ◌<◌, ◌≤◌, List, slice_index}
use Rattle.gs_model.specs.{Classes.{ClassLists, IsClass, first_member}, Frame.{Frame, last_step, move_count, player_at, round_of}, Plans.{lift, number_before}}
use Rattle.gs_model.specs.Positions.{at_point}
use Rattle.gs_seq.specs.Slots.{plan_of, slot_of}

-- at a class of a point the first move has all the weight that comes there, and the other moves have 0
pub record IsFirstAt (f : Frame) (lists : ClassLists) (player : ℕ) (weights : List ℕ) (q c : ℕ) : Type 0 where
  pub came : let round = round_of f (at_point q) in
      slice_index weights (slot_of f lists q c 0) ≡ number_before f (lift f lists (plan_of f lists 1 weights)) (last_step f player (at_point q)) round
      (first_member lists round c)
  pub others : (m : ℕ) → 0 < m → m < move_count f q → slice_index weights (slot_of f lists q c m) ≡ 0

-- the first move has all the weight at all classes of the player's points before the point `q`
abbrev pub AreFirstBefore : Frame → ClassLists → ℕ → List ℕ → ℕ → Type 0
AreFirstBefore f lists player weights q = (p c : ℕ) → p < q → player_at f p ≡ player → IsClass lists (round_of f (at_point p)) c
    → IsFirstAt f lists player weights p c

-- two lists agree before the place `n`
abbrev pub AgreeBefore : ℕ → List ℕ → List ℕ → Type 0
AgreeBefore n xs ys = (k : ℕ) → k < n → slice_index ys k ≡ slice_index xs k

-- from the place `n` on all weights are 0
abbrev pub IsClear : ℕ → List ℕ → Type 0
IsClear n xs = (k : ℕ) → n ≤ k → slice_index xs k ≡ 0

-- the weight that comes to a class of a point: the number of the player's last step before it, or the total if there is no such step
abbrev pub IsComing : Frame → ClassLists → ℕ → List ℕ → ℕ → ℕ → ℕ → Type 0
IsComing f lists total weights q c came =
    let round = round_of f (at_point q) in
    came ≡ number_before f (lift f lists (plan_of f lists total weights)) (last_step f (player_at f q) (at_point q)) round (first_member lists round c)
