-- Why a total and weights do not form a plan of a player.
use Rattle.std.specs.Prelude.{ℕ, ◌^◌, ◌<◌, ◌≤◌, ◌≡◌, ◌≢◌, ◌⊎◌, List, length, sum_by}
use Rattle.gs_model.specs.{Classes.{ClassLists, first_member, IsClass}, Frame.{Frame, point_count, player_at, round_of, choices_at, last_step}}
use Rattle.gs_model.specs.{Plans.{Plan, lift, number_before}, Positions.{at_point}}
use Rattle.gs_seq.specs.{Slots.{slot_count, plan_of}, declared.fault.PlanFault.{PlanFault}, declared.fault.PlanFault.TheVariants.{Length, Total, Flow}}

-- at a point and a class the numbers of the choices add up to the number of the player's last step before the point.
-- If there is no such step, they add up to the total
abbrev pub FlowsAt : Frame → ClassLists → ℕ → Plan → ℕ → ℕ → Type 0
FlowsAt f lists player x q c =
    let round = round_of f (at_point q) in
    sum_by (λ m. x.number q c m) (choices_at f q) ≡ number_before f (lift f lists x) (last_step f player (at_point q)) round (first_member lists round c)

-- the numbers add up at all classes of the player's points before the point `q`
abbrev pub FlowsBefore : Frame → ClassLists → ℕ → Plan → ℕ → Type 0
FlowsBefore f lists player x q = (p c : ℕ) → p < q → player_at f p ≡ player → IsClass lists (round_of f (at_point p)) c → FlowsAt f lists player x p c

-- the numbers add up at the classes of the point `q` before the class `c`
abbrev pub FlowsBelow : Frame → ClassLists → ℕ → Plan → ℕ → ℕ → Type 0
FlowsBelow f lists player x q c = (k : ℕ) → 0 < k → k < c → FlowsAt f lists player x q k

-- the first place, by point and class, where the numbers do not add up
pub record IsFirstLeak (f : Frame) (lists : ClassLists) (player : ℕ) (x : Plan) (q c : ℕ) : Type 0 where
  pub point_in : q < point_count f
  pub own : player_at f q ≡ player
  pub class_in : IsClass lists (round_of f (at_point q)) c
  pub points : FlowsBefore f lists player x q
  pub classes : FlowsBelow f lists player x q c
  pub here : FlowsAt f lists player x q c → ⊥

-- a fault names the first broken rule: a wrong number of weights, then a total that is 0 or over 2^36, then the first place where the numbers do not add up
abbrev pub IsFaultOf : Frame → ClassLists → ℕ → ℕ → List ℕ → PlanFault → Type 0
IsFaultOf f lists player total weights (Length want) = (want ≡ slot_count f lists player) × (length weights ≢ want)
IsFaultOf f lists player total weights Total = (length weights ≡ slot_count f lists player) × ((total ≡ 0) ⊎ (2 ^ 36 < total))
IsFaultOf f lists player total weights (Flow point class) =
    (length weights ≡ slot_count f lists player) × (0 < total) × (total ≤ 2 ^ 36) × IsFirstLeak f lists player (plan_of f lists total weights) point class
