-- A player's last step before a position, and the first place where the numbers of a plan do not add up.
use Rattle.std.specs.Prelude.{ℕ, ◌+◌, ◌-◌, ◌*◌, ◌≡◌, List, get_or, Option, Some, None}
use Rattle.gs_filter.specs.Filter.{Filter}
use Rattle.gs_model.specs.{Classes.{ClassLists, class_of, first_member, IsClass}, Frame.{Frame, ancestor, point_count, move_count, round_of, last_step}}
use Rattle.gs_model.specs.{FrameFacts.{InRange}, Plans.{Plan}, Positions.{Step, Target, at_point}}
use Rattle.gs_seq.specs.{Faults.{FlowsAt, FlowsBefore, FlowsBelow, IsFirstLeak}, Slots.{slots_before}, declared.flows.StepSource.{StepSource}}

-- `above` is the class of round `to` from which a class descends: the class of its first member's ancestor, in each frame with these parents
abbrev pub IsClassAbove : Filter → ℕ → ℕ → ℕ → ℕ → Type 0
IsClassAbove c round to class above = (f : Frame) → InRange f → f.parents ≡ c.parents
    → above ≡ class_of c.lists to (ancestor f round to (first_member c.lists round class))

-- the slot of a step at a class
abbrev pub slot_above : StepSource → ℕ → ℕ
slot_above step above = step.first + ((above - 1) * step.moves + step.choice)

-- the weight of a step, at the class of the step's round from which a class descends
abbrev pub IsWeightAbove : Filter → StepSource → ℕ → ℕ → List ℕ → ℕ → Type 0
IsWeightAbove c step round class weights weight = (above : ℕ) × IsClass c.lists step.round above × IsClassAbove c round step.round class above
    × (weight ≡ get_or weights (slot_above step above) 0)

-- what the program keeps of a player's last step before a position
pub record IsSource (f : Frame) (lists : ClassLists) (player : ℕ) (to : Target) (u : Step) (s : StepSource) : Type 0 where
  pub made : last_step f player to ≡ Some u
  pub round : s.round ≡ round_of f (at_point u.point)
  pub first : s.first ≡ slots_before f lists player u.point
  pub moves : s.moves ≡ move_count f u.point
  pub choice : s.choice ≡ u.choice

-- a player's last step before a position; `None` if there is no such step
abbrev pub MatchSource : Frame → ClassLists → ℕ → Target → Option StepSource → Type 0
MatchSource f lists player to None = last_step f player to ≡ None
MatchSource f lists player to (Some s) = (u : Step) × IsSource f lists player to u s

-- the first class of a point where the numbers do not add up; `None` if they add up at every class
abbrev pub FirstLeakAt : Frame → ClassLists → ℕ → Plan → ℕ → Option ℕ → Type 0
FirstLeakAt f lists player x q None = (c : ℕ) → IsClass lists (round_of f (at_point q)) c → FlowsAt f lists player x q c
FirstLeakAt f lists player x q (Some c) = IsClass lists (round_of f (at_point q)) c × FlowsBelow f lists player x q c × (FlowsAt f lists player x q c → ⊥)

-- the first point and class where the numbers do not add up; `None` if they add up everywhere
abbrev pub FirstLeakIn : Frame → ClassLists → ℕ → Plan → Option (ℕ × ℕ) → Type 0
FirstLeakIn f lists player x None = FlowsBefore f lists player x (point_count f)
FirstLeakIn f lists player x (Some p) = IsFirstLeak f lists player x p.0 p.1
