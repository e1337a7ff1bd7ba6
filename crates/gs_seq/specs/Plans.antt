-- Plans as the program holds them.
use Rattle.std.specs.Prelude.{ℕ, ◌≡◌}
use Rattle.gs_model.specs.{Classes.{ClassLists}, Frame.{Frame}, Plans.{Plan as ModelPlan, lift}}
use Rattle.gs_seq.specs.{Slots.{IsPlan, plan_of}, declared.plan.Plan.{Plan}}

-- `p` is a plan of the player over these classes
pub record IsPlanOf (f : Frame) (lists : ClassLists) (player : ℕ) (p : Plan) : Type 0 where
  pub player_is : p.player ≡ player
  pub plan : IsPlan f lists player p.total p.weights.items

-- the program's plan as a plan over classes
abbrev pub class_plan : Frame → ClassLists → Plan → ModelPlan
class_plan f lists p = plan_of f lists p.total p.weights.items

-- the raw plan that the program's plan stands for
abbrev pub lifted : Frame → ClassLists → Plan → ModelPlan
lifted f lists p = lift f lists (class_plan f lists p)
