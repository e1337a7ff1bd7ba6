-- Laws of plans.
use Rattle.std.specs.Prelude.{ℕ, List}
use Rattle.gs_model.specs.{Classes.{ClassLists}, Frame.{Frame}}
use Rattle.gs_seq.specs.{Faults.{IsFaultOf}, Slots.{IsPlan}, declared.fault.PlanFault.{PlanFault}}

-- a total and weights that form a plan have no fault
abbrev pub PlansHaveNoFault : Type 0
PlansHaveNoFault = (f : Frame) (lists : ClassLists) (player total : ℕ) (weights : List ℕ) (why : PlanFault)
    → IsPlan f lists player total weights → ¬ IsFaultOf f lists player total weights why
