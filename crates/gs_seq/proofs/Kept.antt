-- Where a total and weights keep the rules of plans, no fault tells that one is broken.
use Rattle.std.proofs.Common.{ℕ, List, inl, inr, sym, ◌∙◌, arith}
use Rattle.gs_model.specs.{Classes.{ClassLists}, Frame.{Frame}}
use Rattle.gs_seq.specs.{Faults.{IsFaultOf}, Slots.{IsPlan}, declared.fault.PlanFault.{PlanFault}, declared.fault.PlanFault.TheVariants.{Length, Total, Flow}}

pub plan_kept : (f : Frame) (lists : ClassLists) (player total : ℕ) (weights : List ℕ) (why : PlanFault) → IsPlan f lists player total weights
    → IsFaultOf f lists player total weights why → ⊥
plan_kept f lists player total weights (Length want) h e = e.1 (h.long ∙ sym e.0)
plan_kept f lists player total weights Total h e =
    let within = h.plan.total_in in
    elim e.1 [ inl zero ↦ omega (arith, zero, within) | inr wide ↦ omega (arith, wide, within) ]
plan_kept f lists player total weights (Flow q c) h e = let leak = e.3 in leak.here (h.plan.flow q c leak.point_in leak.own leak.class_in)
