use Rattle.std.proofs.Common.{◌+◌, ◌-◌, ◌*◌, ◌<◌, ◌^◌, ap, arith}
use Rattle.gs_seq.proofs.flows.weight_above.Goals as goal
use Rattle.gs_seq.proofs.flows.weight_above.Goals.{After-from}

few : (c : After-from) → c.args.step.first + ((c.from.result - 1) * c.args.step.moves + c.args.step.choice) < 2 ^ 60
few c = omega (arith, c.requires.few c.class_above-above.result c.class_above-above.ensures.class, ap (λ k. (k - 1) * c.args.step.moves) c.from.ensures)

pub overflow_mul-slot : goal.overflow_mul-slot
overflow_mul-slot c = omega (arith, few (goal.at.overflow_mul-slot c).After-from)

pub overflow_add-slot : goal.overflow_add-slot
overflow_add-slot c = omega (arith, few (goal.at.overflow_add-slot c).After-from)

pub bounds-weights-slot : goal.bounds-weights-slot
bounds-weights-slot c = grind arith

pub overflow_add-slot-2 : goal.overflow_add-slot-2
overflow_add-slot-2 c = grind arith

pub returns : goal.returns
returns c = grind arith

pub offset_bounds-weights-slot : goal.offset_bounds-weights-slot
offset_bounds-weights-slot c = grind arith
