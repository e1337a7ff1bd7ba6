use Rattle.gs_simplex.proofs.Slots.{AreSlotsSoFar}
use Rattle.gs_simplex.proofs.start.give_slots.Given as goal

abbrev pub invariant-loop-j : goal.invariant-loop-j
invariant-loop-j l = AreSlotsSoFar l.rows l.j l.owns l.fn.stands l.stands l.place
