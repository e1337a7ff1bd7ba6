use Rattle.std.proofs.Common.{◌<◌, sym, subst}
use Rattle.gs_simplex.proofs.Slots.{slots_more, slots_own}
use Rattle.gs_simplex.proofs.start.give_slots.Goals as goal

pub loop-j-preserved : goal.loop-j-preserved
loop-j-preserved c = slots_more c.loop-j.invariant (subst (λ n. c.loop-j.j < n) (sym c.loop-j.auto.stands) c.loop-j-test.true)

pub loop-j-preserved-then-is_own : goal.loop-j-preserved-then-is_own
loop-j-preserved-then-is_own c = let own = c.is_own.ensures c.if-is_own.true in slots_own c.loop-j.invariant own.0 own.1
