use Rattle.gs_certificate.specs.Straight.{AreDigits}
use Rattle.gs_certificate.proofs.straight.digits_in.Given as goal

abbrev pub invariant-loop-i : goal.invariant-loop-i
invariant-loop-i l = AreDigits l.bytes l.size l.i
