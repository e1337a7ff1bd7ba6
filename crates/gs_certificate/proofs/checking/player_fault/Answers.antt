use Rattle.std.proofs.Common.{arith}
use Rattle.gs_certificate.proofs.checking.player_fault.Goals as goal

pub bound_fault-requires : goal.bound_fault-requires
bound_fault-requires c = grind arith

pub invariant_of-side : goal.invariant_of-side
invariant_of-side c = grind arith

pub returns-in-Some : goal.returns-in-Some
returns-in-Some c = grind arith
