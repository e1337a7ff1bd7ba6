use Rattle.std.proofs.Common.{take}
use Rattle.gs_seq.specs.Rows.{AreWholes}
use Rattle.gs_seq.proofs.rows.wholes_of.Given as goal

abbrev pub invariant-loop-in_round : goal.invariant-loop-in_round
invariant-loop-in_round l = AreWholes (take l.in_round-index l.rows) l.wholes.items
