use Rattle.gs_seq.specs.Games.{frame_in}
use Rattle.gs_raw.proofs.Spread.{IsSpreadTo}
use Rattle.gs_raw.proofs.lifting.spread.Given as goal

abbrev pub invariant-loop-point : goal.invariant-loop-point
invariant-loop-point l = IsSpreadTo (frame_in l.game) l.classes.lists l.plan.player l.plan.weights.items l.weights.items l.first l.point
