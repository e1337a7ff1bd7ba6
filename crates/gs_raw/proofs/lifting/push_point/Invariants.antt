use Rattle.gs_seq.specs.Games.{frame_in}
use Rattle.gs_raw.specs.Lifts.{IsSpreadBehind}
use Rattle.gs_raw.proofs.lifting.push_point.Given as goal

abbrev pub invariant-loop-signal : goal.invariant-loop-signal
invariant-loop-signal l = IsSpreadBehind (frame_in l.game) l.classes.lists l.point l.signal l.plan.weights.items l.fn.weights.items l.weights.items
