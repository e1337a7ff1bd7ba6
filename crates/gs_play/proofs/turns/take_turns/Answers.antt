use Rattle.std.proofs.Common.{arith}
use Rattle.gs_play.proofs.turns.take_turns.Goals as goal

pub returns : goal.returns
returns c = grind arith

pub turn-now-requires-clause-plot : goal.turn-now-requires-clause-plot
turn-now-requires-clause-plot c = grind arith
