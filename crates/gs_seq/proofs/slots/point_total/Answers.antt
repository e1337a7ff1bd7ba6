use Rattle.std.proofs.Common.{arith}
use Rattle.gs_seq.proofs.Points.{few, length-points}
use Rattle.gs_seq.proofs.slots.point_total.Goals as goal

pub overflow_cast-result : goal.overflow_cast-result
overflow_cast-result c = omega (arith, length-points c.args.game.now c.points.result.now c.points.ensures, (few c.args.game.now).points)

pub returns : goal.returns
returns c = length-points c.args.game.now c.points.result.now c.points.ensures
