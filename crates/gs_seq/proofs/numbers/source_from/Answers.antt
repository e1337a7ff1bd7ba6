use Rattle.std.proofs.Common.{arith}
use Rattle.gs_seq.proofs.Points.{length-points, point_reads}
use Rattle.gs_seq.proofs.numbers.source_from.Goals as goal

pub bounds-points-step : goal.bounds-points-step
bounds-points-step c = omega (arith, c.requires.point, length-points c.args.game.now c.points.result.now c.points.ensures)

pub returns-clause-round : goal.returns-clause-round
returns-clause-round c = (point_reads c.args.game.now c.points.result.now c.args.step.point c.index-points-step.result c.points.ensures c.requires.point
    c.index-points-step.is).round

pub returns-clause-moves : goal.returns-clause-moves
returns-clause-moves c =
    let r = point_reads c.args.game.now c.points.result.now c.args.step.point c.index-points-step.result c.points.ensures c.requires.point
    c.index-points-step.is in
    omega (arith, c.len.ensures, r.moves)

pub returns-clause-first : goal.returns-clause-first
returns-clause-first c = grind arith
