use Rattle.std.proofs.Common.{sym, arith}
use Rattle.gs_seq.specs.Games.{frame_in}
use Rattle.gs_seq.proofs.Ends.{end_one, end_reads, end_two, no_end, length-ends}
use Rattle.gs_seq.proofs.numbers.end_step.Goals as goal

pub returns-then-player-eq1 : goal.returns-then-player-eq1
returns-then-player-eq1 c =
    let r = end_reads c.args.game.now c.ends.result.now c.args.end no_end c.ends.ensures
    c.requires in sym (end_one (frame_in c.args.game.now) c.args.player c.args.end _ r c.if-player-eq1.true)

pub returns-else-player-eq1 : goal.returns-else-player-eq1
returns-else-player-eq1 c =
    let r = end_reads c.args.game.now c.ends.result.now c.args.end no_end c.ends.ensures
    c.requires in sym (end_two (frame_in c.args.game.now) c.args.player c.args.end _ r c.if-player-eq1.false)

pub bounds-ends-end : goal.bounds-ends-end
bounds-ends-end c = omega (arith, c.requires, length-ends c.args.game.now c.ends.result.now c.ends.ensures)
