use Rattle.std.proofs.Common.{arith}
use Rattle.gs_model.proofs.Walked.{last_round_of}
use Rattle.gs_game.specs.Games.{game_of}
use Rattle.gs_seq.proofs.Points.{playable}
use Rattle.gs_best.proofs.tables.scratch_for.Goals as goal

pub overflow_sub-round_total : goal.overflow_sub-round_total
overflow_sub-round_total c =
    let g = c.args.form.now.lossless.now.signals.now.game.now in
    let some = (playable g).some in
    omega (arith, c.round_total.ensures.value, last_round_of (game_of g.game), some)

pub returns : goal.returns
returns c = grind arith
