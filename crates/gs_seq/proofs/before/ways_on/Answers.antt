use Rattle.std.proofs.Common.{◌≡◌, ◌∙◌, ap, arith}
use Rattle.std.specs.Prelude.{◌/◌}
use Rattle.gs_game.specs.declared.valid.ValidGame.{ValidGame}
use Rattle.gs_model.specs.Frame.{total_weight}
use Rattle.gs_seq.specs.Games.{frame_in}
use Rattle.gs_seq.proofs.{SomeDeal.{some_deal}, Stopped.{quotient}}
use Rattle.gs_seq.proofs.before.ways_on.Goals as goal

pub nonzero_div-result : goal.nonzero_div-result
nonzero_div-result c =
    let same : c.weight-2.result ≡ total_weight (frame_in c.args.at.now.stopped.now.game.now) = c.weight-2.ensures
    ∙ ap (λ (g : ValidGame). total_weight (frame_in g)) c.game-2.ensures in
    omega (arith, same, some_deal c.args.at.now.stopped.now.game.now)

pub returns : goal.returns
returns c =
    let all : c.weight.result ≡ total_weight (frame_in c.args.at.now.lossless.now.signals.now.game.now) = c.weight.ensures
    ∙ ap (λ (g : ValidGame). total_weight (frame_in g)) c.game.ensures in
    let same : c.weight-2.result ≡ total_weight (frame_in c.args.at.now.stopped.now.game.now) = c.weight-2.ensures
    ∙ ap (λ (g : ValidGame). total_weight (frame_in g)) c.game-2.ensures in
    ap (λ n. n / c.weight-2.result) all ∙ ap (λ n. total_weight (frame_in c.args.at.now.lossless.now.signals.now.game.now) / n) same
    ∙ quotient c.args.at.now.lossless.now.signals.now.game.now c.args.at.now.stopped.now.game.now c.args.at.now.round c.args.at.now.some
    (omega (arith, c.args.at.now.before_last)) c.args.at.now.stops
