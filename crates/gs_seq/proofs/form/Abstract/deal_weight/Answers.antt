use Rattle.std.proofs.Common.{ap, arith}
use Rattle.gs_game.specs.declared.valid.ValidGame.{ValidGame}
use Rattle.gs_model.specs.Frame.{total_weight}
use Rattle.gs_seq.specs.{Games.{frame_in}, Abstracts.{game_in}}
use Rattle.gs_seq.proofs.SomeDeal.{some_deal}
use Rattle.gs_seq.proofs.form.Abstract.deal_weight.Goals as goal

pub returns-clause-some : goal.returns-clause-some
returns-clause-some c = omega (arith, c.weight.ensures, ap (λ (g : ValidGame). total_weight (frame_in g)) c.game.ensures, some_deal (game_in c.args.self.now))

pub returns-clause-value : goal.returns-clause-value
returns-clause-value c = grind arith
