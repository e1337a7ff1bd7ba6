use Rattle.std.proofs.Common.{◌≡◌, ◌∙◌, length, ap, arith}
use Rattle.gs_game.specs.declared.valid.ValidGame.{ValidGame}
use Rattle.gs_model.specs.Frame.{end_count}
use Rattle.gs_seq.specs.{Abstracts.{abstract_frame}, Games.{frame_in}}
use Rattle.gs_seq.proofs.{Ends.{length-ends}, Forms.{given_in}, form.Abstract.end_total.Goals.{After-ends}}
use Rattle.gs_seq.proofs.form.Abstract.end_total.Goals as goal

count : (c : After-ends) → length c.ends.result.now ≡ end_count (abstract_frame c.args.self.now)
count c = length-ends c.game.result.now c.ends.result.now c.ends.ensures ∙ ap (λ (g : ValidGame). end_count (frame_in g)) c.game.ensures

pub overflow_cast-result : goal.overflow_cast-result
overflow_cast-result c = omega (arith, count (goal.at.overflow_cast-result c).After-ends, (given_in c.args.self.now).modest.ends)

pub returns : goal.returns
returns c = omega (arith, count (goal.at.returns c).After-ends)
