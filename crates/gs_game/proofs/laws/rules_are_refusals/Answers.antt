use Rattle.gs_game.proofs.Rules.{rules_are_refusals}
use Rattle.gs_game.proofs.laws.rules_are_refusals.Goals as goal

pub returns : goal.returns
returns c = rules_are_refusals
