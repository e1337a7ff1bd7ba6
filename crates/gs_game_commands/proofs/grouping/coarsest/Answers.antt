use Rattle.std.proofs.lemmas.Result.{IfOk-weaker}
use Rattle.gs_game_commands.proofs.grouping.coarsest.Goals as goal

pub returns-clause-grouping : goal.returns-clause-grouping
returns-clause-grouping c = IfOk-weaker c.split.result _ _ (λ x h. (c.in_ok-classes.classes.lists, c.in_ok-classes.ensures.classes, h)) c.split.ensures.coarsest
