use Rattle.std.proofs.Common.{subst, sym}
use Rattle.gs_reply.specs.Replies.{Answers}
use Rattle.gs_strategy.specs.Views.{stored_view}
use Rattle.gs_strategy_commands.specs.Wanted.{says_wanted}
use Rattle.gs_strategy_commands.proofs.answers.told.Goals as goal

pub returns-in-Mixture : goal.returns-in-Mixture
returns-in-Mixture c =
    subst (λ w. Answers (says_wanted w (stored_view c.args.stored.now)) c.located.result) (sym c.in-Mixture.is) c.located.ensures
