use Rattle.std.proofs.Common.{subst, sym}
use Rattle.gs_file.specs.Views.{valid_view}
use Rattle.gs_game_commands.specs.Asked.{says_of}
use Rattle.gs_reply.specs.Replies.{Answers}
use Rattle.gs_game_commands.proofs.settling.with_classes.Goals as goal

pub returns-in-Classes : goal.returns-in-Classes
returns-in-Classes c =
    let g = valid_view c.args.signals.now.game.now in
    subst (λ q. Answers (says_of q c.args.grouping g) c.listed.result) (sym c.in-Classes.is) c.listed.ensures

pub returns-in-Over : goal.returns-in-Over
returns-in-Over c =
    let g = valid_view c.args.signals.now.game.now in
    subst (λ q. Answers (says_of q c.args.grouping g) c.of_classes.result) (sym c.in-Over.is) c.of_classes.ensures
