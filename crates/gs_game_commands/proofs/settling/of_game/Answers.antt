use Rattle.std.proofs.Common.{subst}
use Rattle.gs_file.specs.Views.{valid_view}
use Rattle.gs_game.specs.declared.valid.ValidGame.{ValidGame}
use Rattle.gs_game_commands.specs.Asked.{says_of}
use Rattle.gs_reply.specs.Replies.{Answers}
use Rattle.gs_game_commands.proofs.settling.of_game.Goals as goal

pub returns : goal.returns
returns c =
    subst (λ (v : ValidGame). Answers (says_of c.args.question.now c.args.grouping (valid_view v)) c.with_classes.result) c.in_ok-signals.ensures
    c.with_classes.ensures

pub invariant_of-signals : goal.invariant_of-signals
invariant_of-signals c = record { sound = c.in_ok-signals.signals.sound }

pub invariant_of-signals-2 : goal.invariant_of-signals-2
invariant_of-signals-2 c = record { sound = c.in_ok-signals.signals.sound }
