use Rattle.gs_file.specs.Views.{valid_view}
use Rattle.gs_game_commands.specs.Asked.{says_asked}
use Rattle.gs_game_commands.proofs.{Said.{IsOver, is_over, large, said, unlike}, settling.of_classes.Goals.{In_ok-lossless}}
use Rattle.gs_game_commands.proofs.settling.of_classes.Goals as goal

-- the classes are those of the grouping over the game
over : (c : In_ok-lossless) → IsOver c.args.grouping (valid_view c.args.signals.now.game.now) c.in_ok-lossless.lossless
over c =
    is_over c.args.grouping c.args.signals.now c.args.classes.now c.in_ok-lossless.lossless c.requires.grouping c.in_ok-lossless.ensures.held_signals
    c.in_ok-lossless.ensures.held_classes c.in_ok-lossless.ensures.lossless

pub returns-in_err-lossless : goal.returns-in_err-lossless
returns-in_err-lossless c =
    unlike (says_asked c.args.asked.now) c.args.grouping (valid_view c.args.signals.now.game.now) _ _ c.from_residual.ensures.1
    c.in_err-lossless.ensures.unlike

pub returns-in_err-form : goal.returns-in_err-form
returns-in_err-form c =
    large (says_asked c.args.asked.now) c.args.grouping (valid_view c.args.signals.now.game.now) _ c.in_ok-lossless.lossless
    (over (goal.at.returns-in_err-form c).In_ok-lossless) _ c.from_residual-in_err-form.ensures.1 c.in_err-form.ensures.large

pub returns : goal.returns
returns c =
    said (says_asked c.args.asked.now) c.args.grouping (valid_view c.args.signals.now.game.now) c.of_form.result c.in_ok-lossless.lossless
    (over (goal.at.returns c).In_ok-lossless) c.in_ok-form.form c.in_ok-form.ensures.held c.in_ok-form.ensures.small c.of_form.ensures

pub of_form-requires : goal.of_form-requires
of_form-requires c = c.in_ok-form.ensures.small
