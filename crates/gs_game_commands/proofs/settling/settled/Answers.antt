use Rattle.gs_file.specs.{Reading.{read_at}, Views.{valid_view}}
use Rattle.gs_game_commands.specs.Asked.{AnswersOf, says_of}
use Rattle.gs_reply.proofs.Refused.{exits, not_stated, stated}
use Rattle.gs_game_commands.proofs.settling.settled.Goals as goal

pub returns-in_err-game : goal.returns-in_err-game
returns-in_err-game c =
    let bytes = c.args.bytes.now in
    let question = c.args.question.now in
    exits (AnswersOf question c.args.grouping bytes) _ _ c.from_residual.ensures.1
    (not_stated (says_of question c.args.grouping) (read_at bytes) _ c.in_err-game.ensures.refused)

pub returns : goal.returns
returns c = stated (says_of c.args.question.now c.args.grouping) (read_at c.args.bytes.now) (valid_view c.in_ok-game.game) c.of_game.result
    c.in_ok-game.ensures.stated c.of_game.ensures
