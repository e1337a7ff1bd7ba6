use Rattle.std.proofs.Common.{sym, subst}
use Rattle.gs_file.specs.Reading.{read_at}
use Rattle.gs_game_commands.specs.Shrinking.{Shrinks, ShrinksGame}
use Rattle.gs_reply.proofs.Refused.{exits, not_stated}
use Rattle.gs_reply.specs.Replies.{OfReading, Prints}
use Rattle.gs_game_commands.proofs.shrinking.shrink_answer.Goals as goal

pub returns-in_err-game : goal.returns-in_err-game
returns-in_err-game c =
    let bytes = c.args.bytes.now in
    exits (Shrinks c.args.summary bytes) _ _ c.from_residual.ensures.1 (not_stated (ShrinksGame c.args.summary) (read_at bytes) _ c.in_err-game.ensures.refused)

pub returns : goal.returns
returns c =
    subst (λ x. OfReading (ShrinksGame c.args.summary) x (Prints c.in_ok-shrunk.field-0.items)) (sym c.in_ok-game.ensures.stated) c.in_ok-shrunk.ensures
