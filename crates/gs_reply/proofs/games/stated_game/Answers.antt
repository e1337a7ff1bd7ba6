use Rattle.gs_file.specs.Reading.{read_at}
use Rattle.gs_reply.proofs.Refused.{game_refused}
use Rattle.gs_reply.proofs.games.stated_game.Goals as goal

pub returns-in-Err-Fault-clause-refused : goal.returns-in-Err-Fault-clause-refused
returns-in-Err-Fault-clause-refused c =
    game_refused (read_at c.args.bytes.now) c.in-Err-Fault.fault (rw c.in-Err-Fault.field-0-is at c.in-Err-Fault.ensures)
