use Rattle.gs_game.specs.{Games.{game_of}, Refusals.{first_refusal}}
use Rattle.gs_file.specs.Views.{game_view}
use Rattle.gs_file.proofs.Accepted.{accepted_as_is, refused_by}
use Rattle.gs_file.proofs.build.checked.Goals as goal

pub returns-in-Ok : goal.returns-in-Ok
returns-in-Ok c = let good = c.in-Ok.ensures.accepted in accepted_as_is c.args.game c.in-Ok.valid.game good.0 good.1

pub returns-in-Err-Fault : goal.returns-in-Err-Fault
returns-in-Err-Fault c =
    let g = c.args.game in
    refused_by (game_view g) (first_refusal (game_of g)) c.in-Err-Fault.fault
    (rw c.in-Err-Fault.field-0-is at c.in-Err-Fault.ensures.refused)
