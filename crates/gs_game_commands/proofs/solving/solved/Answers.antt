use Rattle.gs_seq.proofs.SomeDeal.{some_deal}
use Rattle.gs_seq.specs.Abstracts.{lists_of}
use Rattle.gs_game_commands.specs.Settling.{file_game_in}
use Rattle.gs_game_commands.proofs.SolvedGaps.{is_solved}
use Rattle.gs_game_commands.proofs.solving.solved.Goals as goal

pub returns-in_ok-text_of-in-Ok : goal.returns-in_ok-text_of-in-Ok
returns-in_ok-text_of-in-Ok c =
    let form = c.args.form.now in
    is_solved (file_game_in form) (lists_of form) c.in-Ok.one c.in-Ok.two c.in_ok-text_of-in-Ok.field-0.items c.in_ok-text_of-in-Ok.ensures
    (some_deal form.lossless.now.signals.now.game.now) c.in-Ok.ensures

pub text_of-requires-clause-one : goal.text_of-requires-clause-one
text_of-requires-clause-one c = c.in-Ok.ensures.one

pub text_of-requires-clause-two : goal.text_of-requires-clause-two
text_of-requires-clause-two c = c.in-Ok.ensures.two
