use Rattle.gs_game_commands.proofs.commands.game_answer.Goals as goal

pub returns-in-Shrink : goal.returns-in-Shrink
returns-in-Shrink c = rw c.in-Shrink.is c.shrink_answer.ensures

pub returns-in-Check : goal.returns-in-Check
returns-in-Check c = rw c.in-Check.is c.check_answer.ensures

pub returns-in-Solve : goal.returns-in-Solve
returns-in-Solve c = rw c.in-Solve.is c.solve_answer.ensures

pub returns-in-Play : goal.returns-in-Play
returns-in-Play c = rw c.in-Play.is c.play_answer.ensures

pub returns-in-Path : goal.returns-in-Path
returns-in-Path c = rw c.in-Path.is c.path_answer.ensures
