use Rattle.std.proofs.Common.{arith}
use Rattle.gs_game_commands.proofs.settling.of_form.Goals as goal

pub returns-in_ok-played-in-Play : goal.returns-in_ok-played-in-Play
returns-in_ok-played-in-Play c = grind arith

pub returns-in-Solve : goal.returns-in-Solve
returns-in-Solve c = rw c.in-Solve.is c.solved.ensures

pub returns-in-Path : goal.returns-in-Path
returns-in-Path c = rw c.in-Path.is c.shown.ensures
