use Rattle.std.proofs.Common.{arith}
use Rattle.gs_file.specs.JsonReading.{json_game_at}
use Rattle.gs_file.proofs.json_reading.game_of_value.Goals as goal

pub returns : goal.returns
unfolding json_game_at
returns c = grind arith

pub returns-in-Some : goal.returns-in-Some
unfolding json_game_at
returns-in-Some c = grind arith
