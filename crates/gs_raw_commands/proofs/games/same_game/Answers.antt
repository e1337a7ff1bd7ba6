use Rattle.std.proofs.Common.{arith}
use Rattle.gs_raw_commands.proofs.games.same_game.Goals as goal

pub returns : goal.returns
returns c = grind arith

pub returns-then-not-same_terms : goal.returns-then-not-same_terms
returns-then-not-same_terms c = grind arith
