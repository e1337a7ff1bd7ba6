use Rattle.std.proofs.Common.{arith}
use Rattle.gs_words.proofs.command.bare_command.Goals as goal

pub returns : goal.returns
returns c = grind arith
