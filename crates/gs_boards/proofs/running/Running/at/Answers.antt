use Rattle.std.proofs.Common.{rules}
use Rattle.gs_boards.proofs.running.Running.at.Goals as goal

pub returns-then-place-self-2 : goal.returns-then-place-self-2
returns-then-place-self-2 c = search rules

pub returns : goal.returns
returns c = search rules
