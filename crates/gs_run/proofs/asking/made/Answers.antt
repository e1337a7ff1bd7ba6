use Rattle.std.proofs.Common.{rules}
use Rattle.gs_run.proofs.asking.made.Goals as goal

pub returns-then-asked : goal.returns-then-asked
returns-then-asked c = search rules
