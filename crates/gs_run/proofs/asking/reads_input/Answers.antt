use Rattle.std.proofs.Common.{rules}
use Rattle.gs_run.proofs.asking.reads_input.Goals as goal

pub returns-in-Make : goal.returns-in-Make
returns-in-Make c = search rules
