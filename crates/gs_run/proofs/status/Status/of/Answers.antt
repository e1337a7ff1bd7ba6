use Rattle.std.proofs.Common.{rules}
use Rattle.gs_run.proofs.status.Status.of.Goals as goal

pub returns-in-BadStrategy : goal.returns-in-BadStrategy
returns-in-BadStrategy c = search rules
