use Rattle.std.proofs.Common.{rules}
use Rattle.gs_strategy.proofs.writing.write_strategy.Goals as goal

pub returns : goal.returns
returns c = search rules
