use Rattle.std.proofs.Common.{rules}
use Rattle.gs_simplex.proofs.sparse.push_kept.Goals as goal

pub returns : goal.returns
returns c = search rules
