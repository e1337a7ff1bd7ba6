use Rattle.std.proofs.Common.{rules}
use Rattle.gs_lossless.proofs.boards.are_ones.Goals as goal

pub returns : goal.returns
returns c = search rules
