use Rattle.gs_file.proofs.Trees.{is_read}
use Rattle.gs_file.proofs.laws.trees_are_read.Goals as goal

pub returns : goal.returns
returns c n text = is_read n text
