use Rattle.gs_file.proofs.Told.{file_told}
use Rattle.gs_file.proofs.laws.accepted_are_told.Goals as goal

pub returns : goal.returns
returns c = file_told
