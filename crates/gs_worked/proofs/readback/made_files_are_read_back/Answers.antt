use Rattle.gs_worked.proofs.MadeFiles.{read_back}
use Rattle.gs_worked.proofs.readback.made_files_are_read_back.Goals as goal

pub returns : goal.returns
returns c kind ranks suits cap a b d e f keeps = read_back kind ranks suits cap a b d e f keeps
