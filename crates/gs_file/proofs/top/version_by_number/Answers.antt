use Rattle.std.proofs.Common.{rules}
use Rattle.gs_file.proofs.top.version_by_number.Goals as goal

pub returns-in-File-eq2 : goal.returns-in-File-eq2
returns-in-File-eq2 c = search rules
