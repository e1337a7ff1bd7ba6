use Rattle.gs_file.proofs.Dealt.{file_dealt}
use Rattle.gs_file.proofs.laws.accepted_are_dealt.Goals as goal

pub returns : goal.returns
returns c = file_dealt
