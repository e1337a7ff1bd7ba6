use Rattle.gs_file.proofs.Dealt.{told_dealt}
use Rattle.gs_file.proofs.laws.told_are_dealt.Goals as goal

pub returns : goal.returns
returns c = told_dealt
