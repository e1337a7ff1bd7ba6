use Rattle.std.proofs.{Common.{arith}, lemmas.Grind.{common_steps}}
use Rattle.gs_seq.proofs.rows.joined.Goals as goal

pub returns : goal.returns
returns c = grind (arith, common_steps)

pub plus-requires : goal.plus-requires
plus-requires c = grind arith
