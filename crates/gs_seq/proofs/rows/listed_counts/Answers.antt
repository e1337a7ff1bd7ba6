use Rattle.std.proofs.{Common.{arith}, lemmas.Grind.{common_steps}}
use Rattle.gs_seq.proofs.rows.listed_counts.Goals as goal

pub loop-in_round-preserved : goal.loop-in_round-preserved
loop-in_round-preserved c = grind (arith, common_steps)

pub returns : goal.returns
returns c = grind (arith, common_steps)

pub pairs_in-requires : goal.pairs_in-requires
pairs_in-requires c = grind arith

pub offset_bounds-rows-in_round-index : goal.offset_bounds-rows-in_round-index
offset_bounds-rows-in_round-index c = grind arith
