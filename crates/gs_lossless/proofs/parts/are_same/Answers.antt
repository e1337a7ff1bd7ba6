use Rattle.std.proofs.lemmas.Slice.Eq.{slice_eq-Decides}
use Rattle.gs_lossless.proofs.Merge.{part_decides}
use Rattle.gs_lossless.proofs.parts.are_same.Goals as goal

pub returns : goal.returns
returns c = slice_eq-Decides part_decides c.args.sums.now c.args.others.now c.eq.result c.eq.ensures
