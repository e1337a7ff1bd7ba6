use Rattle.std.proofs.Common.{◌≡◌, take}
use Rattle.gs_lossless.specs.Sums.{merged}
use Rattle.gs_lossless.proofs.parts.sums_of.Given as goal

abbrev pub invariant-loop-part : goal.invariant-loop-part
invariant-loop-part l = l.sums.items ≡ merged (take l.part-index l.part-items)
