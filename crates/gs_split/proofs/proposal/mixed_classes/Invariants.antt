use Rattle.std.proofs.Common.{◌≡◌, map, take}
use Rattle.gs_split.specs.Proposal.{mixed}
use Rattle.gs_split.proofs.proposal.mixed_classes.Given as goal

abbrev pub invariant-loop-class : goal.invariant-loop-class
invariant-loop-class l = l.numbers.items ≡ map mixed (take l.class-index l.classes)
