use Rattle.gs_model.specs.Rows.{rows}
use Rattle.gs_match.proofs.AugmentLaws.{IsShift}
use Rattle.gs_match.proofs.augment.augment.Given as goal

abbrev pub invariant-loop-place : goal.invariant-loop-place
invariant-loop-place l = IsShift (rows l.adjacent) l.holders l.root l.visits.items l.place l.right

abbrev pub decreases-loop-place : goal.decreases-loop-place
decreases-loop-place l = l.place
