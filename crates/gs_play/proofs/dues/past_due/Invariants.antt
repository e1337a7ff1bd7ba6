use Rattle.std.proofs.Common.{length}
use Rattle.gs_play.specs.DueTurns.{IsNoneDue}
use Rattle.gs_play.proofs.dues.past_due.Given as goal

abbrev pub invariant-loop-place : goal.invariant-loop-place
invariant-loop-place l = record { none : IsNoneDue l.turns l.place (length l.turns) l.turn }
