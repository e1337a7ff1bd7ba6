use Rattle.std.proofs.Common.{◌+◌, ◌<◌, ◌≤◌}
use Rattle.gs_play.proofs.Firsts.{Before}
use Rattle.gs_play.proofs.choosing.first_until.Given as goal

abbrev pub invariant-loop-place : goal.invariant-loop-place
invariant-loop-place l = record {
  stays : Before l.lines l.best l.now l.place l.left;
  greatest : l.left < l.last → Before l.lines l.best l.now l.place (l.left + 1) → ⊥;
  some : l.now < l.last → l.now < l.left;
  most : l.left ≤ l.last;
  least : l.now ≤ l.left;
}
