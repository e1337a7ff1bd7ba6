use Rattle.std.proofs.Common.{◌≡◌, ◌≤◌, ◌+◌, ◌-◌, ◌*◌, min, length, sum}
use Rattle.gs_game.proofs.CountSteps.{count_rest}
use Rattle.gs_game.proofs.counting.+counter.Given as goal

abbrev pub decreases-count_from : goal.decreases-count_from
decreases-count_from l = 2 * (l.size + sum l.later.now + length l.later.now) + 1

abbrev pub decreases-count_with : goal.decreases-count_with
decreases-count_with l = 2 * (l.size + sum l.later.now + length l.later.now) + 2

abbrev pub invariant-count_from-loop-card : goal.invariant-count_from-loop-card
invariant-count_from-loop-card l = record {
  rest : min (count_rest l.later l.fn.left (l.size - 1) l.least) l.cap ≡ min (l.total + count_rest l.later l.fn.left (l.size - 1) l.card) l.cap;
  kept : l.left ≡ l.fn.left;
  small : l.total ≤ l.cap;
}
