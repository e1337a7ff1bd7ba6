use Rattle.std.proofs.Common.{◌≡◌, ◌≤◌, ◌+◌, ◌*◌, drop, sum}
use Rattle.gs_game.proofs.cards.all_copies.Given as goal

abbrev pub invariant-loop-count : goal.invariant-loop-count
invariant-loop-count l = record {
  rest : l.all + sum (drop l.count-index l.counts) ≡ sum l.counts;
  small : l.all ≤ 255 * l.count-index;
}
