use Rattle.std.proofs.Common.{◌≡◌, ◌≤◌, ◌^◌, take}
use Rattle.gs_model.specs.Cards.{ways, left_after}
use Rattle.gs_tree.proofs.tables.ways_beside.Given as goal

abbrev pub invariant-loop-i : goal.invariant-loop-i
invariant-loop-i l = record {
  counted : l.ways ≡ ways (left_after (left_after (left_after l.deck.counts l.held) l.board) l.before) (take l.i l.own);
  small : l.ways ≤ 9 ^ l.i;
}
