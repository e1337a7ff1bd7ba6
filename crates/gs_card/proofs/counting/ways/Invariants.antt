use Rattle.std.proofs.Common.{◌≡◌, ◌≤◌, ◌^◌, take}
use Rattle.gs_model.specs.Cards.{ways}
use Rattle.gs_card.proofs.counting.ways.Given as goal

abbrev pub invariant-loop-i : goal.invariant-loop-i
invariant-loop-i l = record {
  counted : l.ways ≡ ways l.left (take l.i l.cards);
  small : l.ways ≤ 9 ^ l.i;
}
