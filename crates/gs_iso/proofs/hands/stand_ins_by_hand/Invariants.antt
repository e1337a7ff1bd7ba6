use Rattle.gs_tree.specs.Trees.{rules_of}
use Rattle.gs_iso.proofs.Handed.{AreHanded, FindsHands}
use Rattle.gs_iso.proofs.hands.stand_ins_by_hand.Given as goal

abbrev pub invariant-loop-signal : goal.invariant-loop-signal
invariant-loop-signal l = record {
  firsts : AreHanded (rules_of l.signals) l.keys l.firsts.items l.signal;
  found : FindsHands (rules_of l.signals) l.boards l.masks l.keys l.seen l.signal;
}
