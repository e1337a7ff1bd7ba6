use Rattle.gs_filter.proofs.Linked.{AreLinked}
use Rattle.gs_filter.proofs.members.next_members.Given as goal

abbrev pub invariant-loop-signal : goal.invariant-loop-signal
invariant-loop-signal l = AreLinked l.classes.lists l.round l.signal l.heads.items l.nexts.items
