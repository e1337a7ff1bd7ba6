use Rattle.std.proofs.Common.{◌-◌, length}
use Rattle.gs_model.specs.Frame.{frame_of}
use Rattle.gs_tree.specs.Trees.{rules_of}
use Rattle.gs_split.proofs.MemberNumbers.{AreNumbering}
use Rattle.gs_split.proofs.members.number_members.Given as goal

abbrev pub invariant-loop-next : goal.invariant-loop-next
invariant-loop-next l = AreNumbering (frame_of (rules_of l.at.signals.now)) l.at.classes.now.lists l.at.aspect l.at.round l.class l.initial.numbers
    l.seen.keys l.numbers l.next

abbrev pub decreases-loop-next : goal.decreases-loop-next
decreases-loop-next l = length l.nexts - l.next
