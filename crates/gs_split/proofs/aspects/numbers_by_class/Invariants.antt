use Rattle.std.proofs.Common.{◌≡◌, length}
use Rattle.gs_model.specs.Frame.{frame_of}
use Rattle.gs_tree.specs.Trees.{rules_of}
use Rattle.gs_split.proofs.MemberNumbers.{AreDone}
use Rattle.gs_split.proofs.aspects.numbers_by_class.Given as goal

abbrev pub invariant-loop-before : goal.invariant-loop-before
invariant-loop-before l = record {
  long : length l.numbers.items ≡ length l.nexts.items;
  done : AreDone (frame_of (rules_of l.grouped.signals.now)) l.grouped.classes.now.lists l.at.aspect l.round l.before l.numbers.items;
}
