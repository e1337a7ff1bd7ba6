use Rattle.gs_tree.specs.Trees.{rules_of}
use Rattle.gs_lossless.proofs.Marked.{AreMarked}
use Rattle.gs_lossless.proofs.boards.Boards.marks.Given as goal

abbrev pub invariant-loop-place : goal.invariant-loop-place
invariant-loop-place l = AreMarked (rules_of l.self.signals.now) l.self.list.items l.keys l.marks.items l.kinds.list.items l.kinds.seen
