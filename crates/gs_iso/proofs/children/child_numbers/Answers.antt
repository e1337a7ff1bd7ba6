use Rattle.std.proofs.Common.{◌+◌, ℕ, List, subst, sym}
use Rattle.gs_tree.specs.Trees.{rules_of}
use Rattle.gs_iso.specs.Numbers.{AreMarks}
use Rattle.gs_iso.proofs.children.child_numbers.Goals as goal

pub numbers_by_marks-requires-clause-marks : goal.numbers_by_marks-requires-clause-marks
numbers_by_marks-requires-clause-marks c =
    let are_marks = subst (λ (ms : List ℕ). AreMarks (rules_of c.args.signals.now) (c.args.round + 1) c.args.below.now ms)
    (sym c.as_slice.ensures.value) c.in_ok-kept.ensures in
    (c.args.below.now, c.requires.numbers, are_marks)
