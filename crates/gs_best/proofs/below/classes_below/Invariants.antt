use Rattle.std.proofs.Common.{◌≡◌, ℕ, ◌<◌, ◌≤◌}
use Rattle.gs_seq.specs.Abstracts.{abstract_frame, lists_of}
use Rattle.gs_best.specs.ClassTotals.{earlier_class}
use Rattle.gs_best.proofs.below.classes_below.Given as goal

abbrev pub invariant-loop-next : goal.invariant-loop-next
invariant-loop-next l = (k : ℕ) → l.first ≤ k → k < l.next → earlier_class (abstract_frame l.form) (lists_of l.form) l.to l.from k ≡ l.class
