use Rattle.std.specs.Prelude.{nat_eq}
use Rattle.std.proofs.lemmas.Bool.Decides.{Decides-eqb}
use Rattle.gs_model.specs.Signatures.{IsSignature}
use Rattle.gs_iso.proofs.Numbered.{AreNumbered}
use Rattle.gs_tree.specs.Trees.{rules_of}
use Rattle.gs_iso.specs.{Numbers.{marks_under}, Orders.{mark_lt}}
use Rattle.gs_iso.proofs.children.numbers_by_marks.Given as goal

abbrev pub invariant-loop-signal : goal.invariant-loop-signal
invariant-loop-signal l =
    AreNumbered nat_eq Decides-eqb (λ i a. IsSignature mark_lt (marks_under (rules_of l.signals) l.round l.marks i) a) l.seen.keys l.numbers.items l.signal
