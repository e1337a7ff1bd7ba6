use Rattle.std.proofs.{Common.{◌≡◌, ◌+◌, ℕ, List, arith, length, subst, sym}, lemmas.Bool.Decides.{Decides-eqb}}
use Rattle.std.specs.Prelude.{nat_eq}
use Rattle.gs_model.specs.{Isomorphism.{Isomorphic}, Signals.{signal_at, signals}, Signatures.{IsSignature}}
use Rattle.gs_tree.specs.Trees.{rules_of}
use Rattle.gs_iso.specs.{Numbers.{marks_under}, Orders.{mark_lt}}
use Rattle.gs_iso.proofs.{Numbered.{numbered_more, numbered_none, numbers_are}, Below.{mark_law_at}}
use Rattle.gs_iso.proofs.children.numbers_by_marks.Goals as goal

pub sign_children-requires-clause-marks : goal.sign_children-requires-clause-marks
sign_children-requires-clause-marks c = c.requires.marks.2.long

pub loop-signal-init : goal.loop-signal-init
loop-signal-init c =
    let sign : ℕ → List ℕ → Type 0 = λ i a. IsSignature mark_lt (marks_under (rules_of c.args.signals.now) c.args.round c.args.marks.now i) a in
    numbered_none nat_eq Decides-eqb sign _ _ c.new-seen.ensures.empty c.in_ok-numbers.ensures.items

pub loop-signal-preserved : goal.loop-signal-preserved
loop-signal-preserved c =
    let sign : ℕ → List ℕ → Type 0 = λ i a. IsSignature mark_lt (marks_under (rules_of c.args.signals.now) c.args.round c.args.marks.now i) a in
    let n = c.in_ok-number.ensures in
    let signs = subst (sign c.loop-signal.signal) (sym c.deref.ensures.value) c.in_ok-sign_children.ensures in
    numbered_more nat_eq Decides-eqb sign _ _ _ _ _ _ _ c.loop-signal.invariant signs n.kept n.number n.few n.unique c.in_ok-push.ensures.items

pub returns : goal.returns
returns c =
    let g = rules_of c.args.signals.now in
    let r = c.args.round in
    let marks = c.args.marks.now in
    let numbers = c.loop-signal.numbers.items in
    let count : length numbers ≡ length (signals g r) = omega (arith, c.count-count.ensures.value, c.loop-signal.invariant.long) in
    record {
      long = count;
      same = λ i j li lj. numbers_are nat_eq Decides-eqb (λ i a. IsSignature mark_lt (marks_under g r marks i) a) c.loop-signal.seen.keys numbers
          c.loop-signal.invariant.distinct c.loop-signal.invariant.leads
          (λ i j. Unit {0}) (λ i j. Isomorphic g r (signal_at g r i) (signal_at g r j))
          (λ i j a b li lj one ha hb. mark_law_at g r (r + 1) (omega arith) c.requires.before_last c.requires.marks.0 marks c.requires.marks.1
          c.requires.marks.2 i j (omega (arith, li, count)) (omega (arith, lj, count)) a b ha hb) i j li lj tt;
    }
