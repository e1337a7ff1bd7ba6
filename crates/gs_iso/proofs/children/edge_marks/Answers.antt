use Rattle.std.proofs.Common.{◌<◌, ℕ, ap, arith, get_or, subst, sym}
use Rattle.gs_tree.specs.Trees.{rules_of}
use Rattle.gs_iso.specs.Numbers.{child_part}
use Rattle.gs_iso.proofs.{FirstSeen.{seen_more, seen_none}, Below.{marks_light}, Exact.{child_eq, child_exact}}
use Rattle.gs_iso.proofs.children.edge_marks.Goals as goal

pub loop-signal-preserved : goal.loop-signal-preserved
loop-signal-preserved c =
    let key = child_part (rules_of c.args.signals.now) c.args.round c.args.numbers.now in
    let n = c.in_ok-mark.ensures in
    let with : ℕ → ℕ × ℕ = λ edge. (edge, get_or c.args.numbers.now c.loop-signal.signal 0) in
    seen_more child_eq child_exact key _ _ _ _ _ _ (with c.edge.result) c.loop-signal.invariant (ap with (sym c.edge.ensures)) n.stored n.grown n.few n.unique
    n.some c.in_ok-push.ensures.items

pub returns-then-are_light : goal.returns-then-are_light
returns-then-are_light c = marks_light (rules_of c.args.signals.now) c.args.round c.args.numbers.now c.requires.numbers
    (c.are_light.ensures.0 c.if-are_light.true)

pub returns : goal.returns
returns c = record {
  long = omega (arith, c.count-count.ensures.value, c.loop-signal.invariant.long);
  same = λ x y lx ly. c.loop-signal.invariant.seen.grouped.same x y lx ly;
}

pub loop-signal-init : goal.loop-signal-init
loop-signal-init c =
    let key = child_part (rules_of c.args.signals.now) c.args.round c.args.numbers.now in
    seen_none child_eq child_exact key _ _ c.new-seen.ensures.empty c.in_ok-marks.ensures.items

pub edge-requires-clause-in_range : goal.edge-requires-clause-in_range
edge-requires-clause-in_range c = subst (λ (n : ℕ). c.loop-signal.signal < n) c.count-count.ensures.value c.loop-signal-test.true

pub number_of-requires : goal.number_of-requires
number_of-requires c = omega (arith, c.loop-signal.invariant.few, c.loop-signal-test.true, c.count-count.type_inv)

pub edge-requires-clause-some : goal.edge-requires-clause-some
edge-requires-clause-some c = c.requires.some
