use Rattle.std.proofs.Common.{◌≡◌, ◌+◌, ◌-◌, ◌<◌, ◌++◌, ◌∷◌, [], ℕ, List, ap, ◌∙◌, sym, subst, arith, get_or, length, map, suc}
use Rattle.std.proofs.lemmas.List.FromFn.{map-range_with_len_more}
use Rattle.std.specs.List.{range_with_len}
use Rattle.gs_model.specs.Signals.{signals}
use Rattle.gs_model.proofs.SingleCards.{children_within}
use Rattle.gs_tree.specs.Trees.{rules_of}
use Rattle.gs_iso.specs.Numbers.{child_part}
use Rattle.gs_iso.proofs.children.children_under.Goals as goal

none : (n : ℕ) → 0 ≡ n - n
none n = omega arith

pub edge-requires-clause-in_range : goal.edge-requires-clause-in_range
edge-requires-clause-in_range c =
    let g = rules_of c.args.signals.now in
    let e : suc c.args.round ≡ c.args.round + 1 = omega arith in
    let lt : c.loop-child.child < length (signals g (suc c.args.round)) =
    omega (arith, c.loop-child-test.true, c.children-first.ensures.end, children_within g c.args.round c.args.signal c.requires.in_range) in
    subst (λ r. c.loop-child.child < length (signals g r)) e lt

pub bounds-below-child : goal.bounds-below-child
bounds-below-child c =
    let g = rules_of c.args.signals.now in
    let e : suc c.args.round ≡ c.args.round + 1 = omega arith in
    let n = ap (λ r. length (signals g r)) e in
    omega (
      arith,
      n,
      c.requires.numbers.long,
      c.loop-child-test.true,
      c.children-first.ensures.end,
      children_within g c.args.round c.args.signal
          c.requires.in_range,
    )

pub loop-child-preserved : goal.loop-child-preserved
loop-child-preserved c =
    let part = child_part (rules_of c.args.signals.now) (c.args.round + 1) c.args.below.now in
    let first = c.children-first.result.0 in
    let n = c.loop-child.child - first in
    let from : first + n ≡ c.loop-child.child = omega (arith, c.loop-child.auto.child) in
    let more : n + 1 ≡ c.loop-child.child + 1 - first = omega (arith, c.loop-child.auto.child) in
    let here : ℕ → ℕ × ℕ = λ edge. (edge, get_or c.args.below.now c.loop-child.child 0) in
    c.in_ok-push.ensures.items
    ∙ ap (λ (l : List (ℕ × ℕ)). l ++ here c.edge.result ∷ []) c.loop-child.invariant
    ∙ ap (λ edge. map part (range_with_len first n) ++ here edge ∷ []) c.edge.ensures
    ∙ sym (map-range_with_len_more part first n c.loop-child.child from)
    ∙ ap (λ m. map part (range_with_len first m)) more

pub loop-child-init : goal.loop-child-init
loop-child-init c =
    let part = child_part (rules_of c.args.signals.now) (c.args.round + 1) c.args.below.now in
    let first = c.children-first.result.0 in
    c.in_ok-children.ensures.items ∙ ap (λ n. map part (range_with_len first n)) (none first)
