use Rattle.std.proofs.Common.{◌≡◌, ◌+◌, ◌++◌, ◌∙◌, ℕ, suc, List, ap, arith, length, subst}
use Rattle.std.specs.{Prelude.{IsPermutation}, List.{slice_range}}
use Rattle.gs_model.specs.Signals.{child_count, first_child, signals}
use Rattle.gs_model.proofs.SingleCards.{children_within}
use Rattle.gs_tree.specs.Trees.{rules_of}
use Rattle.gs_iso.specs.Numbers.{marks_under}
use Rattle.gs_iso.proofs.Below.{slice_run}
use Rattle.gs_iso.proofs.children.sign_children.Goals as goal

pub slice_bounds-extend_from_slice-end : goal.slice_bounds-extend_from_slice-end
slice_bounds-extend_from_slice-end c =
    let g = rules_of c.args.signals.now in
    let e : suc c.args.round ≡ c.args.round + 1 = omega arith in
    let n = ap (λ r. length (signals g r)) e in
    omega (
      arith,
      n,
      c.requires.marks,
      c.children-first.ensures.end,
      c.children-first.ensures.first,
      children_within g c.args.round c.args.signal
          c.requires.in_range,
    )

pub returns : goal.returns
returns c =
    let g = rules_of c.args.signals.now in
    let e : suc c.args.round ≡ c.args.round + 1 = omega arith in
    let n = ap (λ r. length (signals g r)) e in
    let first = first_child g c.args.round c.args.signal in
    let count = child_count g c.args.round c.args.signal in
    let marks = c.args.marks.now in
    let run : c.extend_from_slice.new.self.items ≡ marks_under g c.args.round marks c.args.signal =
    c.in_ok-extend_from_slice.ensures.items
    ∙ ap (λ (l : List ℕ). l ++ slice_range marks c.children-first.result.0 c.children-first.result.1) c.clear.ensures.items
    ∙ ap (λ (k : ℕ). slice_range marks k c.children-first.result.1) c.children-first.ensures.first
    ∙ slice_run marks first c.children-first.result.1 count (omega (arith, c.children-first.ensures.end))
    (omega (arith, n, c.requires.marks, c.children-first.ensures.end, children_within g c.args.round c.args.signal c.requires.in_range)) in
    record {
      moved = subst (λ (l : List ℕ). IsPermutation l c.sort_unstable.new.self.items) run c.sort_unstable.ensures.permutation;
      sorted = c.sort_unstable.ensures.sorted;
    }
