use Rattle.std.proofs.Common.{◌+◌, ◌∙◌, ℕ, Vec, Global, ap, arith, subst, sym}
use Rattle.gs_iso.proofs.{Pairs.{AreRowEdges, row_alike, row_apart, row_done}, equals.join_equals.Goals.{then-eq+in_ok-push, else-eq}}
use Rattle.gs_iso.proofs.equals.join_equals.Goals as goal

pub loop-right-preserved : goal.loop-right-preserved
loop-right-preserved g c =
    let eq = g.P.PartialEq.eq in
    let xs = c.args.ones.now in
    let ys = c.args.twos.now in
    let left = c.args.left in
    let right = c.loop-right.right in
    let items = λ (v : Vec (ℕ × ℕ) Global). v.items in
    let lx = c.requires.in_range in
    elim c.if-eq.branch [
      | then-eq+in_ok-push w ↦ subst (AreRowEdges eq xs ys left (right + 1)) (sym (ap items w.edges-is ∙ w.in_ok-push.ensures.items))
          (row_alike eq xs ys left right c.loop-right.edges.items c.index-ones-left.result c.index-twos-right.result lx
          (omega arith) c.index-ones-left.is c.index-twos-right.is (sym c.eq.ensures ∙ w.if-eq.true) c.loop-right.invariant)
      | else-eq w ↦ subst (AreRowEdges eq xs ys left (right + 1)) (sym (ap items w.edges-is))
          (row_apart eq xs ys left right c.loop-right.edges.items c.index-ones-left.result c.index-twos-right.result lx
          (omega arith) c.index-ones-left.is c.index-twos-right.is (sym c.eq.ensures ∙ w.if-eq.false) c.loop-right.invariant)
    ]

pub returns : goal.returns
returns g c =
    row_done g.P.PartialEq.eq c.args.ones.now c.args.twos.now c.args.left c.loop-right.right c.loop-right.edges.items c.loop-right.invariant
    c.loop-right-test.false
