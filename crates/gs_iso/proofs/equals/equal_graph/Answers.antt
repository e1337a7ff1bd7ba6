use Rattle.std.proofs.Common.{◌≡◌, arith, length, refl, subst}
use Rattle.gs_iso.specs.Pairings.{AreEqualEdges}
use Rattle.gs_iso.proofs.equals.equal_graph.Goals as goal

pub returns : goal.returns
returns g c =
    let ones = c.args.ones.now in
    let all : c.loop-left.left ≡ length ones = omega (arith, c.loop-left-test.false, c.loop-left.auto.left-end) in
    record {
      left = refl;
      right = refl;
      edges = subst (λ n. AreEqualEdges g.P.PartialEq.eq ones c.args.twos.now n c.loop-left.edges.items) all c.loop-left.invariant;
    }
