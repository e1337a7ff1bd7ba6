use Rattle.std.proofs.Common.{IsTrue, ap, below_more, refl, subst, sym, arith}
use Rattle.std.proofs.lemmas.Grind.{common_steps}
use Rattle.gs_simplex.specs.declared.sparse.Program.{Program}
use Rattle.gs_tests_strategies.specs.Openings.{IsPlaced}
use Rattle.gs_tests_strategies.proofs.Checks.{free_is}
use Rattle.gs_tests_strategies.proofs.openings.are_placed.Goals as goal

pub loop-column-preserved : goal.loop-column-preserved
loop-column-preserved c =
    let p = c.args.p.now in
    let j = c.loop-column.column in
    let u = c.if-not-is_placed.ensures in
    let same = free_is p c.p.inside.free.items j c.index.result.now (ap (λ (x : Program). x.parts.free) c.p.view_is) c.requires.shaped
    (omega (arith, c.loop-column-test.true, ap (λ (x : Program). x.cols) c.p.view_is)) c.index.ensures in
    below_more (IsPlaced p c.args.opening.now c.args.values.now) j c.loop-column.invariant (record {
      free = λ free. c.names_column.ensures (u.free refl (subst IsTrue (sym same) free));
      least = λ out. (let h = u.least refl (λ free. out (subst IsTrue same free)) in grind (arith, common_steps));
      unnamed = λ out. (let h = u.unnamed refl (λ named. out (c.names_column.ensures named)) in grind (arith, common_steps));
    })
