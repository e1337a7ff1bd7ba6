use Rattle.std.proofs.Common.{◌∙◌, ap, of_z, refl, to_z, w64}
use Rattle.gs_simplex.specs.declared.sparse.Program.{Program}
use Rattle.gs_tests_strategies.proofs.Checks.{opening_by}
use Rattle.gs_tests_strategies.proofs.openings.opens.Goals as goal

pub returns : goal.returns
returns c = λ done.
    opening_by c.args.p.now c.args.opening.now (to_z w64 (of_z w64 c.in_ok-over.over)) c.deref-2.result.now (c.in_ok-take_all.ensures c.if-not-branch.false)
    (c.if-opening-p.false ∙ ap (λ (x : Program). x.rows) c.p.view_is) (c.if-not-names_all_rows.ensures refl) (c.is_feasible.ensures done)
