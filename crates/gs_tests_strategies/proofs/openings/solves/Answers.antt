use Rattle.std.proofs.Common.{◌≡◌, ℕ, ◌*ℤ◌, ◌∙◌, ap, arith, below_more, of_z, refl, to_z, w64}
use Rattle.gs_simplex.specs.{declared.sparse.Program.{Program}, Numbers.{at}, Program.{number}, Sums.{sum_to}}
use Rattle.gs_tests_strategies.proofs.Checks.{row_is, row_solved}
use Rattle.gs_tests_strategies.proofs.openings.solves.Goals as goal

pub holds-requires : goal.holds-requires
holds-requires c =
    let row = row_is c.args.p.now c.p.inside.numbers.items c.loop-place.place c.index.result.now (ap (λ (x : Program). x.parts.numbers) c.p.view_is)
    c.requires.shaped (omega (arith, c.loop-place-test.true, ap (λ (x : Program). x.rows) c.p.view_is)) c.index.ensures in
    omega (arith, row.1, c.requires.long, c.deref.ensures.len)

pub loop-place-preserved : goal.loop-place-preserved
loop-place-preserved c =
    let p = c.args.p.now in
    let v = c.args.values.now in
    let over = to_z w64 (of_z w64 c.args.over) in
    let row = row_is p c.p.inside.numbers.items c.loop-place.place c.index.result.now (ap (λ (x : Program). x.parts.numbers) c.p.view_is)
    c.requires.shaped (omega (arith, c.loop-place-test.true, ap (λ (x : Program). x.rows) c.p.view_is)) c.index.ensures in
    below_more (λ (i : ℕ). sum_to p.cols (λ j. number p i j *ℤ at v j) ≡ over *ℤ number p i p.cols) c.loop-place.place c.loop-place.invariant
    (row_solved p c.loop-place.place c.deref.result.now v over (c.deref.ensures.value ∙ row.0) c.requires.long (c.if-not-holds.ensures refl))
