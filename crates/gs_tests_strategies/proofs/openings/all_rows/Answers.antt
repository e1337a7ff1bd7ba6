use Rattle.std.proofs.Common.{List, [], ℤ, map, vec_items, slice_index_or, refl, subst, ◌∙◌, arith, below_more}
use Rattle.gs_tests_strategies.specs.Openings.{IsWideRow}
use Rattle.gs_simplex.proofs.Places.{vec_at}
use Rattle.gs_tests_strategies.proofs.openings.all_rows.Goals as goal

pub loop-row-preserved : goal.loop-row-preserved
loop-row-preserved c =
    let rows = c.args.rows.now in let n = c.loop-row.row-index in
    let here : IsWideRow c.args.width c.deref.result.now =
    record { long = omega (arith, c.if-len-width.false, c.len.ensures, c.deref.ensures.len); narrow = c.if-not-all_narrow.ensures refl } in
    let P : List ℤ → Type 0 = λ x. IsWideRow c.args.width x in
    below_more (λ k. IsWideRow c.args.width (slice_index_or (map vec_items rows) k [])) n c.loop-row.invariant
    (subst P (c.deref.ensures.value ∙ vec_at rows n c.row-item.result c.loop-row-test.true c.row-item.is) here)
