use Rattle.std.proofs.{Common.{◌≤◌, length, ap, subst, ◌∙◌, arith}, lemmas.Grind.{common_steps}, lemmas.List.{take_all}}
use Rattle.gs_simplex.specs.{Parts.{PartLists}, declared.sparse.Program.{Program}}
use Rattle.gs_simplex.proofs.Spread.{same_lists}
use Rattle.gs_simplex.proofs.sparse.Program.dense.Goals as goal

pub returns : goal.returns
returns c =
    let p = c.args.self.now in let i = c.loop-row.row-index in
    let program : PartLists → Program = λ q. record { rows = p.rows; cols = p.cols; parts = q } in
    let over = subst (λ n. n ≤ i) (ap length c.deref-row-items.ensures.value) c.loop-row-test.false in
    ap program (same_lists (c.in_ok-from_slice.ensures.items ∙ c.deref.ensures.value)
    (c.loop-row.invariant ∙ take_all i c.parts.inside.numbers.items over) c.in_ok-dense-2.ensures ∙ c.parts.view_is)

pub loop-row-preserved : goal.loop-row-preserved
loop-row-preserved c = grind (arith, common_steps)
