use Rattle.std.proofs.{Common.{◌≤◌, length, map, vec_items, ap, subst, ◌∙◌, arith}, lemmas.Grind.{common_steps}, lemmas.List.{take_all}}
use Rattle.gs_simplex.specs.{Parts.{PartLists}, declared.sparse.Program.{Program}}
use Rattle.gs_simplex.proofs.Spread.{same_lists}
use Rattle.gs_simplex.proofs.sparse.Program.of.Goals as goal

pub returns : goal.returns
returns c =
    let p = c.p.inside in let i = c.loop-row.row-index in
    let program : PartLists → Program = λ q. record { rows = p.rows; cols = p.cols; parts = q } in
    let over = subst (λ n. n ≤ i) (ap length c.deref-row-items.ensures.value) c.loop-row-test.false in
    ap program (same_lists (c.in_ok-free.ensures.items ∙ c.deref-2.ensures.value)
    (c.loop-row.invariant ∙ ap (map vec_items) (take_all i p.numbers.items over)) (c.in_ok-aim.ensures ∙ c.deref-3.ensures.value))
    ∙ c.p.view_is

pub loop-row-preserved : goal.loop-row-preserved
loop-row-preserved c = grind (arith, common_steps)
