use Rattle.std.proofs.{Common.{ℕ, ◌+◌, ◌∙◌, arith}, lemmas.Int.{to_z-of_z}}
use Rattle.std.specs.Prelude.{pos}
use mir.Syntax.{w128}
use Rattle.gs_seq.specs.Abstracts.{abstract_frame, lists_of}
use Rattle.gs_best.specs.{ClassTotals.{gathered_below}, LaterRows.{row_from}}
use Rattle.gs_best.proofs.Written.{by_class, row_more}
use Rattle.gs_best.proofs.gathering.gather.Goals as goal

pub loop-class-preserved : goal.loop-class-preserved
loop-class-preserved c =
    let a = c.args.form.now in
    let F = λ (k : ℕ). gathered_below (abstract_frame a) (lists_of a) c.args.row.round c.args.from (row_from c.args.row.values.now c.args.row.start) (k + 1) in
    row_more F c.loop-class.sums c.loop-class.class _ (pos 0)
    (omega (arith, c.loop-class-test.true, c.class_total-class-end.ensures.value, c.loop-class.auto.sums, c.requires.wide))
    (to_z-of_z w128 c.sum_below.result (record { sfits = c.sum_below.type_inv }) ∙ c.sum_below.ensures) c.loop-class.invariant

pub returns : goal.returns
returns c =
    let a = c.args.form.now in
    let F = gathered_below (abstract_frame a) (lists_of a) c.args.row.round c.args.from (row_from c.args.row.values.now c.args.row.start) in
    λ e le. by_class F c.loop-class.sums c.loop-class.class (pos 0) c.loop-class.invariant e le.0
    (omega (arith, le.1, c.class_total-class-end.ensures.value, c.loop-class-test.false))

pub sum_below-requires-clause-row : goal.sum_below-requires-clause-row
sum_below-requires-clause-row c = c.requires.row
