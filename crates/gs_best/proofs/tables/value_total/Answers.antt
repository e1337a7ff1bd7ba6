use Rattle.std.proofs.Common.{◌≡◌, ◌+◌, ap, ◌∙◌, arith}
use Rattle.gs_model.specs.Classes.{class_count}
use Rattle.gs_seq.specs.Abstracts.{abstract_frame, lists_of}
use Rattle.gs_best.specs.Tables.{classes_at, start_of}
use Rattle.gs_best.proofs.{Placed.{row_next}, PointStarts.{starts_few}, tables.value_total.Goals.{After-class_total-total}}
use Rattle.gs_best.proofs.tables.value_total.Goals as goal

next : (c : After-class_total-total) → c.loop-point.total + c.class_total-total.result ≡ start_of (abstract_frame c.args.form.now) (lists_of c.args.form.now)
    (c.loop-point.point + 1)
next c = row_next (classes_at (abstract_frame c.args.form.now) (lists_of c.args.form.now)) c.loop-point.point _ _ c.loop-point.invariant
    (c.class_total-total.ensures.value ∙ ap (class_count (lists_of c.args.form.now)) c.round_at.ensures.value)

pub overflow_add-total : goal.overflow_add-total
overflow_add-total c =
    let few = starts_few c.args.form.now (c.loop-point.point + 1) (omega (arith, c.loop-point-test.true, c.point_total-point-end.ensures)) in
    record { fits = omega (arith, next (goal.at.overflow_add-total c).After-class_total-total, few) }

pub loop-point-preserved : goal.loop-point-preserved
loop-point-preserved c = next (goal.at.loop-point-preserved c).After-class_total-total

pub returns : goal.returns
returns c = grind arith
