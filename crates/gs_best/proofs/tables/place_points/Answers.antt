use Rattle.std.proofs.lemmas.Grind.{common_steps}
use Rattle.std.proofs.Common.{◌≡◌, ◌+◌, ap, ◌∙◌, arith}
use Rattle.gs_model.specs.Classes.{class_count}
use Rattle.gs_seq.specs.Abstracts.{abstract_frame, lists_of}
use Rattle.gs_best.specs.Tables.{classes_at, start_of}
use Rattle.gs_best.proofs.{Written.{rest_more, row_more}, Placed.{row_next}, PointStarts.{starts_few}, tables.place_points.Goals.{After-class_total-start}}
use Rattle.gs_best.proofs.tables.place_points.Goals as goal

next : (c : After-class_total-start) → c.loop-point.start + c.class_total-start.result ≡ start_of (abstract_frame c.args.form.now) (lists_of c.args.form.now)
    (c.loop-point.point + 1)
next c =
    row_next (classes_at (abstract_frame c.args.form.now) (lists_of c.args.form.now)) c.loop-point.point _ _ c.loop-point.invariant.start_is
    (c.class_total-start.ensures.value ∙ ap (class_count (lists_of c.args.form.now)) c.round_at.ensures.value)

pub overflow_add-start : goal.overflow_add-start
overflow_add-start c =
    let few = starts_few c.args.form.now (c.loop-point.point + 1) (omega (arith, c.loop-point-test.true, c.point_total-point-end.ensures)) in
    record { fits = omega (arith, next (goal.at.overflow_add-start c).After-class_total-start, few) }

pub loop-point-preserved : goal.loop-point-preserved
loop-point-preserved c =
    let q = c.loop-point.point in
    record {
      start_is = next (goal.at.loop-point-preserved c).After-class_total-start;
      starts = row_more (start_of (abstract_frame c.args.form.now) (lists_of c.args.form.now)) c.loop-point.starts q c.loop-point.start 0
          (omega (arith, c.loop-point-test.true, c.point_total-point-end.ensures, c.loop-point.auto.starts, c.requires)) c.loop-point.invariant.start_is
          c.loop-point.invariant.starts;
      behind = rest_more c.loop-point.starts c.args.starts.now q c.loop-point.start 0 c.loop-point.invariant.behind;
    }

pub returns : goal.returns
returns c = grind (arith, common_steps)
