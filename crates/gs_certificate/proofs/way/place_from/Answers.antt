use Rattle.std.proofs.Common.{◌≡◌, ◌+◌, ap, ◌∙◌, arith}
use Rattle.gs_model.specs.Classes.{class_count}
use Rattle.gs_seq.specs.Abstracts.{abstract_frame, lists_of}
use Rattle.gs_best.specs.Tables.{start_of}
use Rattle.gs_best.proofs.PointStarts.{starts_few, starts_more}
use Rattle.gs_certificate.proofs.way.place_from.Goals.{After-class_total-place}
use Rattle.gs_certificate.proofs.way.place_from.Goals as goal

pub loop-point-init : goal.loop-point-init
loop-point-init c = c.requires.start

-- where the numbers of the next point start
next_is : (c : After-class_total-place) → let a = c.args.form.now in c.loop-point.place + c.class_total-place.result ≡ start_of (abstract_frame a) (lists_of a)
    (c.loop-point.point + 1)
next_is c =
    let a = c.args.form.now in
    omega (
      arith,
      c.loop-point.invariant,
      c.class_total-place.ensures.value,
      ap (class_count (lists_of a)) c.round_at.ensures.value,
      starts_more
          (abstract_frame a) (lists_of a) c.loop-point.point,
    )

pub overflow_add-place : goal.overflow_add-place
overflow_add-place c =
    let few = starts_few c.args.form.now (c.loop-point.point + 1) (omega (arith, c.loop-point-test.true, c.requires.top)) in
    record { fits = omega (arith, next_is (goal.at.overflow_add-place c).After-class_total-place, few) }

pub loop-point-preserved : goal.loop-point-preserved
loop-point-preserved c = next_is (goal.at.loop-point-preserved c).After-class_total-place

pub returns : goal.returns
returns c =
    let a = c.args.form.now in
    let last : c.loop-point.point ≡ c.args.to = (let up = c.loop-point.auto.point-end c.requires.onward in omega (arith, up, c.loop-point-test.false)) in
    c.loop-point.invariant ∙ ap (start_of (abstract_frame a) (lists_of a)) last
