use Rattle.std.proofs.Common.{◌≡◌, false, true, get_or, refl, sym, ap, ◌∙◌, arith}
use Rattle.gs_model.specs.Frame.{point_count}
use Rattle.gs_best.proofs.PointStarts.{place_before, starts_few}
use Rattle.gs_play.specs.Sides.{side_frame, side_lists}
use Rattle.gs_play.proofs.answers.right_move.Goals as goal

pub overflow_add-result : goal.overflow_add-result
overflow_add-result c =
    let few = starts_few c.args.side.now.form.now c.args.row.point (let l = c.requires.row.inside in omega (arith, l)) in
    record { fits = omega (arith, few, c.requires.row.cell, c.ranges.class.fits) }

pub bounds-picks-row : goal.bounds-picks-row
bounds-picks-row c =
    let f = side_frame c.args.side.now in
    let some = c.requires.class.0 in
    let place = place_before f (side_lists c.args.side.now) c.args.row.point c.args.class (point_count f) c.requires.class c.requires.row.inside in
    omega (arith, place, c.requires.row.cell, c.requires.picks, some)

pub returns-then-is_reached : goal.returns-then-is_reached
returns-then-is_reached c =
    let some = c.requires.class.0 in
    record {
      on = λ h. ap (λ i. get_or c.args.picks.now i 0) (omega (arith, c.requires.row.cell, some));
      off = λ no_way. absurd (no_way (c.is_reached.ensures.0 c.if-is_reached.true));
    }

pub returns-else-is_reached : goal.returns-else-is_reached
returns-else-is_reached c = record {
  on = λ h. absurd (let yes_one = c.is_reached.ensures.1 h in let t : false ≡ true = sym c.if-is_reached.false ∙ yes_one in cc);
  off = λ no_way. refl;
}
