use Rattle.std.proofs.{Common.{◌≡◌, ◌+◌, ◌*◌, ◌<◌, List, length, sym, ap, ◌∙◌, subst, arith}, lemmas.List.{length_push}}
use Rattle.gs_model.specs.{Classes.{class_count}, Frame.{move_count, point_count, round_of}, Positions.{at_point}}
use Rattle.gs_seq.specs.Abstracts.{abstract_frame, lists_of}
use Rattle.gs_seq.proofs.Forms.{form_walked}
use Rattle.gs_best.specs.Tables.{classes_at, start_of}
use Rattle.gs_best.proofs.{Placed.{row_next}, PointStarts.{starts_few}}
use Rattle.gs_play.specs.{Plots.{AreRowsBefore, worth_start}, declared.plot.PointRow.{PointRow}}
use Rattle.gs_play.proofs.{PlotLaws.{rows_more, worths_few, worths_next}, plot.rows_of.Goals.{After-class_total-classes, After-row_of-row}}
use Rattle.gs_play.proofs.plot.rows_of.Goals as goal

inside : (c : After-row_of-row) → c.loop-point.point < point_count (abstract_frame c.args.form.now)
inside c = omega (arith, c.loop-point-test.true, c.point_total-point-end.ensures)

round : (c : After-row_of-row) → c.row_of-row.result.round ≡ round_of (abstract_frame c.args.form.now) (at_point c.loop-point.point)
round c = c.row_of-row.ensures.row.round ∙ ap (λ q. round_of (abstract_frame c.args.form.now) (at_point q)) c.row_of-row.ensures.point

pub class_total-classes-requires-clause-some : goal.class_total-classes-requires-clause-some
class_total-classes-requires-clause-some c =
    let at = (goal.at.class_total-classes-requires-clause-some c).After-row_of-row in
    omega (arith, round at, (form_walked c.args.form.now 1 (omega arith) (omega arith)).some_round c.loop-point.point (inside at))

pub class_total-classes-requires-clause-top : goal.class_total-classes-requires-clause-top
class_total-classes-requires-clause-top c =
    let at = (goal.at.class_total-classes-requires-clause-top c).After-row_of-row in
    omega (arith, round at, (form_walked c.args.form.now 1 (omega arith) (omega arith)).point_in c.loop-point.point (inside at))

-- the cells and the worths of the point
abbrev IsRound : After-class_total-classes → Type 0
IsRound c = c.row_of-row.result.round ≡ round_of (abstract_frame c.args.form.now) (at_point c.loop-point.point)

classes : (c : After-class_total-classes) → IsRound c
    → c.class_total-classes.result ≡ classes_at (abstract_frame c.args.form.now) (lists_of c.args.form.now) c.loop-point.point
classes c r = c.class_total-classes.ensures.value ∙ ap (class_count (lists_of c.args.form.now)) r

cell : (c : After-class_total-classes) → IsRound c → c.loop-point.cell + c.class_total-classes.result
    ≡ start_of (abstract_frame c.args.form.now) (lists_of c.args.form.now) (c.loop-point.point + 1)
cell c r = row_next (classes_at (abstract_frame c.args.form.now) (lists_of c.args.form.now)) c.loop-point.point _ _ c.loop-point.invariant.cell_is (classes c r)

wide : (c : After-class_total-classes) → IsRound c → c.class_total-classes.result * c.row_of-row.result.moves
    ≡ classes_at (abstract_frame c.args.form.now) (lists_of c.args.form.now) c.loop-point.point * move_count (abstract_frame c.args.form.now) c.loop-point.point
wide c r = let f = abstract_frame c.args.form.now in
    ap (λ n. n * c.row_of-row.result.moves) (classes c r)
    ∙ ap (λ m. classes_at f (lists_of c.args.form.now) c.loop-point.point * m) (c.row_of-row.ensures.row.moves ∙ ap (move_count f) c.row_of-row.ensures.point)

worth : (c : After-class_total-classes) → IsRound c → c.loop-point.worth + c.class_total-classes.result * c.row_of-row.result.moves
    ≡ worth_start (abstract_frame c.args.form.now) (lists_of c.args.form.now) (c.loop-point.point + 1)
worth c r = worths_next (abstract_frame c.args.form.now) (lists_of c.args.form.now) c.loop-point.point _ _ c.loop-point.invariant.worth_is (wide c r)

pub overflow_add-cell : goal.overflow_add-cell
overflow_add-cell c =
    let at = goal.at.overflow_add-cell c in
    let l = inside at.After-row_of-row in
    let few = starts_few c.args.form.now (c.loop-point.point + 1) (omega (arith, l)) in
    record { fits = omega (arith, cell at.After-class_total-classes (round at.After-row_of-row), few) }

pub overflow_mul-worth : goal.overflow_mul-worth
overflow_mul-worth c =
    let at = goal.at.overflow_mul-worth c in
    let l = inside at.After-row_of-row in
    let few = worths_few c.args.form.now (c.loop-point.point + 1) (omega (arith, l)) in
    record { fits = omega (arith, worth at.After-class_total-classes (round at.After-row_of-row), few) }

pub overflow_add-worth : goal.overflow_add-worth
overflow_add-worth c =
    let at = goal.at.overflow_add-worth c in
    let l = inside at.After-row_of-row in
    let few = worths_few c.args.form.now (c.loop-point.point + 1) (omega (arith, l)) in
    record { fits = omega (arith, worth at.After-class_total-classes (round at.After-row_of-row), few) }

pub loop-point-preserved : goal.loop-point-preserved
loop-point-preserved c =
    let at = goal.at.loop-point-preserved c in
    let f = abstract_frame c.args.form.now in
    let lists = lists_of c.args.form.now in
    let r = round at.After-row_of-row in
    let rows = c.loop-point.rows.items in
    let q = c.loop-point.point in
    record {
      many = omega (arith, ap (λ (l : List PointRow). length l) c.in_ok-push.ensures.items, length_push rows c.row_of-row.result, c.loop-point.invariant.many);
      rows = subst (AreRowsBefore f lists (q + 1)) (sym c.in_ok-push.ensures.items)
          (rows_more f lists rows c.row_of-row.result q c.loop-point.invariant.many c.row_of-row.ensures.point c.row_of-row.ensures.row
          c.loop-point.invariant.rows);
      cell_is = cell at.After-class_total-classes r;
      worth_is = worth at.After-class_total-classes r;
    }

pub returns : goal.returns
returns c = record {
  many = omega arith;
  rows = let f = abstract_frame c.args.form.now in
      let all : c.loop-point.point ≡ point_count f = omega (arith, c.loop-point-test.false, c.loop-point.auto.point-end, c.point_total-point-end.ensures) in
      subst (λ n. AreRowsBefore f (lists_of c.args.form.now) n c.loop-point.rows.items) all c.loop-point.invariant.rows;
  worths = let f = abstract_frame c.args.form.now in
      let all : c.loop-point.point ≡ point_count f = omega (arith, c.loop-point-test.false, c.loop-point.auto.point-end, c.point_total-point-end.ensures) in
      c.loop-point.invariant.worth_is ∙ ap (worth_start f (lists_of c.args.form.now)) all;
}

pub row_of-row-requires-clause-point : goal.row_of-row-requires-clause-point
row_of-row-requires-clause-point c = grind arith
