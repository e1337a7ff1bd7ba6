use Rattle.std.proofs.{Common.{◌≡◌, List, ℕ, length, replicate, sym, ap, ◌∙◌, subst, arith, length-append}, lemmas.List.{length-replicate}}
use Rattle.gs_model.specs.Classes.{class_count}
use Rattle.gs_model.specs.Frame.{point_count}
use Rattle.gs_seq.specs.Abstracts.{abstract_frame, lists_of}
use Rattle.gs_best.specs.Tables.{classes_at, start_of}
use Rattle.gs_best.proofs.PointStarts.{starts_more}
use Rattle.gs_play.specs.Plots.{AreCells}
use Rattle.gs_play.proofs.PlotLaws.{cells_more}
use Rattle.gs_play.proofs.plot.cells_of.Goals as goal

pub loop-point-preserved : goal.loop-point-preserved
loop-point-preserved c =
    let f = abstract_frame c.args.form.now in
    let lists = lists_of c.args.form.now in
    let q = c.loop-point.point in
    let n = c.class_total.result in
    let points = c.loop-point.points.items in
    let wide : n ≡ classes_at f lists q = c.class_total.ensures.value ∙ ap (class_count lists) c.round_at.ensures.value in
    let longer = ap (λ (l : List ℕ). length l) c.in_ok-add_cells.ensures in
    record {
      long = omega (arith, longer, length-append points (replicate n q), length-replicate n q, wide, starts_more f lists q, c.loop-point.invariant.long);
      cells = subst (AreCells f lists) (sym c.in_ok-add_cells.ensures)
          (cells_more f lists points q n (omega (arith, c.loop-point-test.true, c.point_total-point-end.ensures)) c.loop-point.invariant.long wide
          c.loop-point.invariant.cells);
    }

pub returns : goal.returns
returns c = record {
  long = let f = abstract_frame c.args.form.now in
      let all : c.loop-point.point ≡ point_count f = omega (arith, c.loop-point-test.false, c.loop-point.auto.point-end, c.point_total-point-end.ensures) in
      c.loop-point.invariant.long ∙ ap (start_of f (lists_of c.args.form.now)) all;
  cells = grind arith;
}

pub class_total-requires-clause-top : goal.class_total-requires-clause-top
class_total-requires-clause-top c = omega arith
