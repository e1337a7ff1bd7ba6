use Rattle.std.proofs.{Common.{◌≡◌, ℕ, List, length, sym, ap, subst, arith}, lemmas.List.{length_push}}
use Rattle.gs_model.specs.{Classes.{IsClass, class_count}, Frame.{round_of}, Positions.{at_point}}
use Rattle.gs_seq.specs.Abstracts.{abstract_frame, lists_of}
use Rattle.gs_best.proofs.PointStarts.{starts_more}
use Rattle.gs_play.specs.Plots.{AreAbove, IsAbove, cell_place}
use Rattle.gs_play.proofs.{Gates.{above_more}, plot.add_above.Goals.{In-loop-class}}
use Rattle.gs_play.proofs.plot.add_above.Goals as goal

class : (c : In-loop-class) → IsClass (lists_of c.args.form.now) (round_of (abstract_frame c.args.form.now) (at_point c.args.point)) c.loop-class.class
class c = (
  omega (arith, c.loop-class.auto.class),
  omega (arith, c.loop-class-test.true, c.class_total-class-end.ensures.value, ap (class_count (lists_of c.args.form.now)) c.round_at.ensures.value),
)

pub cell_above-requires-clause-class : goal.cell_above-requires-clause-class
cell_above-requires-clause-class c = class (goal.at.cell_above-requires-clause-class c).In-loop-class

pub loop-class-preserved : goal.loop-class-preserved
loop-class-preserved c =
    let f = abstract_frame c.args.form.now in
    let lists = lists_of c.args.form.now in
    let q = c.args.point in
    let n = c.loop-class.class in
    let cells = c.loop-class.cells.items in
    let x = c.cell_above.result in
    let done = c.loop-class.invariant in
    let longer = ap (λ (l : List ℕ). length l) c.in_ok-push.ensures.items in
    let here : cell_place f lists q n ≡ length cells = omega (arith, done.long) in
    record {
      long = omega (arith, longer, length_push cells x, done.long, c.loop-class.auto.class);
      above = λ steps is all. subst (AreAbove f lists steps) (sym c.in_ok-push.ensures.items)
          (above_more f lists steps cells q n x (class (goal.at.loop-class-preserved c).In-loop-class) here
          (subst (λ o. IsAbove f lists o q n x) (sym is) c.cell_above.ensures) (done.above steps is all));
    }

pub returns : goal.returns
returns c = record {
  long = omega (
    arith,
    c.loop-class.invariant.long,
    starts_more (abstract_frame c.args.form.now) (lists_of c.args.form.now) c.args.point,
    c.loop-class-test.false,
    c.loop-class.auto.class,
    c.class_total-class-end.ensures.value,
    ap (class_count (lists_of c.args.form.now)) c.round_at.ensures.value,
  );
  above = λ steps is all. c.loop-class.invariant.above steps is all;
}

pub cell_above-requires-clause-step : goal.cell_above-requires-clause-step
cell_above-requires-clause-step c = c.requires.step

pub cell_above-requires-clause-rows : goal.cell_above-requires-clause-rows
cell_above-requires-clause-rows c = c.requires.rows

pub loop-class-init : goal.loop-class-init
loop-class-init c = grind arith

pub cell_above-requires-clause-long_rows : goal.cell_above-requires-clause-long_rows
cell_above-requires-clause-long_rows c = omega arith
