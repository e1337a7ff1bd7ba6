use Rattle.std.proofs.Common.{◌≡◌, ◌+◌, ◌-◌, false, true, set, refl, sym, ap, ◌∙◌, subst, arith}
use Rattle.std.specs.Prelude.{◌↔◌, IsTrue}
use Rattle.gs_model.specs.{Classes.{IsClass, class_count}, Frame.{last_step, player_at, point_count, round_of}, Positions.{at_point}}
use Rattle.gs_seq.specs.Abstracts.{game_in}
use Rattle.gs_seq.proofs.{Forms.{form_classes, form_in_range, form_walked}, Points.{walked_at}}
use Rattle.gs_best.specs.Tables.{moves_of, start_of}
use Rattle.gs_best.proofs.PointStarts.{place_before, starts_few}
use Rattle.gs_play.specs.{Answers.{IsReached}, Plots.{IsGate, cell_place}, Sides.{side_frame, side_lists}}
use Rattle.gs_play.proofs.{FirstMoves.{AreFirstTo, firsts_off, firsts_on}, PlotRows.{IsRowAt, row_at, row_cell, row_round}}
use Rattle.gs_play.proofs.answers.take_first.Goals.{After-index-row, In-loop-class, else-is_reached, then-is_reached}
use Rattle.gs_play.proofs.answers.take_first.Goals as goal

row : (c : After-index-row) → IsRowAt (side_frame c.args.side.now) (side_lists c.args.side.now) c.args.point c.index-row.result.now
row c = let s = c.args.side.now in row_at (side_frame s) (side_lists s) s.plot.now s.plotted c.args.point c.requires.point _ c.index-row.ensures

round : (c : After-index-row) → c.index-row.result.now.round ≡ round_of (side_frame c.args.side.now) (at_point c.args.point)
round c = row_round (side_frame c.args.side.now) (side_lists c.args.side.now) c.args.point _ (row c)

pub class_total-class-end-requires-clause-some : goal.class_total-class-end-requires-clause-some
class_total-class-end-requires-clause-some c = omega (
  arith,
  round (goal.at.class_total-class-end-requires-clause-some c).After-index-row,
  (form_walked c.args.side.now.form.now 1 (omega arith) (omega arith)).some_round c.args.point c.requires.point,
)

pub class_total-class-end-requires-clause-top : goal.class_total-class-end-requires-clause-top
class_total-class-end-requires-clause-top c = omega (
  arith,
  round (goal.at.class_total-class-end-requires-clause-top c).After-index-row,
  (form_walked c.args.side.now.form.now 1 (omega arith) (omega arith)).point_in c.args.point c.requires.point,
)

-- the class of the turn is one of the point
class : (c : In-loop-class) → c.index-row.result.now.round ≡ round_of (side_frame c.args.side.now) (at_point c.args.point)
    → IsClass (side_lists c.args.side.now) (round_of (side_frame c.args.side.now) (at_point c.args.point)) c.loop-class.class
class c r = (
  omega (arith, c.loop-class.auto.class),
  omega (arith, c.loop-class-test.true, c.class_total-class-end.ensures.value, ap (class_count (side_lists c.args.side.now)) r),
)

-- its cell
cell : (c : In-loop-class) → IsRowAt (side_frame c.args.side.now) (side_lists c.args.side.now) c.args.point c.index-row.result.now
    → c.index-row.result.now.cell + c.loop-class.class - 1 ≡ cell_place (side_frame c.args.side.now) (side_lists c.args.side.now) c.args.point
    c.loop-class.class
cell c r = omega (arith, row_cell (side_frame c.args.side.now) (side_lists c.args.side.now) c.args.point _ r c.loop-class.class, c.loop-class.auto.class)

pub overflow_add-taken : goal.overflow_add-taken
overflow_add-taken c =
    let s = c.args.side.now in
    let r = row (goal.at.overflow_add-taken c).After-index-row in
    let few = starts_few s.form.now c.args.point (omega (arith, c.requires.point)) in
    let start = r.known.cell ∙ ap (start_of (side_frame s) (side_lists s)) r.point in
    record { fits = omega (arith, start, few, c.loop-class-test.true, c.class_total-class-end.ensures.few) }

pub bounds-taken-row : goal.bounds-taken-row
bounds-taken-row c =
    let s = c.args.side.now in
    let at = goal.at.bounds-taken-row c in
    let lc = class at.In-loop-class (round at.After-index-row) in
    let place = place_before (side_frame s) (side_lists s) c.args.point c.loop-class.class (point_count (side_frame s)) lc c.requires.point in
    omega (arith, place, cell at.In-loop-class (row at.After-index-row), c.loop-class.auto.taken, c.requires.long)

pub loop-class-preserved : goal.loop-class-preserved
loop-class-preserved c =
    let s = c.args.side.now in
    let f = side_frame s in
    let lists = side_lists s in
    let a = s.form.now in
    let q = c.args.point in
    let n = c.loop-class.class in
    let at = goal.at.loop-class-preserved c in
    let lc = class at.In-loop-class (round at.After-index-row) in
    let here = cell at.In-loop-class (row at.After-index-row) in
    let place = place_before f lists q n (point_count f) lc c.requires.point in
    let w = walked_at (game_in a) (player_at f q) q c.requires.point refl in
    let test = subst (λ i. IsTrue c.is_reached.result ↔ IsReached f lists (moves_of f lists c.loop-class.taken) (last_step f (player_at f i) (at_point i))
    (round_of f (at_point i)) n) (row at.After-index-row).point c.is_reached.ensures in
    elim c.if-is_reached.branch [
      | then-is_reached b ↦ firsts_on f lists q c.args.taken.now (form_in_range a) (form_classes a) (player_at f q) w c.requires.point refl n lc
          c.loop-class.taken c.loop-class.invariant (test.0 b.if-is_reached.true) c.if-is_reached.taken
          (b.taken-is ∙ ap (λ i. set c.loop-class.taken i 0) here) (omega (arith, place, c.loop-class.auto.taken, c.requires.long))
      | else-is_reached b ↦ subst (AreFirstTo f lists q (n + 1) c.args.taken.now) (sym b.taken-is)
          (firsts_off f lists q c.args.taken.now (form_in_range a) (form_classes a) (player_at f q) w c.requires.point refl n lc c.loop-class.taken
          c.loop-class.invariant
          (λ h. absurd (let t : false ≡ true = sym b.if-is_reached.false ∙ test.1 h in cc)))
    ]

pub returns : goal.returns
returns c = record {
  first = λ e le. c.loop-class.invariant.first e le
      (omega (
        arith,
        le.1,
        c.loop-class-test.false,
        c.class_total-class-end.ensures.value,
        ap (class_count (side_lists c.args.side.now)) (round (goal.at.returns c).After-index-row),
      ));
  elsewhere = c.loop-class.invariant.elsewhere;
}

pub loop-class-init : goal.loop-class-init
loop-class-init c = grind arith

pub is_reached-requires : goal.is_reached-requires
is_reached-requires c = record {
  row = (row (goal.at.is_reached-requires c).After-index-row).known;
  gate = let r = row (goal.at.is_reached-requires c).After-index-row in
      subst (λ i. IsGate (side_frame c.args.side.now) i c.gate_of-gate.result) (sym r.point) c.gate_of-gate.ensures;
  class = let s = c.args.side.now in
      let at = goal.at.is_reached-requires c in
      subst (λ i. IsClass (side_lists s) (round_of (side_frame s) (at_point i)) c.loop-class.class) (sym (row at.After-index-row).point)
      (class at.In-loop-class (round at.After-index-row));
  long = omega arith;
}

pub overflow_sub-taken : goal.overflow_sub-taken
overflow_sub-taken c = grind arith

pub overflow_cast-taken : goal.overflow_cast-taken
overflow_cast-taken c = grind arith
