use Rattle.std.proofs.Common.{◌≡◌, ℕ, Option, ◌+◌, ◌-◌, ◌<◌, sym, ap, ◌∙◌, subst, arith, ⊎_elim}
use Rattle.gs_model.specs.{Classes.{IsClass, class_count}, Frame.{last_step, move_count, player_at, point_count, round_of}, Positions.{Step, at_point}}
use Rattle.gs_seq.proofs.{Forms.{form_classes, form_in_range, form_walked}}
use Rattle.gs_best.specs.Tables.{moves_of, start_of}
use Rattle.gs_best.proofs.PointStarts.{place_before, starts_few}
use Rattle.gs_play.specs.{Answers.{IsRightMove}, Plots.{IsGate, cell_place}, Sides.{side_frame, side_lists}, declared.answers.Answer.{Answer}}
use Rattle.gs_play.specs.declared.tally.Tally.{Tally}
use Rattle.gs_play.proofs.{Paid.{old_in, old_read}, PlotRows.{IsRowAt, row_at, row_cell, row_round}, Taken.{reached_or}}
use Rattle.gs_play.proofs.Retaken.{IsRenewing, renewing_more, renewing_none, renewing_same}
use Rattle.gs_play.proofs.answers.renew_point.Goals.{After-index-row, After-right_move-new, In-loop-class, else-old-new, then-old-new}
use Rattle.gs_play.proofs.answers.renew_point.Goals as goal

row : (c : After-index-row) → IsRowAt (side_frame c.args.side.now) (side_lists c.args.side.now) c.args.point c.index-row.result.now
row c = row_at (side_frame c.args.side.now) (side_lists c.args.side.now) c.args.side.now.plot.now c.args.side.now.plotted c.args.point c.requires.point
    c.index-row.result.now c.index-row.ensures

round : (c : After-index-row) → c.index-row.result.now.round ≡ round_of (side_frame c.args.side.now) (at_point c.args.point)
round c = row_round (side_frame c.args.side.now) (side_lists c.args.side.now) c.args.point c.index-row.result.now (row c)

pub class_total-class-end-requires-clause-some : goal.class_total-class-end-requires-clause-some
class_total-class-end-requires-clause-some c =
    let some = (form_walked c.args.side.now.form.now 1 (omega arith) (omega arith)).some_round c.args.point c.requires.point in
    omega (arith, some, round (goal.at.class_total-class-end-requires-clause-some c).After-index-row)

pub class_total-class-end-requires-clause-top : goal.class_total-class-end-requires-clause-top
class_total-class-end-requires-clause-top c =
    let top = (form_walked c.args.side.now.form.now 1 (omega arith) (omega arith)).point_in c.args.point c.requires.point in
    omega (arith, top, round (goal.at.class_total-class-end-requires-clause-top c).After-index-row)

-- the class at hand
at_class : (c : In-loop-class) → c.index-row.result.now.round ≡ round_of (side_frame c.args.side.now) (at_point c.args.point)
    → IsClass (side_lists c.args.side.now) (round_of (side_frame c.args.side.now) (at_point c.args.point)) c.loop-class.class
at_class c here = (
  omega (arith, c.loop-class.auto.class),
  omega (arith, c.loop-class-test.true, c.class_total-class-end.ensures.value, ap (class_count (side_lists c.args.side.now)) here),
)

-- its cell
at_cell : (c : In-loop-class) → IsRowAt (side_frame c.args.side.now) (side_lists c.args.side.now) c.args.point c.index-row.result.now
    → c.index-row.result.now.cell + c.loop-class.class - 1
    ≡ cell_place (side_frame c.args.side.now) (side_lists c.args.side.now) c.args.point c.loop-class.class
at_cell c row =
    let place = row_cell (side_frame c.args.side.now) (side_lists c.args.side.now) c.args.point c.index-row.result.now row c.loop-class.class in
    omega (arith, place, c.loop-class.auto.class)

-- the right move there
right : (c : After-right_move-new) → c.index-row.result.now.point ≡ c.args.point → let f = side_frame c.args.side.now in
    let lists = side_lists c.args.side.now in
    IsRightMove f lists (moves_of f lists c.loop-class.answer.taken.items) (moves_of f lists c.args.picks.now)
    (last_step f (player_at f c.args.point) (at_point c.args.point)) c.args.point c.loop-class.class c.right_move-new.result
right c here =
    let f = side_frame c.args.side.now in
    let lists = side_lists c.args.side.now in
    let step : ℕ → Option Step = λ q. last_step f (player_at f q) (at_point q) in
    let picks = moves_of f lists c.args.picks.now in
    subst (λ q. IsRightMove f lists (moves_of f lists c.loop-class.answer.taken.items) picks (step q) q c.loop-class.class c.right_move-new.result) here
    (let q = c.index-row.result.now.point in
    subst (λ xs. IsRightMove f lists (moves_of f lists xs) picks (step q) q c.loop-class.class c.right_move-new.result) c.deref.ensures.value
    c.right_move-new.ensures)

-- which is one of the point's, or none
right_in : (c : After-right_move-new) → c.index-row.result.now.point ≡ c.args.point
    → IsClass (side_lists c.args.side.now) (round_of (side_frame c.args.side.now) (at_point c.args.point)) c.loop-class.class
    → c.right_move-new.result < 255 → c.right_move-new.result < move_count (side_frame c.args.side.now) c.args.point
right_in c here class some =
    let f = side_frame c.args.side.now in
    let lists = side_lists c.args.side.now in
    let q = c.args.point in
    let r = right c here in
    ⊎_elim
    (λ reached. (let is = r.on reached in let m = c.requires.renewable.moves q c.loop-class.class c.requires.point c.requires.own class in omega (arith, is, m)))
    (λ no_way. absurd (let is = r.off no_way in omega (arith, is, some)))
    (reached_or f lists (moves_of f lists c.loop-class.answer.taken.items) (last_step f (player_at f q) (at_point q)) (round_of f (at_point q))
    c.loop-class.class)

pub overflow_add-cell : goal.overflow_add-cell
overflow_add-cell c =
    let here = (goal.at.overflow_add-cell c).After-index-row in
    let few = starts_few c.args.side.now.form.now c.args.point (let l = c.requires.point in omega (arith, l)) in
    let start = (row here).known.cell in
    let same = ap (start_of (side_frame c.args.side.now) (side_lists c.args.side.now)) (row here).point in
    record { fits = omega (arith, few, start, same, c.loop-class-test.true, c.class_total-class-end.ensures.few) }

pub index-old-requires : goal.index-old-requires
index-old-requires c =
    let f = side_frame c.args.side.now in
    let lists = side_lists c.args.side.now in
    let here = (goal.at.index-old-requires c).After-index-row in
    let loop = (goal.at.index-old-requires c).In-loop-class in
    let place = place_before f lists c.args.point c.loop-class.class (point_count f) (at_class loop (round here)) c.requires.point in
    omega (arith, place, at_cell loop (row here), c.loop-class.invariant.renewed.answer.taken, c.loop-class.answer.taken.ok.0)

pub turn-requires-clause-class : goal.turn-requires-clause-class
turn-requires-clause-class c = at_class (goal.at.turn-requires-clause-class c).In-loop-class (round (goal.at.turn-requires-clause-class c).After-index-row)

pub turn-requires-clause-new : goal.turn-requires-clause-new
turn-requires-clause-new c =
    let here = (goal.at.turn-requires-clause-new c).After-index-row in
    right_in (goal.at.turn-requires-clause-new c).After-right_move-new (row here).point
    (at_class (goal.at.turn-requires-clause-new c).In-loop-class (round here))

pub loop-class-init : goal.loop-class-init
loop-class-init c =
    let f = side_frame c.args.side.now in
    let lists = side_lists c.args.side.now in
    renewing_none f lists c.args.side.now.player c.args.point c.args.now (moves_of f lists c.args.picks.now) c.args.answer.now c.args.tally.now
    c.requires.renewable.answer c.requires.renewable.room

pub loop-class-preserved : goal.loop-class-preserved
loop-class-preserved c =
    let s = c.args.side.now in
    let f = side_frame s in
    let lists = side_lists s in
    let q = c.args.point in
    let n = c.loop-class.class in
    let move = moves_of f lists c.args.picks.now in
    let here = (goal.at.loop-class-preserved c).After-index-row in
    let loop = (goal.at.loop-class-preserved c).In-loop-class in
    let class = at_class loop (round here) in
    let w = form_walked s.form.now s.player s.some s.two in
    let right = right (goal.at.loop-class-preserved c).After-right_move-new (row here).point in
    let read = old_read f lists s.player c.args.now q n c.requires.point c.requires.own class c.loop-class.answer c.loop-class.invariant.renewed.answer
    (c.index-row.result.now.cell + n - 1) (at_cell loop (row here)) c.index-old.result.now c.index-old.ensures in
    let Next : Answer → Tally → Type 0 = λ a t. IsRenewing f lists s.player q (n + 1) c.args.now move c.args.answer.now a c.args.tally.now t in
    elim c.if-old-new.branch [
      | then-old-new o ↦
          subst (λ a. Next a c.if-old-new.tally) (sym o.answer-is) (subst (Next o.turn.new.answer) (sym o.tally-is)
          (renewing_more f (form_in_range s.form.now) lists (form_classes s.form.now) s.player w q n c.args.now c.requires.point c.requires.own class move
          c.args.answer.now c.loop-class.answer c.args.tally.now c.loop-class.tally c.loop-class.invariant c.right_move-new.result right o.turn.new.answer
          o.tell.new.tally o.turn.ensures.here o.turn.ensures.turned o.turn.ensures.elsewhere
          (record {
            answer = o.turn.ensures.answer;
            plan = o.turn.ensures.plan;
            kept = o.tell.ensures.kept;
            passed_on = o.tell.ensures.passed_on (moves_of f lists c.loop-class.answer.taken.items) (moves_of f lists o.turn.new.answer.taken.items)
                (record { before = read; here = o.turn.ensures.here; elsewhere = o.turn.ensures.elsewhere.taken });
          })))
      | else-old-new o ↦
          subst (λ a. Next a c.if-old-new.tally) (sym o.answer-is) (subst (Next c.loop-class.answer) (sym o.tally-is)
          (renewing_same f (form_in_range s.form.now) lists (form_classes s.form.now) s.player w q n c.args.now c.requires.point c.requires.own class move
          c.args.answer.now c.loop-class.answer c.args.tally.now c.loop-class.tally c.loop-class.invariant c.right_move-new.result right
          (read ∙ o.if-old-new.false)))
    ]

pub turn-requires-clause-answer : goal.turn-requires-clause-answer
turn-requires-clause-answer c = c.loop-class.invariant.renewed.answer

pub turn-requires-clause-point : goal.turn-requires-clause-point
turn-requires-clause-point c = c.requires.point

pub right_move-new-requires : goal.right_move-new-requires
right_move-new-requires c = record {
  row = (row (goal.at.right_move-new-requires c).After-index-row).known;
  gate = let r = row (goal.at.right_move-new-requires c).After-index-row in
      subst (λ i. IsGate (side_frame c.args.side.now) i c.gate_of-gate.result) (sym r.point) c.gate_of-gate.ensures;
  class = let s = c.args.side.now in
      let at = goal.at.right_move-new-requires c in
      subst (λ i. IsClass (side_lists s) (round_of (side_frame s) (at_point i)) c.loop-class.class) (sym (row at.After-index-row).point)
      (at_class at.In-loop-class (round at.After-index-row));
  taken = omega arith;
  picks = c.requires.renewable.long;
}

pub index-row-requires : goal.index-row-requires
index-row-requires c = omega arith

pub tell-requires : goal.tell-requires
tell-requires c = record {
  point = c.requires.point;
  own = omega arith;
  class = at_class (goal.at.tell-requires c).In-loop-class (round (goal.at.tell-requires c).After-index-row);
  old = let here = (goal.at.tell-requires c).After-index-row in
      let loop = (goal.at.tell-requires c).In-loop-class in
      old_in (side_frame c.args.side.now) (side_lists c.args.side.now) c.args.side.now.player c.args.now c.args.point c.loop-class.class c.requires.point
      c.requires.own (at_class loop (round here)) c.loop-class.answer c.loop-class.invariant.renewed.answer
      (c.index-row.result.now.cell + c.loop-class.class - 1) (at_cell loop (row here)) c.index-old.result.now c.index-old.ensures;
  new = let here = (goal.at.tell-requires c).After-index-row in
      right_in (goal.at.tell-requires c).After-right_move-new (row here).point
      (at_class (goal.at.tell-requires c).In-loop-class (round here));
  apart = grind arith;
  room = c.loop-class.invariant.renewed.kept.room;
}

pub turn-requires-clause-own : goal.turn-requires-clause-own
turn-requires-clause-own c = omega arith

pub overflow_sub-cell : goal.overflow_sub-cell
overflow_sub-cell c = grind arith

pub returns : goal.returns
returns c = record {
  renewed = c.loop-class.invariant.renewed;
  right = let here = (goal.at.returns c).After-index-row in
      λ e le. c.loop-class.invariant.right e le
      (omega (arith, le.1, c.loop-class-test.false, c.class_total-class-end.ensures.value, ap (class_count (side_lists c.args.side.now)) (round here)));
  turned = c.loop-class.invariant.turned;
}
