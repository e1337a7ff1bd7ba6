use Rattle.std.proofs.Common.{◌≡◌, ◌+◌, ◌-◌, ◌*◌, ◌<◌, get_or, refl, ap, ◌∙◌, arith}
use Rattle.gs_model.specs.{Classes.{IsClass, class_count, first_member}, Frame.{last_step, move_count, point_count, round_of}, Plans.{lift, number_before}}
use Rattle.gs_model.specs.Positions.{at_point}
use Rattle.gs_seq.specs.{Abstracts.{abstract_frame, lists_of}, Slots.{plan_of, slot_of, slots_before}}
use Rattle.gs_seq.proofs.{Firsts.{slots_own}, SlotLaws.{slots_le}, Forms.{form_classes, form_in_range, form_walked}}
use Rattle.gs_best.specs.Tables.{moves_of, start_of}
use Rattle.gs_best.proofs.{PointStarts.{place_before}, AllOn.{put_next}, putting.put_point.Goals.{After-class_total-before-end, After-coming-came, After-slot-slot, In-loop-before}}
use Rattle.gs_best.proofs.putting.put_point.Goals as goal

-- the round's classes, and the one at hand
all : (c : After-class_total-before-end) → c.class_total-before-end.result ≡ class_count (lists_of c.args.form.now)
    (round_of (abstract_frame c.args.form.now) (at_point c.args.point))
all c = c.class_total-before-end.ensures.value ∙ ap (class_count (lists_of c.args.form.now)) c.round_at.ensures.value

class : (c : In-loop-before) → IsClass (lists_of c.args.form.now) (round_of (abstract_frame c.args.form.now) (at_point c.args.point)) (c.loop-before.before + 1)
class c = (
  omega arith,
  omega (
    arith,
    c.class_total-before-end.ensures.value ∙ ap (class_count (lists_of c.args.form.now)) c.round_at.ensures.value,
    c.loop-before-test.true,
  ),
)

-- its move
pick : (c : In-loop-before) → get_or c.args.picks.now (get_or c.args.starts.now c.args.point 0 + c.loop-before.before) 0 ≡ moves_of
    (abstract_frame c.args.form.now) (lists_of c.args.form.now) c.args.picks.now c.args.point (c.loop-before.before + 1)
pick c =
    let q = c.args.point in
    let before = c.loop-before.before in
    let place : get_or c.args.starts.now q 0 + before ≡ start_of (abstract_frame c.args.form.now) (lists_of c.args.form.now) q +
    (before + 1 - 1) = omega (arith, c.requires.places q c.requires.point) in
    ap (λ n. get_or c.args.picks.now n 0) place

in_moves : (c : In-loop-before) → moves_of (abstract_frame c.args.form.now) (lists_of c.args.form.now) c.args.picks.now c.args.point
    (c.loop-before.before + 1) < move_count (abstract_frame c.args.form.now) c.args.point
in_moves c = c.requires.moves c.args.point (c.loop-before.before + 1) c.requires.point c.requires.own (class c)

pub bounds-picks-start : goal.bounds-picks-start
bounds-picks-start c =
    let a = c.args.form.now in
    let f = abstract_frame a in
    let place = place_before f (lists_of a) c.args.point (c.loop-before.before + 1) (point_count f) (class (goal.at.bounds-picks-start c).In-loop-before)
    c.requires.point in
    omega (arith, c.requires.places c.args.point c.requires.point, place, c.requires.picks)

pub coming-came-requires-clause-long : goal.coming-came-requires-clause-long
coming-came-requires-clause-long c =
    let f = abstract_frame c.args.form.now in
    let lists = lists_of c.args.form.now in
    let q = c.args.point in
    omega (
      arith,
      c.loop-before.auto.weights,
      c.requires.long,
      ap (λ p. slots_before f lists p q) c.requires.own,
      slots_le f lists c.args.player q
          (point_count f) (omega (arith, c.requires.point)),
    )

pub slot-slot-requires-clause-choice : goal.slot-slot-requires-clause-choice
slot-slot-requires-clause-choice c = let at = (goal.at.slot-slot-requires-clause-choice c).In-loop-before in omega (arith, pick at, in_moves at)

-- where its weight goes, and what comes there
at_slot : (c : After-slot-slot) → c.slot-slot.result ≡ slot_of (abstract_frame c.args.form.now) (lists_of c.args.form.now) c.args.point (c.loop-before.before + 1)
    (moves_of (abstract_frame c.args.form.now) (lists_of c.args.form.now) c.args.picks.now c.args.point (c.loop-before.before + 1))
at_slot c = c.slot-slot.ensures.value
    ∙ ap (slot_of (abstract_frame c.args.form.now) (lists_of c.args.form.now) c.args.point (c.loop-before.before + 1)) (pick (goal.at.After-slot-slot c).In-loop-before)

came_is : (c : After-coming-came) → c.coming-came.result ≡ number_before (abstract_frame c.args.form.now)
    (lift (abstract_frame c.args.form.now) (lists_of c.args.form.now) (plan_of (abstract_frame c.args.form.now) (lists_of c.args.form.now) 1 c.loop-before.weights))
    (last_step (abstract_frame c.args.form.now) c.args.player (at_point c.args.point)) (round_of (abstract_frame c.args.form.now) (at_point c.args.point))
    (first_member (lists_of c.args.form.now) (round_of (abstract_frame c.args.form.now) (at_point c.args.point)) (c.loop-before.before + 1))
came_is c =
    let f = abstract_frame c.args.form.now in
    let lists = lists_of c.args.form.now in
    let q = c.args.point in
    c.coming-came.ensures
    ∙ ap (λ p. number_before f (lift f lists (plan_of f lists 1 c.loop-before.weights)) (last_step f p (at_point q)) (round_of f (at_point q))
    (first_member lists (round_of f (at_point q)) (c.loop-before.before + 1))) c.requires.own

pub loop-before-preserved : goal.loop-before-preserved
loop-before-preserved c =
    let a = c.args.form.now in
    let f = abstract_frame a in
    let lists = lists_of a in
    let at = goal.at.loop-before-preserved c in
    let here = at.In-loop-before in
    let w = form_walked a c.args.player c.requires.some c.requires.two in
    let next = put_next f (form_in_range a) lists (form_classes a) c.args.player w (moves_of f lists c.args.picks.now) c.args.point c.requires.point
    c.requires.own c.loop-before.before (class here) (in_moves here) c.args.weights.now c.loop-before.weights c.slot-slot.result c.coming-came.result
    (at_slot at.After-slot-slot) (c.loop-before.auto.weights ∙ c.requires.long) (came_is at.After-coming-came)
    c.loop-before.invariant.kept c.loop-before.invariant.here c.loop-before.invariant.clear in
    record { kept = next.kept; here = next.here; clear = next.clear }

pub bounds-weights-slot : goal.bounds-weights-slot
bounds-weights-slot c = grind arith

pub slot-slot-requires-clause-class : goal.slot-slot-requires-clause-class
slot-slot-requires-clause-class c = grind arith

pub coming-came-requires-clause-class : goal.coming-came-requires-clause-class
coming-came-requires-clause-class c = grind arith

pub returns : goal.returns
returns c = record {
  kept = c.loop-before.invariant.kept;
  here = λ e le. c.loop-before.invariant.here e le.0
      (omega (arith, le.1, all (goal.at.returns c).After-class_total-before-end, c.loop-before-test.false));
  clear = let f = abstract_frame c.args.form.now in
      let lists = lists_of c.args.form.now in
      let q = c.args.point in
      let whole : c.loop-before.before ≡ class_count lists (round_of f (at_point q)) =
      omega (arith, c.loop-before-test.false, c.loop-before.auto.before-end, all (goal.at.returns c).After-class_total-before-end) in
      λ k l. c.loop-before.invariant.clear k (omega (arith, l, slots_own f lists c.args.player q c.requires.own, ap (λ n. n * move_count f q) whole));
}

pub loop-before-init : goal.loop-before-init
loop-before-init c = record {
  kept = λ i li. refl;
  here = λ e lo hi. absurd (omega (arith, lo, hi));
  clear = λ i li. c.requires.clear i (omega (arith, li));
}

pub slot-slot-requires-clause-point : goal.slot-slot-requires-clause-point
slot-slot-requires-clause-point c = omega arith

pub coming-came-requires-clause-point : goal.coming-came-requires-clause-point
coming-came-requires-clause-point c = grind arith

pub offset_bounds-weights-slot : goal.offset_bounds-weights-slot
offset_bounds-weights-slot c = grind arith

pub overflow_cast-slot : goal.overflow_cast-slot
overflow_cast-slot c = grind arith

pub class_total-before-end-requires-clause-top : goal.class_total-before-end-requires-clause-top
class_total-before-end-requires-clause-top c = grind arith

pub overflow_add-before-in-loop-before : goal.overflow_add-before-in-loop-before
overflow_add-before-in-loop-before c = grind arith
