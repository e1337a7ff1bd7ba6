use Rattle.std.proofs.{Common.{◌≡◌, ◌+◌, get_or, sym, ◌∙◌, arith}, lemmas.Grind.{common_steps}}
use Rattle.gs_model.specs.Frame.{player_at, point_count}
use Rattle.gs_seq.specs.{Games.{frame_in}, Slots.{plan_of}}
use Rattle.gs_seq.proofs.{Leaks.{flows_more, slots_none}, Points.{chooser}, SlotLaws.{slots_le, slots_more}, flows.first_leak.Goals.{After-index-points-point}}
use Rattle.gs_seq.proofs.flows.first_leak.Goals as goal

-- who chooses at the point
whose : (c : After-index-points-point) → (get_or c.points.result.now c.loop-point.point c.index-points-point.result).player ≡ player_at
    (frame_in c.args.game.now) c.loop-point.point
whose c = chooser c.args.game.now c.points.result.now c.loop-point.point _ c.index-points-point.result c.points.ensures c.point_total-point-end.ensures
    c.loop-point-test.true c.index-points-point.is

pub loop-point-preserved-then-points-point : goal.loop-point-preserved-then-points-point
loop-point-preserved-then-points-point c =
    let f = frame_in c.args.game.now in
    let lists = c.args.classes.now.lists in
    let q = c.loop-point.point in
    let other = λ (e : player_at f q ≡ c.args.player). c.if-points-point.true
    (whose (goal.at.loop-point-preserved-then-points-point c).After-index-points-point ∙ e) in
    record {
      first_is = c.loop-point.invariant.first_is ∙ sym (slots_none f lists c.args.player q other);
      flows = flows_more f lists c.args.player (plan_of f lists c.args.total c.args.weights.now) q c.loop-point.invariant.flows (λ own k h. absurd (other own));
    }

pub first_leak_at-requires-clause-own : goal.first_leak_at-requires-clause-own
first_leak_at-requires-clause-own c = sym (whose (goal.at.first_leak_at-requires-clause-own c).After-index-points-point) ∙ c.if-points-point.false

pub returns-in-Some : goal.returns-in-Some
returns-in-Some c =
    let at = goal.at.returns-in-Some c in
    let h = c.in-Some.ensures in
    record {
      point_in = omega (arith, c.loop-point-test.true, c.point_total-point-end.ensures);
      own = sym (whose at.After-index-points-point)
          ∙ c.if-points-point.false;
      class_in = h.0;
      points = c.loop-point.invariant.flows;
      classes = h.1;
      here = h.2;
    }

pub overflow_add-first : goal.overflow_add-first
overflow_add-first c =
    let f = frame_in c.args.game.now in
    let lists = c.args.classes.now.lists in
    let q = c.loop-point.point in
    let up = slots_le f lists c.args.player (q + 1) (point_count f) (omega (arith, c.loop-point-test.true, c.point_total-point-end.ensures)) in
    omega (arith, c.loop-point.invariant.first_is, c.slots_at-first.ensures, slots_more f lists c.args.player q, up, c.requires.long)

pub loop-point-preserved : goal.loop-point-preserved
loop-point-preserved c =
    let f = frame_in c.args.game.now in
    let lists = c.args.classes.now.lists in
    record {
      first_is = omega (arith, c.loop-point.invariant.first_is, c.slots_at-first.ensures, slots_more f lists c.args.player c.loop-point.point);
      flows = flows_more f lists c.args.player (plan_of f lists c.args.total c.args.weights.now) c.loop-point.point c.loop-point.invariant.flows
          (λ own. c.in_default.ensures);
    }

pub bounds-points-point-in-loop-point : goal.bounds-points-point-in-loop-point
bounds-points-point-in-loop-point c = grind (arith, common_steps)

pub bounds-points-point : goal.bounds-points-point
bounds-points-point c = grind (arith, common_steps)

pub returns : goal.returns
returns c = grind arith

pub slots_at-first-requires-clause-in_range : goal.slots_at-first-requires-clause-in_range
slots_at-first-requires-clause-in_range c = omega arith

pub first_leak_at-requires-clause-long : goal.first_leak_at-requires-clause-long
first_leak_at-requires-clause-long c = omega arith

pub first_leak_at-requires-clause-in_range : goal.first_leak_at-requires-clause-in_range
first_leak_at-requires-clause-in_range c = omega arith
