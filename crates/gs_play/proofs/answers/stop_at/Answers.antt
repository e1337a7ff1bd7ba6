use Rattle.std.proofs.{Common.{◌≡◌, ap, ◌∙◌, arith, ⊎_elim}, lemmas.Bool.{cases_eq}}
use Rattle.gs_model.specs.{Classes.{IsClass, class_count}, Frame.{round_of}, Plans.{Plan}, Positions.{at_point}}
use Rattle.gs_best.specs.Tables.{moves_of}
use Rattle.gs_play.specs.{Answers.{plan_after}, Sides.{side_frame, side_lists}, declared.answers.Answer.{Answer}}
use Rattle.gs_play.proofs.{PlansAlike.{alike_on}, answers.stop_at.Goals.{In-loop-class}}
use Rattle.gs_play.proofs.answers.stop_at.Goals as goal

-- the class of the turn is one of the point
class : (c : In-loop-class) → IsClass (side_lists c.args.side.now) (round_of (side_frame c.args.side.now) (at_point c.args.point)) c.loop-class.class
class c = (
  omega (arith, c.loop-class.auto.class),
  omega (arith, c.loop-class-test.true, c.class_total-class-end.ensures.value, ap (class_count (side_lists c.args.side.now)) c.round_at.ensures.value),
)

pub turn-requires-clause-class : goal.turn-requires-clause-class
turn-requires-clause-class c = class (goal.at.turn-requires-clause-class c).In-loop-class

pub loop-class-preserved : goal.loop-class-preserved
loop-class-preserved c =
    let f = side_frame c.args.side.now in
    let lists = side_lists c.args.side.now in
    let done = c.loop-class.invariant in
    let is = c.turn.ensures in
    let after : Answer → Plan = λ a. plan_after f lists a c.args.last in
    record {
      answer = is.answer;
      none = λ d ld l. ⊎_elim
          (λ (same : d ≡ c.loop-class.class). ap (moves_of f lists c.turn.new.answer.taken.items c.args.point) same ∙ is.here)
          (λ other. is.elsewhere.taken c.args.point d c.requires.point ld (λ _ same. other same) ∙ done.none d ld (omega (arith, l, other)))
          (cases_eq d c.loop-class.class);
      elsewhere = λ p d lp ld other. is.elsewhere.taken p d lp ld (λ same _. other same) ∙ done.elsewhere p d lp ld other;
      plan = alike_on f lists c.args.side.now.player (after c.turn.new.answer) (after c.loop-class.answer) (after c.args.answer.now) is.plan done.plan;
    }

pub turn-requires-clause-answer : goal.turn-requires-clause-answer
turn-requires-clause-answer c = grind arith

pub loop-class-init : goal.loop-class-init
loop-class-init c = grind arith

pub returns : goal.returns
returns c = record {
  answer = grind arith;
  none = λ d ld.
      let all = ap (class_count (side_lists c.args.side.now)) c.round_at.ensures.value in
      c.loop-class.invariant.none d ld (omega (arith, ld.1, c.loop-class-test.false, c.class_total-class-end.ensures.value, all));
  elsewhere = c.loop-class.invariant.elsewhere;
  plan = c.loop-class.invariant.plan;
}

pub turn-requires-clause-point : goal.turn-requires-clause-point
turn-requires-clause-point c = grind arith

pub class_total-class-end-requires-clause-top : goal.class_total-class-end-requires-clause-top
class_total-class-end-requires-clause-top c = grind arith
