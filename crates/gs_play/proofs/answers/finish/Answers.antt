use Rattle.std.proofs.Common.{◌≡◌, ◌+◌, ◌<◌, refl, sym, ◌∙◌, subst, arith}
use Rattle.gs_model.specs.{Frame.{player_at, point_count}}
use Rattle.gs_seq.specs.Slots.{plan_of}
use Rattle.gs_seq.proofs.Forms.{form_moves}
use Rattle.gs_play.specs.{PlanSums.{ArePlansAlike}, Answers.{plan_after}, Sides.{side_frame, side_lists}}
use Rattle.gs_play.proofs.{PlansAlike.{alike_on}, PlotRows.{row_at, row_player}, Started.{IsStoppedBefore, stopped_more, stopped_other, stopped_plan}}
use Rattle.gs_play.proofs.answers.finish.Goals.{After-index, else-index-side, then-index-side}
use Rattle.gs_play.proofs.answers.finish.Goals as goal

inside : (c : After-index) → c.loop-point.point < point_count (side_frame c.args.side.now)
inside c = omega (arith, c.loop-point-test.true, c.point_total-point-end.ensures)

-- who chooses at the point
player : (c : After-index) → c.index.result.now.player ≡ player_at (side_frame c.args.side.now) c.loop-point.point
player c =
    let s = c.args.side.now in
    let q = c.loop-point.point in
    row_player (side_frame s) (side_lists s) q _ (row_at (side_frame s) (side_lists s) s.plot.now s.plotted q (inside c) _ c.index.ensures)

pub loop-point-preserved : goal.loop-point-preserved
loop-point-preserved c =
    let s = c.args.side.now in
    let f = side_frame s in
    let lists = side_lists s in
    let n = c.loop-point.point in
    let who = player (goal.at.loop-point-preserved c).After-index in
    let done = c.loop-point.invariant in
    elim c.if-index-side.branch [
      | then-index-side b ↦ subst (IsStoppedBefore f lists s.player (n + 1) c.args.last c.args.answer) (sym b.answer-is)
          (stopped_more f lists s.player n c.args.last c.args.answer c.loop-point.answer done b.stop_at.new.answer b.stop_at.ensures.answer
          b.stop_at.ensures.none b.stop_at.ensures.elsewhere b.stop_at.ensures.plan)
      | else-index-side b ↦ subst (IsStoppedBefore f lists s.player (n + 1) c.args.last c.args.answer) (sym b.answer-is)
          (stopped_other f lists s.player n c.args.last c.args.answer c.loop-point.answer done (λ own. b.if-index-side.false (who ∙ own)))
    ]

pub returns : goal.returns
returns c =
    let s = c.args.side.now in
    let f = side_frame s in
    let lists = side_lists s in
    let a = c.loop-point.answer in
    let last = c.args.last in
    let done = c.loop-point.invariant in
    let none = stopped_plan f lists s.player a last (λ q lq. (let n = (form_moves s.form.now q lq).few in omega (arith, n)))
    (λ q d lq own ld. done.none q d (omega (arith, lq, c.loop-point-test.false, c.point_total-point-end.ensures)) lq own ld) in
    record {
      player = refl;
      total = c.from.ensures;
      long = done.answer.weights;
      plan = alike_on f lists s.player (plan_of f lists c.from.result a.weights.items) (plan_after f lists a last) (plan_after f lists c.args.answer last)
          (subst (λ t. ArePlansAlike f lists s.player (plan_of f lists t a.weights.items) (plan_after f lists a last)) (sym c.from.ensures) none) done.plan;
    }

pub loop-point-init : goal.loop-point-init
loop-point-init c = grind arith

pub stop_at-requires : goal.stop_at-requires
stop_at-requires c = record {
  point = grind arith;
  own = sym (player (goal.at.stop_at-requires c).After-index) ∙ c.if-index-side.true;
  answer = grind arith;
}
