use Rattle.std.proofs.lemmas.Grind.{common_steps}
use Rattle.std.proofs.Common.{◌≡◌, ℕ, ap, sym, ◌∙◌, subst, arith}
use Rattle.std.specs.Prelude.{ℤ}
use Rattle.gs_model.specs.{Frame.{payoff_to, round_of}, Pairs.{pair_sum}, Positions.{at_end, at_point}}
use Rattle.gs_best.specs.Runs.{IsClassRun}
use Rattle.gs_best.proofs.Gathered.{gathered_run}
use Rattle.gs_game.specs.Seen.{step_of}
use Rattle.gs_play.specs.{Pushes.{with_sign}, Sides.{side_frame, side_lists}, Tables.{raise_sum}, Tallies.{IsTally, risen_at}, declared.role.Role.{Role}}
use Rattle.gs_play.proofs.{Pushed.{walked}, Risen.{risen_nowhere, risen_same, run_adds, run_begun, run_more}, Tells.{choices_kept, choices_next}}
use Rattle.gs_play.proofs.pushing.push_end.Goals.{After-classes_below-run}
use Rattle.gs_play.proofs.pushing.push_end.Goals as goal

-- what an end pays a class of the player in the deals with a class of the other's
abbrev paid : Role → ℕ → ℕ → ℕ → ℤ
paid s z c k = pair_sum (side_frame s) (side_lists s) (side_lists s) (round_of (side_frame s) (at_end z)) (payoff_to (side_frame s) s.player z) c k

-- the classes of the end's round below the class of the move
run : (c : After-classes_below-run) → IsClassRun (side_frame c.args.side.now) (side_lists c.args.side.now)
    (round_of (side_frame c.args.side.now) (at_end c.args.end))
    (round_of (side_frame c.args.side.now) (at_point c.args.change.step.point)) c.args.change.class c.classes_below-run.result.first
    c.classes_below-run.result.end
run c =
    let side = c.args.side.now in
    let f = side_frame side in
    let to = c.in-Some.ensures in
    let first = c.classes_below-run.result.first in
    let end = c.classes_below-run.result.end in
    subst (λ r. IsClassRun f (side_lists side) (round_of f (at_end c.args.end)) r c.args.change.class first end) c.round_at-from.ensures.value
    (subst (λ r. IsClassRun f (side_lists side) r c.round_at-from.result c.args.change.class first end) (to.way.round ∙ ap (round_of f) to.leads)
    c.classes_below-run.ensures)

pub loop-class-init : goal.loop-class-init
loop-class-init c =
    let side = c.args.side.now in
    record {
      kept = choices_kept c.requires.room;
      pushed = λ pays rise h. subst (λ r. IsTally (side_frame side) (side_lists side) side.player pays r c.args.now c.args.tally.now)
          (sym (run_begun rise c.args.end c.args.change.is_on (paid side c.args.end) c.classes_below-run.result.first)) h;
    }

pub loop-class-preserved : goal.loop-class-preserved
loop-class-preserved c =
    let side = c.args.side.now in
    let on = c.args.change.is_on in
    let first = c.classes_below-run.result.first in
    let class = c.loop-class.class in
    record {
      kept = choices_next c.loop-class.invariant.kept c.push_row.ensures.kept;
      pushed = λ pays rise h. subst (λ r. IsTally (side_frame side) (side_lists side) side.player pays r c.args.now c.push_row.new.tally)
          (run_more rise c.args.end on (paid side c.args.end) first class c.loop-class.auto.class)
          (c.push_row.ensures.pushed pays (risen_at rise c.args.end (run_adds on (paid side c.args.end) first class))
          (c.loop-class.invariant.pushed pays rise h));
    }

pub returns-in_default-clause-pushed : goal.returns-in_default-clause-pushed
returns-in_default-clause-pushed c =
    let side = c.args.side.now in
    λ pays rise.
    risen_nowhere (side_frame side) (side_lists side) side.player pays rise c.args.now c.args.end
    (λ k. with_sign c.args.change.is_on (raise_sum (side_frame side) (side_lists side) side.player c.args.end
    (step_of c.args.change.step) c.args.change.class k))
    c.args.tally.now c.in_default.ensures

pub classes_below-run-requires-clause-top : goal.classes_below-run-requires-clause-top
classes_below-run-requires-clause-top c =
    let side = c.args.side.now in
    let to = c.in-Some.ensures in
    omega (arith, to.way.round, ap (round_of (side_frame side)) to.leads, (walked side).end_in c.args.end c.requires.end)

pub push_row-requires : goal.push_row-requires
push_row-requires c = grind (arith, common_steps)

pub returns-in_default-clause-kept : goal.returns-in_default-clause-kept
returns-in_default-clause-kept c = choices_kept c.requires.room

pub returns : goal.returns
returns c = record {
  kept = c.loop-class.invariant.kept;
  pushed = let side = c.args.side.now in
      let f = side_frame side in
      let lists = side_lists side in
      let on = c.args.change.is_on in
      let first = c.classes_below-run.result.first in
      let end = c.classes_below-run.result.end in
      let is = run (goal.at.returns c).After-classes_below-run in
      let all : c.loop-class.class ≡ end = omega (arith, c.loop-class-test.false, c.loop-class.auto.class-end, is.ordered) in
      let sum : ℕ → ℤ = λ k. raise_sum f lists side.player c.args.end (step_of c.args.change.step) c.args.change.class k in
      λ pays rise h.
      subst (λ r. IsTally f lists side.player pays r c.args.now c.loop-class.tally)
      (risen_same rise c.args.end (run_adds on (paid side c.args.end) first c.loop-class.class) (λ k. with_sign on (sum k))
      (λ k. ap (λ n. run_adds on (paid side c.args.end) first n k) all
      ∙ ap (with_sign on) (sym (gathered_run f lists (round_of f (at_end c.args.end)) (round_of f (at_point c.args.change.step.point))
      c.args.change.class first end
      (paid side c.args.end k) is))))
      (c.loop-class.invariant.pushed pays rise h);
}

pub classes_below-run-requires-clause-class : goal.classes_below-run-requires-clause-class
classes_below-run-requires-clause-class c = grind arith

pub classes_below-run-requires-clause-onward : goal.classes_below-run-requires-clause-onward
classes_below-run-requires-clause-onward c = grind arith

pub round_at-from-requires : goal.round_at-from-requires
round_at-from-requires c = grind arith
