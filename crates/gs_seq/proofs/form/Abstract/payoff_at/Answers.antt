use Rattle.std.proofs.lemmas.Grind.{common_steps}
use Rattle.std.proofs.Common.{◌≡◌, ◌+◌, ◌∙◌, arith, of_z, subst, to_z}
use Rattle.std.specs.Int.{w128}
use Rattle.gs_model.specs.Pairs.{class_number}
use Rattle.gs_seq.specs.{Abstracts.{abstract_frame, lists_of}, Plans.{class_plan}}
use Rattle.gs_seq.proofs.{EndTotals.{IsNext, end_put, next_fits, next_put, next_within}, Forms.{given_in}, Signed.{read_back}}
use Rattle.gs_seq.proofs.form.Abstract.payoff_at.Goals.{After-end_sum-worth}
use Rattle.gs_seq.proofs.form.Abstract.payoff_at.Goals as goal

-- the class, its number and what the end pays there
next : (c : After-end_sum-worth) → let f = abstract_frame c.args.self.now in let ls = lists_of c.args.self.now in
    IsNext f ls (class_plan f ls c.args.x.now) (class_plan f ls c.args.y.now) c.args.end c.loop-before.before c.number_at_end-number.result
    (to_z w128 (of_z w128 c.end_sum-worth.result))
next c =
    let f = abstract_frame c.args.self.now in
    let ls = lists_of c.args.self.now in
    let x = class_plan f ls c.args.x.now in
    let n = c.loop-before.before in
    record {
      class = (omega arith, omega (arith, c.end_class_total-before-end.ensures, c.loop-before-test.true));
      number = subst (λ p. c.number_at_end-number.result ≡ class_number f ls p x c.args.end (n + 1)) c.requires.x.player_is
          c.number_at_end-number.ensures.value;
      worth = read_back c.end_sum-worth.result _ (record { sfits = c.end_sum-worth.type_inv }) c.end_sum-worth.ensures;
    }

pub scaled-requires : goal.scaled-requires
scaled-requires c =
    next_fits _ _ (given_in c.args.self.now) _ _ c.requires.x.plan.plan c.requires.y.plan.plan c.args.end _ _ _ c.requires.end
    (next (goal.at.scaled-requires c).After-end_sum-worth)

pub plus-sum-requires : goal.plus-sum-requires
plus-sum-requires c =
    next_within _ _ (given_in c.args.self.now) _ _ c.requires.x.plan.plan c.requires.y.plan.plan c.args.end _ _ _ c.requires.end
    (next (goal.at.plus-sum-requires c).After-end_sum-worth) _ _ c.loop-before.invariant
    (read_back c.scaled.result _ (record { sfits = c.scaled.type_inv }) c.scaled.ensures)

pub loop-before-preserved : goal.loop-before-preserved
loop-before-preserved c =
    read_back c.plus-sum.result _ (record { sfits = c.plus-sum.type_inv }) (c.plus-sum.ensures
    ∙ next_put _ _ (given_in c.args.self.now) _ _ c.requires.x.plan.plan c.requires.y.plan.plan c.args.end _ _ _ c.requires.end
    (next (goal.at.loop-before-preserved c).After-end_sum-worth) _ _ c.loop-before.invariant
    (read_back c.scaled.result _ (record { sfits = c.scaled.type_inv }) c.scaled.ensures))

pub end_sum-worth-requires : goal.end_sum-worth-requires
end_sum-worth-requires c = grind (arith, common_steps)

pub returns : goal.returns
returns c =
    let f = abstract_frame c.args.self.now in
    let ls = lists_of c.args.self.now in
    end_put f ls (class_plan f ls c.args.x.now) (class_plan f ls c.args.y.now) c.args.end c.loop-before.before _
    (omega (arith, c.loop-before-test.false, c.loop-before.auto, c.end_class_total-before-end.ensures)) c.loop-before.invariant

pub number_at_end-number-requires-clause-plan : goal.number_at_end-number-requires-clause-plan
number_at_end-number-requires-clause-plan c = grind arith
