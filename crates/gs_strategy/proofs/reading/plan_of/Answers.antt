use Rattle.std.proofs.Common.{◌≡◌, Err}
use Rattle.serde_json.specs.View.{view}
use Rattle.gs_file.specs.Views.{valid_view}
use Rattle.gs_strategy.specs.{Checks.{ChecksPlan, ReadsPlan}, Reading.{weights_at}, Views.{stated_weights, weights_of}}
use Rattle.gs_strategy.proofs.Steps.{exits_over, exits_up, then_fails, then_is}
use Rattle.gs_strategy.proofs.reading.plan_of.Goals as goal

pub returns-in_err-stated-clause-read : goal.returns-in_err-stated-clause-read
returns-in_err-stated-clause-read c =
    let a = c.args in
    let d = view a.value.now in
    exits_over weights_of (λ read. weights_at a.part d ≡ read) (ReadsPlan (valid_view a.game.now) a.classes.now.lists a.player a.part d) _ _
    c.from_residual.ensures.1 c.in_err-stated.ensures (λ why so. then_fails (weights_at a.part d) _ why so)

pub returns-in_err-plan-clause-read : goal.returns-in_err-plan-clause-read
returns-in_err-plan-clause-read c =
    let a = c.args in
    let g = valid_view a.game.now in
    let lists = a.classes.now.lists in
    let d = view a.value.now in
    let w = stated_weights c.in_ok-stated.stated in
    exits_up weights_of (ChecksPlan g lists a.player w) (ReadsPlan g lists a.player a.part d) _ _ c.from_residual-in_err-plan.ensures.1
    c.in_err-plan.ensures.checked (λ why so. then_is (weights_at a.part d) w _ (Err why) c.in_ok-stated.ensures so)

pub returns-clause-read : goal.returns-clause-read
returns-clause-read c =
    let a = c.args in
    let d = view a.value.now in
    then_is (weights_at a.part d) (stated_weights c.in_ok-stated.stated) _ _ c.in_ok-stated.ensures c.in_ok-plan.ensures.checked
