use Rattle.std.proofs.Common.{◌≡◌, arith}
use Rattle.gs_seq.specs.{Games.{frame_in}, Plans.{IsPlanOf}}
use Rattle.gs_strategy.specs.Views.{whole_view}
use Rattle.gs_strategy.proofs.{Steps.{no_value}, Strategies.{checked_strategy}}
use Rattle.gs_strategy.proofs.reading.stored_from.Goals.{In_ok-classes, In_ok-one, In_ok-two}
use Rattle.gs_strategy.proofs.reading.stored_from.Goals as goal

parents : (c : In_ok-classes) → c.in_ok-classes.classes.parents ≡ (frame_in c.in_ok-game.game).parents
parents c = c.in_ok-classes.ensures.parents

first : (c : In_ok-one) → IsPlanOf (frame_in c.in_ok-game.game) c.in_ok-classes.classes.lists 1 c.in_ok-one.one
first c = c.in_ok-one.ensures

second : (c : In_ok-two) → IsPlanOf (frame_in c.in_ok-game.game) c.in_ok-classes.classes.lists 2 c.in_ok-two.two
second c = c.in_ok-two.ensures

pub returns : goal.returns
returns c = checked_strategy c.args.version (whole_view c.args.parts.now) _ _ c.in_ok-game.ensures c.in_ok-classes.ensures.checked
    c.in_ok-one.ensures.plan c.in_ok-two.ensures.plan c.in_ok-verdict.ensures

pub same-classes : goal.same-classes
same-classes c = grind arith

pub plan_with-requires-2-clause-parents : goal.plan_with-requires-2-clause-parents
plan_with-requires-2-clause-parents c = parents (goal.at.plan_with-requires-2-clause-parents c).In_ok-classes

pub plan_with-requires-clause-parents : goal.plan_with-requires-clause-parents
plan_with-requires-clause-parents c = parents (goal.at.plan_with-requires-clause-parents c).In_ok-classes

pub invariant_of-result : goal.invariant_of-result
invariant_of-result c =
    let at = goal.at.invariant_of-result c in
    record { parents = parents at.In_ok-classes; first = first at.In_ok-one; second = second at.In_ok-two }

pub returns-in_err-verdict : goal.returns-in_err-verdict
returns-in_err-verdict c = no_value _ _ c.from_residual.ensures.0

pub returns-in_err-game : goal.returns-in_err-game
returns-in_err-game c = no_value _ _ c.from_residual-in_err-game.ensures.0

pub returns-in_err-classes : goal.returns-in_err-classes
returns-in_err-classes c = no_value _ _ c.from_residual-in_err-classes.ensures.0

pub returns-in_err-one : goal.returns-in_err-one
returns-in_err-one c = no_value _ _ c.from_residual-in_err-one.ensures.0

pub returns-in_err-two : goal.returns-in_err-two
returns-in_err-two c = no_value _ _ c.from_residual-in_err-two.ensures.0
