use Rattle.std.proofs.{Common.{arith, ◌≤◌, subst}, lemmas.Result.{err_from_is_err_and}}
use Rattle.gs_seq.specs.Games.{frame_in}
use Rattle.gs_tree.specs.declared.signals.Signals.{Signals}
use Rattle.gs_raw.specs.Cells.{raw_cell_count}
use Rattle.gs_raw.proofs.Overs.{are_spread, hands_alike, judged_alike, stopped}
use Rattle.gs_raw.proofs.judging.judged.Goals as goal

pub returns-in_err-form-clause-refused : goal.returns-in_err-form-clause-refused
returns-in_err-form-clause-refused c =
    let e = err_from_is_err_and c.from_residual-in_err-form.result c.from_residual-in_err-form.ensures.1 in
    stopped c.known-lossless.result c.args.facing.now.signals.now c.from_residual-in_err-form.result e.0 c.in_err-form.field-0.0 e.1 e.2
    c.known-lossless.ensures.held_signals c.in_err-form.ensures.refused

pub invariant_of-side : goal.invariant_of-side
invariant_of-side c =
    let plans = c.in_ok-raw_one.ensures in
    let o = are_spread c.in_ok-form.form c.known-lossless.result c.args.facing.now.signals.now c.in_ok-singles.singles c.in_ok-form.ensures.held
    c.known-lossless.ensures.held_signals c.known-lossless.ensures.held_classes c.in_ok-singles.ensures.lists c.in_ok-raw_one.raw_one
    c.in_ok-raw_one.raw_two plans.one plans.two in
    record { singles = o.singles; one_plan = o.one_plan; two_plan = o.two_plan }

pub returns-clause-verdict : goal.returns-clause-verdict
returns-clause-verdict c =
    let facing = c.args.facing.now in
    let plans = c.in_ok-raw_one.ensures in
    judged_alike c.in_ok-form.form c.known-lossless.result facing.signals.now c.in_ok-singles.singles c.in_ok-form.ensures.held
    c.known-lossless.ensures.held_signals c.known-lossless.ensures.held_classes c.in_ok-singles.ensures.lists facing.first.now.lists facing.second.now.lists
    facing.one.now facing.two.now c.in_ok-raw_one.raw_one c.in_ok-raw_one.raw_two plans.same_one plans.same_two c.in_ok-duel_over.field-0.verdict
    c.in_ok-duel_over.ensures.verdict

pub returns-clause-hands : goal.returns-clause-hands
returns-clause-hands c asked =
    let facing = c.args.facing.now in
    let plans = c.in_ok-raw_one.ensures in
    hands_alike c.in_ok-form.form c.known-lossless.result facing.signals.now c.in_ok-singles.singles c.in_ok-form.ensures.held
    c.known-lossless.ensures.held_signals c.known-lossless.ensures.held_classes c.in_ok-singles.ensures.lists facing.first.now.lists facing.second.now.lists
    facing.one.now facing.two.now c.in_ok-raw_one.raw_one c.in_ok-raw_one.raw_two plans.same_one plans.same_two c.in_ok-duel_over.field-0.hands.items
    (c.in_ok-duel_over.ensures.hands asked)

pub returns-clause-none : goal.returns-clause-none
returns-clause-none c = c.in_ok-duel_over.ensures.none

pub returns-clause-small : goal.returns-clause-small
returns-clause-small c = subst (λ (s : Signals). raw_cell_count (frame_in s.game.now) ≤ 16777216) c.known-lossless.ensures.held_signals
    c.in_ok-form.ensures.small

pub known-lossless-requires-clause-lossless : goal.known-lossless-requires-clause-lossless
known-lossless-requires-clause-lossless c = grind arith

pub returns-clause-refused : goal.returns-clause-refused
returns-clause-refused c = omega arith
