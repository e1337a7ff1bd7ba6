use Rattle.gs_strategy_commands.proofs.{Moved.{first_plan, second_plan}, Told.{confirmed, numbers_are, wrong_told}, checks.check_numbers.Goals.{After-verdict-found}}
use Rattle.gs_strategy.specs.{Confirmed.{AreNumbersOf}, Views.{numbers_of, stored_view}}
use Rattle.gs_strategy_commands.proofs.checks.check_numbers.Goals as goal

-- the numbers that were found are those of the strategy's plans
found : (c : After-verdict-found) → AreNumbersOf (stored_view c.args.stored.now) (numbers_of c.verdict-found.result)
found c =
    let l = c.args.form.now.lossless.now in
    numbers_are c.args.stored.now l.signals.now.game.now l.classes.now c.verdict-found.result c.requires.held.game c.requires.held.classes
    c.verdict-found.ensures.verdict

pub returns-in-Some-clause-wrong : goal.returns-in-Some-clause-wrong
returns-in-Some-clause-wrong c =
    wrong_told c.args.stored.now c.verdict-found.result c.in-Some.wrong c.requires.lossless c.requires.small
    (found (goal.at.returns-in-Some-clause-wrong c).After-verdict-found) c.in-Some.ensures

pub returns-clause-confirmed : goal.returns-clause-confirmed
returns-clause-confirmed c = confirmed c.args.stored.now c.verdict-found.result c.requires.lossless c.requires.small
    (found (goal.at.returns-clause-confirmed c).After-verdict-found) c.in-None.ensures

pub verdict-found-requires-clause-one : goal.verdict-found-requires-clause-one
verdict-found-requires-clause-one c = first_plan c.args.form.now.lossless.now c.args.stored.now c.requires.held

pub verdict-found-requires-clause-two : goal.verdict-found-requires-clause-two
verdict-found-requires-clause-two c = second_plan c.args.form.now.lossless.now c.args.stored.now c.requires.held
