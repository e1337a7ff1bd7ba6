use Rattle.std.proofs.Common.{rules, tests}
use Rattle.gs_strategy_commands.proofs.numbers.first_wrong.Goals as goal

pub returns-then-not-are_same : goal.returns-then-not-are_same
returns-then-not-are_same c = search (rules, tests)
