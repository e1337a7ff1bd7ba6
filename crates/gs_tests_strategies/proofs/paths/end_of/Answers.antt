use Rattle.std.proofs.Common.{arith, rules}
use Rattle.gs_tests_strategies.proofs.paths.end_of.Goals as goal

pub run-requires : goal.run-requires
run-requires g = record { opened = search rules; small_limit = omega arith }
