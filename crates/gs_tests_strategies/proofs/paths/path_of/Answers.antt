use Rattle.std.proofs.Common.{arith, rules}
use Rattle.gs_tests_strategies.proofs.paths.path_of.Goals as goal

pub trace-requires : goal.trace-requires
trace-requires g = record { opened = search rules; small_limit = omega arith }
