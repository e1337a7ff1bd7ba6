use Rattle.std.proofs.Common.{arith}
use Rattle.gs_tests_strategies.proofs.Sample.{sample_opened}
use Rattle.gs_tests_strategies.proofs.stops.wide_stop.Goals as goal

pub run-answer-requires : goal.run-answer-requires
run-answer-requires g = record { opened = sample_opened g.in_ok-p.p g.in_ok-p.ensures; small_limit = omega arith }
