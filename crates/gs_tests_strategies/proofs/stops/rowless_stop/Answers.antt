use Rattle.std.proofs.Common.{arith}
use Rattle.gs_tests_strategies.proofs.Rowless.{rowless_opened}
use Rattle.gs_tests_strategies.proofs.stops.rowless_stop.Goals as goal

pub run-answer-requires : goal.run-answer-requires
run-answer-requires g = record { opened = rowless_opened g.args.cols g.in_ok-p.p g.in_ok-p.ensures g.requires; small_limit = omega arith }
