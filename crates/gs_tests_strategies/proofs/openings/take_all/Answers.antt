use Rattle.std.proofs.Common.{refl, below_more}
use Rattle.gs_tests_strategies.specs.Openings.{IsTakenAt}
use Rattle.gs_tests_strategies.proofs.openings.take_all.Goals as goal

pub loop-step-preserved : goal.loop-step-preserved
loop-step-preserved c = below_more (IsTakenAt c.args.p.now c.args.opening.now) c.loop-step.step c.loop-step.invariant (c.if-not-can_take.ensures refl)
