use Rattle.gs_raw_commands.proofs.judging.fought.Goals as goal

pub invariant_of-signals : goal.invariant_of-signals
invariant_of-signals c = record { sound = c.in_ok-signals.signals.sound }

pub fought_over-requires-clause-game : goal.fought_over-requires-clause-game
fought_over-requires-clause-game c = c.in_ok-signals.ensures

pub fought_over-requires-clause-same : goal.fought_over-requires-clause-same
fought_over-requires-clause-same c = c.requires
