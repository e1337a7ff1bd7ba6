use Rattle.gs_strategy_commands.proofs.verifying.checked.Goals as goal

pub invariant_of-signals : goal.invariant_of-signals
invariant_of-signals c = record { sound = c.in_ok-signals.signals.sound }

pub over-requires-clause-game : goal.over-requires-clause-game
over-requires-clause-game c = c.in_ok-signals.ensures
