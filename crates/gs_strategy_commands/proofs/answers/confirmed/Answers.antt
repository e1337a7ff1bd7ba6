use Rattle.gs_strategy_commands.proofs.answers.confirmed.Goals as goal

pub invariant_of-signals : goal.invariant_of-signals
invariant_of-signals c = record { sound = c.in_ok-signals.signals.sound }

pub over-requires : goal.over-requires
over-requires c = c.in_ok-signals.ensures
