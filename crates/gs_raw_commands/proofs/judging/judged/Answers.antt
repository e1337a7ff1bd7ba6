use Rattle.gs_raw_commands.proofs.judging.judged.Goals as goal

pub invariant_of-signals : goal.invariant_of-signals
invariant_of-signals c = record { sound = c.in_ok-signals.signals.sound }

pub judged_over-requires : goal.judged_over-requires
judged_over-requires c = c.in_ok-signals.ensures
