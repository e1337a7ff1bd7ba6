use Rattle.gs_lossless.proofs.Descent.{are_parents}
use Rattle.gs_game_commands.proofs.grouping.classes_of.Goals as goal

pub identity-requires : goal.identity-requires
identity-requires c = rw c.parents.ensures (are_parents c.args.signals.now)
