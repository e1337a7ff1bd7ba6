use Rattle.std.proofs.Common.{refl}
use Rattle.std.specs.Fmt.{digits}
use Rattle.gs_game_commands.proofs.laws.pivot_limit_is_told.Goals as goal

pub returns : goal.returns
unfolding digits
returns c = refl
