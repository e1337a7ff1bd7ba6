use Rattle.std.proofs.Common.{rules}
use Rattle.gs_game.proofs.place.Place.folded.Goals as goal

pub returns-then-self-eq1 : goal.returns-then-self-eq1
returns-then-self-eq1 c = search rules

pub returns-else-self-eq1 : goal.returns-else-self-eq1
returns-else-self-eq1 c = search rules
