use Rattle.std.proofs.Common.{arith}
use Rattle.gs_game.proofs.cards.are_single.Goals as goal

pub returns : goal.returns
returns c = grind (arith, c.all.ensures, c.iter.ensures)
