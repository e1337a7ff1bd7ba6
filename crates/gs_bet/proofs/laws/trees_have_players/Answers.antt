use Rattle.gs_bet.proofs.Players.{has_players}
use Rattle.gs_bet.proofs.laws.trees_have_players.Goals as goal

pub returns : goal.returns
returns c t is_t = has_players t is_t
