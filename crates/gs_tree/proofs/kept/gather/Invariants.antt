use Rattle.gs_game.specs.Games.{game_of}
use Rattle.gs_tree.specs.Kept.{AreHands}
use Rattle.gs_tree.proofs.kept.gather.Given as goal

abbrev pub invariant-loop-round : goal.invariant-loop-round
invariant-loop-round l = AreHands (game_of l.valid.game) l.round l.hands
