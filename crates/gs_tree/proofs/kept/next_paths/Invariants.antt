use Rattle.std.proofs.Common.{◌≡◌, suc, map, take}
use Rattle.gs_game.specs.Games.{game_of}
use Rattle.gs_model.specs.{Deals.{path_weight}, Signals.{signals}}
use Rattle.gs_tree.proofs.kept.next_paths.Given as goal

abbrev pub invariant-loop-signal : goal.invariant-loop-signal
invariant-loop-signal l = l.paths ≡ map (path_weight (game_of l.valid.game).copies) (take l.signal (signals (game_of l.valid.game) (suc l.round)))
