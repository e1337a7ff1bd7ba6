use Rattle.std.proofs.Common.{◌≡◌, All, map, take}
use Rattle.gs_card.specs.Rankings.{ranking_of}
use Rattle.gs_rank.specs.Hands.{IsStrength}
use Rattle.gs_game.specs.Games.{game_of}
use Rattle.gs_model.specs.{Game.{round_count}, Signals.{signals}, ViewTree.{signal_strength}}
use Rattle.gs_tree.proofs.ranked.strengths.Given as goal

abbrev pub invariant-loop-signal : goal.invariant-loop-signal
invariant-loop-signal l = record {
  value : l.found.items ≡ map (signal_strength (game_of l.valid.game)) (take l.signal (signals (game_of l.valid.game) (round_count (game_of l.valid.game))));
  within : All (IsStrength (ranking_of l.valid.game.ranking)) l.found.items;
}
