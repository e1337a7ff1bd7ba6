use Rattle.std.proofs.Common.{◌≡◌, ◌+◌, ◌-◌, length}
use Rattle.gs_game.specs.{Games.{game_of}, Refusals.{signals_from}}
use Rattle.gs_game.proofs.deals.check_signals.Given as goal

abbrev pub invariant-loop-round : goal.invariant-loop-round
invariant-loop-round l = record {
  rest : signals_from (game_of l.game) (length l.game.rounds.items - l.round) (l.round + 1) ≡ signals_from (game_of l.game) (length l.game.rounds.items) 1;
  kept : l.left ≡ l.fn.left;
}
