use Rattle.std.proofs.Common.{◌≡◌, ◌<◌, ◌==◌, ℕ, count_by, length, min, slice_index}
use Rattle.std.specs.Int.{bit_at}
use Rattle.gs_game.specs.Games.{game_of}
use Rattle.gs_model.specs.{Game.{round_count}, Signals.{own_cards, signal_at}}
use Rattle.gs_tree.proofs.masks.masks_of.Given as goal

abbrev pub invariant-loop-signal : goal.invariant-loop-signal
invariant-loop-signal l = record {
  long : length l.masks.items ≡ l.signal;
  held : (i card : ℕ) → i < l.signal → bit_at (slice_index l.masks.items i) card
      ≡ min (count_by (λ other. other == card) (own_cards (signal_at (game_of l.valid.game) (round_count (game_of l.valid.game)) i))) 1;
}
