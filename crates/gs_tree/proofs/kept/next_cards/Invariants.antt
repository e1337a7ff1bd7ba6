use Rattle.std.proofs.Common.{◌≡◌, suc, take}
use Rattle.std.specs.Prelude.{flat_map}
use Rattle.gs_game.specs.Games.{game_of}
use Rattle.gs_model.specs.Signals.{signals}
use Rattle.gs_tree.specs.Shown.{cards_on}
use Rattle.gs_tree.proofs.kept.next_cards.Given as goal

abbrev pub invariant-loop-signal : goal.invariant-loop-signal
invariant-loop-signal l = l.cards.items ≡ flat_map (cards_on l.pile) (take l.signal (signals (game_of l.valid.game) (suc l.round)))
