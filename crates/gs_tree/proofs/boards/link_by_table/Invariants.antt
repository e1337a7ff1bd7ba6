use Rattle.gs_card.specs.Decks.{kinds}
use Rattle.gs_game.specs.Games.{game_of}
use Rattle.gs_model.specs.{Game.{round_count}, Signals.{public_cards, signal_at}}
use Rattle.gs_tree.proofs.{Coded.{IsTableOf}, Linked.{AreBegun}}
use Rattle.gs_tree.proofs.boards.link_by_table.Given as goal

abbrev pub invariant-loop-signal : goal.invariant-loop-signal
invariant-loop-signal l = record {
  linked : AreBegun (λ i. public_cards (signal_at (game_of l.valid.game) (round_count (game_of l.valid.game)) i)) l.signal l.count l.boards.firsts.items
      l.boards.nexts.items;
  kept : IsTableOf (λ i. public_cards (signal_at (game_of l.valid.game) (round_count (game_of l.valid.game)) i)) l.signal l.count
      (kinds l.valid.game.deck) l.hands.public l.last.items;
}
