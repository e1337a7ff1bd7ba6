-- What contracts see of the signals of a game.
use Rattle.gs_card.specs.Decks.{DeckValue}
use Rattle.gs_game.specs.Games.{game_of}
use Rattle.gs_model.specs.Game.{Game as Rules}
use Rattle.gs_tree.specs.declared.signals.Signals.{Signals}

-- the game whose signals these are
abbrev pub rules_of : Signals → Rules
rules_of s = game_of s.game.now.game

-- the deck of the game whose signals these are
abbrev pub deck_of : Signals → DeckValue
deck_of s = s.game.now.game.deck
