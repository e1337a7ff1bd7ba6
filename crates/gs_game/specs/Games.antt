-- The game that a description states, as the record that the definitions speak of.
use Rattle.std.specs.Prelude.{◌≤◌, map, length, List}
use Rattle.gs_bet.specs.TreeView.{plain}
use Rattle.gs_card.specs.Rankings.{ranking_of}
use Rattle.gs_model.specs.{Betting.{Bet}, Game.{Game as Rules, Round as RoundRules}}
use Rattle.gs_game.specs.{declared.game.Game.{Game}, declared.game.Round.{Round}}

-- a round, with its betting tree as a plain tree
abbrev pub round_rules : Round → RoundRules
round_rules r = record { private = r.private; public = r.public; tree = plain r.tree.tree }

-- a game, with its deck as copies by kind
abbrev pub game_of : Game → Rules
game_of g = record {
  suits = length g.deck.suits;
  copies = g.deck.counts;
  ranking = ranking_of g.ranking;
  bonus = g.bonus.items;
  ante = g.ante;
  rounds = map round_rules g.rounds.items;
}

-- the betting trees of some rounds
abbrev pub plain_trees : List Round → List Bet
plain_trees rounds = map (λ (r : Round). plain r.tree.tree) rounds

-- a round gives at most 2 private and 3 public cards, as many as a game file may ask for
pub record HasFewCards (r : Round) : Type 0 where
  pub private : r.private ≤ 2
  pub public : r.public ≤ 3
