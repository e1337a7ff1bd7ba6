-- What is kept of a game's signals.
use Rattle.std.specs.Prelude.{◌≡◌, ℕ, All, Bool, IsTrue, List, MatchOption, Option, Vec, length, map}
use Rattle.std.specs.declared.alloc.Global.{Global}
use Rattle.gs_model.specs.{Game.{round_count}, Signals.{signals}, ViewTree.{signal_strength}}
use Rattle.gs_card.specs.Rankings.{ranking_of}
use Rattle.gs_rank.specs.Hands.{IsStrength}
use Rattle.gs_game.specs.{Games.{game_of}, declared.game.Game.{Game}}
use Rattle.gs_tree.specs.{Boards.{AreBoards}, Kept.{AreHands}, Masks.{AreMasks, HasMasks}, Plain.{IsPlain}, Tables.{AreTables}, Walk.{last_count}}
use Rattle.gs_tree.specs.declared.{boards.Boards.{Boards}, kept.Hands.{Hands}, tables.Tables.{Tables}}

-- these are the signals of a game: the rounds' tables, the strengths of the last round's signals, which of them show the same public cards, their cards,
-- whether any two different ones of those are equally likely, and their own cards as bits
pub record AreSignals (game : Game) (tables : Tables) (strengths : List ℕ) (boards : Boards) (hands : Hands) (plain : Bool) (masks : Option (Vec ℕ Global))
    : Type 0 where
  pub listed : AreTables (game_of game) tables.parents.items tables.layers.items
  pub ranked : strengths ≡ map (signal_strength (game_of game)) (signals (game_of game) (round_count (game_of game)))
  pub beside : AreBoards (game_of game) boards.firsts.items boards.nexts.items
  pub dealt : AreHands (game_of game) (round_count (game_of game)) hands
  pub strong : All (IsStrength (ranking_of game.ranking)) strengths
  pub masked : MatchOption masks (HasMasks (game_of game) → last_count (game_of game) ≡ 0) (λ v. AreMasks (game_of game) v.items)
  pub even : IsTrue plain → IsPlain (game_of game)
  pub counted : length tables.layers.items ≡ round_count (game_of game)
