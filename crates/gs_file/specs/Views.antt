-- What the program reads, as the definitions see it.
use Rattle.std.specs.Prelude.{ℕ, ℤ, map, option_map}
use Rattle.toml.specs.View.{view, table_view}
use Rattle.gs_card.specs.Rankings.{ranking_of}
use Rattle.gs_game.specs.{Games.{round_rules}, declared.game.Game.{Game}, declared.valid.ValidGame.{ValidGame}}
use Rattle.gs_file.specs.Reading.{Play, PlayValues, Tree_text, Tree_value, Limit_of, Limit_values, Round, TopValues as TopData, Top, Stated, FileGame}
use Rattle.gs_file.specs.{declared.values.TopValues.{TopValues}, declared.values.TopFields.{TopFields}, declared.values.RoundFields.{RoundFields}}
use Rattle.gs_file.specs.{declared.values.Betting.{Betting}, declared.values.BettingValues.{BettingValues}, declared.values.RoundSizes.{RoundSizes}}
use Rattle.gs_file.specs.{declared.values.Sizes.{Sizes}, declared.values.StatedGame.{StatedGame}}
use Rattle.gs_file.specs.declared.values.Betting.TheVariants as betting
use Rattle.gs_file.specs.declared.values.BettingValues.TheVariants as told
use Rattle.gs_file.specs.declared.values.Sizes.TheVariants as sizes

-- the values at the top of a file, as the definitions see them
abbrev pub values_view : TopValues → TopData
values_view v = record {
  ranks = view v.ranks.now;
  suits = view v.suits.now;
  copies = option_map (λ d. view d.now) v.copies;
  ranking = view v.ranking.now;
  bonus = option_map (λ d. view d.now) v.bonus;
  ante = view v.ante.now;
  rounds = view v.rounds.now;
}

-- the fields at the top, each of its type, as the definitions see them
abbrev pub top_view : TopFields → Top
top_view t = record {
  ranks = t.ranks.now;
  suits = t.suits.now;
  copies = t.copies.now;
  ranking = t.ranking.now;
  bonus = option_map (λ v. v.items) t.bonus;
  ante = t.ante;
  rounds = map (λ d. table_view d.now) t.rounds.items;
}

-- the values of a round's betting, as the definitions see them
abbrev pub betting_view : BettingValues → PlayValues
betting_view (told.Tree tree) = Tree_value (view tree.now)
betting_view (told.Limit bet cap) = Limit_values (view bet.now) (view cap.now)

-- the betting of a round, as the definitions see it
abbrev pub play_view : Betting → Play ℤ
play_view (betting.Tree text) = Tree_text text.now
play_view (betting.Limit bet cap) = Limit_of bet cap

-- a round, as the definitions see it
abbrev pub round_view : RoundFields → Round ℤ
round_view r = record { private = r.private; public = r.public; play = play_view r.betting }

-- the betting of a round with its numbers in their ranges, as the definitions see it
abbrev pub sizes_view : Sizes → Play ℕ
sizes_view (sizes.Tree text) = Tree_text text.now
sizes_view (sizes.Limit limits) = Limit_of limits.bet limits.cap

-- a round with its numbers in their ranges, as the definitions see it
abbrev pub ranged_view : RoundSizes → Round ℕ
ranged_view r = record { private = r.private; public = r.public; play = sizes_view r.betting }

-- what a file states beside its deck, each in its range, as the definitions see it
abbrev pub stated_view : StatedGame → Stated
stated_view s = record { ranking = ranking_of s.ranking; bonus = s.bonus.items; ante = s.ante; rounds = map ranged_view s.rounds.items }

-- the game of the program, with the letters of its deck
abbrev pub game_view : Game → FileGame
game_view g = record { deck = g.deck; ranking = ranking_of g.ranking; bonus = g.bonus.items; ante = g.ante; rounds = map round_rules g.rounds.items }

-- a valid game of the program, as the definitions see it
abbrev pub valid_view : ValidGame → FileGame
valid_view v = game_view v.game
