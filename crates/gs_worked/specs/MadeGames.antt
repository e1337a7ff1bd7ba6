-- The games that the words of `make` ask for. Source: the rules of Kuhn's, Leduc and Rhode Island hold'em (Gilpin and Sandholm 2007), with limit betting.
use Rattle.std.specs.Prelude.{ℕ, ◌≡◌, ◌≤◌, [], map, take, replicate, codes, Ok}
use Rattle.gs_bet.specs.Limit.{limit_bet}
use Rattle.gs_card.specs.Decks.{deck_of_texts}
use Rattle.gs_file.specs.Reading.{FileGame, read_at, file_rules}
use Rattle.gs_game.specs.Rules.{KeepsRules}
use Rattle.gs_words.specs.{Made.{ante_of, last, made_game, rounds_of}, declared.kind.Kind.{Kind}, declared.kind.Kind.TheVariants.{Kuhn, Leduc, Rhode}}
use Rattle.gs_model.specs.{Game.{Round, Ranking, High, Pair, Three}, Outcome.{categories}}

-- the ranking of hands in a kind of game
abbrev pub ranking_for : Kind → Ranking
ranking_for Kuhn = High
ranking_for Leduc = Pair
ranking_for Rhode = Three

-- a round with these numbers of private and public cards, and limit betting with this bet and `cap`
abbrev pub round_for : ℕ → ℕ × ℕ × ℕ → Round
round_for cap r = record { private = r.0; public = r.1; tree = limit_bet r.2 cap }

-- The game of a kind with the `ranks` highest ranks and the first `suits` suits. There is one copy of each card, each bonus is 1, and a round has at most
-- `cap` bets and raises.
abbrev pub game_for : Kind → ℕ → ℕ → ℕ → FileGame
game_for kind ranks suits cap = record {
  deck = deck_of_texts (last ranks (codes "23456789TJQKA")) (take suits (codes "shdc")) [];
  ranking = ranking_for kind;
  bonus = replicate (categories (ranking_for kind)) 1;
  ante = ante_of kind;
  rounds = map (round_for cap) (rounds_of kind);
}

-- a made game file is read back as the game that its words ask for, if that game keeps the rules
abbrev pub MadeFilesAreReadBack : Type 0
MadeFilesAreReadBack =
    (kind : Kind) (ranks suits cap : ℕ) → 1 ≤ ranks → ranks ≤ 13 → 1 ≤ suits → suits ≤ 4 → cap ≤ 8
    → KeepsRules (file_rules (game_for kind ranks suits cap))
    → read_at (made_game kind ranks suits cap) ≡ Ok (game_for kind ranks suits cap)
