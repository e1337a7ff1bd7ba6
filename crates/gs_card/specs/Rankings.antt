-- The program's rankings of hands, as the definitions of games name them.
use Rattle.gs_model.specs.Game.{Ranking as GameRanking, High as by_high, Pair as by_pair, Three as by_three}
use Rattle.gs_card.specs.{declared.rankings.Ranking.{Ranking}, declared.rankings.Ranking.TheVariants.{High, Pair, Three}}

-- a ranking of the program, as the definitions name it
abbrev pub ranking_of : Ranking → GameRanking
ranking_of High = by_high
ranking_of Pair = by_pair
ranking_of Three = by_three
