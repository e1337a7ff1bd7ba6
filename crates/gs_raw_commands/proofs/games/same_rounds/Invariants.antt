use Rattle.gs_game.specs.Games.{round_rules}
use Rattle.gs_raw_commands.proofs.Rounds.{Same}
use Rattle.gs_raw_commands.proofs.games.same_rounds.Given as goal

abbrev pub invariant-loop-place : goal.invariant-loop-place
invariant-loop-place l = Same round_rules l.one l.two l.place
