use Rattle.std.specs.Prelude.{All}
use Rattle.gs_game.specs.Games.{HasFewCards}
use Rattle.gs_samples.proofs.games.rounds_of.Given as goal

abbrev pub invariant-loop-part : goal.invariant-loop-part
invariant-loop-part l = All HasFewCards l.rounds.items
