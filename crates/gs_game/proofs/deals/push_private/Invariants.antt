use Rattle.std.proofs.Common.{◌≡◌, ◌++◌, map, drop}
use Rattle.gs_game.specs.{Games.{round_rules}, Sequences.{privates}}
use Rattle.gs_game.proofs.deals.push_private.Given as goal

abbrev pub invariant-loop-round : goal.invariant-loop-round
invariant-loop-round l = l.sizes.items ++ privates (map round_rules (drop l.round-index l.rounds)) ≡ l.fn.sizes.items ++ privates (map round_rules l.rounds)
