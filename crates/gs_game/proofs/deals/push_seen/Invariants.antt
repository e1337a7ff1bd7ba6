use Rattle.std.proofs.Common.{◌≡◌, ◌++◌, map, drop}
use Rattle.gs_game.specs.{Games.{round_rules}, Sequences.{seen_sizes}}
use Rattle.gs_game.proofs.deals.push_seen.Given as goal

abbrev pub invariant-loop-round : goal.invariant-loop-round
invariant-loop-round l = l.sizes.items ++ seen_sizes (map round_rules (drop l.round-index l.rounds)) ≡ l.fn.sizes.items ++ seen_sizes (map round_rules l.rounds)
