use Rattle.std.proofs.Common.{◌≡◌, ◌+◌, All, map, drop}
use Rattle.gs_game.specs.Games.{HasFewCards, round_rules}
use Rattle.gs_file.specs.{Reading.{round_built}, Tables.{each}, Views.{ranged_view}}
use Rattle.gs_file.proofs.Loop.{with_front}
use Rattle.gs_file.proofs.build.rounds_built.Given as goal

abbrev pub invariant-loop-index : goal.invariant-loop-index
invariant-loop-index l = record {
  so_far : with_front (map round_rules l.rounds.items) (each round_built (l.index + 1) (map ranged_view (drop l.index l.sizes)))
      ≡ each round_built 1 (map ranged_view l.sizes);
  few : All HasFewCards l.rounds.items;
}
