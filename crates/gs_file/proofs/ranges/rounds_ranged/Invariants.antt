use Rattle.std.proofs.Common.{◌≡◌, ◌+◌, map, drop, vec_len}
use Rattle.gs_file.specs.{Reading.{round_within}, Tables.{each}, Views.{round_view, ranged_view}}
use Rattle.gs_file.proofs.Loop.{with_front}
use Rattle.gs_file.proofs.ranges.rounds_ranged.Given as goal

abbrev pub invariant-loop-index : goal.invariant-loop-index
invariant-loop-index l = record {
  so_far : with_front (map ranged_view l.ranged.items) (each round_within (l.index + 1) (map round_view (drop l.index l.rounds)))
      ≡ each round_within 1 (map round_view l.rounds);
  count : vec_len l.ranged ≡ l.index;
}
