use Rattle.std.proofs.Common.{◌≡◌, ◌+◌, map, drop, vec_len}
use Rattle.toml.specs.View.{table_view}
use Rattle.gs_file.specs.{Reading.{round_table_at}, Tables.{each}, Views.{round_view}}
use Rattle.gs_file.proofs.Loop.{with_front}
use Rattle.gs_file.proofs.rounds.rounds_of.Given as goal

abbrev pub invariant-loop-index : goal.invariant-loop-index
invariant-loop-index l = record {
  so_far : with_front (map round_view l.rounds.items) (each (round_table_at l.form) (l.index + 1) (map (λ t. table_view t.now) (drop l.index l.tables)))
      ≡ each (round_table_at l.form) 1 (map (λ t. table_view t.now) l.tables);
  count : vec_len l.rounds ≡ l.index;
}
