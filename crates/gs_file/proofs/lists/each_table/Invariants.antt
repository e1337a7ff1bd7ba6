use Rattle.std.proofs.Common.{◌≡◌, ◌+◌, map, drop}
use Rattle.toml.specs.View.{view, table_view}
use Rattle.gs_file.specs.Tables.{each, table_in}
use Rattle.gs_file.proofs.Loop.{with_front}
use Rattle.gs_file.proofs.lists.each_table.Given as goal

abbrev pub invariant-loop-item : goal.invariant-loop-item
invariant-loop-item l =
    with_front (map (λ t. table_view t.now) l.tables.items) (each (λ n. table_in l.place) (l.item-index + 1) (map view (drop l.item-index l.items)))
    ≡ each (λ n. table_in l.place) 1 (map view l.items)
