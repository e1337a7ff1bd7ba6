use Rattle.std.proofs.Common.{◌≡◌, ◌+◌, map, drop}
use Rattle.toml.specs.View.{view}
use Rattle.gs_file.specs.Tables.{each, whole_number}
use Rattle.gs_file.proofs.Loop.{with_front}
use Rattle.gs_file.proofs.lists.each_whole_number.Given as goal

abbrev pub invariant-loop-item : goal.invariant-loop-item
invariant-loop-item l =
    with_front l.numbers.items (each (λ n. whole_number l.place) (l.item-index + 1) (map view (drop l.item-index l.items)))
    ≡ each (λ n. whole_number l.place) 1 (map view l.items)
