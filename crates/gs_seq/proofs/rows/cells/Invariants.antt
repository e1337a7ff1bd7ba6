use Rattle.std.proofs.Common.{◌≡◌, ◌*◌, ◌≤◌, sum_by, take}
use Rattle.gs_game.specs.declared.positions.End.{End}
use Rattle.gs_seq.specs.{Cells.{pair_count}, Games.{frame_in}}
use Rattle.gs_seq.proofs.rows.cells.Given as goal

abbrev pub invariant-loop-end : goal.invariant-loop-end
invariant-loop-end l = record {
  count_is : l.count ≡ sum_by (λ (z : End). pair_count (frame_in l.game) l.classes.lists z.round) (take l.end-index l.end-items);
  few : l.count ≤ 40000000000 * l.end-index;
}
