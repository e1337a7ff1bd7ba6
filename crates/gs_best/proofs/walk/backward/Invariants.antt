use Rattle.gs_best.specs.{Places.{AreBestFrom}, Rooms.{HasRows, IsLaid}, Sides.{frame_at, lists_at, picks_at, totals_at}}
use Rattle.gs_best.proofs.walk.backward.Given as goal

abbrev pub invariant-loop-point : goal.invariant-loop-point
invariant-loop-point l = record {
  laid : IsLaid (frame_at l.side) (lists_at l.side) l.table;
  rows : HasRows (frame_at l.side) (lists_at l.side) l.scratch;
  known : AreBestFrom (frame_at l.side) (lists_at l.side) l.side.player (totals_at l.side l.table.totals.items) (picks_at l.side l.table.picks.items) l.point;
}
