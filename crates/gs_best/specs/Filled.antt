-- A table of best class totals.
use Rattle.gs_best.specs.{ClassTotals.{AreBestTotals}, Rooms.{IsLaid}, Sides.{frame_at, lists_at, picks_at, plan_at, totals_at}, declared.tables.Table.{Table}}
use Rattle.gs_best.specs.declared.side.Side.{Side}

-- the table holds a player's best class totals and first best moves against the other's plan
pub record IsFilled (s : Side) (t : Table) : Type 0 where
  pub laid : IsLaid (frame_at s) (lists_at s) t
  pub best : AreBestTotals (frame_at s) (lists_at s) s.player (plan_at s) (totals_at s t.totals.items) (picks_at s t.picks.items)
