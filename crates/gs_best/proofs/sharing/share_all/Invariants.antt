use Rattle.std.proofs.Common.{◌≡◌, ℕ, ◌+◌, ◌<◌, get_or}
use Rattle.std.specs.Prelude.{ℤ, pos, ◌*ℤ◌}
use Rattle.gs_model.specs.{Classes.{IsClass, class_size}, Frame.{round_of}, Positions.{at_point}}
use Rattle.gs_best.specs.{Tables.{start_of}, Sides.{frame_at, lists_at}}
use Rattle.gs_best.proofs.sharing.share_all.Given as goal

abbrev pub invariant-loop-point : goal.invariant-loop-point
invariant-loop-point l = let f = frame_at l.side in let lists = lists_at l.side in
    (q k : ℕ) (share : ℤ) → q < l.point → IsClass lists (round_of f (at_point q)) (k + 1) → get_or l.table.totals.items (start_of f lists q + k) (pos 0)
    ≡ share *ℤ pos (class_size lists (round_of f (at_point q)) (k + 1)) → get_or l.values (start_of f lists q + k) (pos 0) ≡ share
