use Rattle.std.proofs.Common.{◌≡◌, ℕ, ◌+◌, ◌<◌, get_or}
use Rattle.std.specs.Prelude.{ℤ, pos, ◌*ℤ◌}
use Rattle.gs_model.specs.Classes.{class_size}
use Rattle.gs_best.specs.Sides.{lists_at}
use Rattle.gs_best.proofs.sharing.share_point.Given as goal

abbrev pub invariant-loop-class : goal.invariant-loop-class
invariant-loop-class l = record {
  here : (k : ℕ) (share : ℤ) → k < l.class → get_or l.table.totals.items (l.start + k) (pos 0) ≡ share *ℤ pos (class_size (lists_at l.side) l.round (k + 1))
      → get_or l.values (l.start + k) (pos 0) ≡ share;
  before : (i : ℕ) → i < l.start → get_or l.values i (pos 0) ≡ get_or l.initial.values i (pos 0);
}
