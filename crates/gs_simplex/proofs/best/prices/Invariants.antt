use Rattle.std.proofs.Common.{◌≡◌, ℕ, ◌+◌, ◌<◌, length, neg_ℤ, ◌*ℤ◌}
use Rattle.std.specs.List.{HoldsAt}
use Rattle.gs_simplex.specs.Table.{grid_of, table_aim}
use Rattle.gs_simplex.proofs.best.prices.Given as goal

abbrev pub invariant-loop-j : goal.invariant-loop-j
invariant-loop-j l = record {
  long : length l.price.items ≡ l.j;
  done : (k : ℕ) → k < l.j → HoldsAt (λ f. f.num *ℤ table_aim l.p (grid_of l.p l.table) (l.p.cols + 1) ≡ neg_ℤ (table_aim l.p (grid_of l.p l.table) k) *ℤ
      f.den) l.price.items k;
}
