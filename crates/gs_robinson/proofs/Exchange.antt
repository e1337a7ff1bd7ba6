-- Over all turns, the taken rows' totals are no more than the taken columns' totals, if the totals start in that order.
use Rattle.std.proofs.{Common.{◌≡◌, ℕ, zero, suc, ◌<◌, ◌≤◌, arith}, lemmas.Int.{ints}}
use Rattle.std.specs.Prelude.{ℤ, pos, ◌+ℤ◌, ◌≤ℤ◌}
use Rattle.gs_robinson.proofs.Integers.{sum_to}
use Rattle.gs_robinson.specs.Matrix.{IsWithin, AreTurns}

module _ (m n turns : ℕ) (A U V : ℕ → ℕ → ℤ) (row column : ℕ → ℕ) (p : AreTurns m n turns A U V row column) where
  -- a column's total is what it started with, and the entries of the taken rows
  column_total : (t j : ℕ) → t ≤ turns → j < n → U t j ≡ U 0 j +ℤ sum_to (λ l. A (row l) j) t
  column_total zero j h k = omega (arith, ints)
  column_total (suc t) j h k =
      let e = p.columns_grow t j (omega arith) k in let i = column_total t j (omega arith) k in omega (arith, ints)

  taken_grow : (s t : ℕ) → s < turns → t ≤ turns
      → sum_to (λ l. V (suc s) (row l)) t ≡ sum_to (λ l. V s (row l)) t +ℤ sum_to (λ l. A (row l) (column s)) t
  taken_grow s zero h k = omega (arith, ints)
  taken_grow s (suc t) h k =
      let e = p.rows_grow s (row t) h (p.row_in t (omega arith)) in let i = taken_grow s t h (omega arith) in omega (arith, ints)

  exchange : (s t : ℕ) → s ≤ turns → t ≤ turns
      → sum_to (λ l. V s (row l)) t +ℤ sum_to (λ k. U 0 (column k)) s ≡ sum_to (λ l. V 0 (row l)) t +ℤ sum_to (λ k. U t (column k)) s
  exchange zero t h k = omega (arith, ints)
  exchange (suc s) t h k =
      let i = exchange s t (omega arith) k in
      let e = taken_grow s t (omega arith) k in
      let u = column_total t (column s) k (p.column_in s (omega arith)) in
      omega (arith, ints)

  starts : IsWithin m n U V 0 0 → (t : ℕ) → t ≤ turns → sum_to (λ l. V 0 (row l)) t ≤ℤ sum_to (λ k. U 0 (column k)) t
  starts w zero h = omega (arith, ints)
  starts w (suc t) h =
      let i = starts w t (omega arith) in
      let e = w (row t) (column t) (p.row_in t (omega arith)) (p.column_in t (omega arith)) in
      omega (arith, ints)

  strict : (s t : ℕ) → t ≤ turns → ((i j : ℕ) → i < m → j < n → (U s j +ℤ pos 1) ≤ℤ V s i)
      → (sum_to (λ k. U s (column k)) t +ℤ pos t) ≤ℤ sum_to (λ l. V s (row l)) t
  strict s zero h a = omega (arith, ints)
  strict s (suc t) h a =
      let i = strict s t (omega arith) a in
      let e = a (row t) (column t) (p.row_in t (omega arith)) (p.column_in t (omega arith)) in
      omega (arith, ints)

  -- not every row total is above every column total
  pub not_all_above : IsWithin m n U V 0 0 → (t : ℕ) → 0 < t → t ≤ turns → ((i j : ℕ) → i < m → j < n → (U t j +ℤ pos 1) ≤ℤ V t i) → ⊥
  not_all_above w t some h a =
      let x = exchange t t h h in let y = starts w t h in let z = strict t t h a in omega (arith, ints)
