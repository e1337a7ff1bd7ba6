-- No turns, and one more.
use Rattle.std.proofs.{Common.{◌≡◌, ℕ, suc, ◌<◌, ◌≤◌, ap, arith, cond}, lemmas.Int.{ints}}
use Rattle.std.proofs.{lemmas.Bool.{lt-ltb, le-ltb}, Math.Dec.{ltb}}
use Rattle.std.specs.Prelude.{ℤ, ◌+ℤ◌, ◌≤ℤ◌}
use Rattle.gs_robinson.proofs.Integers.{one_more}
use Rattle.gs_robinson.specs.Matrix.{AreTurns}

pub no_turns : (m n : ℕ) (A U V : ℕ → ℕ → ℤ) (row column : ℕ → ℕ) → AreTurns m n 0 A U V row column
no_turns m n A U V row column = record {
  row_in = λ t l. absurd (omega arith);
  column_in = λ t l. absurd (omega arith);
  row_best = λ t i l li. absurd (omega arith);
  column_best = λ t j l lj. absurd (omega arith);
  columns_grow = λ t j l lj. absurd (omega arith);
  rows_grow = λ t i l li. absurd (omega arith);
}

module _ (m n turns : ℕ) (A U V : ℕ → ℕ → ℤ) (row column : ℕ → ℕ) (p : AreTurns m n turns A U V row column) (r c : ℕ) where
  abbrev pub columns_after : ℕ → ℕ → ℤ
  columns_after t j = cond {A = ℤ} (ltb turns t) (U turns j +ℤ A r j) (U t j)

  abbrev pub rows_after : ℕ → ℕ → ℤ
  rows_after t i = cond {A = ℤ} (ltb turns t) (V turns i +ℤ A i c) (V t i)

  abbrev pub row_after : ℕ → ℕ
  row_after t = cond {A = ℕ} (ltb t turns) (row t) r

  abbrev pub column_after : ℕ → ℕ
  column_after t = cond {A = ℕ} (ltb t turns) (column t) c

  pub columns_kept : (t j : ℕ) → t ≤ turns → columns_after t j ≡ U t j
  columns_kept t j h = ap (λ b. cond {A = ℤ} b (U turns j +ℤ A r j) (U t j)) (le-ltb turns t h)

  pub rows_kept : (t i : ℕ) → t ≤ turns → rows_after t i ≡ V t i
  rows_kept t i h = ap (λ b. cond {A = ℤ} b (V turns i +ℤ A i c) (V t i)) (le-ltb turns t h)

  pub columns_new : (j : ℕ) → columns_after (suc turns) j ≡ U turns j +ℤ A r j
  columns_new j = ap (λ b. cond {A = ℤ} b (U turns j +ℤ A r j) (U (suc turns) j)) (lt-ltb turns (suc turns) (omega arith))

  pub rows_new : (i : ℕ) → rows_after (suc turns) i ≡ V turns i +ℤ A i c
  rows_new i = ap (λ b. cond {A = ℤ} b (V turns i +ℤ A i c) (V (suc turns) i)) (lt-ltb turns (suc turns) (omega arith))

  row_kept : (t : ℕ) → t < turns → row_after t ≡ row t
  row_kept t h = ap (λ b. cond {A = ℕ} b (row t) r) (lt-ltb t turns h)

  column_kept : (t : ℕ) → t < turns → column_after t ≡ column t
  column_kept t h = ap (λ b. cond {A = ℕ} b (column t) c) (lt-ltb t turns h)

  row_new : row_after turns ≡ r
  row_new = ap (λ b. cond {A = ℕ} b (row turns) r) (le-ltb turns turns (omega arith))

  column_new : column_after turns ≡ c
  column_new = ap (λ b. cond {A = ℕ} b (column turns) c) (le-ltb turns turns (omega arith))

  pub one_more_turn : r < m → c < n → ((i : ℕ) → i < m → V turns i ≤ℤ V turns r) → ((j : ℕ) → j < n → U turns c ≤ℤ U turns j)
      → AreTurns m n (suc turns) A columns_after rows_after row_after column_after
  one_more_turn rl cl rb cb = record {
    row_in = one_more (λ t. row_after t < m) turns (λ t l. let e = row_kept t l in let h = p.row_in t l in omega arith) (let e = row_new in omega arith);
    column_in = one_more (λ t. column_after t < n) turns (λ t l. let e = column_kept t l in let h = p.column_in t l in omega arith)
        (let e = column_new in omega arith);
    row_best = λ t i l il. one_more (λ t. rows_after t i ≤ℤ rows_after t (row_after t)) turns
        (λ t l. let h = p.row_best t i l il in let le : t ≤ turns = omega arith in let a = rows_kept t i le in
        let b = rows_kept t (row_after t) le in let d = ap (λ x. V t x) (row_kept t l) in omega (arith, ints))
        (let h = rb i il in let le : turns ≤ turns = omega arith in let a = rows_kept turns i le in
        let b = rows_kept turns (row_after turns) le in let d = ap (λ x. V turns x) row_new in omega (arith, ints)) t l;
    column_best = λ t j l jl. one_more (λ t. columns_after t (column_after t) ≤ℤ columns_after t j) turns
        (λ t l. let h = p.column_best t j l jl in let le : t ≤ turns = omega arith in let a = columns_kept t j le in
        let b = columns_kept t (column_after t) le in let d = ap (λ x. U t x) (column_kept t l) in omega (arith, ints))
        (let h = cb j jl in let le : turns ≤ turns = omega arith in let a = columns_kept turns j le in
        let b = columns_kept turns (column_after turns) le in let d = ap (λ x. U turns x) column_new in omega (arith, ints)) t l;
    columns_grow = λ t j l jl. one_more (λ t. columns_after (suc t) j ≡ columns_after t j +ℤ A (row_after t) j) turns
        (λ t l. let h = p.columns_grow t j l jl in let le : t ≤ turns = omega arith in let a = columns_kept t j le in
        let ls : suc t ≤ turns = omega arith in let b = columns_kept (suc t) j ls in
        let d = ap (λ x. A x j) (row_kept t l) in omega (arith, ints))
        (let a = columns_new j in let le : turns ≤ turns = omega arith in let b = columns_kept turns j le in
        let d = ap (λ x. A x j) row_new in omega (arith, ints)) t l;
    rows_grow = λ t i l il. one_more (λ t. rows_after (suc t) i ≡ rows_after t i +ℤ A i (column_after t)) turns
        (λ t l. let h = p.rows_grow t i l il in let le : t ≤ turns = omega arith in let a = rows_kept t i le in
        let ls : suc t ≤ turns = omega arith in let b = rows_kept (suc t) i ls in
        let d = ap (λ x. A i x) (column_kept t l) in omega (arith, ints))
        (let a = rows_new i in let le : turns ≤ turns = omega arith in let b = rows_kept turns i le in
        let d = ap (λ x. A i x) column_new in omega (arith, ints)) t l;
  }
