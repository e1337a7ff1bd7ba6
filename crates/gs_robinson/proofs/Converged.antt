-- Robinson's theorem, by induction on the number of rows and columns.
--
-- A is a matrix of integers with m rows and n columns, no entry further than a from 0. V t i is the total of row i and U t j the total of column j after t
-- turns. At each turn the row r t of greatest V t and the column c t of least U t are taken; then U grows by the row r t of A, and V by the column c t. The
-- distance at t is at most g if V t i <= U t j + g for all i and j. The claim: if V 0 i <= U 0 j for all i and j, then for each q there is a T, from m, n, a
-- and q alone, so that at each turn t from T on the distance is at most some h with q * h <= t.
--
-- (a) Not all rows are above all columns. Sum V t (r l) over l < t, and U t (c l) over l < t: from start to t both grow by the sum of A (r l) (c k) over all
-- l, k < t. At the start the first sum is at most the second, term by term, so it still is. (`Exchange.not_all_above`)
--
-- (b) If each row and each column is taken at some turn from s to s + x, then the distance at s + x is at most 4 * a * x. A row taken at s + d was best then;
-- since then each total changed by at most a * x, so no row is more than 2 * a * x above it. Likewise no column is more than 2 * a * x below one that was
-- taken. If some row were more than 4 * a * x above some column, then all rows would be above all columns, against (a). (`Chosen.all_taken`)
--
-- (c) If the row k is not taken at any turn from s to s + x, the turns from s to s + x are turns of the matrix without the row k. With all columns raised by
-- the distance g at s, they start as the claim wants. If the claim for that matrix gives h at its turn x, then the distance of the whole at s + x is at most
-- g + h: the row k itself is not above the row that is taken at s + x. Likewise for a column. (`Dropped`)
--
-- (d) Without rows or without columns there is nothing to show. Else let T1 and T2 be the numbers of the claim for a row less and for a column less, at 2 * q,
-- and x = 1 + T1 + T2. Write t = s + x * c with s < x. By induction on c the distance at t is at most some g with 2 * q * g <= 2 * q * 4 * a * x + x * c. For
-- c = 0 it is at most 2 * a * s. From c to c + 1, either all rows and columns are taken in between, and (b) gives 4 * a * x, or one is not, and (c) adds some
-- h with 2 * q * h <= x. So from the turn 2 * q * 4 * a * x on, 2 * q * g <= 2 * t. Source: Robinson 1951, with taken for eligible rows and columns.
use Rattle.std.proofs.{Common.{◌≡◌, ℕ, zero, suc, ◌+◌, ◌-◌, ◌*◌, ◌/◌, ◌%◌, ◌<◌, ◌≤◌, refl, sym, subst, arith, ⊎_elim, inl, inr, ◌⊎◌}, lemmas.Int.{ints}}
use Rattle.std.proofs.Math.Nat.{mul-le-mul_left, mod-lt, mod-add-div}
use Rattle.std.proofs.Math.IntN.{pos-*ℤ-pos}
use Rattle.std.specs.Prelude.{ℤ, pos, ◌+ℤ◌, ◌-ℤ◌, ◌*ℤ◌, ◌≤ℤ◌}
use Rattle.gs_robinson.proofs.Integers.{mul-le_z}
use Rattle.gs_robinson.proofs.Chosen.{row_up, column_down, all_taken}
use Rattle.gs_robinson.proofs.Dropped.{skip, back, taken_or, all_or, matrix_without_row, turns_without_row, start_without_row, with_row}
use Rattle.gs_robinson.proofs.Dropped.{matrix_without_column, turns_without_column, start_without_column, with_column}
use Rattle.gs_robinson.specs.Matrix.{IsMatrix, IsWithin, AreTurns}

-- from the turn T on, q times the distance is at most the number of turns
abbrev pub Converges : ℕ → ℕ → ℕ → ℕ → ℕ → Type 0
Converges m n a q T =
    (turns : ℕ) (A U V : ℕ → ℕ → ℤ) (row column : ℕ → ℕ) → IsMatrix a m n A → AreTurns m n turns A U V row column → IsWithin m n U V 0 0
    → (t : ℕ) → T ≤ t → t < turns → (g : ℕ) × (q * g ≤ t) × IsWithin m n U V t g

module _ (m n a q T1 T2 : ℕ) (by_rows : Converges m (suc n) a (2 * q) T1) (by_columns : Converges (suc m) n a (2 * q) T2) where
  -- the length of a round of turns
  abbrev length : ℕ
  length = suc (T1 + T2)

  module _ (turns : ℕ) (A U V : ℕ → ℕ → ℤ) (row column : ℕ → ℕ) (k : IsMatrix a (suc m) (suc n) A)
      (p : AreTurns (suc m) (suc n) turns A U V row column) (w : IsWithin (suc m) (suc n) U V 0 0) where
    -- over a round, each row and column is taken, or the distance grows by at most half a fraction of the round
    one_round : (s g : ℕ) → s + length < turns → IsWithin (suc m) (suc n) U V s g
        → IsWithin (suc m) (suc n) U V (s + length) (4 * (a * length)) ⊎ ((h : ℕ) × (2 * q * h ≤ length) × IsWithin (suc m) (suc n) U V (s + length) (g + h))
    one_round s g lt near =
        ⊎_elim
        (λ rows. ⊎_elim (λ columns. inl (all_taken a (suc m) (suc n) turns A U V row column k p w s length (omega arith) lt rows columns))
        (λ found. inr (column_gone found.0 found.1 found.2))
        (all_or (λ j. (d : ℕ) × (d ≤ length) × (column (s + d) ≡ j)) (λ j. (d : ℕ) → d ≤ length → column (s + d) ≡ j → ⊥)
        (λ j. taken_or column j s length) (suc n)))
        (λ found. inr (row_gone found.0 found.1 found.2))
        (all_or (λ i. (d : ℕ) × (d ≤ length) × (row (s + d) ≡ i)) (λ i. (d : ℕ) → d ≤ length → row (s + d) ≡ i → ⊥)
        (λ i. taken_or row i s length) (suc m))
      where
        row_gone : (i : ℕ) → i < suc m → ((d : ℕ) → d ≤ length → row (s + d) ≡ i → ⊥)
            → (h : ℕ) × (2 * q * h ≤ length) × IsWithin (suc m) (suc n) U V (s + length) (g + h)
        row_gone i l none =
            let z = by_rows (suc length) (λ b c. A (skip i b) c) (λ t c. U (s + t) c +ℤ pos g) (λ t b. V (s + t) (skip i b)) (λ t. back i (row (s + t)))
            (λ t. column (s + t)) (matrix_without_row a m (suc n) turns A U V row column i k)
            (turns_without_row a m (suc n) turns A U V row column i s length g p l lt none near)
            (start_without_row a m (suc n) turns A U V row column i s g near) length (omega arith) (omega arith) in
            (z.0, z.1, with_row a m (suc n) turns A U V row column i s length g z.0 p l lt none z.2)

        column_gone : (j : ℕ) → j < suc n → ((d : ℕ) → d ≤ length → column (s + d) ≡ j → ⊥)
            → (h : ℕ) × (2 * q * h ≤ length) × IsWithin (suc m) (suc n) U V (s + length) (g + h)
        column_gone j l none =
            let z = by_columns (suc length) (λ b c. A b (skip j c)) (λ t c. U (s + t) (skip j c) +ℤ pos g) (λ t b. V (s + t) b) (λ t. row (s + t))
            (λ t. back j (column (s + t))) (matrix_without_column a (suc m) n turns A U V row column j k)
            (turns_without_column a (suc m) n turns A U V row column j s length g p l lt none near)
            (start_without_column a (suc m) n turns A U V row column j s g near) length (omega arith) (omega arith) in
            (z.0, z.1, with_column a (suc m) n turns A U V row column j s length g z.0 p l lt none z.2)

    -- after c rounds
    rounds : (c s t : ℕ) → s < length → t ≡ s + length * c → t < turns
        → (g : ℕ) × (2 * q * g ≤ 2 * q * (4 * (a * length)) + length * c) × IsWithin (suc m) (suc n) U V t g
    rounds zero s t ls e lt =
        let same : t ≡ 0 + s = omega arith in
        let less : s ≤ 4 * length = omega arith in
        let more = mul-le-mul_left a less in (
          4 * (a * length),
          omega arith,
          λ i j l l'.
              let u = row_up a (suc m) (suc n) turns A U V row column k p s 0 t i same (omega arith) l in
              let v = column_down a (suc m) (suc n) turns A U V row column k p s 0 t j same (omega arith) l' in
              let b = w i j l l' in
              let le : s ≤ length = omega arith in
              let mo = mul-le-mul_left a le in
              omega (arith, ints),
        )
    rounds (suc c) s t ls e lt =
        let before = rounds c s (s + length * c) ls refl (omega arith) in
        let same : (s + length * c) + length ≡ t = omega arith in
        let fits : (s + length * c) + length < turns = omega arith in
        ⊎_elim
        (λ all. (4 * (a * length), omega arith, subst (λ b. IsWithin (suc m) (suc n) U V b (4 * (a * length))) same all))
        (λ (found : (h : ℕ) × (2 * q * h ≤ length) × IsWithin (suc m) (suc n) U V ((s + length * c) + length) (before.0 + h)). (
          before.0 + found.0,
          (let x = before.1 in let y = found.1 in omega arith),
          subst (λ b. IsWithin (suc m) (suc n) U V b (before.0 + found.0)) same found.2,
        ))
        (one_round (s + length * c) before.0 fits before.2)

  step : Converges (suc m) (suc n) a q (2 * q * (4 * (a * length)))
  step turns A U V row column k p w t late lt =
      let s = t % length in let c = t / length in
      let e = mod-add-div t length in let less = mod-lt t {m = length} (omega arith) in
      let z = rounds turns A U V row column k p w c s t less (sym e) lt in
      (z.0, (let b = z.1 in omega arith), z.2)

pub converged : (size m n a q : ℕ) → m + n ≤ size → (T : ℕ) × Converges m n a q T
converged size zero n a q h = (0, λ turns A U V row column k p w t late lt. (0, omega arith, λ i j l l'. absurd (omega arith)))
converged size (suc m) zero a q h = (0, λ turns A U V row column k p w t late lt. (0, omega arith, λ i j l l'. absurd (omega arith)))
converged zero (suc m) (suc n) a q h = absurd (omega arith)
converged (suc size) (suc m) (suc n) a q h =
    let rows = converged size m (suc n) a (2 * q) (omega arith) in
    let columns = converged size (suc m) n a (2 * q) (omega arith) in
    (2 * q * (4 * (a * suc (rows.0 + columns.0))), step m n a q rows.0 columns.0 rows.1 columns.1)

-- column totals that all start higher take the same turns
raised : (m n turns g : ℕ) (A U V : ℕ → ℕ → ℤ) (row column : ℕ → ℕ) → AreTurns m n turns A U V row column
    → AreTurns m n turns A (λ t j. U t j +ℤ pos g) V row column
raised m n turns g A U V row column p = record {
  row_in = p.row_in;
  column_in = p.column_in;
  row_best = p.row_best;
  column_best = λ t j l k. let b = p.column_best t j l k in omega (arith, ints);
  columns_grow = λ t j l k. let b = p.columns_grow t j l k in omega (arith, ints);
  rows_grow = p.rows_grow;
}

pub turns_converge_from : (m n a q g : ℕ) → (T : ℕ) × ((turns : ℕ) (A U V : ℕ → ℕ → ℤ) (row column : ℕ → ℕ) → IsMatrix a m n A
    → AreTurns m n turns A U V row column → IsWithin m n U V 0 g → (t : ℕ) → T ≤ t → t ≤ turns → (h : ℕ) × (q * h ≤ t) × IsWithin m n U V t h)
turns_converge_from m n a q g = (
  suc (done.0 + 2 * q * (g + 2 * a)),
  λ turns A U V row column k p w t late l.
      at turns A U V row column k p w t (t - 1) (omega arith) (omega arith) (omega arith) l,
)
  where
    done : (T : ℕ) × Converges m n a (2 * q) T
    done = converged (m + n) m n a (2 * q) (omega arith)

    at : (turns : ℕ) (A U V : ℕ → ℕ → ℤ) (row column : ℕ → ℕ) → IsMatrix a m n A → AreTurns m n turns A U V row column → IsWithin m n U V 0 g
        → (t b : ℕ) → t ≡ suc b → done.0 ≤ b → 2 * q * (g + 2 * a) ≤ b → t ≤ turns → (h : ℕ) × (q * h ≤ t) × IsWithin m n U V t h
    at turns A U V row column k p w t b e late much l =
        let z = done.1 turns A (λ t j. U t j +ℤ pos g) V row column k (raised m n turns g A U V row column p)
        (λ i j x y. let c = w i j x y in omega (arith, ints)) b late (omega arith) in
        let one : t ≡ b + 1 = omega arith in (
          g + z.0 + 2 * a,
          (let c = z.1 in omega arith),
          λ i j x y.
              let u = row_up a m n turns A U V row column k p 1 b t i one l x in
              let v = column_down a m n turns A U V row column k p 1 b t j one l y in
              let c = z.2 i j x y in
              omega (arith, ints),
        )

pub turns_converge : (m n a g p q : ℕ) → 0 < p → (T : ℕ) × ((A U V : ℕ → ℕ → ℤ) (row column : ℕ → ℕ) → IsMatrix a m n A
    → ((turns : ℕ) → AreTurns m n turns A U V row column) → IsWithin m n U V 0 g
    → (t i j : ℕ) → T ≤ t → i < m → j < n → (pos q *ℤ (V t i -ℤ U t j)) ≤ℤ pos (p * t))
turns_converge m n a g p q some = (
  done.0,
  λ A U V row column k turns w t i j late x y.
      let z = done.1 t A U V row column k (turns t) w t late (omega arith) in
      let b = z.2 i j x y in
      let d : (V t i -ℤ U t j) ≤ℤ pos z.0 = omega (arith, ints) in
      let e = mul-le_z q (V t i -ℤ U t j) (pos z.0) d in
      let f : pos q *ℤ pos z.0 ≡ pos (q * z.0) = pos-*ℤ-pos q z.0 in
      let c = z.1 in
      let h : t ≤ p * t = at_least p t some in
      omega (arith, ints),
)
  where
    done : (T : ℕ) × ((turns : ℕ) (A U V : ℕ → ℕ → ℤ) (row column : ℕ → ℕ) → IsMatrix a m n A
        → AreTurns m n turns A U V row column → IsWithin m n U V 0 g → (t : ℕ) → T ≤ t → t ≤ turns → (h : ℕ) × (q * h ≤ t) × IsWithin m n U V t h)
    done = turns_converge_from m n a q g

    at_least : (p t : ℕ) → 0 < p → t ≤ p * t
    at_least zero t h = absurd (omega arith)
    at_least (suc p) t h = omega arith
