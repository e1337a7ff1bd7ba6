-- While a row or a column is not taken, the turns are turns of the matrix without it.
use Rattle.std.proofs.{Common.{◌≡◌, ℕ, zero, suc, ◌+◌, ◌<◌, ◌≤◌, refl, sym, ap, ◌∙◌, subst, arith, ⊎_elim, inl, inr, ◌⊎◌, eqb, Bool, true, false}, lemmas.Int.{ints}}
use Rattle.std.proofs.lemmas.Bool.Decides.{Decides-eqb}
use Rattle.std.specs.Prelude.{ℤ, pos, ◌+ℤ◌}
use Rattle.gs_robinson.specs.Matrix.{IsMatrix, IsWithin, AreTurns}

-- the numbers without k, in order, and the place of each among them
abbrev pub skip : ℕ → ℕ → ℕ
skip zero i = suc i
skip (suc k) zero = zero
skip (suc k) (suc i) = suc (skip k i)

abbrev pub back : ℕ → ℕ → ℕ
back zero zero = zero
back zero (suc i) = i
back (suc k) zero = zero
back (suc k) (suc i) = suc (back k i)

pub skip-back : (k i : ℕ) → (i ≡ k → ⊥) → skip k (back k i) ≡ i
skip-back zero zero h = absurd (h refl)
skip-back zero (suc i) h = refl
skip-back (suc k) zero h = refl
skip-back (suc k) (suc i) h = ap suc (skip-back k i (λ e. h (ap suc e)))

skip_le : (k i : ℕ) → skip k i ≤ suc i
skip_le zero i = omega arith
skip_le (suc k) zero = omega arith
skip_le (suc k) (suc i) = let h = skip_le k i in omega arith

pub skip_in : (k m i : ℕ) → i < m → skip k i < suc m
skip_in k m i h = let l = skip_le k i in omega arith

pub back_in : (m k i : ℕ) → k < suc m → i < suc m → (i ≡ k → ⊥) → back k i < m
back_in m zero zero h l d = absurd (d refl)
back_in m zero (suc i) h l d = omega arith
back_in m (suc k) zero h l d = omega arith
back_in zero (suc k) (suc i) h l d = absurd (omega arith)
back_in (suc m) (suc k) (suc i) h l d = let r = back_in m k i (omega arith) (omega arith) (λ e. d (ap suc e)) in omega arith

-- k is among f s, .., f (s + x), or it is not
pub taken_or : (f : ℕ → ℕ) (k s x : ℕ) → ((d : ℕ) × (d ≤ x) × (f (s + d) ≡ k)) ⊎ ((d : ℕ) → d ≤ x → f (s + d) ≡ k → ⊥)
taken_or f k s x = up_to x
  where
    here : (x : ℕ) (r : Bool) → eqb (f (s + x)) k ≡ r → ((d : ℕ) → d < x → f (s + d) ≡ k → ⊥)
        → ((d : ℕ) × (d ≤ x) × (f (s + d) ≡ k)) ⊎ ((d : ℕ) → d ≤ x → f (s + d) ≡ k → ⊥)
    here x true e none = inl (x, omega arith, (Decides-eqb (f (s + x)) k).0 e)
    here x false e none = inr (λ d l q. ⊎_elim (λ (lt : d < x). none d lt q)
        (λ (same : d ≡ x). let t = (Decides-eqb (f (s + x)) k).1 (ap (λ y. f (s + y)) (sym same) ∙ q) in cc)
        (le_cases d x l))
      where
        le_cases : (d x : ℕ) → d ≤ x → (d < x) ⊎ (d ≡ x)
        le_cases d x l = grind arith

    up_to : (x : ℕ) → ((d : ℕ) × (d ≤ x) × (f (s + d) ≡ k)) ⊎ ((d : ℕ) → d ≤ x → f (s + d) ≡ k → ⊥)
    up_to zero = here zero (eqb (f (s + zero)) k) refl (λ d l q. omega arith)
    up_to (suc x) = ⊎_elim (λ found. inl (found.0, (let l = found.1 in omega arith), found.2))
        (λ none. here (suc x) (eqb (f (s + suc x)) k) refl (λ d l q. none d (omega arith) q)) (up_to x)

-- all below m pass, or one fails
pub all_or : (P Q : ℕ → Type 0) → ((k : ℕ) → P k ⊎ Q k) → (m : ℕ) → ((k : ℕ) → k < m → P k) ⊎ ((k : ℕ) × (k < m) × Q k)
all_or P Q test zero = inl (λ k l. absurd (omega arith))
all_or P Q test (suc m) = ⊎_elim
    (λ all. ⊎_elim (λ p. inl (last all p)) (λ q. inr (m, omega arith, q)) (test m))
    (λ found. inr (found.0, (let l = found.1 in omega arith), found.2)) (all_or P Q test m)
  where
    last : ((k : ℕ) → k < m → P k) → P m → (k : ℕ) → k < suc m → P k
    last all p k l = ⊎_elim (λ (lt : k < m). all k lt) (λ (same : k ≡ m). subst P (sym same) p) (lt_cases k l)
      where
        lt_cases : (k : ℕ) → k < suc m → (k < m) ⊎ (k ≡ m)
        lt_cases k l = grind arith

module _ (a m n turns : ℕ) (A U V : ℕ → ℕ → ℤ) (row column : ℕ → ℕ) where
  -- the matrix without the row k
  pub matrix_without_row : (k : ℕ) → IsMatrix a (suc m) n A → IsMatrix a m n (λ i j. A (skip k i) j)
  matrix_without_row k h = record {
    below = λ i j l l'. h.below (skip k i) j (skip_in k m i l) l';
    above = λ i j l l'. h.above (skip k i) j (skip_in k m i l) l';
  }

  pub turns_without_row : (k s x g : ℕ) → AreTurns (suc m) n turns A U V row column → k < suc m → s + x < turns
      → ((d : ℕ) → d ≤ x → row (s + d) ≡ k → ⊥) → IsWithin (suc m) n U V s g
      → AreTurns m n (suc x) (λ i j. A (skip k i) j) (λ t j. U (s + t) j +ℤ pos g) (λ t i. V (s + t) (skip k i)) (λ t. back k (row (s + t)))
      (λ t. column (s + t))
  turns_without_row k s x g p kl h none w = record {
    row_in = λ t l. back_in m k (row (s + t)) kl (p.row_in (s + t) (omega arith)) (none t (omega arith));
    column_in = λ t l. p.column_in (s + t) (omega arith);
    row_best = λ t i l il.
        let b = p.row_best (s + t) (skip k i) (omega arith) (skip_in k m i il) in
        let e = ap (λ c. V (s + t) c) (skip-back k (row (s + t)) (none t (omega arith))) in
        omega (arith, ints);
    column_best = λ t j l jl. let b = p.column_best (s + t) j (omega arith) jl in omega (arith, ints);
    columns_grow = λ t j l jl.
        let b = p.columns_grow (s + t) j (omega arith) jl in
        let next : s + suc t ≡ suc (s + t) = omega arith in
        let u = ap (λ c. U c j) next in
        let e = ap (λ c. A c j) (skip-back k (row (s + t)) (none t (omega arith))) in
        omega (arith, ints);
    rows_grow = λ t i l il.
        let b = p.rows_grow (s + t) (skip k i) (omega arith) (skip_in k m i il) in
        let next : s + suc t ≡ suc (s + t) = omega arith in
        let u = ap (λ c. V c (skip k i)) next in
        omega (arith, ints);
  }

  pub start_without_row : (k s g : ℕ) → IsWithin (suc m) n U V s g
      → IsWithin m n (λ t j. U (s + t) j +ℤ pos g) (λ t i. V (s + t) (skip k i)) 0 0
  start_without_row k s g w i j l l' =
      let b = w (skip k i) j (skip_in k m i l) l' in
      let next : s + 0 ≡ s = omega arith in
      let u = ap (λ c. U c j) next in
      let v = ap (λ c. V c (skip k i)) next in
      omega (arith, ints)

  -- what the turns without the row say of all rows
  pub with_row : (k s x g h : ℕ) → AreTurns (suc m) n turns A U V row column → k < suc m → s + x < turns
      → ((d : ℕ) → d ≤ x → row (s + d) ≡ k → ⊥) → IsWithin m n (λ t j. U (s + t) j +ℤ pos g) (λ t i. V (s + t) (skip k i)) x h
      → IsWithin (suc m) n U V (s + x) (g + h)
  with_row k s x g h p kl lt none w i j l l' =
      let r = row (s + x) in let best = p.row_best (s + x) i lt l in
      let b = w (back k r) j (back_in m k r kl (p.row_in (s + x) lt) (none x (omega arith))) l' in
      let e = ap (λ c. V (s + x) c) (skip-back k r (none x (omega arith))) in
      omega (arith, ints)

module _ (a m n turns : ℕ) (A U V : ℕ → ℕ → ℤ) (row column : ℕ → ℕ) where
  -- the matrix without the column k
  pub matrix_without_column : (k : ℕ) → IsMatrix a m (suc n) A → IsMatrix a m n (λ i j. A i (skip k j))
  matrix_without_column k h = record {
    below = λ i j l l'. h.below i (skip k j) l (skip_in k n j l');
    above = λ i j l l'. h.above i (skip k j) l (skip_in k n j l');
  }

  pub turns_without_column : (k s x g : ℕ) → AreTurns m (suc n) turns A U V row column → k < suc n → s + x < turns
      → ((d : ℕ) → d ≤ x → column (s + d) ≡ k → ⊥) → IsWithin m (suc n) U V s g
      → AreTurns m n (suc x) (λ i j. A i (skip k j)) (λ t j. U (s + t) (skip k j) +ℤ pos g) (λ t i. V (s + t) i) (λ t. row (s + t))
      (λ t. back k (column (s + t)))
  turns_without_column k s x g p kl h none w = record {
    row_in = λ t l. p.row_in (s + t) (omega arith);
    column_in = λ t l. back_in n k (column (s + t)) kl (p.column_in (s + t) (omega arith)) (none t (omega arith));
    row_best = λ t i l il. p.row_best (s + t) i (omega arith) il;
    column_best = λ t j l jl.
        let b = p.column_best (s + t) (skip k j) (omega arith) (skip_in k n j jl) in
        let e = ap (λ c. U (s + t) c) (skip-back k (column (s + t)) (none t (omega arith))) in
        omega (arith, ints);
    columns_grow = λ t j l jl.
        let b = p.columns_grow (s + t) (skip k j) (omega arith) (skip_in k n j jl) in
        let next : s + suc t ≡ suc (s + t) = omega arith in
        let u = ap (λ c. U c (skip k j)) next in
        omega (arith, ints);
    rows_grow = λ t i l il.
        let b = p.rows_grow (s + t) i (omega arith) il in
        let next : s + suc t ≡ suc (s + t) = omega arith in
        let u = ap (λ c. V c i) next in
        let e = ap (λ c. A i c) (skip-back k (column (s + t)) (none t (omega arith))) in
        omega (arith, ints);
  }

  pub start_without_column : (k s g : ℕ) → IsWithin m (suc n) U V s g
      → IsWithin m n (λ t j. U (s + t) (skip k j) +ℤ pos g) (λ t i. V (s + t) i) 0 0
  start_without_column k s g w i j l l' =
      let b = w i (skip k j) l (skip_in k n j l') in
      let next : s + 0 ≡ s = omega arith in
      let u = ap (λ c. U c (skip k j)) next in
      let v = ap (λ c. V c i) next in
      omega (arith, ints)

  pub with_column : (k s x g h : ℕ) → AreTurns m (suc n) turns A U V row column → k < suc n → s + x < turns
      → ((d : ℕ) → d ≤ x → column (s + d) ≡ k → ⊥) → IsWithin m n (λ t j. U (s + t) (skip k j) +ℤ pos g) (λ t i. V (s + t) i) x h
      → IsWithin m (suc n) U V (s + x) (g + h)
  with_column k s x g h p kl lt none w i j l l' =
      let c = column (s + x) in let best = p.column_best (s + x) j lt l' in
      let b = w i (back k c) l (back_in n k c kl (p.column_in (s + x) lt) (none x (omega arith))) in
      let e = ap (λ d. U (s + x) d) (skip-back k c (none x (omega arith))) in
      omega (arith, ints)
