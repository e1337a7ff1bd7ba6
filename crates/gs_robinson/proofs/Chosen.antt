-- If all rows and columns are taken within few turns, all totals are near each other.
use Rattle.std.proofs.{Common.{◌≡◌, ℕ, zero, suc, ◌+◌, ◌-◌, ◌*◌, ◌<◌, ◌≤◌, refl, ap, arith, ⊎_elim}, lemmas.Int.{ints}, Math.Nat.{mul-le-mul_left}}
use Rattle.std.specs.Prelude.{ℤ, pos, ◌+ℤ◌, ◌≤ℤ◌}
use Rattle.gs_robinson.proofs.{Exchange.{not_all_above}, Integers.{order_of}}
use Rattle.gs_robinson.specs.Matrix.{IsMatrix, IsWithin, AreTurns}

-- of two numbers each is at most so far above the other
abbrev IsNear : ℕ → ℤ → ℤ → Type 0
IsNear far u v = (u ≤ℤ (v +ℤ pos far)) × (v ≤ℤ (u +ℤ pos far))

-- a number changes by at most a in each turn
abbrev IsSlow : ℕ → ℕ → (ℕ → ℤ) → Type 0
IsSlow a turns u = (t : ℕ) → t < turns → IsNear a (u (suc t)) (u t)

-- then by at most a * d in d turns
slow : (a turns : ℕ) (u : ℕ → ℤ) → IsSlow a turns u → (d s t : ℕ) → t ≡ s + d → t ≤ turns → IsNear (a * d) (u t) (u s)
slow a turns u step zero s t e h = let x : t ≡ s = omega arith in let y = ap u x in (omega (arith, ints), omega (arith, ints))
slow a turns u step (suc d) s t e h =
    let x : t ≡ suc (s + d) = omega arith in let y = ap u x in
    let w = slow a turns u step d s (s + d) refl (omega arith) in
    let g = step (s + d) (omega arith) in
    (omega (arith, ints, w.0, g.0), omega (arith, ints, w.1, g.1))

-- one of two such numbers that is at most the other in a turn is little above it x turns after the first of some turns
overtaken : (a turns : ℕ) (u v : ℕ → ℤ) → IsSlow a turns u → IsSlow a turns v → (s x d : ℕ) → s + x < turns → d ≤ x → u (s + d) ≤ℤ v (s + d)
    → u (s + x) ≤ℤ (v (s + x) +ℤ pos (2 * (a * x)))
overtaken a turns u v slow_u slow_v s x d h le least =
    let e : s + x ≡ (s + d) + (x - d) = omega arith in
    let up = (slow a turns u slow_u (x - d) (s + d) (s + x) e (omega arith)).0 in
    let down = (slow a turns v slow_v (x - d) (s + d) (s + x) e (omega arith)).1 in
    let less : x - d ≤ x = omega arith in
    let more = mul-le-mul_left a less in
    omega (arith, ints)

module _ (a m n turns : ℕ) (A U V : ℕ → ℕ → ℤ) (row column : ℕ → ℕ) (k : IsMatrix a m n A) (p : AreTurns m n turns A U V row column) where
  slow_row : (i : ℕ) → i < m → IsSlow a turns (λ t. V t i)
  slow_row i l t h =
      let g = p.rows_grow t i h l in
      let below = k.below i (column t) l (p.column_in t h) in let above = k.above i (column t) l (p.column_in t h) in
      (omega (arith, ints), omega (arith, ints))

  slow_column : (j : ℕ) → j < n → IsSlow a turns (λ t. U t j)
  slow_column j l t h =
      let g = p.columns_grow t j h l in
      let below = k.below (row t) j (p.row_in t h) l in let above = k.above (row t) j (p.row_in t h) l in
      (omega (arith, ints), omega (arith, ints))

  -- in d turns a total changes by at most a * d
  pub row_up : (d s t i : ℕ) → t ≡ s + d → t ≤ turns → i < m → V t i ≤ℤ (V s i +ℤ pos (a * d))
  row_up d s t i e h l = (slow a turns (λ t. V t i) (slow_row i l) d s t e h).0

  pub column_down : (d s t j : ℕ) → t ≡ s + d → t ≤ turns → j < n → U s j ≤ℤ (U t j +ℤ pos (a * d))
  column_down d s t j e h l = (slow a turns (λ t. U t j) (slow_column j l) d s t e h).1

  -- if each row and each column is taken from the turn s to x turns later, all totals are near then
  pub all_taken : IsWithin m n U V 0 0 → (s x : ℕ) → 0 < s + x → s + x < turns
      → ((i : ℕ) → i < m → (d : ℕ) × (d ≤ x) × (row (s + d) ≡ i)) → ((j : ℕ) → j < n → (d : ℕ) × (d ≤ x) × (column (s + d) ≡ j))
      → IsWithin m n U V (s + x) (4 * (a * x))
  all_taken w s x some h rows columns i j l l' =
      ⊎_elim (λ le. le) (λ gt. absurd (not_all_above m n turns A U V row column p w (s + x) some (omega arith) (λ i' j' k k'.
      let (d, le, taken) = rows i' k in let (d', le', taken') = columns j' k' in
      let best = p.row_best (s + d) i (omega arith) l in let is = ap (λ c. V (s + d) c) taken in
      let least = p.column_best (s + d') j (omega arith) l' in let is' = ap (λ c. U (s + d') c) taken' in
      let u = overtaken a turns (λ t. V t i) (λ t. V t i') (slow_row i l) (slow_row i' k) s x d h le (omega (arith, ints)) in
      let v = overtaken a turns (λ t. U t j') (λ t. U t j) (slow_column j' k') (slow_column j l') s x d' h le' (omega (arith, ints)) in
      omega (arith, ints)))) (order_of (V (s + x) i) (U (s + x) j +ℤ pos (4 * (a * x))))
