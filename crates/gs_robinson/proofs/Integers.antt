-- Sums of integers over the turns so far, and the choice between two orders.
use Rattle.std.proofs.{Common.{◌≡◌, ℕ, zero, suc, refl, arith, Bool, true, false, inl, inr, ◌⊎◌, ⊎_elim, subst, sym, ap, ◌*◌, ◌<◌}, lemmas.Int.{ints}}
use Rattle.std.specs.{Prelude.{ℤ, pos, ◌+ℤ◌, ◌*ℤ◌, ◌≤ℤ◌}, Int.Signed.{le_z}}
use Rattle.std.proofs.Math.Nat.{mul-le-mul_left}
use borrow.Author.Differences.{product_is, sum_is_lem, le_out}

pub order_of : (a b : ℤ) → (a ≤ℤ b) ⊎ ((b +ℤ pos 1) ≤ℤ a)
order_of a b = by_test (le_z a b) refl
  where
    by_test : (r : Bool) → le_z a b ≡ r → (a ≤ℤ b) ⊎ ((b +ℤ pos 1) ≤ℤ a)
    by_test true e = inl (grind (arith, ints))
    by_test false e = inr (grind (arith, ints))

-- f 0 + .. + f (n - 1)
abbrev pub sum_to : (ℕ → ℤ) → ℕ → ℤ
sum_to f zero = pos 0
sum_to f (suc n) = sum_to f n +ℤ f n

pub mul-le_z : (n : ℕ) (a b : ℤ) → a ≤ℤ b → (pos n *ℤ a) ≤ℤ (pos n *ℤ b)
mul-le_z n a b h =
    let p = product_is (pos n) a in let q = product_is (pos n) b in let l = le_out a b h in
    let m = mul-le-mul_left n l in
    omega (arith, ints)

-- what holds at each turn so far, and at the next one
pub one_more : (P : ℕ → Type 0) (n : ℕ) → ((t : ℕ) → t < n → P t) → P n → (t : ℕ) → t < suc n → P t
one_more P n old new t l = ⊎_elim (λ (lt : t < n). old t lt) (λ (same : t ≡ n). subst P (sym same) new) (cases t l)
  where
    cases : (t : ℕ) → t < suc n → (t < n) ⊎ (t ≡ n)
    cases t l = grind arith

pub cancel_z : (n : ℕ) (a b : ℤ) → 0 < n → (pos n *ℤ a) ≤ℤ (pos n *ℤ b) → a ≤ℤ b
cancel_z n a b some h = ⊎_elim (λ le. le) (λ gt.
    let m = mul-le_z n (b +ℤ pos 1) a gt in let p = product_is (pos n) (b +ℤ pos 1) in let q = product_is (pos n) b in
    let s = sum_is_lem b (pos 1) in let e = ap (λ k. n * k) s in
    omega (arith, ints)) (order_of a b)
