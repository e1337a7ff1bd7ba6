-- Quotients that are guessed and multiplied back.
use Rattle.std.proofs.{Common.{◌≡◌, ℕ, ◌*◌, ◌<◌, ◌≤◌, ◌^◌, ℤ, pos, ◌*ℤ◌, unsigned_abs, sym, ap, subst, ◌∙◌, arith}, Math.Nat.{dvd-mul_right, le_of_dvd}}
use Rattle.std.proofs.{lemmas.Int.{unsigned_abs-mul}, lemmas.Nat.{mul-le}}
use Prim.Native.Nat.{◌∣◌}

-- the size of a product
product_size : (z d q : ℤ) → z ≡ d *ℤ q → unsigned_abs z ≡ unsigned_abs d * unsigned_abs q
product_size z d q e = ap unsigned_abs e ∙ unsigned_abs-mul d q

pub quotient_divides : (z d q : ℤ) → z ≡ d *ℤ q → unsigned_abs d ∣ unsigned_abs z
quotient_divides z d q e = let P : ℕ → Type 0 = λ t. unsigned_abs d ∣ t in
    subst P (sym (product_size z d q e)) (dvd-mul_right (unsigned_abs d) (unsigned_abs q))

-- a quotient of a narrow number is narrow
pub quotient_narrow : (by : ℕ) (z d q : ℤ) → d ≡ pos by → 0 < by → unsigned_abs z < 2 ^ 62 → z ≡ d *ℤ q → unsigned_abs q < 2 ^ 62
quotient_narrow by z d q e some h f =
    let s : unsigned_abs z ≡ by * unsigned_abs q = product_size z d q f ∙ ap (λ t. unsigned_abs t * unsigned_abs q) e in
    let m : 1 * unsigned_abs q ≤ by * unsigned_abs q = mul-le 1 (unsigned_abs q) by (unsigned_abs q) (omega (arith, some)) (omega arith) in
    omega (arith, h, s, m)

-- a divisor of a narrow number other than 0 is narrow
pub divisor_narrow : (g m : ℕ) → 0 < m → m < 2 ^ 62 → g ∣ m → g < 2 ^ 62
divisor_narrow g m some small d = let l : g ≤ m = le_of_dvd some d in omega (arith, small)
