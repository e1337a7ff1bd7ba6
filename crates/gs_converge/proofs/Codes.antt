-- Finitely many choices as one number, and back.
use Rattle.std.proofs.Common.{◌≡◌, ℕ, zero, suc, ◌+◌, ◌*◌, ◌/◌, ◌%◌, ◌<◌, ◌≤◌, ap, ◌∙◌, arith, ⊎_elim, ◌⊎◌}
use Rattle.std.proofs.Math.Nat.{mod-lt, mod-eq_of_lt, div-eq_of_lt, add-mul-mod_self_left, add-mul-div_left, mul-le-mul_left}

-- how many numbers have `count` digits below `base`
abbrev pub size : ℕ → ℕ → ℕ
size base zero = 1
size base (suc count) = base * size base count

-- the digits of a number, from the lowest
abbrev pub digit : ℕ → ℕ → ℕ → ℕ
digit base n zero = n % base
digit base n (suc k) = digit base (n / base) k

-- the number with given digits
abbrev pub number_with : ℕ → (ℕ → ℕ) → ℕ → ℕ
number_with base f zero = 0
number_with base f (suc count) = f 0 % base + base * number_with base (λ k. f (suc k)) count

product_some : (a b : ℕ) → 0 < a → 0 < b → 0 < a * b
product_some zero b h k = absurd (omega arith)
product_some (suc a) zero h k = absurd (omega arith)
product_some (suc a) (suc b) h k = omega arith

pub size_some : (base count : ℕ) → 0 < base → 0 < size base count
size_some base zero h = omega arith
size_some base (suc count) h = product_some base (size base count) h (size_some base count h)

pub digit_of : (base : ℕ) (f : ℕ → ℕ) (count k : ℕ) → 0 < base → k < count → digit base (number_with base f count) k ≡ f k % base
digit_of base f zero k h l = absurd (omega arith)
digit_of base f (suc count) zero h l =
    add-mul-mod_self_left (f 0 % base) base (number_with base (λ k. f (suc k)) count) ∙ mod-eq_of_lt (mod-lt (f 0) h)
digit_of base f (suc count) (suc k) h l =
    let rest = number_with base (λ k. f (suc k)) count in
    let none = div-eq_of_lt (mod-lt (f 0) h) in
    let e = add-mul-div_left (f 0 % base) rest h in
    let q : (f 0 % base + base * rest) / base ≡ rest = omega arith in
    ap (λ n. digit base n k) q ∙ digit_of base (λ k. f (suc k)) count k h (omega arith)

pub number_below : (base : ℕ) (f : ℕ → ℕ) (count : ℕ) → 0 < base → number_with base f count < size base count
number_below base f zero h = omega arith
number_below base f (suc count) h =
    let less = number_below base (λ k. f (suc k)) count h in
    let small = mod-lt (f 0) h in
    let next : suc (number_with base (λ k. f (suc k)) count) ≤ size base count = omega arith in
    let more = mul-le-mul_left base next in
    omega arith

-- a table of digits as one number: rows of width `width`, and so many of them
abbrev pub code : ℕ → ℕ → ℕ → (ℕ → ℕ → ℕ) → ℕ
code base width rows g = number_with (size base width) (λ q. number_with base (g q) width) rows

abbrev pub picked : ℕ → ℕ → ℕ → ℕ → ℕ → ℕ
picked base width n q c = digit base (digit (size base width) n q) c

pub code_below : (base width rows : ℕ) (g : ℕ → ℕ → ℕ) → 0 < base → code base width rows g < size (size base width) rows
code_below base width rows g h = number_below (size base width) (λ q. number_with base (g q) width) rows (size_some base width h)

pub picked_code : (base width rows : ℕ) (g : ℕ → ℕ → ℕ) (q c : ℕ) → q < rows → c < width → g q c < base
    → picked base width (code base width rows g) q c ≡ g q c
picked_code base width rows g q c lq lc lg =
    let some : 0 < base = omega arith in
    ap (λ n. digit base n c) (digit_of (size base width) (λ q. number_with base (g q) width) rows q (size_some base width some) lq
    ∙ mod-eq_of_lt (number_below base (g q) width some))
    ∙ digit_of base (g q) width c some lc ∙ mod-eq_of_lt lg

-- a sum is at least each of its terms
abbrev pub sum_below : (ℕ → ℕ) → ℕ → ℕ
sum_below g zero = 0
sum_below g (suc n) = sum_below g n + g n

pub le-sum_below : (g : ℕ → ℕ) (n k : ℕ) → k < n → g k ≤ sum_below g n
le-sum_below g zero k l = absurd (omega arith)
le-sum_below g (suc n) k l = ⊎_elim (λ (lt : k < n). let h = le-sum_below g n k lt in omega arith)
    (λ (same : k ≡ n). let e = ap g same in omega arith) (cases k n l)
  where
    cases : (k n : ℕ) → k < suc n → (k < n) ⊎ (k ≡ n)
    cases k n l = grind arith
