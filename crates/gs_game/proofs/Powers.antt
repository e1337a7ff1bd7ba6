-- Binomials as the program computes them, and how large they are.
use Rattle.std.proofs.Common.{◌≡◌, ℕ, zero, suc, ◌+◌, ◌-◌, ◌*◌, ◌/◌, ◌^◌, ◌<◌, ◌≤◌, List, ◌∷◌, sum, refl, sym, ap, arith, lit<}
use Rattle.std.proofs.lemmas.List.Sums.{sum_by-cons}
use Rattle.gs_model.specs.Cards.{choose}
use Rattle.gs_model.proofs.Basics.{product_le}
use Rattle.gs_game.specs.Sequences.{power}

pub choose-one : (n : ℕ) → choose n 1 ≡ n
choose-one zero = refl
choose-one (suc n) = omega (arith, choose-one n)

choose-two : (n : ℕ) → 2 * choose (suc n) 2 ≡ suc n * n
choose-two zero = refl
choose-two (suc n) =
    let e : choose (suc (suc n)) 2 ≡ choose (suc n) 1 + choose (suc n) 2 = refl in
    omega (arith, e, choose-two n, choose-one (suc n))

choose-three : (n : ℕ) → 6 * choose (suc (suc n)) 3 ≡ suc (suc n) * suc n * n
choose-three zero = refl
choose-three (suc n) =
    let e : choose (suc (suc (suc n))) 3 ≡ choose (suc (suc n)) 2 + choose (suc (suc n)) 3 = refl in
    omega (arith, e, choose-three n, choose-two (suc n))

pub choose_one : (n : ℕ) → n ≡ choose n 1
choose_one n = sym (choose-one n)

half : (n : ℕ) → n * (n - 1) ≡ 2 * choose n 2
half zero = refl
half (suc n) = let e : suc n - 1 ≡ n = omega arith in rw e (sym (choose-two n))

sixth : (n : ℕ) → n * (n - 1) * (n - 2) ≡ 6 * choose n 3
sixth zero = refl
sixth (suc zero) = refl
sixth (suc (suc n)) =
    let e : suc (suc n) - 1 ≡ suc n = omega arith in
    let f : suc (suc n) - 2 ≡ n = omega arith in
    rw (e, f) (sym (choose-three n))

pub choose_two : (n m : ℕ) → m ≡ n - 1 → n * m / 2 ≡ choose n 2
choose_two n m e = let h = half n in let p : n * m ≡ 2 * choose n 2 = rw e h in rw p (omega arith)

pub choose_three : (n m k : ℕ) → m ≡ n - 1 → k ≡ n - 2 → n * m * k / 6 ≡ choose n 3
choose_three n m k e f = let h = sixth n in let p : n * m * k ≡ 6 * choose n 3 = rw (e, f) h in rw p (omega arith)

-- ---- how large they are

choose-times : (b k : ℕ) → ((m : ℕ) → m ≤ b → choose m k ≤ power b k) → (n : ℕ) → n ≤ b → choose n (suc k) ≤ n * power b k
choose-times b k p zero h = omega arith
choose-times b k p (suc n) h = omega (arith, p n (omega arith), choose-times b k p n (omega arith))

choose-power : (b k n : ℕ) → n ≤ b → choose n k ≤ power b k
choose-power b zero n h = omega arith
choose-power b (suc k) n h =
    let t = choose-times b k (choose-power b k) n h in
    let m : n * power b k ≤ b * power b k = times n b (power b k) h in
    omega (arith, t, m)
  where
    times : (a b c : ℕ) → a ≤ b → a * c ≤ b * c
    times a b c h = grind arith

power-add : (b m n : ℕ) → power b (m + n) ≡ power b m * power b n
power-add b zero n = let e : 0 + n ≡ n = omega arith in rw e (omega arith)
power-add b (suc m) n =
    let e : suc m + n ≡ suc (m + n) = omega arith in
    let f = ap (λ (k : ℕ). b * k) (power-add b m n) in
    rw e (omega (arith, f))

pub draws_bound : (n size : ℕ) (sizes : List ℕ) (first rest : ℕ) → n ≤ 468 → first ≡ choose n size → rest ≤ power 468 (sum sizes)
    → first * rest ≤ power 468 (sum (size ∷ sizes))
draws_bound n size sizes first rest h e r =
    let s : sum (size ∷ sizes) ≡ size + sum sizes = sum_by-cons (λ (x : ℕ). x) size sizes in
    rw (s, power-add 468 size (sum sizes)) (product_le first rest (power 468 size) (power 468 (sum sizes)) (rw e (choose-power 468 size n h)) r)

power-more : (m n : ℕ) → m ≤ n → power 468 m ≤ power 468 n
power-more zero zero h = omega arith
power-more zero (suc n) h = let r = power-more zero n (omega arith) in omega (arith, r)
power-more (suc m) zero h = absurd (omega arith)
power-more (suc m) (suc n) h = let r = power-more m n (omega arith) in omega (arith, r)

pub power_fits : (m : ℕ) → m ≤ 14 → power 468 m < 2 ^ 128
power_fits m h = let p = power-more m 14 h in let b : power 468 14 < 2 ^ 128 = lit< tt in omega (arith, p, b)
