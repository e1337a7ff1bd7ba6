-- Euclid gives the greatest common divisor.
use Rattle.std.proofs.Common.{◌≡◌, ℕ, zero, suc, ◌+◌, ◌*◌, ◌/◌, ◌%◌, ◌<◌, ◌≤◌, inl, inr, arith, sym, ap, subst, ◌∙◌}
use Rattle.std.proofs.Math.Nat.{div-mul_cancel, one-dvd, mul-dvd-mul_right, mul-dvd-mul_left, dvd_of_mul-dvd-mul_right, mul-zero, div-le_self, mul-le-mul_left}
use Rattle.std.proofs.Math.Nat.{div-add-mod, mul-add-mod_self_left, mod-eq_of_lt, dvd-mul_right, dvd-mul_left}
use Rattle.std.proofs.lemmas.Bool.{cases_eq, cases_lt, ne_eqb, eq-eqb}
use Rattle.std.proofs.lemmas.Nat.Gcd.{IsGcd-from_zero, IsGcd-from_mod, IsGcd-swap, same_from_IsGcd, dvd-zero}
use Rattle.std.specs.Int.{IsGcd, ◌∣◌}
use Rattle.gs_frac.specs.Gcd.{gcd_within, gcd_of, IsLcm}

gcd_within_is : (turns a b : ℕ) → b < turns → IsGcd a b (gcd_within turns a b)
gcd_within_is zero a b lt = absurd (omega arith)
gcd_within_is (suc turns) a b lt =
    elim (cases_eq b 0) [
      | inl e ↦ rw (eq-eqb b 0 e) (IsGcd-from_zero a b e)
      | inr ne ↦ rw (ne_eqb b 0 ne) (IsGcd-from_mod a b (gcd_within turns b (a % b)) (gcd_within_is turns b (a % b) (omega arith)))
    ]

pub gcd_of_is : (a b : ℕ) → IsGcd a b (gcd_of a b)
unfolding gcd_of
gcd_of_is a b = gcd_within_is (suc b) a b (omega arith)

pub is_gcd_of : (a b g : ℕ) → IsGcd a b g → g ≡ gcd_of a b
is_gcd_of a b g h = same_from_IsGcd a b g (gcd_of a b) h (gcd_of_is a b)

-- ---- divided by the greatest common divisor

module _ (a b g : ℕ) (h : IsGcd a b g) (some : 0 < g) where
  first_quotient : a / g * g ≡ a
  first_quotient = div-mul_cancel g h.0

  second_quotient : b / g * g ≡ b
  second_quotient = div-mul_cancel g h.1

  pub quotients_reduced : IsGcd (a / g) (b / g) 1
  quotients_reduced = (
    one-dvd (a / g),
    one-dvd (b / g),
    λ d p q.
        let x : d * g ∣ a = subst (λ n. d * g ∣ n) first_quotient (mul-dvd-mul_right d p g) in
        let y : d * g ∣ b = subst (λ n. d * g ∣ n) second_quotient (mul-dvd-mul_right d q g) in
        let e : g ≡ 1 * g = omega arith in
        dvd_of_mul-dvd-mul_right d some (subst (λ n. d * g ∣ n) e (h.2 (d * g) x y)),
  )

  pub quotients_cross : a / g * b ≡ a * (b / g)
  quotients_cross =
      let x = a / g in
      let y = b / g in
      let p : x * g ≡ a = first_quotient in
      let q : y * g ≡ b = second_quotient in
      ap (λ n. x * n) (sym q) ∙ swap x y g ∙ ap (λ n. n * y) p
    where
      swap : (x y g : ℕ) → x * (y * g) ≡ x * g * y
      swap x y g = omega arith

  pub quotient_some : 0 < b → 0 < b / g
  quotient_some pos =
      let q = second_quotient in
      elim (cases_lt 0 (b / g)) [
        | inl e ↦ e
        | inr z ↦ (let n : b / g ≡ 0 = omega arith in let m : 0 * g ≡ b = subst (λ k. k * g ≡ b) n q in absurd (omega arith))
      ]

-- ---- a common factor

scaled_within : (turns n a b : ℕ) → 0 < n → b < turns → IsGcd (n * a) (n * b) (n * gcd_within turns a b)
scaled_within zero n a b some lt = absurd (omega arith)
scaled_within (suc turns) n a b some lt =
    elim (cases_eq b 0) [
      | inl e ↦ rw (eq-eqb b 0 e) (IsGcd-from_zero (n * a) (n * b) (ap (λ k. n * k) e ∙ mul-zero n))
      | inr ne ↦
          let low : a % b < b = omega arith in
          let split : n * b * (a / b) + n * (a % b) ≡ n * a = spread n b (a / b) (a % b) ∙ ap (λ k. n * k) (div-add-mod a b) in
          let below : n * (a % b) < n * b = grows n (a % b) b some low in
          let rest : n * a % (n * b) ≡ n * (a % b) = ap (λ k. k % (n * b)) (sym split) ∙ mul-add-mod_self_left (n * b) (a / b) (n * (a % b))
          ∙ mod-eq_of_lt below in
          rw (ne_eqb b 0 ne) (IsGcd-from_mod (n * a) (n * b) (n * gcd_within turns b (a % b))
          (subst (λ r. IsGcd (n * b) r (n * gcd_within turns b (a % b))) (sym rest) (scaled_within turns n b (a % b) some (omega arith))))
    ]
  where
    spread : (n b q r : ℕ) → n * b * q + n * r ≡ n * (b * q + r)
    spread n b q r = omega arith

    grows : (n r b : ℕ) → 0 < n → r < b → n * r < n * b
    grows n r b some low = let h : n * (r + 1) ≤ n * b = mul-le-mul_left n (omega arith) in omega arith

pub scaled : (n a b : ℕ) → 0 < n → IsGcd (n * a) (n * b) (n * gcd_of a b)
unfolding gcd_of
scaled n a b some = scaled_within (suc b) n a b some (omega arith)

-- the divisor of a number above 0 is above 0
pub divisor_some : (a b g : ℕ) → IsGcd a b g → 0 < a → 0 < g
divisor_some a b g h pa =
    elim (cases_lt 0 g) [
      | inl e ↦ e
      | inr z ↦ (let n : g ≡ 0 = omega arith in let q = div-mul_cancel g h.0 in let m = ap (λ k. a / g * k) n ∙ mul-zero (a / g) in absurd (omega arith))
    ]

-- ---- the least common multiple

pub lcm_is : (a b g : ℕ) → 0 < a → 0 < b → IsGcd a b g → IsLcm a b (a / g * b)
lcm_is a b g pa pb h =
    let some : 0 < g = divisor_some a b g h pa in
    record {
      of_first = subst (λ m. a ∣ m) (sym (quotients_cross a b g h some)) (dvd-mul_right a (b / g));
      of_second = dvd-mul_left b (a / g);
      least = λ n p q. elim (cases_lt 0 n) [
        | inr none ↦ (let z : n ≡ 0 = omega arith in subst (λ k. a / g * b ∣ k) (sym z) (dvd-zero (a / g * b)))
        | inl more ↦
            let same : gcd_of a b ≡ g = sym (is_gcd_of a b g h) in
            let both = scaled n a b more in
            let x : a * b ∣ n * a = subst (λ k. a * b ∣ k) (turned a n) (mul-dvd-mul_left b a q) in
            let y : a * b ∣ n * b = mul-dvd-mul_right a p b in
            let z : a * b ∣ n * g = subst (λ k. a * b ∣ n * k) same (both.2 (a * b) x y) in
            let e : a * b ≡ a / g * b * g = ap (λ k. k * b) (sym (div-mul_cancel g h.0)) ∙ around (a / g) g b in
            dvd_of_mul-dvd-mul_right (a / g * b) some (subst (λ k. k ∣ n * g) e z)
      ];
    }
  where
    turned : (a n : ℕ) → a * n ≡ n * a
    turned a n = omega arith

    around : (x g b : ℕ) → x * g * b ≡ x * b * g
    around x g b = omega arith

-- the parts of a reduced fraction
pub record Reduced (n d g : ℕ) : Type 0 where
  pub low : n / g ≤ n
  pub below : d / g ≤ d
  pub some : 0 < d / g
  pub coprime : gcd_of (n / g) (d / g) ≡ 1
  pub cross : n / g * d ≡ n * (d / g)

pub reduced_by : (n d g : ℕ) → IsGcd n d g → 0 < d → Reduced n d g
reduced_by n d g h pos =
    let some : 0 < g = divisor_some d n g (IsGcd-swap n d g h) pos in record {
      low = div-le_self n g;
      below = div-le_self d g;
      some = quotient_some n d g h some pos;
      coprime = sym (is_gcd_of (n / g) (d / g) 1 (quotients_reduced n d g h some));
      cross = quotients_cross n d g h some;
    }
