-- Each row of whole numbers is a positive multiple of a primitive row.
use Rattle.std.proofs.Common.{◌≡◌, ℕ, zero, suc, ◌*◌, ◌/◌, ◌%◌, ◌<◌, ◌≤◌, inl, inr, ℤ, pos, negsuc, ◌*ℤ◌, neg_ℤ, ◌<ℤ◌, unsigned_abs, sym, ap, subst, ◌∙◌, arith}
use Rattle.std.proofs.{lemmas.Bool.{cases_eq}, lemmas.Int.{ints}, lemmas.Nat.Gcd.{IsGcd-from_zero, IsGcd-from_mod, dvd-zero, dvd_trans}}
use Rattle.std.proofs.Math.Nat.{mod-lt, mul-div_cancel', dvd_of_mul-dvd-mul_left, mul-dvd-mul_left, eq-one_of_dvd-one, eq-zero_of_zero-dvd}
use Prim.Native.Nat.{◌∣◌}
use Rattle.std.specs.Int.{IsGcd}
use Rattle.gs_simplex.specs.Rows.{IsPrimitive}
use Rattle.gs_simplex.proofs.{Ring.{linear, one_times, times_neg}, Sums.{cases_last}}

-- Euclid, with a bound on the second number
pub gcd_exists : (k a b : ℕ) → b ≤ k → (g : ℕ) × IsGcd a b g
gcd_exists zero a b h = (a, IsGcd-from_zero a b (omega arith))
gcd_exists (suc k) a b h = elim (cases_eq b 0) [
  | inl z ↦ (a, IsGcd-from_zero a b z)
  | inr nz ↦ (let lt : a % b < b = mod-lt a (omega arith) in let w = gcd_exists k b (a % b) (omega arith) in (w.0, IsGcd-from_mod a b w.0 w.1))
]

-- the common divisor of the numbers below place k
pub row_divisor : (k : ℕ) (R : ℕ → ℤ) → (g : ℕ) × ((j : ℕ) → j < k → g ∣ unsigned_abs (R j)) × ((d : ℕ) → ((j : ℕ) → j < k → d ∣ unsigned_abs (R j)) → d ∣ g)
row_divisor zero R = (0, λ j h. absurd (omega arith), λ d h. dvd-zero d)
row_divisor (suc k) R =
    let w = row_divisor k R in
    let g = gcd_exists (unsigned_abs (R k)) w.0 (unsigned_abs (R k)) (omega arith) in (
      g.0,
      λ j h. elim (cases_last j k h) [
        | inl l ↦ dvd_trans g.0 g.1.0 (w.1 j l)
        | inr e ↦ (let P : ℕ → Type 0 = λ i. g.0 ∣ unsigned_abs (R i) in subst P (sym e) g.1.1)
      ],
      λ d h. g.1.2 d (w.2 d (λ j l. h j (omega arith))) (h k (omega arith)),
    )

-- z divided by g
abbrev pub over : ℕ → ℤ → ℤ
over g (pos n) = pos (n / g)
over g (negsuc n) = neg_ℤ (pos (suc n / g))

pub over_times : (g : ℕ) (z : ℤ) → g ∣ unsigned_abs z → z ≡ pos g *ℤ over g z
over_times g (pos n) d = sym (ap pos (mul-div_cancel' g d))
over_times g (negsuc n) d = let e : g * (suc n / g) ≡ suc n = mul-div_cancel' g d in sym (times_neg (pos g) (pos (suc n / g)) ∙ ap (λ t. neg_ℤ (pos t)) e)

pub over_abs : (g : ℕ) (z : ℤ) → g ∣ unsigned_abs z → g * unsigned_abs (over g z) ≡ unsigned_abs z
over_abs g (pos n) d = mul-div_cancel' g d
over_abs g (negsuc n) d = let e : g * (suc n / g) ≡ suc n = mul-div_cancel' g d in
    let f : unsigned_abs (neg_ℤ (pos (suc n / g))) ≡ suc n / g = omega (arith, ints) in ap (λ t. g * t) f ∙ e

pub zero_abs : (z : ℤ) → unsigned_abs z ≡ 0 → z ≡ pos 0
zero_abs z e = omega (arith, ints)

-- each row is a positive multiple of a primitive row
pub primitive_exists : (n : ℕ) (R : ℕ → ℤ) → (g : ℤ) × (Q : ℕ → ℤ) × (pos 0 <ℤ g) × ((j : ℕ) → j ≤ n → R j ≡ g *ℤ Q j) × IsPrimitive n Q
primitive_exists n R =
    let w = row_divisor (suc n) R in
    elim (cases_eq w.0 0) [
      | inl z ↦ (let zeros : (j : ℕ) → j ≤ n → R j ≡ pos 0 = λ j jn. zero_abs (R j) (eq-zero_of_zero-dvd (let P : ℕ → Type 0 = λ t. t ∣ unsigned_abs (R j) in
          subst P z (w.1 j (omega arith)))) in
          (pos 1, R, omega (arith, linear), λ j jn. sym (one_times (R j)), record { form = inl zeros }))
      | inr nz ↦ (
        pos w.0,
        λ j. over w.0 (R j),
        omega (arith, ints),
        λ j jn. over_times w.0 (R j) (w.1 j (omega arith)),
        record {
          form = inr (λ d h.
              let all : w.0 * d ∣ w.0 = w.2 (w.0 * d) (λ j jk. (let P : ℕ → Type 0 = λ t. w.0 * d ∣ t in
              subst P (over_abs w.0 (R j) (w.1 j jk)) (mul-dvd-mul_left d w.0 (h j (omega arith))))) in
              let one : w.0 * d ∣ w.0 * 1 = (let e : w.0 ≡ w.0 * 1 = omega arith in let P : ℕ → Type 0 = λ t. w.0 * d ∣ t in subst P e all) in
              eq-one_of_dvd-one (dvd_of_mul-dvd-mul_left d (omega arith) one));
        },
      )
    ]
