-- The fraction that two parts make.
use Rattle.std.proofs.Common.{◌≡◌, ℕ, zero, suc, ◌^◌, ◌<◌, ◌≤◌, min, pos, List, Ok, Err, Bool, true, false, cond, eqb, ltb, ◌&&◌, inl, inr, ◌⊎◌, refl, sym, ◌∙◌}
use Rattle.std.proofs.{Common.{arith}, lemmas.Bool.{cases_Bool, cases_eq, cases_lt, and_right, lt-ltb, le-ltb, eq-eqb, ne_eqb}}
use Rattle.std.specs.{Prelude.{IsTrue}, Int.RustNames.{unsigned_abs}, Str.Parse.{digits_value}}
use Rattle.gs_frac.specs.{declared.fault.FracFault.TheVariants.{NotFraction, TooWide, NotReduced}, Gcd.{gcd_of}}
use Rattle.gs_frac.specs.Texts.{limit, is_fraction, is_numeral, number_with_sign, reduced_fraction, fraction_between}

pub wide : (negative : Bool) (n d : ℕ) → (2 ^ 127 ≤ n) ⊎ (2 ^ 127 ≤ d) → reduced_fraction negative n d ≡ Err TooWide
unfolding limit
wide negative n d (inl h) = rw (le-ltb n (2 ^ 127) h) refl
wide negative n d (inr h) = rw (and_right (ltb n (2 ^ 127)) (ltb d (2 ^ 127)) (le-ltb d (2 ^ 127) h)) refl

narrow : (negative : Bool) (n d : ℕ) → n < 2 ^ 127 → d < 2 ^ 127 → reduced_fraction negative n d
    ≡ cond (ltb 0 d && eqb (gcd_of n d) 1) (Ok (number_with_sign negative n, pos d)) (Err NotReduced)
unfolding limit
narrow negative n d few low = rw (lt-ltb n (2 ^ 127) few, lt-ltb d (2 ^ 127) low) refl

pub unreduced : (negative : Bool) (n d : ℕ) → n < 2 ^ 127 → d < 2 ^ 127 → (d ≡ 0) ⊎ (gcd_of n d ≡ 1 → ⊥) → reduced_fraction negative n d ≡ Err NotReduced
unreduced negative n d few low (inl e) = narrow negative n d few low ∙ rw e refl
unreduced negative n d few low (inr ne) = narrow negative n d few low ∙ rw (and_right (ltb 0 d) (eqb (gcd_of n d) 1) (ne_eqb (gcd_of n d) 1 ne)) refl

pub reduces : (negative : Bool) (n d : ℕ) → n < 2 ^ 127 → d < 2 ^ 127 → 0 < d → gcd_of n d ≡ 1
    → reduced_fraction negative n d ≡ Ok (number_with_sign negative n, pos d)
reduces negative n d few low some one = narrow negative n d few low ∙ rw (lt-ltb 0 d some, one) refl

pub size_of : (negative : Bool) (n : ℕ) → unsigned_abs (number_with_sign negative n) ≡ n
size_of false n = refl
size_of true zero = refl
size_of true (suc n) = refl

pub fraction_is : (negative : Bool) (n d : ℕ) → n < 2 ^ 127 → d < 2 ^ 127 → 0 < d → gcd_of n d ≡ 1 → IsTrue (is_fraction (number_with_sign negative n) (pos d))
unfolding limit
fraction_is negative n d few low some one = rw (size_of, lt-ltb n (2 ^ 127) few, lt-ltb d (2 ^ 127) low, lt-ltb 0 d some, one) refl

-- ---- parts as far as the limit

cap_zero : (n : ℕ) → eqb (min n (2 ^ 127)) 0 ≡ eqb n 0
cap_zero n =
    elim (cases_eq n 0) [
      | inl e ↦ rw (eq-eqb n 0 e) (eq-eqb (min n (2 ^ 127)) 0 (omega arith))
      | inr ne ↦ rw (ne_eqb n 0 ne) (ne_eqb (min n (2 ^ 127)) 0 (λ z. omega arith))
    ]

cap_reduced : (negative : Bool) (n d : ℕ) → reduced_fraction negative (min n (2 ^ 127)) (min d (2 ^ 127)) ≡ reduced_fraction negative n d
cap_reduced negative n d =
    elim (cases_lt n (2 ^ 127)) [
      | inl few ↦ elim (cases_lt d (2 ^ 127)) [
        | inl low ↦
            let a : min n (2 ^ 127) ≡ n = omega arith in
            let b : min d (2 ^ 127) ≡ d = omega arith in
            rw (a, b) refl
        | inr ge ↦ wide negative _ _ (inr (omega arith)) ∙ sym (wide negative n d (inr ge))
      ]
      | inr ge ↦ wide negative _ _ (inl (omega arith)) ∙ sym (wide negative n d (inl ge))
    ]

pub not_numerals : (negative : Bool) (ds right : List ℕ) → (is_numeral ds ≡ false) ⊎ (is_numeral right ≡ false)
    → fraction_between (negative, ds) right ≡ Err NotFraction
not_numerals negative ds right (inl h) = rw h refl
not_numerals negative ds right (inr h) = rw (and_right (is_numeral ds) (is_numeral right) h) refl

pub minus_zero : (negative : Bool) (ds right : List ℕ) → (negative && eqb (min (digits_value 10 ds) (2 ^ 127)) 0) ≡ true
    → fraction_between (negative, ds) right ≡ Err NotFraction
minus_zero negative ds right h =
    let z : (negative && eqb (digits_value 10 ds) 0) ≡ true = rw cap_zero at h in
    elim (cases_Bool (is_numeral ds && is_numeral right)) [ inl e ↦ rw (e, z) refl | inr e ↦ rw e refl ]

pub between_is : (negative : Bool) (ds right : List ℕ) → is_numeral ds ≡ true → is_numeral right ≡ true
    → (negative && eqb (min (digits_value 10 ds) (2 ^ 127)) 0) ≡ false
    → fraction_between (negative, ds) right ≡ reduced_fraction negative (min (digits_value 10 ds) (2 ^ 127)) (min (digits_value 10 right) (2 ^ 127))
between_is negative ds right left_is right_is h =
    let z : (negative && eqb (digits_value 10 ds) 0) ≡ false = rw cap_zero at h in
    rw (left_is, right_is, z) (sym (cap_reduced negative (digits_value 10 ds) (digits_value 10 right)))
