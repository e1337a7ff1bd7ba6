-- Products, differences and quotients of narrow numbers fit their bits, so that the machine's numbers are the whole numbers meant.
use Rattle.std.proofs.Common.{◌≡◌, ℕ, ◌+◌, ◌*◌, ◌<◌, ◌≤◌, ◌^◌, ℤ, pos, negsuc, ◌-ℤ◌, ◌*ℤ◌, neg_ℤ, unsigned_abs, FitsSigned, to_z, of_z, w64, Bool, true, false}
use Rattle.std.proofs.Common.{not, ◌<ℤ◌, ◌≤ℤ◌, refl, sym, ap, subst, ◌∙◌, arith}
use Rattle.std.proofs.{Math.Nat.{mul-div_cancel'}, lemmas.Int.{ints, to_z_pos, to_z-of_z, fits_signed_from_abs, unsigned_abs-mul}, lemmas.Nat.{mul-le}}
use mir.Syntax.{w128}
use lib.Signed.{quot_z}
use lib.Dec.{T}
use Rattle.std.specs.Int.Signed.{lt_z, lt_z_yes, lt_z_no, le_z, le_z_yes}
use Prim.Native.Nat.{◌∣◌, zero, suc, ◌/◌}

-- a number of fewer than 62 bits, passed or widened, is itself
pub kept_64 : (a : ℤ) → unsigned_abs a < 2 ^ 62 → to_z w64 (of_z w64 a) ≡ a
kept_64 a h = to_z-of_z w64 a (fits_signed_from_abs w64 a (omega (arith, h)))

pub narrow_passed : (a : ℤ) → unsigned_abs a < 2 ^ 62 → unsigned_abs (to_z w64 (of_z w64 a)) < 2 ^ 62
narrow_passed a h = let P : ℤ → Type 0 = λ t. unsigned_abs t < 2 ^ 62 in subst P (sym (kept_64 a h)) h

pub kept_128 : (a : ℤ) → unsigned_abs a < 2 ^ 126 → to_z w128 (of_z w128 a) ≡ a
kept_128 a h = to_z-of_z w128 a (fits_signed_from_abs w128 a (omega (arith, h)))

pub widened : (a r : ℤ) → unsigned_abs a < 2 ^ 62 → r ≡ to_z w64 (of_z w64 a) → to_z w128 (of_z w128 r) ≡ a
widened a r h e = ap (λ t. to_z w128 (of_z w128 t)) (e ∙ kept_64 a h) ∙ kept_128 a (omega (arith, h))

pub product_small : (a b : ℤ) → unsigned_abs a < 2 ^ 62 → unsigned_abs b < 2 ^ 62 → unsigned_abs (a *ℤ b) ≤ 2 ^ 124
product_small a b h k = omega (arith, unsigned_abs-mul a b, mul-le (unsigned_abs a) (unsigned_abs b) (2 ^ 62) (2 ^ 62) (omega (arith, h)) (omega (arith, k)))

pub product_fits : (a b r s : ℤ) → unsigned_abs a < 2 ^ 62 → unsigned_abs b < 2 ^ 62 → r ≡ to_z w64 (of_z w64 a) → s ≡ to_z w64 (of_z w64 b)
    → FitsSigned w128 (to_z w128 (of_z w128 r) *ℤ to_z w128 (of_z w128 s))
product_fits a b r s h k e f =
    let P : ℤ → Type 0 = λ t. FitsSigned w128 (t *ℤ to_z w128 (of_z w128 s)) in let Q : ℤ → Type 0 = λ t. FitsSigned w128 (a *ℤ t) in
    subst P (sym (widened a r h e)) (subst Q (sym (widened b s k f)) (fits_signed_from_abs w128 (a *ℤ b) (omega (arith, product_small a b h k))))

pub product_kept : (a b r s : ℤ) → unsigned_abs a < 2 ^ 62 → unsigned_abs b < 2 ^ 62 → r ≡ to_z w64 (of_z w64 a) → s ≡ to_z w64 (of_z w64 b)
    → to_z w128 (of_z w128 (to_z w128 (of_z w128 r) *ℤ to_z w128 (of_z w128 s))) ≡ a *ℤ b
product_kept a b r s h k e f =
    ap (λ t. to_z w128 (of_z w128 (t *ℤ to_z w128 (of_z w128 s)))) (widened a r h e) ∙ ap (λ t. to_z w128 (of_z w128 (a *ℤ t))) (widened b s k f)
    ∙ kept_128 (a *ℤ b) (omega (arith, product_small a b h k))

pub difference_small : (x y : ℤ) → unsigned_abs x ≤ 2 ^ 124 → unsigned_abs y ≤ 2 ^ 124 → unsigned_abs (x -ℤ y) ≤ 2 ^ 125
difference_small x y h k = omega (arith, ints)

pub mixed_small : (a x f y : ℤ) → unsigned_abs a < 2 ^ 62 → unsigned_abs x < 2 ^ 62 → unsigned_abs f < 2 ^ 62 → unsigned_abs y < 2 ^ 62
    → unsigned_abs (a *ℤ x -ℤ f *ℤ y) ≤ 2 ^ 125
mixed_small a x f y h k l m = difference_small (a *ℤ x) (f *ℤ y) (product_small a x h k) (product_small f y l m)

pub mixed_fits : (a x f y : ℤ) → unsigned_abs a < 2 ^ 62 → unsigned_abs x < 2 ^ 62 → unsigned_abs f < 2 ^ 62 → unsigned_abs y < 2 ^ 62
    → FitsSigned w128 (a *ℤ x -ℤ f *ℤ y)
mixed_fits a x f y h k l m = fits_signed_from_abs w128 (a *ℤ x -ℤ f *ℤ y) (omega (arith, mixed_small a x f y h k l m))

pub mixed_kept : (a x f y : ℤ) → unsigned_abs a < 2 ^ 62 → unsigned_abs x < 2 ^ 62 → unsigned_abs f < 2 ^ 62 → unsigned_abs y < 2 ^ 62
    → to_z w128 (of_z w128 (a *ℤ x -ℤ f *ℤ y)) ≡ a *ℤ x -ℤ f *ℤ y
mixed_kept a x f y h k l m = kept_128 (a *ℤ x -ℤ f *ℤ y) (omega (arith, mixed_small a x f y h k l m))

negative_times : (k n q : ℕ) → k * q ≡ suc n → negsuc n ≡ pos k *ℤ neg_ℤ (pos q)
negative_times k n zero e = absurd (omega arith)
negative_times k n (suc q) e = sym (ap (λ t. neg_ℤ (pos t)) e)

-- z divided by g, rounded toward zero: what the code's `/` gives
quotient_times : (k : ℕ) (z : ℤ) → k ∣ unsigned_abs z → z ≡ pos k *ℤ quot_z z (pos k)
quotient_times k (pos n) d = sym (ap pos (mul-div_cancel' k d))
quotient_times k (negsuc n) d = negative_times k n (suc n / k) (mul-div_cancel' k d)

quotient_small : (k : ℕ) (z : ℤ) → unsigned_abs (quot_z z (pos k)) ≤ unsigned_abs z
quotient_small k (pos n) = omega arith
quotient_small k (negsuc n) = let e : unsigned_abs (neg_ℤ (pos (suc n / k))) ≡ suc n / k = omega (arith, ints) in omega arith

pub quotient_kept : (k : ℕ) (z : ℤ) → k ∣ unsigned_abs z → unsigned_abs z ≤ 2 ^ 125 → k ≤ 2 ^ 125
    → z ≡ pos k *ℤ to_z w128 (of_z w128 (quot_z (to_z w128 (of_z w128 z)) (to_z w128 k)))
quotient_kept k z d h l =
    let e : to_z w128 (of_z w128 z) ≡ z = kept_128 z (omega (arith, h)) in
    let f : to_z w128 k ≡ pos k = to_z_pos w128 k (omega (arith, l)) in
    let g : to_z w128 (of_z w128 (quot_z z (pos k))) ≡ quot_z z (pos k) = kept_128 (quot_z z (pos k)) (omega (arith, h, quotient_small k z)) in
    rw (e, f, g) (quotient_times k z d)

pub quotient_within : (k : ℕ) (z : ℤ) → unsigned_abs z ≤ 2 ^ 125 → k ≤ 2 ^ 125
    → unsigned_abs (to_z w128 (of_z w128 (quot_z (to_z w128 (of_z w128 z)) (to_z w128 k)))) ≤ 2 ^ 125
quotient_within k z h l =
    let e : to_z w128 (of_z w128 z) ≡ z = kept_128 z (omega (arith, h)) in
    let f : to_z w128 k ≡ pos k = to_z_pos w128 k (omega (arith, l)) in
    let g : to_z w128 (of_z w128 (quot_z z (pos k))) ≡ quot_z z (pos k) = kept_128 (quot_z z (pos k)) (omega (arith, h, quotient_small k z)) in
    rw (e, f, g) (omega (arith, h, quotient_small k z))

-- a number of fewer than 62 bits, cast down and stored
pub stored : (z : ℤ) → unsigned_abs z < 2 ^ 62 → to_z w64 (of_z w64 (to_z w128 (of_z w128 z))) ≡ z
stored z h = ap (λ t. to_z w64 (of_z w64 t)) (kept_128 z (omega (arith, h))) ∙ kept_64 z h

pub lt_true : (a b : ℤ) → lt_z a b ≡ true → a <ℤ b
lt_true a b e = lt_z_yes (let P : Bool → Type 0 = λ t. T t in subst P (sym e) tt)

pub lt_false : (a b : ℤ) → lt_z a b ≡ false → b ≤ℤ a
lt_false a b e = lt_z_no (let P : Bool → Type 0 = λ t. T (not t) in subst P (sym e) tt)

pub le_true : (a b : ℤ) → le_z a b ≡ true → a ≤ℤ b
le_true a b e = le_z_yes (let P : Bool → Type 0 = λ t. T t in subst P (sym e) tt)

-- what is not at most a number is above it
not_at_most : (a b : ℤ) (t : Bool) → le_z a b ≡ false → lt_z b a ≡ t → b <ℤ a
not_at_most a b true _ h = lt_true b a h
not_at_most a b false e h = absurd (let P : Bool → Type 0 = λ t. T t in subst P e (lt_false b a h).le)

pub le_false : (a b : ℤ) → le_z a b ≡ false → b <ℤ a
le_false a b e = not_at_most a b (lt_z b a) e refl

-- the division of two numbers of fewer than 62 bits
pub quotient_64 : (k : ℕ) (z a r : ℤ) (b : ℤ) → k ∣ unsigned_abs z → unsigned_abs z < 2 ^ 62 → k < 2 ^ 62 → a ≡ z → b ≡ pos k
    → r ≡ to_z w64 (of_z w64 (quot_z a b)) → z ≡ pos k *ℤ to_z w128 (of_z w128 r)
quotient_64 k z a r b d h l ea eb e =
    let q : unsigned_abs (quot_z z (pos k)) ≤ unsigned_abs z = quotient_small k z in
    let f : r ≡ to_z w64 (of_z w64 (quot_z z (pos k))) = e ∙ ap (λ t. to_z w64 (of_z w64 (quot_z t b))) ea ∙ ap (λ t. to_z w64 (of_z w64 (quot_z z t))) eb in
    let s : to_z w128 (of_z w128 r) ≡ quot_z z (pos k) = widened (quot_z z (pos k)) r (omega (arith, h, q)) f in
    quotient_times k z d ∙ ap (λ t. pos k *ℤ t) (sym s)

-- ---- narrow numbers in place
pub narrow_quotient_kept : (k : ℕ) (z : ℤ) → k ∣ unsigned_abs z → unsigned_abs z < 2 ^ 62 → k < 2 ^ 62
    → z ≡ pos k *ℤ to_z w64 (of_z w64 (quot_z (to_z w64 (of_z w64 z)) (to_z w64 k)))
narrow_quotient_kept k z d h l =
    let e : to_z w64 (of_z w64 z) ≡ z = kept_64 z h in
    let f : to_z w64 k ≡ pos k = to_z_pos w64 k (omega (arith, l)) in
    let g : to_z w64 (of_z w64 (quot_z z (pos k))) ≡ quot_z z (pos k) = kept_64 (quot_z z (pos k)) (omega (arith, h, quotient_small k z)) in
    rw (e, f, g) (quotient_times k z d)

pub narrow_product : (a x : ℤ) (rest : ℕ) → unsigned_abs a * unsigned_abs x + rest < 2 ^ 62 → FitsSigned w64 a → FitsSigned w64 x
    → to_z w64 (of_z w64 (to_z w64 (of_z w64 a) *ℤ to_z w64 (of_z w64 x))) ≡ a *ℤ x
narrow_product a x rest h fa fx =
    ap (λ t. to_z w64 (of_z w64 (t *ℤ to_z w64 (of_z w64 x)))) (to_z-of_z w64 a fa) ∙ ap (λ t. to_z w64 (of_z w64 (a *ℤ t))) (to_z-of_z w64 x fx)
    ∙ kept_64 (a *ℤ x) (omega (arith, h, unsigned_abs-mul a x))

abs_difference : (x y : ℤ) → unsigned_abs (x -ℤ y) ≤ unsigned_abs x + unsigned_abs y
abs_difference x y = omega (arith, ints)

-- and at most what bounds give
pub difference_bound : (a x f y : ℤ) (top most : ℕ) → unsigned_abs x ≤ top → unsigned_abs y ≤ most
    → unsigned_abs (a *ℤ x -ℤ f *ℤ y) ≤ unsigned_abs a * top + unsigned_abs f * most
difference_bound a x f y top most h k = omega (
  arith,
  abs_difference (a *ℤ x) (f *ℤ y),
  unsigned_abs-mul a x,
  unsigned_abs-mul f y,
  mul-le (unsigned_abs a) (unsigned_abs x) (unsigned_abs a) top (omega arith) h,
  mul-le (unsigned_abs f) (unsigned_abs y) (unsigned_abs f) most (omega arith) k,
)

pub narrow_difference : (a x f y : ℤ) → unsigned_abs a * unsigned_abs x + unsigned_abs f * unsigned_abs y < 2 ^ 62 → unsigned_abs (a *ℤ x -ℤ f *ℤ y) < 2 ^ 62
narrow_difference a x f y h = omega (arith, h, abs_difference (a *ℤ x) (f *ℤ y), unsigned_abs-mul a x, unsigned_abs-mul f y)

-- a narrow number, widened and negated
pub negated : (a r : ℤ) → unsigned_abs a < 2 ^ 62 → r ≡ to_z w64 (of_z w64 a) → to_z w128 (of_z w128 (pos 0 -ℤ to_z w128 (of_z w128 r))) ≡ neg_ℤ a
negated a r h e =
    let q : unsigned_abs (pos 0 -ℤ a) ≡ unsigned_abs a = omega (arith, ints) in
    ap (λ t. to_z w128 (of_z w128 (pos 0 -ℤ t))) (widened a r h e) ∙ kept_128 (pos 0 -ℤ a) (omega (arith, h))
    ∙ (let s : pos 0 -ℤ a ≡ neg_ℤ a = omega (arith, ints) in s)

-- both fit 128 bits
abs_turned : (a : ℤ) → unsigned_abs (pos 0 -ℤ a) ≡ unsigned_abs a
abs_turned a = omega (arith, ints)

abs_negated : (a : ℤ) → unsigned_abs (neg_ℤ a) ≡ unsigned_abs a
abs_negated a = omega (arith, ints)

in_127 : (n : ℕ) → n < 2 ^ 62 → n < 2 ^ 127
in_127 n h = omega (arith, h)

pub widened_fits : (a r : ℤ) → unsigned_abs a < 2 ^ 62 → r ≡ to_z w64 (of_z w64 a) → unsigned_abs (to_z w128 (of_z w128 r)) < 2 ^ 127
widened_fits a r h e = subst (λ t. unsigned_abs t < 2 ^ 127) (sym (widened a r h e)) (in_127 (unsigned_abs a) h)

pub negated_fits : (a r : ℤ) → unsigned_abs a < 2 ^ 62 → r ≡ to_z w64 (of_z w64 a)
    → unsigned_abs (to_z w128 (of_z w128 (pos 0 -ℤ to_z w128 (of_z w128 r)))) < 2 ^ 127
negated_fits a r h e =
    subst (λ t. unsigned_abs t < 2 ^ 127) (sym (negated a r h e)) (subst (λ n. n < 2 ^ 127) (sym (abs_negated a)) (in_127 (unsigned_abs a) h))

pub negation_fits : (a r : ℤ) → unsigned_abs a < 2 ^ 62 → r ≡ to_z w64 (of_z w64 a) → FitsSigned w128 (pos 0 -ℤ to_z w128 (of_z w128 r))
negation_fits a r h e =
    subst (λ t. FitsSigned w128 (pos 0 -ℤ t)) (sym (widened a r h e))
    (fits_signed_from_abs w128 (pos 0 -ℤ a) (subst (λ n. n < 2 ^ 127) (sym (abs_turned a)) (in_127 (unsigned_abs a) h)))
