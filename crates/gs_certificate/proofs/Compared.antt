-- Numbers beside each other, both times a size: nothing is divided.
use Rattle.std.proofs.{Common.{◌≡◌, ℕ, ◌<◌, ◌^◌, Bool, true, false, not, inl, inr, sym, subst, arith}, lemmas.Bool.{cases_Bool}}
use Rattle.std.specs.{Prelude.{ℤ, pos, ◌+ℤ◌, ◌*ℤ◌, ◌≤ℤ◌, ◌<ℤ◌, T, unsigned_abs}, Int.Signed.{lt_z, lt_z_no, lt_z_yes}}
use Rattle.std.proofs.lemmas.Int.{by_lt_z, fits_signed_from_abs, ints, to_z-of_z}
use mir.Syntax.{w128}
use mir.Val.{of_z, to_z}
use Rattle.gs_model.proofs.Total.{mul-add_right, mul-le}
use Rattle.gs_certificate.specs.Numbers.{TellsWhether}

abbrev Q : Bool → Type 0
Q t = T (not t)

less : (n : ℕ) (number worth : ℤ) → (pos n *ℤ number) <ℤ (pos n *ℤ worth) → number <ℤ worth
less n number worth h = by_lt_z number worth (λ lt. lt) (λ le. absurd (let m = mul-le n worth number le in omega (arith, ints, m, h)))

not_less : (n : ℕ) (number worth : ℤ) → 0 < n → (pos n *ℤ worth) ≤ℤ (pos n *ℤ number) → worth ≤ℤ number
not_less n number worth some h = by_lt_z number worth
    (λ lt. absurd (
    let next : (number +ℤ pos 1) ≤ℤ worth = omega (arith, ints, lt) in
    let m = mul-le n (number +ℤ pos 1) worth next in
    let a = mul-add_right (pos n) number (pos 1) in
    let one : (pos n *ℤ pos 1) ≡ pos n = omega (arith, ints) in
    omega (arith, ints, m, a, one, h, some)))
    (λ le. le)

-- what a comparison tells, also of other forms of the two numbers
less_tells : (a b : ℤ) → TellsWhether (lt_z a b) (a <ℤ b) (b ≤ℤ a)
less_tells a b = elim (cases_Bool (lt_z a b)) [
  | inl e ↦ subst (λ t. TellsWhether t (a <ℤ b) (b ≤ℤ a)) (sym e) (lt_z_yes (subst T (sym e) tt))
  | inr e ↦ subst (λ t. TellsWhether t (a <ℤ b) (b ≤ℤ a)) (sym e) (lt_z_no (subst Q (sym e) tt))
]

tells_so : {A B C D : Type 0} (t : Bool) → (A → B) → (C → D) → TellsWhether t A C → TellsWhether t B D
tells_so true f g h = f h
tells_so false f g h = g h

pub tells_same : (t : Bool) (a b x y : ℤ) → a ≡ x → b ≡ y → TellsWhether t (a <ℤ b) (b ≤ℤ a) → TellsWhether t (x <ℤ y) (y ≤ℤ x)
tells_same t a b x y e h told = subst (λ z. TellsWhether t (x <ℤ z) (z ≤ℤ x)) h (subst (λ z. TellsWhether t (z <ℤ b) (b ≤ℤ z)) e told)

pub compared : (a b x y : ℤ) → a ≡ x → b ≡ y → TellsWhether (lt_z a b) (x <ℤ y) (y ≤ℤ x)
compared a b x y e h = tells_same (lt_z a b) a b x y e h (less_tells a b)

-- two numbers, each times a size
pub both_tell : (n : ℕ) (a b x y : ℤ) → 0 < n → x ≡ pos n *ℤ a → y ≡ pos n *ℤ b → TellsWhether (lt_z x y) (a <ℤ b) (b ≤ℤ a)
both_tell n a b x y some e h = tells_so (lt_z x y) (less n a b) (not_less n a b some) (compared x y _ _ e h)

-- the number that is handed on is the number that was read
pub kept : (z : ℤ) → unsigned_abs z < 2 ^ 90 → z ≡ to_z w128 (of_z w128 z)
kept z h = sym (to_z-of_z w128 z (fits_signed_from_abs w128 z (omega (arith, h))))
