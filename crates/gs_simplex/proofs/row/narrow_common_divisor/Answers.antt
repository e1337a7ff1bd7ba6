use Rattle.std.proofs.{Common.{◌≡◌, ◌≢◌, ℕ, ◌<◌, ◌^◌, ℤ, pos, unsigned_abs, w64, to_z, refl, sym, ap, subst, ◌∙◌, arith}, lemmas.Int.{ints, to_z_pos}}
use Rattle.std.proofs.lemmas.Nat.Gcd.{dvd_refl}
use Rattle.std.specs.Int.{IsGcd}
use Rattle.gs_simplex.proofs.{Fits.{kept_64}, Guesses.{quotient_divides, divisor_narrow}}
use Rattle.gs_simplex.proofs.row.narrow_common_divisor.Goals as goal

some_size : (z : ℤ) → z ≢ pos 0 → 0 < unsigned_abs z
some_size z h = omega (arith, ints)

pub returns-in-Some-clause-divisor : goal.returns-in-Some-clause-divisor
returns-in-Some-clause-divisor c =
    let z = c.args.number in let d = c.args.found.number in
    let e = sym (kept_64 z c.requires.narrow) ∙ c.in-Some.ensures _ refl in
    (dvd_refl (unsigned_abs d), quotient_divides z d _ e, λ k h l. h)

pub overflow_cast-next : goal.overflow_cast-next
overflow_cast-next c =
    let z = c.args.number in let g = c.short_gcd-next.result in
    let e : c.unsigned_abs-in-None.result ≡ unsigned_abs z = c.unsigned_abs-in-None.ensures.value ∙ ap unsigned_abs (kept_64 z c.requires.narrow) in
    let P : ℕ → Type 0 = λ t. Prim.Native.Nat.◌∣◌ g t in
    let h : g < 2 ^ 62 = divisor_narrow g (unsigned_abs z) (some_size z c.requires.some) c.requires.narrow (subst P e c.short_gcd-next.ensures.1) in
    record { sfits = omega (arith, h) }

pub returns-in-None-clause-divisor : goal.returns-in-None-clause-divisor
returns-in-None-clause-divisor c =
    let z = c.args.number in let d = c.args.found.number in let g = c.short_gcd-next.result in
    let e : c.unsigned_abs-in-None.result ≡ unsigned_abs z = c.unsigned_abs-in-None.ensures.value ∙ ap unsigned_abs (kept_64 z c.requires.narrow) in
    let f : c.unsigned_abs.result ≡ unsigned_abs d = c.unsigned_abs.ensures.value ∙ ap unsigned_abs (kept_64 d c.requires.narrow_found) in
    let P : ℕ → Type 0 = λ t. Prim.Native.Nat.◌∣◌ g t in
    let h : g < 2 ^ 62 = divisor_narrow g (unsigned_abs z) (some_size z c.requires.some) c.requires.narrow (subst P e c.short_gcd-next.ensures.1) in
    let m : to_z w64 g ≡ pos g = to_z_pos w64 g (omega (arith, h)) in
    let n : c.of.result.number ≡ pos g = c.of.ensures ∙ m in
    let A : ℕ → Type 0 = λ t. IsGcd t c.unsigned_abs-in-None.result g in let B : ℕ → Type 0 = λ t. IsGcd (unsigned_abs d) t g in let C : ℤ
    → Type 0 = λ t. IsGcd (unsigned_abs d) (unsigned_abs z) (unsigned_abs t) in
    subst C (sym n) (subst B e (subst A f c.short_gcd-next.ensures))

pub returns-in-None-clause-narrow : goal.returns-in-None-clause-narrow
returns-in-None-clause-narrow c =
    let z = c.args.number in
    let u : unsigned_abs c.of.result.number < 2 ^ 62 = divisor_narrow (unsigned_abs c.of.result.number) (unsigned_abs z)
    (some_size z c.requires.some) c.requires.narrow (returns-in-None-clause-divisor c).1 in u
