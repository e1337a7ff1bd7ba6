-- Exact quotients.
use Rattle.std.proofs.{Common.{◌≡◌, ℕ, ◌*◌, ◌<◌, ◌≤◌, ap, ◌∙◌, arith, ⊎_elim}, Math.IntN.{*ℤ_comm}, Math.Nat.{mul-le-mul_right}, lemmas.Bool.{cases_lt}}
use Rattle.std.proofs.lemmas.Int.{ints, quot-rem, rem_below, unsigned_abs-mul}
use Rattle.std.specs.{Prelude.{ℤ, pos, ◌+ℤ◌, ◌-ℤ◌, ◌*ℤ◌, unsigned_abs}, Int.RustNames.{int_div, int_rem}}
use borrow.Author.Differences.{abs_is}
use Rattle.gs_model.proofs.Total.{mul-add_right}

pub abs-pos : (d : ℕ) → unsigned_abs (pos d) ≡ d
abs-pos d = omega (arith, ints, abs_is (pos d))

-- a multiple that is smaller than what it is a multiple of is none
no_multiple : (e r : ℤ) (d : ℕ) → e *ℤ pos d ≡ r → unsigned_abs r < d → unsigned_abs e ≡ 0
no_multiple e r d is l =
    let m = unsigned_abs-mul e (pos d) ∙ ap (λ k. unsigned_abs e * k) (abs-pos d) in
    let s = ap unsigned_abs is in
    ⊎_elim
    (λ (some : 0 < unsigned_abs e). let up : 1 * d ≤ unsigned_abs e * d = mul-le-mul_right d some in absurd (omega (arith, m, s, l, up)))
    (λ (none : unsigned_abs e ≤ 0). omega arith)
    (cases_lt 0 (unsigned_abs e))

pub exact : (together share : ℤ) (d : ℕ) → 0 < d → together ≡ share *ℤ pos d → int_div together (pos d) ≡ share
exact together share d some is =
    let q = int_div together (pos d) in
    let e = share -ℤ q in
    let sum : share ≡ q +ℤ e = omega (arith, ints) in
    let parts = *ℤ_comm share (pos d) ∙ ap (λ z. pos d *ℤ z) sum ∙ mul-add_right (pos d) q e in
    let rest : e *ℤ pos d ≡ int_rem together (pos d) = let a = quot-rem together (pos d) in
    omega (arith, ints, a, is, parts, *ℤ_comm (pos d) q, *ℤ_comm (pos d) e) in
    let small : unsigned_abs (int_rem together (pos d)) < d = let b = rem_below together (pos d) (let o = abs-pos d in omega (arith, o, some)) in
    omega (arith, b, abs-pos d) in
    let none = no_multiple e (int_rem together (pos d)) d rest small in
    omega (arith, ints, abs_is e, none)
