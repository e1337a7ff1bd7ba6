-- What a stake pays for a pair, in 64 bits.
use Rattle.std.proofs.Common.{◌≡◌, ◌*◌, ◌^◌, ◌<◌, ◌≤◌, Bool, true, if◌then◌else◌, of_z, to_z, to_z-of_z, sym, ap, ◌∙◌, arith}
use Rattle.std.proofs.lemmas.Int.{fits_signed_from_abs, fits_signed_mul}
use Rattle.std.specs.Prelude.{ℤ, pos, ◌*ℤ◌, unsigned_abs}
use mir.Syntax.{w64}
use Rattle.gs_seq.specs.declared.pair.Pair.{Pair}
use Rattle.gs_play.specs.{Pushes.{stake_pays}, declared.pushing.Stake.{Stake}}

-- a small number that is read stays what it is
read : (x : ℤ) → unsigned_abs x < 2 ^ 63 → to_z w64 (of_z w64 x) ≡ x
read x l = to_z-of_z {w = w64} (fits_signed_from_abs w64 x l)

-- at a showdown
pub pays_shown : (s : Stake) (p : Pair) → s.is_shown ≡ true → unsigned_abs s.factor ≤ 65535 → p.weight ≤ 67108864 → unsigned_abs p.signed ≤ 9 * p.weight
    → to_z w64 (of_z w64 (to_z w64 (of_z w64 s.factor) *ℤ to_z w64 (of_z w64 p.signed))) ≡ stake_pays s p
pays_shown s p is factor few moderate =
    let wide : unsigned_abs p.signed ≤ 603979776 = omega (arith, few, moderate) in
    let first : unsigned_abs s.factor < 2 ^ 63 = omega (arith, factor) in
    let second : unsigned_abs p.signed < 2 ^ 63 = omega (arith, wide) in
    ap (λ x. to_z w64 (of_z w64 (x *ℤ to_z w64 (of_z w64 p.signed)))) (read s.factor first)
    ∙ ap (λ x. to_z w64 (of_z w64 (s.factor *ℤ x))) (read p.signed second)
    ∙ to_z-of_z {w = w64} (fits_signed_mul w64 s.factor p.signed 65535 603979776 factor wide (omega arith))
    ∙ ap (λ (b : Bool). s.factor *ℤ (if b then p.signed else pos p.weight)) (sym is)
