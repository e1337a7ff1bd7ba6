use Rattle.std.proofs.Common.{◌≡◌, ◌==◌, ◌&&◌, ◌<◌, ◌-◌, ◌^◌, ◌++◌, ◌∙◌, ℕ, Bool, List, length, take, drop, ap, sym, refl, subst, arith}
use Rattle.std.proofs.lemmas.List.{length-drop, take_all}
use Rattle.std.specs.{Prelude.{ℤ, unsigned_abs}, Fmt.{signed_decimal}}
use mir.Syntax.{w128}
use mir.Val.{of_z, to_z}
use Rattle.gs_frac.specs.Texts.{number_with_sign}
use Rattle.gs_frac.proofs.Made.{size_of}
use Rattle.gs_certificate.proofs.PlainTexts.{kept, narrow_is}
use Rattle.gs_certificate.proofs.straight.narrow_in.Goals as goal

-- the number, as it is handed on, is small
narrow : (negative : Bool) (size wide : ℕ) (z : ℤ) → wide ≡ size → size < 10 ^ 18 → z ≡ number_with_sign negative wide → (z ≡ number_with_sign negative size)
    × (unsigned_abs z < 2 ^ 90)
narrow negative size wide z same few is =
    let so : z ≡ number_with_sign negative size = is ∙ ap (number_with_sign negative) same in
    let long : unsigned_abs z ≡ size = ap unsigned_abs so ∙ size_of negative size in
    (so, omega (arith, long, few))

-- the end of the bytes
rest_is : (xs : List ℕ) (count : ℕ) → take (length xs - count) (drop count xs) ≡ drop count xs
rest_is xs count = take_all (length xs - count) (drop count xs) (omega (arith, length-drop count xs))

pub returns-in-34-clause-text : goal.returns-in-34-clause-text
returns-in-34-clause-text c =
    let negative = c.sign-negative.result.0 in
    let digits : List ℕ = c.sign-negative.result.1.now in
    let size = c.digits_in-size.result.0 in
    let count = c.digits_in-size.result.1 in
    let z = c.narrow_number.result in
    let n = narrow negative size size z refl c.digits_in-size.ensures.few c.narrow_number.ensures in
    let plain = c.is_plain.ensures c.if-not-is_plain.false in
    let no_minus_zero = ap (λ (k : ℕ). negative && (k == 0)) (sym c.from.ensures) ∙ sym c.if-is_minus_zero.ensures in
    let text = narrow_is c.args.bytes.now digits negative size count c.sign-negative.ensures c.digits_in-size.ensures plain.0 plain.1 no_minus_zero in
    text ∙ ap (λ (x : ℤ). signed_decimal x ++ drop count digits) (sym n.0 ∙ kept z n.1) ∙ ap (λ (q : List ℕ). signed_decimal (to_z w128 (of_z w128 z)) ++ q)
    (sym (rest_is digits count))

pub returns-in-34-clause-small : goal.returns-in-34-clause-small
returns-in-34-clause-small c =
    let z = c.narrow_number.result in
    let n = narrow c.sign-negative.result.0 c.digits_in-size.result.0 c.digits_in-size.result.0 z refl c.digits_in-size.ensures.few c.narrow_number.ensures in
    subst (λ (x : ℤ). unsigned_abs x < 2 ^ 90) (kept z n.1) n.1

pub bounds-rest-0 : goal.bounds-rest-0
bounds-rest-0 c = grind arith

pub narrow_number-requires : goal.narrow_number-requires
narrow_number-requires c = grind arith
