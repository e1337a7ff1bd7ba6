use Rattle.std.proofs.{Common.{◌≡◌, ◌/◌, ◌<◌, arith, ◌∙◌, ap, pos, to_z, of_z}, lemmas.Int.{ints}}
use Rattle.std.specs.{Prelude.{int_lt}, Int.RustNames.{unsigned_abs}, Int.{w128}}
use Rattle.gs_frac.specs.Texts.{number_with_sign}
use Rattle.gs_frac.proofs.{GcdLaws.{Reduced, reduced_by}, Made.{fraction_is}, Signs.{crossed}}
use Rattle.gs_frac.proofs.value.Fraction.new.Goals as goal

module _ (c : goal.After-with_sign-2) where
  num_is : to_z w128 (of_z w128 c.args.num) ≡ c.args.num
  num_is = omega (arith, ints)

  den_is : to_z w128 (of_z w128 c.args.den) ≡ c.args.den
  den_is = omega (arith, ints)

  size_is : c.unsigned_abs-size.result ≡ unsigned_abs c.args.num
  size_is = c.unsigned_abs-size.ensures.value ∙ ap unsigned_abs num_is

  below_is : c.unsigned_abs-below.result ≡ unsigned_abs c.args.den
  below_is = c.unsigned_abs-below.ensures.value ∙ ap unsigned_abs den_is

  den_pos : c.args.den ≡ pos (unsigned_abs c.args.den)
  den_pos = omega (arith, ints)

  below_some : 0 < c.unsigned_abs-below.result
  below_some = let e = below_is in let d = den_pos in omega (arith, ints)

  parts : Reduced c.unsigned_abs-size.result c.unsigned_abs-below.result c.gcd-divisor.result
  parts = reduced_by c.unsigned_abs-size.result c.unsigned_abs-below.result c.gcd-divisor.result c.gcd-divisor.ensures.divides below_some

  above : to_z w128 (of_z w128 c.with_sign.result) ≡ number_with_sign (int_lt c.args.num (pos 0)) (c.unsigned_abs-size.result / c.gcd-divisor.result)
  above = let e : to_z w128 (of_z w128 c.with_sign.result) ≡ c.with_sign.result = omega (arith, ints) in
      e ∙ c.with_sign.ensures ∙ ap (λ z. number_with_sign (int_lt z (pos 0)) (c.unsigned_abs-size.result / c.gcd-divisor.result)) num_is

  under : to_z w128 (of_z w128 c.with_sign-2.result) ≡ pos (c.unsigned_abs-below.result / c.gcd-divisor.result)
  under = let e : to_z w128 (of_z w128 c.with_sign-2.result) ≡ c.with_sign-2.result = omega (arith, ints) in e ∙ c.with_sign-2.ensures

pub invariant_of-result : goal.invariant_of-result
invariant_of-result c =
    let p = parts c in
    let s = size_is c in
    let b = below_is c in
    let above_is = above c in
    let under_is = under c in
    let low = p.low in
    let below = p.below in
    let fits = c.requires.fits in
    record {
      reduced = rw (above_is, under_is)
          (fraction_is (int_lt c.args.num (pos 0)) (c.unsigned_abs-size.result / c.gcd-divisor.result) (c.unsigned_abs-below.result / c.gcd-divisor.result)
          (omega arith) (omega (arith, ints)) p.some p.coprime);
    }

pub returns : goal.returns
returns c =
    let num_is : to_z w128 (of_z w128 c.args.num) ≡ c.args.num = omega (arith, ints) in
    let den_is : to_z w128 (of_z w128 c.args.den) ≡ c.args.den = omega (arith, ints) in
    let size = c.unsigned_abs-size.ensures.value ∙ ap unsigned_abs num_is in
    let below = c.unsigned_abs-below.ensures.value ∙ ap unsigned_abs den_is in
    let den_pos : c.args.den ≡ pos c.unsigned_abs-below.result = omega (arith, ints) in
    let above_is : to_z w128 (of_z w128 c.with_sign.result) ≡ c.with_sign.result = omega (arith, ints) in
    let under_is : to_z w128 (of_z w128 c.with_sign-2.result) ≡ c.with_sign-2.result = omega (arith, ints) in
    let parts = reduced_by c.unsigned_abs-size.result c.unsigned_abs-below.result c.gcd-divisor.result c.gcd-divisor.ensures.divides (omega (arith, ints)) in
    crossed c.args.num c.args.den _ _ c.unsigned_abs-size.result c.unsigned_abs-below.result c.gcd-divisor.result size den_pos parts
    (above_is ∙ c.with_sign.ensures ∙ ap (λ z. number_with_sign (int_lt z (pos 0)) (c.unsigned_abs-size.result / c.gcd-divisor.result)) num_is)
    (under_is ∙ c.with_sign-2.ensures)
