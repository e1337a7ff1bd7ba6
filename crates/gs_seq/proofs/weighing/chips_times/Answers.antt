use Rattle.std.proofs.{Common.{◌≡◌, ◌^◌, ◌∙◌, ap, arith, of_z, refl, to_z, FitsSigned}, lemmas.Grind.{common_steps}}
use Rattle.std.proofs.{lemmas.Int.{fits_signed_from_abs, unsigned_abs-mul}, lemmas.Nat.{mul-le}}
use Rattle.std.specs.{Int.{w128}, Prelude.{◌*ℤ◌, unsigned_abs}}
use Rattle.gs_seq.proofs.Signed.{read_back}
use Rattle.gs_seq.proofs.weighing.chips_times.Goals as goal

pub returns : goal.returns
returns c =
    let chips = c.args.chips in
    let sum = c.args.sum in
    let both : to_z w128 (of_z w128 chips) *ℤ to_z w128 (of_z w128 sum) ≡ chips *ℤ sum =
    ap (λ z. z *ℤ to_z w128 (of_z w128 sum)) (read_back chips _ c.ranges.chips refl) ∙ ap (λ z. chips *ℤ z) (read_back sum _ c.ranges.sum refl) in
    let fits : FitsSigned w128 (chips *ℤ sum) = fits_signed_from_abs w128 (chips *ℤ sum)
    (omega (
      arith,
      unsigned_abs-mul chips sum,
      c.requires.sum,
      mul-le (unsigned_abs chips) (unsigned_abs sum) 65535 (2 ^ 90) c.requires.chips (omega (arith, c.requires.sum)),
    )) in
    ap (λ z. to_z w128 (of_z w128 z)) both ∙ read_back (chips *ℤ sum) _ fits refl

pub overflow_mul-result : goal.overflow_mul-result
overflow_mul-result c = grind (arith, common_steps)
