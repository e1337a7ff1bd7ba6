use Rattle.std.proofs.Common.{rules}
use Rattle.std.proofs.{Common.{◌≡◌, ◌^◌, ◌<◌, ap, ◌∙◌, of_z, to_z, to_z-of_z, arith}, lemmas.Int.{fits_signed_from_abs}}
use Rattle.std.specs.{Prelude.{ℤ, ◌-ℤ◌, unsigned_abs}, Int.RustNames.{FitsSigned}}
use mir.Syntax.{w128}
use Rattle.gs_play.proofs.lasting.above.Goals as goal

-- numbers that are read, and a small difference, stay what they are
read : (x y : ℤ) → FitsSigned w128 x → FitsSigned w128 y → unsigned_abs (x -ℤ y) < 2 ^ 120
    → unsigned_abs (to_z w128 (of_z w128 (to_z w128 (of_z w128 x) -ℤ to_z w128 (of_z w128 y)))) ≡ unsigned_abs (x -ℤ y)
read x y first second l =
    let wide : unsigned_abs (x -ℤ y) < 2 ^ 127 = omega (arith, l) in
    ap (λ z. unsigned_abs (to_z w128 (of_z w128 (z -ℤ to_z w128 (of_z w128 y))))) (to_z-of_z {w = w128} first)
    ∙ ap (λ z. unsigned_abs (to_z w128 (of_z w128 (x -ℤ z)))) (to_z-of_z {w = w128} second)
    ∙ ap unsigned_abs (to_z-of_z {w = w128} (fits_signed_from_abs w128 (x -ℤ y) wide))

pub returns-clause-value : goal.returns-clause-value
returns-clause-value c = c.unsigned_abs.ensures.value ∙ read c.args.greater c.args.less c.ranges.greater c.ranges.less c.requires

pub returns-clause-small : goal.returns-clause-small
returns-clause-small c =
    omega (arith, c.unsigned_abs.ensures.value, read c.args.greater c.args.less c.ranges.greater c.ranges.less c.requires, c.requires)

pub overflow_sub-greater : goal.overflow_sub-greater
overflow_sub-greater c = search rules
