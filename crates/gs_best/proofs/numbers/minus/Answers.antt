use Rattle.std.proofs.Common.{rules}
use Rattle.std.proofs.{Common.{ap, ◌∙◌, to_z, of_z}, lemmas.Int.{fits_signed_from_abs, to_z-of_z}}
use Rattle.std.specs.Prelude.{◌-ℤ◌}
use mir.Syntax.{w128}
use Rattle.gs_best.proofs.numbers.minus.Goals as goal

pub returns : goal.returns
returns c =
    let x = c.args.first in
    let y = c.args.second in
    ap (λ z. to_z w128 (of_z w128 (z -ℤ to_z w128 (of_z w128 y)))) (to_z-of_z w128 x c.ranges.first)
    ∙ ap (λ z. to_z w128 (of_z w128 (x -ℤ z))) (to_z-of_z w128 y c.ranges.second)
    ∙ to_z-of_z w128 (x -ℤ y) (fits_signed_from_abs w128 (x -ℤ y) c.requires)

pub overflow_sub-result : goal.overflow_sub-result
overflow_sub-result c = search rules
