use Rattle.std.proofs.{Common.{ap, ◌∙◌, arith}, lemmas.Int.{ints, quot_fits, quot_is}}
use Rattle.std.specs.{Prelude.{pos, ◌<ℤ◌}, Int.RustNames.{FitsSigned, int_div}}
use mir.Syntax.{w128}
use Rattle.gs_best.proofs.Quotients.{exact}
use Rattle.gs_best.proofs.dividing.over.Goals as goal

pub returns : goal.returns
returns c =
    let d = c.from.result in
    let fits : FitsSigned w128 d = record { sfits = c.from.type_inv } in
    let some : pos 0 <ℤ d = omega (arith, ints, c.from.ensures, c.requires) in
    let is = quot_is w128 c.args.together d c.ranges.together fits (quot_fits w128 c.args.together d c.ranges.together some)
    ∙ ap (int_div c.args.together) c.from.ensures in
    record { quotient = is; share = λ share sum. is ∙ exact c.args.together share c.args.members c.requires sum }

pub nonzero_div-result : goal.nonzero_div-result
nonzero_div-result c = grind arith
