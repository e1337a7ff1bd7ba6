use Rattle.std.proofs.lemmas.Grind.{common_steps}
use Rattle.std.proofs.Common.{arith}
use Rattle.std.proofs.{Common.{sym, ap, ◌∙◌}, Math.IntN.{*ℤ_comm}, lemmas.Int.{to_z-of_z}}
use Rattle.std.specs.Prelude.{◌*ℤ◌}
use mir.Syntax.{w128}
use Rattle.gs_best.proofs.Fractions.{bottom}
use Rattle.gs_best.proofs.numbers.fraction.Goals as goal

pub returns : goal.returns
returns c =
    let x = c.new.result in
    let b = bottom x.num x.den x.reduced in
    let den = to_z-of_z w128 c.args.den c.ranges.den in
    let num = to_z-of_z w128 c.args.num c.ranges.num in
    record {
      positive = b.some;
      value = ap (λ z. x.num *ℤ z) (sym den) ∙ c.new.ensures ∙ ap (λ z. z *ℤ x.den) num ∙ *ℤ_comm c.args.num x.den ∙ ap (λ z. z *ℤ c.args.num) b.is;
    }

pub new-requires : goal.new-requires
new-requires c = grind (arith, common_steps)
