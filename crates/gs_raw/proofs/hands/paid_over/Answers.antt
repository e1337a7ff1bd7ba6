use Rattle.std.proofs.lemmas.Grind.{common_steps}
use Rattle.std.proofs.{Common.{◌≡◌, ℕ, ℤ, pos, [], ◌*◌, sym, ap, ◌∙◌, arith}, Math.IntN.{*ℤ_comm}, lemmas.Int.{to_z-of_z}}
use Rattle.std.specs.Prelude.{◌*ℤ◌, unsigned_abs}
use mir.Syntax.{w128}
use Rattle.gs_model.proofs.Total.{sum_z-mul}
use Rattle.gs_best.proofs.Fractions.{bottom}
use Rattle.gs_raw.proofs.hands.paid_over.Goals as goal

no_scale : (w t u : ℕ) → w ≡ 0 → w * t * u ≡ 0
no_scale w t u e =
    let one : w * t ≡ 0 = ap (λ k. k * t) e ∙ omega arith in
    ap (λ k. k * u) one ∙ omega arith

by_zero : (a : ℤ) → a *ℤ pos 0 ≡ pos 0
by_zero a = sym (sum_z-mul a (λ (n : ℕ). pos 0) [])

pub returns-then-weight-eq0 : goal.returns-then-weight-eq0
returns-then-weight-eq0 c =
    let x = c.new.result in
    let none : c.args.weight ≡ 0 = omega (arith, c.if-weight-eq0.true) in
    record {
      positive = (bottom x.num x.den x.reduced).some;
      value_is = ap (λ n. x.num *ℤ pos n) (no_scale c.args.weight c.args.one c.args.two none) ∙ by_zero x.num
          ∙ sym (ap (λ v. pos (unsigned_abs x.den) *ℤ v) (c.requires.nothing none) ∙ by_zero (pos (unsigned_abs x.den)));
    }

pub returns : goal.returns
returns c =
    let x = c.new-2.result in
    let b = bottom x.num x.den x.reduced in
    let den = to_z-of_z w128 c.scale.result (record { sfits = c.scale.type_inv }) ∙ c.scale.ensures in
    let num = to_z-of_z w128 c.args.paid c.ranges.paid in
    record {
      positive = b.some;
      value_is = ap (λ z. x.num *ℤ z) (sym den) ∙ c.new-2.ensures ∙ ap (λ z. z *ℤ x.den) num ∙ *ℤ_comm c.args.paid x.den ∙ ap (λ z. z *ℤ c.args.paid) b.is;
    }

pub new-requires-2 : goal.new-requires-2
new-requires-2 c = grind (arith, common_steps)
