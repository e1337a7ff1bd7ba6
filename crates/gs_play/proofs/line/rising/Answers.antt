use Rattle.std.proofs.{Common.{◌≡◌, ap, ◌∙◌, arith, rules}, lemmas.Int.{int_wrap-sub_right, ints, to_z-of_z}}
use Rattle.std.specs.{Prelude.{ℤ, pos, neg_ℤ, ◌-ℤ◌, ◌*ℤ◌}, Int.RustNames.{FitsSigned}}
use mir.Syntax.{w64}
use Rattle.gs_play.specs.Lines.{wrapped}
use Rattle.gs_play.proofs.line.rising.Goals as goal

neg_wrapped : (z : ℤ) → wrapped (neg_ℤ (wrapped z)) ≡ wrapped (pos 0 -ℤ z)
neg_wrapped z =
    let e : neg_ℤ (wrapped z) ≡ pos 0 -ℤ wrapped z = omega (arith, ints) in
    ap wrapped e ∙ int_wrap-sub_right w64 (pos 0) z

pub returns : goal.returns
returns c = record {
  at = let more : FitsSigned w64 c.args.more = search rules in
      let times : FitsSigned w64 c.times.result = record { sfits = c.times.type_inv } in
      let out : FitsSigned w64 c.negated.result = record { sfits = c.negated.type_inv } in
      to_z-of_z w64 c.negated.result out ∙ c.negated.ensures
      ∙ ap (λ z. wrapped (neg_ℤ z)) (to_z-of_z w64 c.times.result times ∙ c.times.ensures
      ∙ ap (λ z. wrapped (z *ℤ pos c.args.turn)) (to_z-of_z w64 c.args.more more))
      ∙ neg_wrapped (c.args.more *ℤ pos c.args.turn);
  slope = search rules;
}
