use Rattle.std.proofs.{Common.{◌≡◌, ◌+◌, ◌-◌, ◌*◌, ◌^◌, ◌≤◌, get_or, ap, ◌∙◌, arith, rules, of_z}, Math.Nat.{mul-le-mul_right}, lemmas.Int.{to_z-of_z}}
use Rattle.std.specs.{Prelude.{pos, ◌+ℤ◌, unsigned_abs}, Int.RustNames.{FitsSigned}}
use mir.Syntax.{w128}
use mir.Val.{to_z}
use Rattle.gs_model.proofs.Sparse.{abs_sum}
use Rattle.gs_best.proofs.Ranges.{run_step}
use Rattle.gs_best.proofs.gathering.sum_between.Goals as goal

pub plus-sum-requires : goal.plus-sum-requires
plus-sum-requires c =
    let v = get_or c.args.values.now c.loop-place.place (pos 0) in
    let fv : FitsSigned w128 v = search rules in
    let small = c.requires.modest c.loop-place.place (omega arith) (omega (arith, c.loop-place-test.true)) in
    let s = abs_sum (to_z w128 c.loop-place.sum-bits) v in
    let h = ap (λ z. unsigned_abs (to_z w128 c.loop-place.sum-bits +ℤ z)) (to_z-of_z w128 v fv) in
    let few : c.loop-place.place - c.args.first ≤ 200000 = omega (arith, c.requires.few, c.loop-place-test.true) in
    omega (arith, h, s, small, c.loop-place.invariant.within, mul-le-mul_right (2 ^ 90) few)

pub loop-place-preserved : goal.loop-place-preserved
loop-place-preserved c =
    let values = c.args.values.now in
    let place = c.loop-place.place in
    let v = get_or values place (pos 0) in
    let fv : FitsSigned w128 v = search rules in
    let S = to_z w128 c.loop-place.sum-bits in
    let value : to_z w128 (of_z w128 c.plus-sum.result) ≡ S +ℤ v =
    to_z-of_z w128 c.plus-sum.result (record { sfits = c.plus-sum.type_inv }) ∙ c.plus-sum.ensures ∙ ap (λ z. S +ℤ z) (to_z-of_z w128 v fv) in
    let small = c.requires.modest place (omega arith) (omega (arith, c.loop-place-test.true)) in
    let s = abs_sum S v in
    let from : c.args.first ≤ place = omega arith in
    let more : (place + 1 - c.args.first) * (2 ^ 90) ≡ (place - c.args.first) * (2 ^ 90) + 2 ^ 90 = omega arith in
    record {
      sum_is = value ∙ run_step (λ k. get_or values k (pos 0)) c.args.first place S from c.loop-place.invariant.sum_is;
      within = omega (arith, ap unsigned_abs value, s, small, c.loop-place.invariant.within, more);
    }

pub returns : goal.returns
returns c = grind arith
