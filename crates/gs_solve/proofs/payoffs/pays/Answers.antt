use Rattle.std.proofs.{Common.{◌≡◌, ℕ, ℤ, ◌*ℤ◌, ◌-ℤ◌, ◌<◌, ◌≤◌, ◌^◌, pos, neg_ℤ, unsigned_abs, to_z, of_z, w64, ap, sym, ◌∙◌, arith}}
use Rattle.std.proofs.lemmas.{Grind.{common_steps}, Int.{ints, to_z_pos, unsigned_abs-mul}, Nat.{mul-le}}
use Rattle.gs_game.specs.Seen.{end_of}
use Rattle.gs_seq.specs.Payoffs.{pair_pays}
use Rattle.gs_simplex.proofs.Fits.{kept_64}
use Rattle.gs_solve.proofs.payoffs.pays.Goals as goal

-- what the folder loses, as it is computed
lost : (z : ℤ) (put weight : ℕ) → z ≡ pos put → put < 2 ^ 16 → weight ≤ 67108864
    → to_z w64 (of_z w64 (to_z w64 (of_z w64 (pos 0 -ℤ to_z w64 (of_z w64 z))) *ℤ to_z w64 weight)) ≡ neg_ℤ (pos put) *ℤ pos weight
lost z put weight is few light =
    let a = neg_ℤ (pos put) in
    let b : pos 0 -ℤ pos put ≡ a = omega (arith, ints) in
    let stake : to_z w64 (of_z w64 (pos 0 -ℤ to_z w64 (of_z w64 z))) ≡ a =
    ap (λ x. to_z w64 (of_z w64 (pos 0 -ℤ to_z w64 (of_z w64 x)))) is
    ∙ ap (λ x. to_z w64 (of_z w64 (pos 0 -ℤ x))) (kept_64 (pos put) (omega (arith, ints, few)))
    ∙ ap (λ x. to_z w64 (of_z w64 x)) b ∙ kept_64 a (omega (arith, ints, few)) in
    let small : unsigned_abs (a *ℤ pos weight) < 2 ^ 62 =
    let most = mul-le (unsigned_abs a) (unsigned_abs (pos weight)) (2 ^ 16) 67108864 (omega (arith, ints, few)) (omega (arith, ints, light)) in
    omega (arith, unsigned_abs-mul a (pos weight), most) in
    ap (λ x. to_z w64 (of_z w64 (x *ℤ to_z w64 weight))) stake ∙ ap (λ x. to_z w64 (of_z w64 (a *ℤ x))) (to_z_pos w64 weight (omega (arith, light)))
    ∙ kept_64 (a *ℤ pos weight) small

pub returns-in-Show : goal.returns-in-Show
returns-in-Show c = grind (arith, common_steps)

pub overflow_mul-result : goal.overflow_mul-result
overflow_mul-result c = grind (arith, common_steps)

pub returns-in-Folded2 : goal.returns-in-Folded2
returns-in-Folded2 c = grind (arith, common_steps)

pub overflow_mul-result-in-Show : goal.overflow_mul-result-in-Show
overflow_mul-result-in-Show c = grind (arith, common_steps)

pub overflow_mul-result-in-Folded2 : goal.overflow_mul-result-in-Folded2
overflow_mul-result-in-Folded2 c = grind arith

pub returns-in-Folded1 : goal.returns-in-Folded1
returns-in-Folded1 c =
    let e = c.args.end in
    let p = c.args.pair in
    let is = ap (λ k. pair_pays 1 (end_of (record { round = e.round; kind = k; put = e.put; one = e.one; two = e.two })) p) c.in-Folded1.is in
    lost c.from-put.result e.put p.weight c.from-put.ensures (omega arith) c.requires.few ∙ sym is

pub overflow_sub-result : goal.overflow_sub-result
overflow_sub-result c = grind arith
