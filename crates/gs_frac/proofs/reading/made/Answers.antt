use Rattle.std.proofs.{Common.{◌≡◌, inl, inr, ◌<◌, arith, ◌∙◌, sym, pos, to_z, of_z}, lemmas.Int.{ints}}
use Rattle.std.specs.Int.{w128}
use Rattle.gs_frac.specs.{Texts.{number_with_sign}, Gcd.{gcd_of}}
use Rattle.gs_frac.proofs.Made.{wide, unreduced, reduces, fraction_is}
use Rattle.gs_frac.proofs.reading.made.Goals.{then-num-ge-LIMIT-via-then-num-ge-LIMIT, then-num-ge-LIMIT-via-else-num-ge-LIMIT+then-den-ge-LIMIT}
use Rattle.gs_frac.proofs.reading.made.Goals.{then-den-eq0-via-then-den-eq0, then-den-eq0-via-else-den-eq0+then-gcd-ne1}
use Rattle.gs_frac.proofs.reading.made.Goals as goal

pub returns-then-num-ge-LIMIT : goal.returns-then-num-ge-LIMIT
returns-then-num-ge-LIMIT c = wide c.args.negative c.args.num c.args.den
    (elim c.then-num-ge-LIMIT.branch [
      | then-num-ge-LIMIT-via-then-num-ge-LIMIT w ↦ inl w.if-num-ge-LIMIT.true
      | then-num-ge-LIMIT-via-else-num-ge-LIMIT+then-den-ge-LIMIT w ↦ inr w.if-den-ge-LIMIT.true
    ])

pub returns-then-den-eq0 : goal.returns-then-den-eq0
returns-then-den-eq0 c =
    unreduced c.args.negative c.args.num c.args.den c.if-num-ge-LIMIT.false c.if-den-ge-LIMIT.false
    (elim c.then-den-eq0.branch [
      | then-den-eq0-via-then-den-eq0 w ↦ inl w.if-den-eq0.true
      | then-den-eq0-via-else-den-eq0+then-gcd-ne1 w ↦ inr (λ e. w.if-gcd-ne1.true (w.gcd.ensures.value ∙ e))
    ])

pub invariant_of-result : goal.invariant_of-result
invariant_of-result c =
    let some : 0 < c.args.den = omega (arith, c.if-den-eq0.false) in
    let one : gcd_of c.args.num c.args.den ≡ 1 = sym c.gcd.ensures.value ∙ c.if-gcd-ne1.false in
    let num : to_z w128 (of_z w128 c.with_sign-num.result) ≡ number_with_sign c.args.negative c.args.num = omega (arith, ints, c.with_sign-num.ensures) in
    let den : to_z w128 c.args.den ≡ pos c.args.den = omega (arith, ints) in
    record { reduced = rw (num, den) (fraction_is c.args.negative c.args.num c.args.den c.if-num-ge-LIMIT.false c.if-den-ge-LIMIT.false some one) }

pub returns : goal.returns
returns c =
    let some : 0 < c.args.den = omega (arith, c.if-den-eq0.false) in
    let one : gcd_of c.args.num c.args.den ≡ 1 = sym c.gcd.ensures.value ∙ c.if-gcd-ne1.false in
    let num : to_z w128 (of_z w128 c.with_sign-num.result) ≡ number_with_sign c.args.negative c.args.num = omega (arith, ints, c.with_sign-num.ensures) in
    let den : to_z w128 c.args.den ≡ pos c.args.den = omega (arith, ints) in
    rw (num, den) (reduces c.args.negative c.args.num c.args.den c.if-num-ge-LIMIT.false c.if-den-ge-LIMIT.false some one)
