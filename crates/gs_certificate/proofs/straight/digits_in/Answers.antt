use Rattle.std.proofs.Common.{◌≤◌, ◌*◌, ◌+◌, ◌∙◌, ℕ, List, ap, get_or, arith}
use Rattle.gs_certificate.proofs.PlainTexts.{all_more, value_more}
use Rattle.gs_certificate.proofs.straight.digits_in.Goals as goal

pub loop-i-preserved : goal.loop-i-preserved
loop-i-preserved c =
    let bs : List ℕ = c.args.bytes.now in
    let i = c.loop-i.i in
    let low : 48 ≤ get_or bs i 0 = omega (arith, c.if-b-lt48.false) in
    let high : get_or bs i 0 ≤ 57 = omega (arith, c.if-b-gt57.false) in
    record {
      within = omega arith;
      digits = all_more bs i c.loop-i-test.true c.loop-i.invariant.digits low high;
      value = ap (λ (k : ℕ). c.loop-i.size * 10 + k) c.from.ensures ∙ value_more bs i c.loop-i.size c.loop-i-test.true c.loop-i.invariant.value low high;
      few = omega (arith, c.from.ensures, low, high, c.if-size-ge100000000000000000.false);
    }

pub overflow_add-size : goal.overflow_add-size
overflow_add-size c = grind arith

pub overflow_sub-b : goal.overflow_sub-b
overflow_sub-b c = grind arith
