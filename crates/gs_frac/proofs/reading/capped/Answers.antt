use Rattle.std.proofs.Common.{◌∙◌, arith, ◌^◌}
use Rattle.gs_frac.proofs.Numerals.{digit_in, capped_more}
use Rattle.gs_frac.proofs.reading.capped.Goals as goal

pub overflow_sub-b : goal.overflow_sub-b
overflow_sub-b c = (digit_in c.args.bytes.now c.loop-b.b-index c.requires c.loop-b-test.true).0

pub more_digits-value-requires-clause-digit : goal.more_digits-value-requires-clause-digit
more_digits-value-requires-clause-digit c = omega (arith, (digit_in c.args.bytes.now c.loop-b.b-index c.requires c.loop-b-test.true).1)

pub loop-b-preserved : goal.loop-b-preserved
loop-b-preserved c = c.more_digits-value.ensures ∙ capped_more c.args.bytes.now c.loop-b.b-index c.loop-b.value
    (2 ^ 127) c.requires c.loop-b-test.true c.loop-b.invariant
