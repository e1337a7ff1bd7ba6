use Rattle.std.proofs.Common.{arith}
use Rattle.gs_simplex.proofs.Reduce.{divided_row, undivided_row, divisor_narrow, bound_over}
use Rattle.gs_simplex.proofs.row.divide_row.Goals as goal

pub divide_all-requires-clause-small : goal.divide_all-requires-clause-small
divide_all-requires-clause-small c = divisor_narrow c.args.row.now c.narrow_divisor-by.result c.narrow_divisor-by.ensures c.requires.narrow

pub returns-then-by-gt1-clause-divided : goal.returns-then-by-gt1-clause-divided
returns-then-by-gt1-clause-divided c =
    divided_row c.args.row.now c.divide_all.new.row c.narrow_divisor-by.result c.requires.some c.narrow_divisor-by.ensures c.if-by-gt1.true c.divide_all.ensures

pub returns-then-by-gt1-clause-bound : goal.returns-then-by-gt1-clause-bound
returns-then-by-gt1-clause-bound c = λ most h j l.
    bound_over c.args.row.now c.divide_all.new.row c.narrow_divisor-by.result most (omega (arith, c.if-by-gt1.true)) c.divide_all.ensures h j
    (omega (arith, c.divide_all.auto.row))

pub returns-clause-divided : goal.returns-clause-divided
returns-clause-divided c = undivided_row c.args.row.now c.narrow_divisor-by.result c.requires.some c.narrow_divisor-by.ensures
    (omega (arith, c.if-by-gt1.false))

pub returns-then-by-gt1-clause-narrow : goal.returns-then-by-gt1-clause-narrow
returns-then-by-gt1-clause-narrow c = grind arith

pub returns-clause-narrow : goal.returns-clause-narrow
returns-clause-narrow c = grind arith
