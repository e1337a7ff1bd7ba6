use Rattle.std.proofs.Common.{length, refl, arith}
use Rattle.gs_simplex.specs.Numbers.{at}
use Rattle.gs_simplex.proofs.Multiples.{multiple_of_equal}
use Rattle.gs_simplex.proofs.row.lessen.Goals as goal

pub returns-then-top-lt-LONG-clause-multiple : goal.returns-then-top-lt-LONG-clause-multiple
returns-then-top-lt-LONG-clause-multiple c = multiple_of_equal (length c.args.row.now) (at c.args.row.now) (at c.args.row.now) (λ j h. refl)

pub returns-then-most-lt-LONG-clause-multiple : goal.returns-then-most-lt-LONG-clause-multiple
returns-then-most-lt-LONG-clause-multiple c = multiple_of_equal (length c.args.row.now) (at c.args.row.now) (at c.args.row.now) (λ j h. refl)

pub returns-clause-multiple : goal.returns-clause-multiple
returns-clause-multiple c = c.divide_row-by.ensures.divided.multiple

pub returns-clause-bound : goal.returns-clause-bound
returns-clause-bound c = λ j h. c.divide_row-by.ensures.bound c.greatest-most.result c.greatest-most.ensures j h

pub returns-then-most-lt-LONG-clause-bound : goal.returns-then-most-lt-LONG-clause-bound
returns-then-most-lt-LONG-clause-bound c = grind arith
