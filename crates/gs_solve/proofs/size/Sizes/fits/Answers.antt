use Rattle.std.proofs.Common.{arith}
use Rattle.gs_solve.proofs.size.Sizes.fits.Goals as goal

pub returns-then-count-gt-MOST_NUMBERS-clause-refused : goal.returns-then-count-gt-MOST_NUMBERS-clause-refused
returns-then-count-gt-MOST_NUMBERS-clause-refused c = grind arith

pub returns-else-count-gt-MOST_NUMBERS-clause-fits : goal.returns-else-count-gt-MOST_NUMBERS-clause-fits
returns-else-count-gt-MOST_NUMBERS-clause-fits c = grind arith
