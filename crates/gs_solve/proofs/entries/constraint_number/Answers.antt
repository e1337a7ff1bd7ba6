use Rattle.std.proofs.{Common.{arith}, lemmas.Grind.{common_steps}}
use Rattle.gs_simplex.proofs.Fits.{narrow_passed}
use Rattle.gs_solve.proofs.entries.constraint_number.Goals as goal

pub returns-after-col-cols-clause-number : goal.returns-after-col-cols-clause-number
returns-after-col-cols-clause-number c = grind arith

pub returns-then-col-layout : goal.returns-then-col-layout
returns-then-col-layout c = grind (arith, common_steps)

pub returns-after-col-cols-clause-narrow : goal.returns-after-col-cols-clause-narrow
returns-after-col-cols-clause-narrow c = narrow_passed c.one_or_none.result c.one_or_none.ensures.narrow
