use Rattle.std.proofs.Common.{ℕ, length, subst, arith}
use Rattle.gs_simplex.specs.{Support.{IsSupport}, Numbers.{at, IsDivided}}
use Rattle.gs_simplex.proofs.{Supports.{support_divided}, Places.{lead_of}, table.take_row.Goals.{After-divide_row}}
use Rattle.gs_simplex.proofs.table.take_row.Goals as goal

-- the row divided, at its width
divided : (c : After-divide_row) → IsDivided (length c.args.row.now) (at c.turn_row.new.row) (at c.divide_row.new.row)
divided c = let P : ℕ → Type 0 = λ w. IsDivided w (at c.turn_row.new.row) (at c.divide_row.new.row) in subst P c.turn_row.auto.row c.divide_row.ensures.divided

pub returns-clause-taken : goal.returns-clause-taken
returns-clause-taken c =
    lead_of (at c.args.row.now) (at c.turn_row.new.row) (at c.divide_row.new.row) c.args.c (length c.args.row.now) c.requires.inside c.turn_row.ensures.turned
    (divided (goal.at.returns-clause-taken c).After-divide_row)

pub returns-clause-support : goal.returns-clause-support
returns-clause-support c =
    let mid = at c.turn_row.new.row in
    let P : ℕ → Type 0 = λ w. IsSupport c.fill-count.new.filled c.fill-count.result w mid mid in
    support_divided c.fill-count.new.filled c.fill-count.result (length c.args.row.now) mid (at c.divide_row.new.row)
    (subst P c.turn_row.auto.row c.fill-count.ensures) (divided (goal.at.returns-clause-support c).After-divide_row)

pub divide_row-requires-clause-narrow : goal.divide_row-requires-clause-narrow
divide_row-requires-clause-narrow c = grind arith

pub returns-clause-narrow : goal.returns-clause-narrow
returns-clause-narrow c = grind arith
