use Rattle.std.proofs.Common.{◌≡◌, ◌+◌, ◌-◌, ◌≤◌, ℕ, ap, ◌∙◌, arith}
use Rattle.gs_simplex.proofs.Fits.{kept_64}
use Rattle.gs_solve.specs.Layout.{form_number}
use Rattle.gs_solve.proofs.entries.number.Goals as goal

pub returns-then-row-layout-clause-number : goal.returns-then-row-layout-clause-number
returns-then-row-layout-clause-number c = λ f lists u. kept_64 c.constraint_number.result c.constraint_number.ensures.narrow
    ∙ c.constraint_number.ensures.number f lists u

whole : (a b : ℕ) → a ≤ b → a + (b - a) ≡ b
whole a b h = omega arith

pub returns-else-row-layout-clause-number : goal.returns-else-row-layout-clause-number
returns-else-row-layout-clause-number c = λ f lists u. kept_64 c.answer_number.result c.answer_number.ensures.narrow
    ∙ c.answer_number.ensures.number f lists u
    ∙ ap (λ i. form_number f lists i c.args.col) (whole c.args.layout.now.size.one_rows c.args.row c.if-row-layout.false)

pub returns-else-row-layout-clause-narrow : goal.returns-else-row-layout-clause-narrow
returns-else-row-layout-clause-narrow c = grind arith

pub returns-then-row-layout-clause-narrow : goal.returns-then-row-layout-clause-narrow
returns-then-row-layout-clause-narrow c = grind arith
