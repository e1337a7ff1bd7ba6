use Rattle.std.proofs.Common.{◌≡◌, ◌+◌, ℤ, pos, neg_ℤ, ◌-ℤ◌, ◌*ℤ◌, ◌<ℤ◌, to_z, of_z, sym, ap, subst, ◌∙◌, arith}
use mir.Syntax.{w128}
use Rattle.gs_simplex.specs.Table.{grid_of, table_aim}
use Rattle.gs_simplex.proofs.{Fits.{widened, negated, negated_fits, negation_fits}, Tables.{flipped_other}}
use Rattle.gs_simplex.proofs.best.negated_share.Goals.{After-from-2}
use Rattle.gs_simplex.proofs.best.negated_share.Goals as goal

-- the multiple as it is passed on
multiple_is : (c : After-from-2) → let p = c.args.p.now in to_z w128 (of_z w128 c.from-2.result) ≡ table_aim p (grid_of p c.args.table.now) (p.cols + 1)
multiple_is c =
    let p = c.args.p.now in let x = c.number_at-multiple in
    widened x.result c.from-2.result x.ensures.narrow c.from-2.ensures ∙ x.ensures.value
    ∙ sym (flipped_other p.cols (grid_of p c.args.table.now p.rows) (p.cols + 1) (λ e. omega arith))

pub returns : goal.returns
returns c =
    let f = c.new.result in
    let g : to_z w128 (of_z w128 (pos 0 -ℤ to_z w128 (of_z w128 c.from.result))) ≡ neg_ℤ (grid_of c.args.p.now c.args.table.now c.args.p.now.rows c.args.j) =
    negated c.number_at-number.result c.from.result c.number_at-number.ensures.narrow c.from.ensures ∙ ap neg_ℤ c.number_at-number.ensures.value in
    ap (λ t. f.num *ℤ t) (sym (multiple_is (goal.at.returns c).After-from-2)) ∙ c.new.ensures ∙ ap (λ t. t *ℤ f.den) g

pub new-requires-clause-positive : goal.new-requires-clause-positive
new-requires-clause-positive c =
    let P : ℤ → Type 0 = λ z. pos 0 <ℤ z in subst P (sym (multiple_is (goal.at.new-requires-clause-positive c).After-from-2)) c.requires.multiple

pub new-requires-clause-fits : goal.new-requires-clause-fits
new-requires-clause-fits c = negated_fits c.number_at-number.result c.from.result c.number_at-number.ensures.narrow c.from.ensures

pub overflow_sub-from : goal.overflow_sub-from
overflow_sub-from c = negation_fits c.number_at-number.result c.from.result c.number_at-number.ensures.narrow c.from.ensures
