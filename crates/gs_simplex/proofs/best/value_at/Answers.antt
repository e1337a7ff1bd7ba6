use Rattle.std.proofs.Common.{◌≡◌, ℕ, ◌+◌, ◌-◌, ℤ, pos, ◌*ℤ◌, ◌<ℤ◌, to_z, of_z, sym, ap, subst, ◌∙◌, arith}
use mir.Syntax.{w128}
use Rattle.gs_simplex.specs.Table.{grid_of}
use Rattle.gs_simplex.proofs.Fits.{widened, widened_fits}
use Rattle.gs_simplex.proofs.best.value_at.Goals as goal

pub number_at-side-requires-clause-row : goal.number_at-side-requires-clause-row
number_at-side-requires-clause-row c =
    let e : c.args.row ≡ c.args.row - 1 + 1 = omega (arith, c.if-row-eq0.false) in
    omega (arith, (c.requires.row.inside (c.args.row - 1) e).0)

pub returns : goal.returns
returns c =
    let p = c.args.p.now in let grid = grid_of p c.args.table.now in let n = p.cols in let f = c.new-2.result in let i = c.args.row - 1 in
    let own : to_z w128 (of_z w128 c.from-2.result) ≡ grid i c.args.j = widened c.number_at-own.result c.from-2.result c.number_at-own.ensures.narrow
    c.from-2.ensures ∙ c.number_at-own.ensures.value in
    let side : to_z w128 (of_z w128 c.from.result) ≡ grid i n = widened c.number_at-side.result c.from.result c.number_at-side.ensures.narrow
    c.from.ensures ∙ c.number_at-side.ensures.value in
    record {
      listed = λ k e. (let s : i ≡ k = omega arith in let P : ℕ → Type 0 = λ t. f.num *ℤ grid t c.args.j ≡ grid t n *ℤ f.den in
          subst P s (ap (λ t. f.num *ℤ t) (sym own) ∙ c.new-2.ensures ∙ ap (λ t. t *ℤ f.den) side));
      unlisted = λ e. absurd (c.if-row-eq0.false e);
    }

pub new-requires-2-clause-positive : goal.new-requires-2-clause-positive
new-requires-2-clause-positive c =
    let grid = grid_of c.args.p.now c.args.table.now in let i = c.args.row - 1 in let x = c.number_at-own.result in
    let e : c.args.row ≡ i + 1 = omega (arith, c.if-row-eq0.false) in
    let own : to_z w128 (of_z w128 c.from-2.result) ≡ grid i c.args.j = widened x c.from-2.result c.number_at-own.ensures.narrow c.from-2.ensures
    ∙ c.number_at-own.ensures.value in
    let P : ℤ → Type 0 = λ z. pos 0 <ℤ z in subst P (sym own) (c.requires.row.inside i e).1

pub new-requires-2-clause-fits : goal.new-requires-2-clause-fits
new-requires-2-clause-fits c = widened_fits c.number_at-side.result c.from.result c.number_at-side.ensures.narrow c.from.ensures
