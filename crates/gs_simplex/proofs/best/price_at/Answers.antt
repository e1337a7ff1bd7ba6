use Rattle.std.proofs.Common.{neg_ℤ, ◌*ℤ◌, sym, ap, ◌∙◌, arith}
use Rattle.gs_simplex.specs.Table.{grid_of}
use Rattle.gs_simplex.proofs.Tables.{flipped_other}
use Rattle.gs_simplex.proofs.best.price_at.Goals as goal

pub returns : goal.returns
returns c =
    let p = c.args.p.now in
    c.negated_share.ensures ∙ ap (λ t. neg_ℤ t *ℤ c.negated_share.result.den)
    (sym (flipped_other p.cols (grid_of p c.args.table.now p.rows) c.args.j (λ e. omega (arith, c.requires.column))))
