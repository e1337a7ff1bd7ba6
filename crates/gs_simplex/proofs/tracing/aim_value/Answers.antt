use Rattle.std.proofs.Common.{◌*ℤ◌, sym, ap, ◌∙◌}
use Rattle.gs_simplex.specs.Table.{grid_of}
use Rattle.gs_simplex.proofs.Tables.{flipped_at}
use Rattle.gs_simplex.proofs.tracing.aim_value.Goals as goal

pub returns : goal.returns
returns c =
    let p = c.args.p.now in
    c.negated_share.ensures ∙ ap (λ t. t *ℤ c.negated_share.result.den) (sym (flipped_at p.cols (grid_of p c.args.table.now p.rows)))
