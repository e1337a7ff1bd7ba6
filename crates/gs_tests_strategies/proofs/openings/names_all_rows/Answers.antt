use Rattle.std.proofs.Common.{length, refl, below_more}
use Rattle.gs_tests_strategies.specs.Openings.{HasRowBefore}
use Rattle.gs_tests_strategies.proofs.openings.names_all_rows.Goals as goal

pub loop-row-preserved : goal.loop-row-preserved
loop-row-preserved c =
    below_more (HasRowBefore c.args.opening.now (length c.args.opening.now)) c.loop-row.row c.loop-row.invariant (c.if-not-names_row.ensures refl)
