use Rattle.toml.specs.View.{table_view}
use Rattle.gs_file.specs.Views.{betting_view}
use Rattle.gs_file.proofs.{Loop.{handed_on}, RoundSteps.{values_stop_bet, values_stop_cap, values_stop_tree}}
use Rattle.gs_file.proofs.rounds.betting_values.Goals as goal

pub returns-in_err-tree : goal.returns-in_err-tree
returns-in_err-tree c =
    handed_on betting_view _ _ _ _ c.from_residual.ensures.1 c.in_err-tree.ensures
    (values_stop_tree c.args.form c.args.round (table_view c.args.table.now) c.if-by_tree.true c.within_round.ensures)

pub returns-in_err-bet : goal.returns-in_err-bet
returns-in_err-bet c =
    handed_on betting_view _ _ _ _ c.from_residual-in_err-bet.ensures.1 c.in_err-bet.ensures
    (values_stop_bet c.args.form c.args.round (table_view c.args.table.now) c.if-by_tree.false c.within_round-2.ensures)

pub returns-in_err-cap : goal.returns-in_err-cap
returns-in_err-cap c =
    handed_on betting_view _ _ _ _ c.from_residual-in_err-cap.ensures.1 c.in_err-cap.ensures
    (values_stop_cap c.args.form c.args.round (table_view c.args.table.now) c.if-by_tree.false c.within_round-2.ensures c.in_ok-bet.ensures
    c.within_round-3.ensures)
