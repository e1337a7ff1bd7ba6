use Rattle.toml.specs.View.{table_view}
use Rattle.gs_file.specs.Views.{values_view}
use Rattle.gs_file.proofs.{Loop.{handed_on}, TopSteps.{values_give, values_stops_version, values_stops_keys, values_stops_ranks, values_stops_suits}}
use Rattle.gs_file.proofs.TopSteps.{values_stops_copies, values_stops_ranking, values_stops_bonus, values_stops_ante, values_stops_rounds}
use Rattle.gs_file.proofs.top.values_of.Goals as goal

pub returns-in_err-version : goal.returns-in_err-version
returns-in_err-version c =
    handed_on values_view _ _ _ _ c.from_residual.ensures.1 c.in_err-version.ensures
    (values_stops_version c.args.form (table_view c.args.table.now))

pub returns-in_err-check_top_keys : goal.returns-in_err-check_top_keys
returns-in_err-check_top_keys c =
    handed_on values_view _ _ _ _ c.from_residual-in_err-check_top_keys.ensures.1 c.in_err-check_top_keys.ensures
    (values_stops_keys c.args.form (table_view c.args.table.now) c.in_ok-version.ensures)

pub returns-in_err-required_at : goal.returns-in_err-required_at
returns-in_err-required_at c =
    handed_on values_view _ _ _ _ c.from_residual-in_err-required_at.ensures.1 c.in_err-required_at.ensures
    (values_stops_ranks c.args.form (table_view c.args.table.now) c.in_ok-version.ensures c.in_ok-check_top_keys.ensures c.top.ensures)

pub returns-in_err-required_at-2 : goal.returns-in_err-required_at-2
returns-in_err-required_at-2 c =
    handed_on values_view _ _ _ _ c.from_residual-in_err-required_at-2.ensures.1 c.in_err-required_at-2.ensures
    (values_stops_suits c.args.form (table_view c.args.table.now) c.in_ok-version.ensures c.in_ok-check_top_keys.ensures c.top.ensures
    c.in_ok-required_at.ensures c.top-2.ensures)

pub returns-in_err-copies_of : goal.returns-in_err-copies_of
returns-in_err-copies_of c =
    handed_on values_view _ _ _ _ c.from_residual-in_err-copies_of.ensures.1 c.in_err-copies_of.ensures
    (values_stops_copies c.args.form (table_view c.args.table.now) c.in_ok-version.ensures c.in_ok-check_top_keys.ensures c.top.ensures
    c.in_ok-required_at.ensures c.top-2.ensures c.in_ok-required_at-2.ensures)

pub returns-in_err-required_at-3 : goal.returns-in_err-required_at-3
returns-in_err-required_at-3 c =
    handed_on values_view _ _ _ _ c.from_residual-in_err-required_at-3.ensures.1 c.in_err-required_at-3.ensures
    (values_stops_ranking c.args.form (table_view c.args.table.now) c.in_ok-version.ensures c.in_ok-check_top_keys.ensures c.top.ensures
    c.in_ok-required_at.ensures c.top-2.ensures c.in_ok-required_at-2.ensures c.in_ok-copies_of.ensures c.top-3.ensures)

pub returns-in_err-bonus_of : goal.returns-in_err-bonus_of
returns-in_err-bonus_of c =
    handed_on values_view _ _ _ _ c.from_residual-in_err-bonus_of.ensures.1 c.in_err-bonus_of.ensures
    (values_stops_bonus c.args.form (table_view c.args.table.now) c.in_ok-version.ensures c.in_ok-check_top_keys.ensures c.top.ensures
    c.in_ok-required_at.ensures c.top-2.ensures c.in_ok-required_at-2.ensures c.in_ok-copies_of.ensures c.top-3.ensures c.in_ok-required_at-3.ensures)

pub returns-in_err-required_at-4 : goal.returns-in_err-required_at-4
returns-in_err-required_at-4 c =
    handed_on values_view _ _ _ _ c.from_residual-in_err-required_at-4.ensures.1 c.in_err-required_at-4.ensures
    (values_stops_ante c.args.form (table_view c.args.table.now) c.in_ok-version.ensures c.in_ok-check_top_keys.ensures c.top.ensures
    c.in_ok-required_at.ensures c.top-2.ensures c.in_ok-required_at-2.ensures c.in_ok-copies_of.ensures c.top-3.ensures c.in_ok-required_at-3.ensures
    c.in_ok-bonus_of.ensures c.top-4.ensures)

pub returns-in_err-required_at-5 : goal.returns-in_err-required_at-5
returns-in_err-required_at-5 c =
    handed_on values_view _ _ _ _ c.from_residual-in_err-required_at-5.ensures.1 c.in_err-required_at-5.ensures
    (values_stops_rounds c.args.form (table_view c.args.table.now) c.in_ok-version.ensures c.in_ok-check_top_keys.ensures c.top.ensures
    c.in_ok-required_at.ensures c.top-2.ensures c.in_ok-required_at-2.ensures c.in_ok-copies_of.ensures c.top-3.ensures c.in_ok-required_at-3.ensures
    c.in_ok-bonus_of.ensures c.top-4.ensures c.in_ok-required_at-4.ensures c.top-5.ensures)

pub returns : goal.returns
returns c =
    values_give c.args.form (table_view c.args.table.now) c.in_ok-version.ensures c.in_ok-check_top_keys.ensures c.top.ensures
    c.in_ok-required_at.ensures c.top-2.ensures c.in_ok-required_at-2.ensures c.in_ok-copies_of.ensures c.top-3.ensures c.in_ok-required_at-3.ensures
    c.in_ok-bonus_of.ensures c.top-4.ensures c.in_ok-required_at-4.ensures c.top-5.ensures c.in_ok-required_at-5.ensures
