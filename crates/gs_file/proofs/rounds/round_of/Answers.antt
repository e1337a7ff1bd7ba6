use Rattle.std.proofs.{Common.{sym, ap, ◌∙◌, rules}, lemmas.Int.{to_z-of_z}}
use Rattle.std.specs.Int.RustNames.{FitsSigned}
use Rattle.toml.specs.View.{table_view}
use mir.Syntax.{w64}
use Rattle.gs_file.specs.Views.{round_view}
use Rattle.gs_file.proofs.{Loop.{handed_on}, RoundSteps.{round_give, round_stops_keys, round_stops_own, round_stops_shown, round_stops_values}, Stating.{ok}}
use Rattle.gs_file.proofs.RoundSteps.{round_stops_private, round_stops_public, round_stops_play}
use Rattle.gs_file.proofs.rounds.round_of.Goals as goal

pub returns-in_err-check_round_keys : goal.returns-in_err-check_round_keys
returns-in_err-check_round_keys c =
    handed_on round_view _ _ _ _ c.from_residual.ensures.1 c.in_err-check_round_keys.ensures
    (round_stops_keys c.args.form c.args.round (table_view c.args.table.now) c.has_tree-by_tree.ensures)

pub returns-in_err-private : goal.returns-in_err-private
returns-in_err-private c =
    handed_on round_view _ _ _ _ c.from_residual-in_err-private.ensures.1 c.in_err-private.ensures
    (round_stops_own c.args.form c.args.round (table_view c.args.table.now) c.has_tree-by_tree.ensures c.in_ok-check_round_keys.ensures
    c.within_round.ensures)

pub returns-in_err-public : goal.returns-in_err-public
returns-in_err-public c =
    handed_on round_view _ _ _ _ c.from_residual-in_err-public.ensures.1 c.in_err-public.ensures
    (round_stops_shown c.args.form c.args.round (table_view c.args.table.now) c.has_tree-by_tree.ensures c.in_ok-check_round_keys.ensures
    c.within_round.ensures c.in_ok-private.ensures c.within_round-2.ensures)

pub returns-in_err-values : goal.returns-in_err-values
returns-in_err-values c =
    handed_on round_view _ _ _ _ c.from_residual-in_err-values.ensures.1 c.in_err-values.ensures
    (round_stops_values c.args.form c.args.round (table_view c.args.table.now) c.has_tree-by_tree.ensures c.in_ok-check_round_keys.ensures
    c.within_round.ensures c.in_ok-private.ensures c.within_round-2.ensures c.in_ok-public.ensures c.has_tree-by_tree.ensures)

pub returns-in_err-private-2 : goal.returns-in_err-private-2
returns-in_err-private-2 c =
    handed_on round_view _ _ _ _ c.from_residual-in_err-private-2.ensures.1 c.in_err-private-2.ensures
    (round_stops_private c.args.form c.args.round (table_view c.args.table.now) c.has_tree-by_tree.ensures c.in_ok-check_round_keys.ensures
    c.within_round.ensures c.in_ok-private.ensures c.within_round-2.ensures c.in_ok-public.ensures c.has_tree-by_tree.ensures
    c.in_ok-values.ensures c.within_round-3.ensures)

pub returns-in_err-public-2 : goal.returns-in_err-public-2
returns-in_err-public-2 c =
    handed_on round_view _ _ _ _ c.from_residual-in_err-public-2.ensures.1 c.in_err-public-2.ensures
    (round_stops_public c.args.form c.args.round (table_view c.args.table.now) c.has_tree-by_tree.ensures c.in_ok-check_round_keys.ensures
    c.within_round.ensures c.in_ok-private.ensures c.within_round-2.ensures c.in_ok-public.ensures c.has_tree-by_tree.ensures
    c.in_ok-values.ensures c.within_round-3.ensures c.in_ok-private-2.ensures c.within_round-4.ensures)

pub returns-in_err-betting : goal.returns-in_err-betting
returns-in_err-betting c =
    handed_on round_view _ _ _ _ c.from_residual-in_err-betting.ensures.1 c.in_err-betting.ensures
    (round_stops_play c.args.form c.args.round (table_view c.args.table.now) c.has_tree-by_tree.ensures c.in_ok-check_round_keys.ensures
    c.within_round.ensures c.in_ok-private.ensures c.within_round-2.ensures c.in_ok-public.ensures c.has_tree-by_tree.ensures
    c.in_ok-values.ensures c.within_round-3.ensures c.in_ok-private-2.ensures c.within_round-4.ensures c.in_ok-public-2.ensures)

pub returns : goal.returns
returns c =
    let fits1 : FitsSigned w64 c.in_ok-private-2.private = search rules in
    let fits2 : FitsSigned w64 c.in_ok-public-2.public = search rules in
    let private = ap ok (sym (to_z-of_z w64 c.in_ok-private-2.private fits1)) in
    let public = ap ok (sym (to_z-of_z w64 c.in_ok-public-2.public fits2)) in
    round_give c.args.form c.args.round (table_view c.args.table.now) c.has_tree-by_tree.ensures c.in_ok-check_round_keys.ensures
    c.within_round.ensures c.in_ok-private.ensures c.within_round-2.ensures c.in_ok-public.ensures c.has_tree-by_tree.ensures
    c.in_ok-values.ensures c.within_round-3.ensures (c.in_ok-private-2.ensures ∙ private) c.within_round-4.ensures (c.in_ok-public-2.ensures ∙
    public) c.in_ok-betting.ensures
