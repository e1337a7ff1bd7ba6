use Rattle.std.proofs.{Common.{sym, ap, subst, ◌∙◌, rules}, lemmas.Int.{to_z-of_z}}
use Rattle.std.specs.Int.RustNames.{FitsSigned}
use Rattle.toml.specs.View.{table_view}
use mir.Syntax.{w64}
use Rattle.gs_file.specs.Answers.{Gives}
use Rattle.gs_file.proofs.{Loop.{handed_on}, Stating.{ok}, TopSteps.{version_give, version_stops_number, version_stops_value}}
use Rattle.gs_file.proofs.top.version.Goals as goal

pub returns-in_err-value : goal.returns-in_err-value
returns-in_err-value c =
    handed_on (λ v. v) _ _ _ _ c.from_residual.ensures.1 c.in_err-value.ensures
    (version_stops_value c.args.form (table_view c.args.table.now) c.top.ensures)

pub returns-in_err-number : goal.returns-in_err-number
returns-in_err-number c =
    handed_on (λ v. v) _ _ _ _ c.from_residual-in_err-number.ensures.1 c.in_err-number.ensures
    (version_stops_number c.args.form (table_view c.args.table.now) c.top.ensures c.in_ok-value.ensures c.top-2.ensures)

pub returns : goal.returns
returns c =
    let fits : FitsSigned w64 c.in_ok-number.number = search rules in
    let number = c.in_ok-number.ensures ∙ ap ok (sym (to_z-of_z w64 c.in_ok-number.number fits)) in
    let total = version_give c.args.form (table_view c.args.table.now) c.top.ensures c.in_ok-value.ensures c.top-2.ensures number in
    subst (Gives (λ v. v) c.version_by_number.result) (sym total) c.version_by_number.ensures
