use Rattle.std.proofs.Common.{Ok, codes}
use Rattle.serde_json.specs.{Find.{as_str}, View.{view}}
use Rattle.gs_json.specs.Shapes.{list_in}
use Rattle.gs_certificate.specs.{Reading.{named, no_other_key, side_at, well_shaped}, Views.{side_view, text_list}}
use Rattle.gs_certificate.proofs.Stepwise.{handed_over, handed_up, own_rest, own_after_list, own_after_bound, own_after_name, own_steps, own_at_text}
use Rattle.gs_certificate.proofs.Stepwise.{own_at_values, own_at_list, own_at_rest, own_all}
use Rattle.gs_certificate.proofs.shapes.side_of.Goals as goal

pub returns-in_err-named : goal.returns-in_err-named
returns-in_err-named c =
    let d = view c.args.value.now in
    handed_up side_view c.from_residual.result c.in_err-named.field-0.0 (named (codes "bound") d) (own_after_name d) (side_at d) c.from_residual.ensures.1
    c.in_err-named.ensures (own_steps d)

pub returns-in_err-bound : goal.returns-in_err-bound
returns-in_err-bound c =
    let d = view c.args.value.now in
    let b = view c.in_ok-named.field-0.now in
    handed_up side_view c.from_residual-in_err-bound.result c.in_err-bound.field-0.0 (well_shaped (as_str b)) (own_after_bound d) (side_at d)
    c.from_residual-in_err-bound.ensures.1
    c.in_err-bound.ensures (own_at_text d b c.in_ok-named.ensures)

pub returns-in_err-named-2 : goal.returns-in_err-named-2
returns-in_err-named-2 c =
    let d = view c.args.value.now in
    let b = view c.in_ok-named.field-0.now in
    let t = c.in_ok-bound.bound.now in
    handed_up side_view c.from_residual-in_err-named-2.result c.in_err-named-2.field-0.0 (named (codes "values") d) (own_after_list d t) (side_at d)
    c.from_residual-in_err-named-2.ensures.1
    c.in_err-named-2.ensures (own_at_values d b t c.in_ok-named.ensures c.in_ok-bound.ensures)

pub returns-in_err-values : goal.returns-in_err-values
returns-in_err-values c =
    let d = view c.args.value.now in
    let b = view c.in_ok-named.field-0.now in
    let t = c.in_ok-bound.bound.now in
    let v = view c.in_ok-named-2.field-0.now in
    handed_over side_view c.from_residual-in_err-values.result c.in_err-values.field-0.0 (well_shaped (list_in as_str v)) (own_rest d t) (side_at d)
    c.from_residual-in_err-values.ensures.1
    c.in_err-values.ensures (own_at_list d b v t c.in_ok-named.ensures c.in_ok-bound.ensures c.in_ok-named-2.ensures)

pub returns-in_err-check_no_other : goal.returns-in_err-check_no_other
returns-in_err-check_no_other c =
    let d = view c.args.value.now in
    let b = view c.in_ok-named.field-0.now in
    let t = c.in_ok-bound.bound.now in
    let v = view c.in_ok-named-2.field-0.now in
    let ts = text_list c.in_ok-values.values.items in
    handed_up side_view c.from_residual-in_err-check_no_other.result c.in_err-check_no_other.field-0.0 (no_other_key 2 d)
    (λ _. Ok (record { bound = t; values = ts })) (side_at d) c.from_residual-in_err-check_no_other.ensures.1
    c.in_err-check_no_other.ensures (own_at_rest d b v t ts c.in_ok-named.ensures c.in_ok-bound.ensures c.in_ok-named-2.ensures c.in_ok-values.ensures)

pub returns : goal.returns
returns c =
    let d = view c.args.value.now in
    let b = view c.in_ok-named.field-0.now in
    let t = c.in_ok-bound.bound.now in
    let v = view c.in_ok-named-2.field-0.now in
    let ts = text_list c.in_ok-values.values.items in
    own_all d b v t ts c.in_ok-check_no_other.field-0 c.in_ok-named.ensures c.in_ok-bound.ensures c.in_ok-named-2.ensures c.in_ok-values.ensures
    c.in_ok-check_no_other.ensures
