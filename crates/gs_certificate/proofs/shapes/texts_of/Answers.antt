use Rattle.std.proofs.Common.{Ok, codes}
use Rattle.serde_json.specs.View.{view}
use Rattle.gs_json.specs.Shapes.{whole_in}
use Rattle.gs_certificate.specs.{Reading.{named, no_other_key, side_at, texts_at, well_shaped}, Views.{side_view, texts_view}}
use Rattle.gs_certificate.proofs.Stepwise.{handed_over, handed_up, both_rest, both_after_number, both_after_two, both_after_second, both_after_one}
use Rattle.gs_certificate.proofs.Stepwise.{both_after_first, both_steps, both_at_one, both_at_second, both_at_two, both_at_version, both_at_number}
use Rattle.gs_certificate.proofs.Stepwise.{both_at_rest, both_all}
use Rattle.gs_certificate.proofs.shapes.texts_of.Goals as goal

pub returns-in_err-named : goal.returns-in_err-named
returns-in_err-named c =
    let d = view c.args.value.now in
    handed_up texts_view c.from_residual.result c.in_err-named.field-0.0 (named (codes "player1") d) (both_after_first d) (texts_at d) c.from_residual.ensures.1
    c.in_err-named.ensures (both_steps d)

pub returns-in_err-one : goal.returns-in_err-one
returns-in_err-one c =
    let d = view c.args.value.now in
    let p = view c.in_ok-named.field-0.now in
    handed_over texts_view c.from_residual-in_err-one.result c.in_err-one.field-0.0 (side_at p) (both_after_one d) (texts_at d)
    c.from_residual-in_err-one.ensures.1
    c.in_err-one.ensures (both_at_one d p c.in_ok-named.ensures)

pub returns-in_err-named-2 : goal.returns-in_err-named-2
returns-in_err-named-2 c =
    let d = view c.args.value.now in
    let p = view c.in_ok-named.field-0.now in
    let one = side_view c.in_ok-one.one in
    handed_up texts_view c.from_residual-in_err-named-2.result c.in_err-named-2.field-0.0 (named (codes "player2") d) (both_after_second d one)
    (texts_at d) c.from_residual-in_err-named-2.ensures.1
    c.in_err-named-2.ensures (both_at_second d p c.in_ok-named.ensures one c.in_ok-one.ensures)

pub returns-in_err-two : goal.returns-in_err-two
returns-in_err-two c =
    let d = view c.args.value.now in
    let p = view c.in_ok-named.field-0.now in
    let one = side_view c.in_ok-one.one in
    let q = view c.in_ok-named-2.field-0.now in
    handed_over texts_view c.from_residual-in_err-two.result c.in_err-two.field-0.0 (side_at q) (both_after_two d one) (texts_at d)
    c.from_residual-in_err-two.ensures.1
    c.in_err-two.ensures (both_at_two d p c.in_ok-named.ensures one c.in_ok-one.ensures q c.in_ok-named-2.ensures)

pub returns-in_err-named-3 : goal.returns-in_err-named-3
returns-in_err-named-3 c =
    let d = view c.args.value.now in
    let p = view c.in_ok-named.field-0.now in
    let one = side_view c.in_ok-one.one in
    let q = view c.in_ok-named-2.field-0.now in
    let two = side_view c.in_ok-two.two in
    handed_up texts_view c.from_residual-in_err-named-3.result c.in_err-named-3.field-0.0 (named (codes "version") d) (both_after_number d one two)
    (texts_at d) c.from_residual-in_err-named-3.ensures.1
    c.in_err-named-3.ensures (both_at_version d p c.in_ok-named.ensures one c.in_ok-one.ensures q c.in_ok-named-2.ensures two c.in_ok-two.ensures)

pub returns-in_err-version : goal.returns-in_err-version
returns-in_err-version c =
    let d = view c.args.value.now in
    let p = view c.in_ok-named.field-0.now in
    let one = side_view c.in_ok-one.one in
    let q = view c.in_ok-named-2.field-0.now in
    let two = side_view c.in_ok-two.two in
    let v = view c.in_ok-named-3.field-0.now in
    handed_up texts_view c.from_residual-in_err-version.result c.in_err-version.field-0.0 (well_shaped (whole_in v)) (both_rest d one two) (texts_at d)
    c.from_residual-in_err-version.ensures.1
    c.in_err-version.ensures
    (both_at_number d p c.in_ok-named.ensures one c.in_ok-one.ensures q c.in_ok-named-2.ensures two c.in_ok-two.ensures v c.in_ok-named-3.ensures)

pub returns-in_err-check_no_other : goal.returns-in_err-check_no_other
returns-in_err-check_no_other c =
    let d = view c.args.value.now in
    let p = view c.in_ok-named.field-0.now in
    let one = side_view c.in_ok-one.one in
    let q = view c.in_ok-named-2.field-0.now in
    let two = side_view c.in_ok-two.two in
    let v = view c.in_ok-named-3.field-0.now in
    handed_up texts_view c.from_residual-in_err-check_no_other.result c.in_err-check_no_other.field-0.0 (no_other_key 3 d)
    (λ _. Ok (record { one = one; two = two; version = c.in_ok-version.version })) (texts_at d) c.from_residual-in_err-check_no_other.ensures.1
    c.in_err-check_no_other.ensures
    (both_at_rest d p c.in_ok-named.ensures one c.in_ok-one.ensures q c.in_ok-named-2.ensures two c.in_ok-two.ensures
    v c.in_ok-version.version c.in_ok-named-3.ensures c.in_ok-version.ensures)

pub returns : goal.returns
returns c =
    let d = view c.args.value.now in
    let p = view c.in_ok-named.field-0.now in
    let one = side_view c.in_ok-one.one in
    let q = view c.in_ok-named-2.field-0.now in
    let two = side_view c.in_ok-two.two in
    let v = view c.in_ok-named-3.field-0.now in
    both_all d p c.in_ok-named.ensures one c.in_ok-one.ensures q c.in_ok-named-2.ensures two c.in_ok-two.ensures v c.in_ok-version.version
    c.in_ok-check_no_other.field-0 c.in_ok-named-3.ensures c.in_ok-version.ensures c.in_ok-check_no_other.ensures
