use Rattle.std.proofs.Common.{List, ℤ, ap, ap₂, codes, ◌∙◌}
use Rattle.serde_json.proofs.Views.{view-Object}
use Rattle.serde_json.specs.{Data.{Data, Members, object, put}, View.{members_view}}
use Rattle.gs_frac.specs.declared.value.Fraction.{Fraction}
use Rattle.gs_certificate.specs.{Texts.{side_data}, Views.{fraction_parts}}
use Rattle.gs_certificate.proofs.writing.certificate_value.Goals as goal

pub returns : goal.returns
returns c =
    let side : Fraction → List ℤ → Data = λ bound values. side_data (record { bound = fraction_parts bound; values = values }) in
    let one = c.in_ok-one.ensures ∙ ap (side c.args.c.now.bound1) c.deref.ensures.value in
    let two = c.in_ok-two.ensures ∙ ap (side c.args.c.now.bound2) c.deref-2.ensures.value in
    view-Object c.put-3.new.map
    ∙ ap object (c.in_ok-put-3.ensures.ok
    ∙ ap₂ (λ (d : Data) (ms : Members). put (codes "version") d ms) c.from.ensures
    (c.in_ok-put-2.ensures.ok
    ∙ ap₂ (λ (d : Data) (ms : Members). put (codes "player2") d ms) two
    (c.in_ok-put.ensures.ok ∙ ap₂ (λ (d : Data) (ms : Members). put (codes "player1") d ms) one (ap members_view c.new-members.ensures.empty))))
