use Rattle.std.proofs.{Common.{sym, ◌∙◌}, lemmas.Bool.{eqb-true}, lemmas.List.{nil_from_length}}
use Rattle.gs_certificate.specs.Views.{fraction_parts}
use Rattle.gs_certificate.proofs.PlainTexts.{stands}
use Rattle.gs_certificate.proofs.straight.straight.Goals as goal

pub returns-clause-text : goal.returns-clause-text
returns-clause-text c =
    let one = c.in_ok-one.one in
    let two = c.in_ok-two.two in
    stands
    (record {
      one = record { bound = fraction_parts one.bound; values = one.values.items };
      two =
          record { bound = fraction_parts two.bound; values = two.values.items };
    })
    c.args.bytes.now c.in_ok-rest.rest.now one.rest.now c.in_ok-rest-2.rest.now two.rest.now c.in_ok-rest-3.rest.now
    c.in_ok-rest.ensures c.in_ok-one.ensures.text c.in_ok-rest-2.ensures c.in_ok-two.ensures.text c.in_ok-rest-3.ensures
    (nil_from_length c.in_ok-rest-3.rest.now (eqb-true _ 0 (sym c.is_empty.ensures ∙ c.if-not-is_empty.false)))

pub returns-clause-small : goal.returns-clause-small
returns-clause-small c = record { one = c.in_ok-one.ensures.small; two = c.in_ok-two.ensures.small }
