use Rattle.std.proofs.Common.{arith}
use Rattle.gs_certificate.proofs.PlainTexts.{side_stands}
use Rattle.gs_certificate.proofs.straight.side_in.Goals as goal

pub returns-clause-text : goal.returns-clause-text
returns-clause-text c =
    let b = c.in_ok-bound.bound in
    side_stands (record { bound = (b.num, b.den); values = c.in_ok-values.values.items }) c.args.bytes.now c.in_ok-rest.rest.now c.in_ok-bound.rest.now
    c.in_ok-rest-2.rest.now c.in_ok-values.rest.now c.in_ok-rest-3.rest.now b.reduced c.in_ok-values.ensures.small c.in_ok-rest.ensures c.in_ok-bound.ensures
    c.in_ok-rest-2.ensures c.in_ok-values.ensures.text c.in_ok-rest-3.ensures

pub returns-clause-small : goal.returns-clause-small
returns-clause-small c = grind arith
