use Rattle.gs_iso.proofs.Pairs.{pairing_from_perfect, unpaired}
use Rattle.gs_iso.proofs.equals.match_equals.Goals as goal

pub returns-in-Ok : goal.returns-in-Ok
returns-in-Ok g c = pairing_from_perfect g.P.PartialEq.eq c.args.ones.now c.args.twos.now _ _ c.in_ok-graph.ensures c.in-Ok.ensures.equal
    c.in-Ok.ensures.matched

pub returns : goal.returns
returns g c = λ to p. unpaired g.P.PartialEq.eq c.args.ones.now c.args.twos.now _ _ to c.in_ok-graph.ensures
    (rw c.in-Err-Fault.field-0-is at c.in-Err-Fault.ensures.refused) p
