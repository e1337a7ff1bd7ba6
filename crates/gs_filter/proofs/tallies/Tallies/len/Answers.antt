use Rattle.std.proofs.{Common.{length, ap, arith}, lemmas.List.{length-append}}
use Rattle.gs_filter.proofs.Singles.{length-singles}
use Rattle.gs_filter.specs.Tallies.{single_tallies}
use Rattle.gs_filter.proofs.tallies.Tallies.len.Goals as goal

pub returns : goal.returns
returns c =
    let t = c.self.inside in
    let e = ap length c.self.view_is in
    let l = length-append (single_tallies t.singles) t.rest.items in
    omega (arith, length-singles t.singles)
