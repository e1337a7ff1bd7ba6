use Rattle.std.proofs.{Common.{◌<◌, ◌-◌, length, ap, get_or, ◌∙◌, arith}, lemmas.List.{length-append, get_or_default}}
use Rattle.gs_filter.specs.Tallies.{single_tallies}
use Rattle.gs_filter.proofs.Singles.{length-singles, read_single, read_rest}
use Rattle.gs_filter.proofs.tallies.Tallies.at.Goals as goal

pub index-requires : goal.index-requires
index-requires c =
    let t = c.self.inside in
    let e = ap length c.self.view_is in
    let l = length-append (single_tallies t.singles) t.rest.items in
    omega (arith, length-singles t.singles, t.rest.ok.0)

pub returns-then-place-singles : goal.returns-then-place-singles
returns-then-place-singles c = λ d.
    let t = c.self.inside in
    read_single t.singles t.rest.items c.args.place d (omega arith) ∙ ap (λ ts. get_or ts c.args.place d) c.self.view_is

pub returns-else-place-singles : goal.returns-else-place-singles
returns-else-place-singles c = λ d.
    let t = c.self.inside in
    let e = ap length c.self.view_is in
    let l = length-append (single_tallies t.singles) t.rest.items in
    let within : c.args.place - t.singles < length t.rest.items = omega (arith, length-singles t.singles) in
    c.index.ensures ∙ get_or_default t.rest.items (c.args.place - t.singles) c.index.result.now d within
    ∙ read_rest t.singles t.rest.items c.args.place d c.if-place-singles.false ∙ ap (λ ts. get_or ts c.args.place d) c.self.view_is
