use Rattle.std.proofs.{Common.{◌++◌, length, ap, ◌∙◌}, lemmas.List.{append-nil}}
use Rattle.gs_filter.specs.Tallies.{single_tallies}
use Rattle.gs_filter.proofs.Singles.{tallies_single, numbered_single}
use Rattle.gs_filter.proofs.tallies.tally_list.Goals as goal

pub returns-then-counts_up-clause-tallied : goal.returns-then-counts_up-clause-tallied
returns-then-counts_up-clause-tallied c =
    let singles = single_tallies (length c.args.list.now) in
    ap (λ ts. singles ++ ts) c.new.ensures.items ∙ append-nil singles ∙ tallies_single c.args.list.now (c.counts_up.ensures.0 c.if-counts_up.true)

pub returns-then-counts_up-clause-numbered : goal.returns-then-counts_up-clause-numbered
returns-then-counts_up-clause-numbered c = numbered_single c.args.list.now (c.counts_up.ensures.0 c.if-counts_up.true)
