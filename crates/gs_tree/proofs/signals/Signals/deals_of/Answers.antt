use Rattle.std.proofs.Common.{◌≡◌, ◌+◌, ◌*◌, ap, ◌∙◌, arith}
use Rattle.gs_tree.specs.{Trees.{rules_of}, Walk.{deals_between, last_count}}
use Rattle.gs_tree.proofs.Pairs.{row_pairs}
use Rattle.gs_tree.proofs.signals.Signals.deals_of.Goals as goal

pub returns : goal.returns
returns c =
    let g = rules_of c.args.self.now in
    let end : (c.args.signal + 1) * last_count g ≡ c.args.signal * last_count g + last_count g = omega arith in
    c.rows.ensures ∙ ap (deals_between g (c.args.signal * last_count g)) end ∙ row_pairs g c.args.signal c.requires
