use Rattle.std.proofs.Common.{◌≡◌, ◌*◌, ap, ◌∙◌, arith}
use Rattle.gs_tree.specs.{Trees.{rules_of}, Walk.{deals_between, last_count}}
use Rattle.gs_tree.proofs.Pairs.{all_pairs}
use Rattle.gs_tree.proofs.signals.Signals.deals.Goals as goal

pub returns : goal.returns
returns c =
    let g = rules_of c.args.self.now in
    let start : 0 * last_count g ≡ 0 = omega arith in
    c.rows.ensures ∙ ap (λ k. deals_between g k (c.last_count.result * last_count g)) start
    ∙ ap (λ n. deals_between g 0 (n * last_count g)) c.last_count.ensures.value ∙ all_pairs g
