use Rattle.std.proofs.Common.{◌≡◌, arith, sum}
use Rattle.gs_game.specs.Sequences.{count_sequences, draws}
use Rattle.gs_game.proofs.Singles.{single_all, single_drawn}
use Rattle.gs_game.proofs.deals.count_deals.Goals as goal

pub returns-then-are_single-clause-count : goal.returns-then-are_single-clause-count
returns-then-are_single-clause-count c =
    let all : count_sequences c.args.left.now c.args.sizes.now ≡ draws (sum c.args.left.now) c.args.sizes.now =
    single_drawn c.args.sizes.now c.args.left.now (single_all c.args.left.now (c.are_single.ensures.0 c.if-are_single.true)) in
    omega (arith, c.min.ensures, c.requires, all)
