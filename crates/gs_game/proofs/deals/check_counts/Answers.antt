use Rattle.std.proofs.Common.{arith}
use Rattle.std.proofs.{Common.{◌∙◌}, lemmas.Result.{err_from_is_err_and}}
use Rattle.gs_game.proofs.DealChecks.{signals_fault, deals_over, deals_within}
use Rattle.gs_game.proofs.deals.check_counts.Goals as goal

pub returns-in_err-check_signals : goal.returns-in_err-check_signals
returns-in_err-check_signals c =
    let p = err_from_is_err_and c.from_residual.result c.from_residual.ensures.1 in
    rw (p.1, p.2) (signals_fault c.args.game.now c.in_err-check_signals.field-0.0 c.in_err-check_signals.ensures.refusal)

pub returns-then-count-gt8000000 : goal.returns-then-count-gt8000000
returns-then-count-gt8000000 c =
    deals_over c.args.game.now _ c.args.sizes.now c.count_deals-count.result c.in_ok-check_signals.ensures.refusal
    (c.in_ok-check_signals.ensures.kept ∙ c.requires.left) c.requires.sizes c.count_deals-count.ensures.count c.if-count-gt8000000.true

pub returns : goal.returns
returns c =
    deals_within c.args.game.now _ c.args.sizes.now c.count_deals-count.result c.in_ok-check_signals.ensures.refusal
    (c.in_ok-check_signals.ensures.kept ∙ c.requires.left) c.requires.sizes c.count_deals-count.ensures.count c.if-count-gt8000000.false

pub count_deals-count-requires : goal.count_deals-count-requires
count_deals-count-requires c = grind arith
