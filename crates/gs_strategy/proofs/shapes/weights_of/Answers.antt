use Rattle.std.proofs.Common.{◌≡◌, codes}
use Rattle.std.specs.Prelude.{option_and_then}
use Rattle.serde_json.specs.{Find.{get}, View.{view}}
use Rattle.gs_json.specs.Shapes.{list_in, whole_in}
use Rattle.gs_strategy.specs.{Reading.{no_other, shaped, weights_at}, Views.{stated_weights}}
use Rattle.gs_strategy.proofs.Steps.{ends_at, exits_over, exits_up, goes_on}
use Rattle.gs_strategy.proofs.shapes.weights_of.Goals as goal

pub returns-in_err-total : goal.returns-in_err-total
unfolding weights_at
returns-in_err-total c =
    let d = view c.args.value.now in
    exits_up stated_weights (λ read. shaped c.args.part (option_and_then whole_in (get (codes "total") d)) ≡ read)
    (λ read. weights_at c.args.part d ≡ read) _ _ c.from_residual.ensures.1 c.in_err-total.ensures (λ why so. ends_at _ so)

pub returns-in_err-weights : goal.returns-in_err-weights
unfolding weights_at
returns-in_err-weights c =
    let d = view c.args.value.now in
    exits_over stated_weights (λ read. shaped c.args.part (option_and_then (list_in whole_in) (get (codes "weights") d)) ≡ read)
    (λ read. weights_at c.args.part d ≡ read) _ _ c.from_residual-in_err-weights.ensures.1 c.in_err-weights.ensures
    (λ why so. goes_on _ _ c.in_ok-total.ensures (ends_at _ so))

pub returns-in_err-check_no_other : goal.returns-in_err-check_no_other
unfolding weights_at
returns-in_err-check_no_other c =
    let d = view c.args.value.now in
    exits_up stated_weights (λ read. no_other 2 c.args.part d ≡ read)
    (λ read. weights_at c.args.part d ≡ read) _ _ c.from_residual-in_err-check_no_other.ensures.1 c.in_err-check_no_other.ensures
    (λ why so. goes_on _ _ c.in_ok-total.ensures (goes_on _ _ c.in_ok-weights.ensures (ends_at _ so)))
