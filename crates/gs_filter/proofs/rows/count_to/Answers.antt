use Rattle.std.proofs.Common.{◌≡◌, ◌+◌, ◌++◌, ◌∷◌, [], ℕ, List, sym, ap, ◌∙◌, arith}
use Rattle.std.specs.List.{range_with_len}
use Rattle.gs_filter.proofs.Singles.{one_more}
use Rattle.gs_filter.proofs.rows.count_to.Goals as goal

pub loop-number-preserved : goal.loop-number-preserved
loop-number-preserved c =
    let n : ℕ = c.loop-number.number in
    c.in_ok-push.ensures.items ∙ ap (λ (xs : List ℕ). xs ++ (n + 1) ∷ []) c.loop-number.invariant ∙ sym (one_more n)

pub returns : goal.returns
returns c =
    let end : c.loop-number.number ≡ c.args.last = omega arith in
    c.loop-number.invariant ∙ ap (range_with_len 1) end
