use Rattle.std.proofs.{Common.{◌≡◌, ◌+◌, ◌*◌, ◌^◌, ◌≤◌, suc, sym, ap, ◌∙◌, arith}, Math.Nat.{pow-suc}}
use Rattle.gs_tree.proofs.Coded.{power_small}
use Rattle.gs_tree.proofs.boards.code_count.Goals as goal
use Rattle.gs_model.proofs.Basics.{product_le}

pub overflow_mul-count : goal.overflow_mul-count
overflow_mul-count c =
    let few = power_small c.args.kinds c.loop.counter c.requires.few_kinds (omega arith) in
    let small : c.loop.count * c.args.kinds ≤ 140608 * 52 = product_le c.loop.count c.args.kinds 140608 52
    (omega (arith, few, c.loop.invariant)) c.requires.few_kinds in
    omega (arith, small)

pub loop-preserved : goal.loop-preserved
loop-preserved c =
    let next : suc c.loop.counter ≡ c.loop.counter + 1 = omega arith in
    ap (λ n. n * c.args.kinds) c.loop.invariant ∙ sym (pow-suc c.args.kinds c.loop.counter) ∙ ap (λ n. c.args.kinds ^ n) next
