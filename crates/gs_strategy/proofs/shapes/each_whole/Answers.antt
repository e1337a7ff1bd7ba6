use Rattle.std.proofs.{Common.{arith, ap, sym, ◌∙◌}, lemmas.Grind.{common_steps}}
use Rattle.std.specs.Option.{ok_or}
use Rattle.gs_json.specs.Shapes.{whole_in}
use Rattle.gs_strategy.specs.Faults.{shape}
use Rattle.gs_strategy.proofs.Each.{none_read, read_on}
use Rattle.gs_strategy.proofs.shapes.each_whole.Goals as goal

pub loop-item-preserved : goal.loop-item-preserved
loop-item-preserved c =
    read_on whole_in c.args.items.now c.loop-item.item-index c.item-item.result c.item-item.is (omega (arith, c.loop-item-test.true)) c.loop-item.numbers.items
    c.loop-item.invariant c.in-Some.number _ (sym c.as_u64.ensures ∙ c.in-Some.is) c.in_ok-push-in-Some.ensures.items

pub returns : goal.returns
returns c = grind (arith, common_steps)

pub returns-in-None : goal.returns-in-None
returns-in-None c =
    let none = none_read whole_in c.args.items.now c.loop-item.item-index c.item-item.result c.item-item.is (omega (arith, c.loop-item-test.true))
    c.loop-item.numbers.items c.loop-item.invariant (sym c.as_u64.ensures ∙ c.in-None.is) in
    ap (λ o. ok_or o (shape c.args.part)) none
