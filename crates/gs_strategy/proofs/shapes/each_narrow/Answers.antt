use Rattle.std.proofs.{Common.{arith, ap, sym, ◌∙◌}, lemmas.Grind.{common_steps}}
use Rattle.std.specs.Option.{ok_or}
use Rattle.gs_strategy.specs.{Faults.{shape}, Reading.{narrow_in}}
use Rattle.gs_strategy.proofs.Each.{none_read, read_on}
use Rattle.gs_strategy.proofs.shapes.each_narrow.Goals as goal

pub loop-item-preserved : goal.loop-item-preserved
loop-item-preserved c =
    read_on narrow_in c.args.items.now c.loop-item.item-index c.item-item.result c.item-item.is (omega (arith, c.loop-item-test.true)) c.loop-item.numbers.items
    c.loop-item.invariant c.in-Some.number _ (sym c.narrow.ensures ∙ c.in-Some.is) c.in_ok-push-in-Some.ensures.items

pub returns : goal.returns
returns c = grind (arith, common_steps)

pub returns-in-None : goal.returns-in-None
returns-in-None c =
    let none = none_read narrow_in c.args.items.now c.loop-item.item-index c.item-item.result c.item-item.is (omega (arith, c.loop-item-test.true))
    c.loop-item.numbers.items c.loop-item.invariant (sym c.narrow.ensures ∙ c.in-None.is) in
    ap (λ o. ok_or o (shape c.args.part)) none
