use Rattle.std.proofs.{Common.{ap, ◌∙◌, arith, sym}, lemmas.Grind.{common_steps}}
use Rattle.gs_bet.proofs.TreeLaws.{plain-act, plain_act-out}
use Rattle.gs_game.specs.Money.{any_even, has_even}
use Rattle.gs_game.proofs.TreeSteps.{none_left}
use Rattle.gs_game.proofs.money.+has_even.Goals as goal

pub loop-next-init : goal.loop-next-init
loop-next-init t c = rw (c.in-Act.is, c.deref-next-items.ensures.value) (ap has_even (plain-act c.in-Act.act ∙ plain_act-out c.in-Act.act))

pub returns-then-has_even : goal.returns-then-has_even
returns-then-has_even t c = grind (arith, common_steps)

pub loop-next-preserved : goal.loop-next-preserved
loop-next-preserved t c = grind (arith, common_steps)

pub returns-after-loop-next : goal.returns-after-loop-next
returns-after-loop-next t c = sym (c.loop-next.invariant ∙ ap any_even (none_left c.deref-next-items.result.now c.loop-next.next-index c.loop-next-test.false))
