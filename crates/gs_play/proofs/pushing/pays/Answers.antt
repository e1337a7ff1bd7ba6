use Rattle.std.proofs.{Common.{arith}, lemmas.Grind.{common_steps}}
use Rattle.gs_play.proofs.Stakes.{pays_shown}
use Rattle.gs_play.proofs.pushing.pays.Goals as goal

pub returns : goal.returns
returns c = grind (arith, common_steps)

pub returns-then-stake : goal.returns-then-stake
returns-then-stake c = pays_shown c.args.stake c.args.pair c.if-stake.true c.requires.factor c.requires.few c.requires.moderate

pub overflow_mul-result : goal.overflow_mul-result
overflow_mul-result c = grind (arith, common_steps)

pub overflow_mul-result-2 : goal.overflow_mul-result-2
overflow_mul-result-2 c = grind (arith, common_steps)
