use Rattle.std.proofs.{Common.{arith}, lemmas.Grind.{common_steps, elements}}
use Rattle.gs_tree.proofs.reading.+after_group.Goals as goal

pub returns-in-empty : goal.returns-in-empty
returns-in-empty t c = grind (arith, common_steps)

pub returns-in_ok-rest-in-len1-up : goal.returns-in_ok-rest-in-len1-up
returns-in_ok-rest-in-len1-up t c = grind (arith, common_steps)

pub after_group-requires : goal.after_group-requires
after_group-requires t c = grind (arith, elements)

pub returns-in_err-rest-in-len1-up : goal.returns-in_err-rest-in-len1-up
returns-in_err-rest-in-len1-up t c = grind arith

pub after_card-requires : goal.after_card-requires
after_card-requires t c = grind arith
