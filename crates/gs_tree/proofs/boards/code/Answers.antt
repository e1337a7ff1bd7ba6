use Rattle.std.proofs.{Common.{◌∙◌, ap, arith, get_or, sym}, lemmas.Grind.{common_steps}}
use Rattle.gs_tree.proofs.Coded.{code_alone}
use Rattle.gs_tree.proofs.boards.code.Goals as goal

pub returns-in-len3-up : goal.returns-in-len3-up
returns-in-len3-up c = grind (arith, common_steps)

pub returns-in-len2 : goal.returns-in-len2
returns-in-len2 c = grind (arith, common_steps)

pub returns-in-len1 : goal.returns-in-len1
returns-in-len1 c =
    code_alone c.args.kinds c.from.result c.args.cards.now c.in-len1.len_at_least c.in-len1.len_below
    (c.from.ensures ∙ c.number.ensures ∙ c.a-item.is ∙ ap (get_or c.args.cards.now 0) (sym (c.from.ensures ∙ c.number.ensures)))

pub overflow_add-front : goal.overflow_add-front
overflow_add-front c = grind arith

pub overflow_mul-result-in-len3-up : goal.overflow_mul-result-in-len3-up
overflow_mul-result-in-len3-up c = grind arith

pub returns-in-empty : goal.returns-in-empty
returns-in-empty c = grind (arith, common_steps)

pub overflow_mul-front : goal.overflow_mul-front
overflow_mul-front c = grind arith

pub overflow_add-result-in-len3-up : goal.overflow_add-result-in-len3-up
overflow_add-result-in-len3-up c = grind arith

pub overflow_add-result : goal.overflow_add-result
overflow_add-result c = grind arith
