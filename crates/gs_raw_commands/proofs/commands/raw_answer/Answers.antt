use Rattle.gs_raw_commands.proofs.commands.raw_answer.Goals as goal

pub returns-in-Judge : goal.returns-in-Judge
returns-in-Judge g c = rw c.in-Judge.is c.judge_answer.ensures

pub returns-in-Duel : goal.returns-in-Duel
returns-in-Duel g c = rw c.in-Duel.is c.duel_answer.ensures
