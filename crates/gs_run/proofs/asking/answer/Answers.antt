use Rattle.gs_run.proofs.asking.answer.Goals as goal

pub returns-in-OfStrategy : goal.returns-in-OfStrategy
returns-in-OfStrategy g c = rw c.in-OfStrategy.is c.strategy_answer.ensures

pub returns-in-OfRaw : goal.returns-in-OfRaw
returns-in-OfRaw g c = rw c.in-OfRaw.is c.raw_answer.ensures

pub returns-in-Make : goal.returns-in-Make
returns-in-Make g c = rw c.in-Make.is c.made.ensures
