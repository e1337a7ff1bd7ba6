use Rattle.std.proofs.{Common.{rules}, lemmas.Int.{wraps}}
use Rattle.gs_play.proofs.line.above.Goals as goal

pub returns-clause-at : goal.returns-clause-at
returns-clause-at c = search (rules, wraps)

pub returns-clause-slope : goal.returns-clause-slope
returns-clause-slope c = search (rules, wraps)
