use Rattle.std.proofs.{Common.{rules}, lemmas.Int.{wraps}}
use Rattle.gs_play.proofs.line.negated.Goals as goal

pub returns : goal.returns
returns c = search (rules, wraps)
