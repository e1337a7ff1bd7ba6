use Rattle.std.proofs.{Common.{rules, arith}, lemmas.Grind.{common_steps}}
use Rattle.gs_tree.proofs.signals.Signals.deal.Goals as goal

pub returns : goal.returns
returns c = search rules

pub outcome-outcome-requires : goal.outcome-outcome-requires
outcome-outcome-requires c = grind (arith, common_steps)
