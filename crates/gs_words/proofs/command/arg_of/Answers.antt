use Rattle.std.proofs.Common.{arith}
use Rattle.gs_words.proofs.command.arg_of.Goals as goal

pub returns-in-Summary-clause-rule : goal.returns-in-Summary-clause-rule
returns-in-Summary-clause-rule c = grind arith

pub returns-in-Value-clause-rule : goal.returns-in-Value-clause-rule
returns-in-Value-clause-rule c = grind arith

pub returns-in-Classes-clause-rule : goal.returns-in-Classes-clause-rule
returns-in-Classes-clause-rule c = grind arith
