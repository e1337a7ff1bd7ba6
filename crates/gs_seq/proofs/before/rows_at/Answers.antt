use Rattle.std.proofs.Common.{arith}
use Rattle.gs_tree.specs.Trees.{rules_of}
use Rattle.gs_seq.proofs.before.rows_at.Goals as goal
use Rattle.gs_model.proofs.Walked.{last_round_of}

pub rows_in-requires-clause-top : goal.rows_in-requires-clause-top
rows_in-requires-clause-top c = omega (arith, c.requires.before_last, last_round_of (rules_of c.args.lossless.now.signals.now))
