use Rattle.std.proofs.Common.{rules}
use Rattle.gs_rank.proofs.strengths.three_ranks.Goals as goal

pub returns-then-straight-2-clause-value : goal.returns-then-straight-2-clause-value
returns-then-straight-2-clause-value c = search rules

pub returns-then-flush-2-clause-value : goal.returns-then-flush-2-clause-value
returns-then-flush-2-clause-value c = search rules
