use Rattle.std.proofs.Common.{arith, rules}
use Rattle.gs_bet.specs.Reading.{outer_at}
use Rattle.gs_bet.proofs.ReadingLaws.{outer_even}
use Rattle.gs_bet.proofs.reading.outer_of.Goals as goal

pub returns-in_default : goal.returns-in_default
unfolding outer_at
returns-in_default c = search rules

pub returns-in-61 : goal.returns-in-61
returns-in-61 c = outer_even c.args.bytes.now c.in-61.len_at_least (omega arith)
