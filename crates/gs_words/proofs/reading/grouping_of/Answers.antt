use Rattle.std.proofs.Common.{rules}
use Rattle.gs_words.proofs.reading.grouping_of.Goals as goal

pub returns-in-None : goal.returns-in-None
returns-in-None c = search rules
