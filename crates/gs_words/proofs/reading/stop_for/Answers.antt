use Rattle.std.proofs.Common.{rules}
use Rattle.gs_words.proofs.reading.stop_for.Goals as goal

pub returns-in-OutOfMemory : goal.returns-in-OutOfMemory
returns-in-OutOfMemory c = search rules
