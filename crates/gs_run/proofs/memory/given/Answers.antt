use Rattle.std.proofs.Common.{rules}
use Rattle.gs_run.proofs.memory.given.Goals as goal

pub returns-then-input-gt-MOST_BYTES : goal.returns-then-input-gt-MOST_BYTES
returns-then-input-gt-MOST_BYTES c = search rules

pub returns-in-Err-Memory : goal.returns-in-Err-Memory
returns-in-Err-Memory c = search rules
