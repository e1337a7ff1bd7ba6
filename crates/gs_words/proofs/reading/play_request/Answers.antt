use Rattle.std.proofs.Common.{rules}
use Rattle.gs_words.proofs.reading.play_request.Goals as goal

pub returns-in_err-turns-clause-value : goal.returns-in_err-turns-clause-value
returns-in_err-turns-clause-value c = search rules

pub returns-clause-value : goal.returns-clause-value
returns-clause-value c = search rules

pub returns-clause-within : goal.returns-clause-within
returns-clause-within c = search rules
