use Rattle.gs_words.proofs.reading.request_in.Goals as goal

pub returns-in_err-command_named-clause-within : goal.returns-in_err-command_named-clause-within
returns-in_err-command_named-clause-within c = rw c.from_residual-in_err-command_named.ensures tt
