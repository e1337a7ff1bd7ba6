use Rattle.gs_words.proofs.reading.number_of.Goals as goal

pub returns-in_err-value_of-clause-within : goal.returns-in_err-value_of-clause-within
returns-in_err-value_of-clause-within c = rw c.from_residual.ensures tt
