use Rattle.gs_strategy.proofs.Strategies.{text_is_read}
use Rattle.gs_strategy.proofs.laws.texts_are_read.Goals as goal

pub returns : goal.returns
returns c = text_is_read
