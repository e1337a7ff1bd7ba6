use Rattle.gs_length.proofs.Length.{text_fits}
use Rattle.gs_length.proofs.texts_fit_inputs.Goals as goal

pub returns : goal.returns
returns c = text_fits
