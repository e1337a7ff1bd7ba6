use Rattle.gs_run.proofs.OneGame.{signal_classes_one}
use Rattle.gs_run.proofs.laws.signal_classes_are_one.Goals as goal

pub returns : goal.returns
returns c = signal_classes_one
