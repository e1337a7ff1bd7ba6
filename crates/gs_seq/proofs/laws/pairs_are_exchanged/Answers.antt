use Rattle.gs_seq.proofs.Turned.{sign_turned, weight_kept}
use Rattle.gs_seq.proofs.laws.pairs_are_exchanged.Goals as goal

pub returns : goal.returns
returns c = λ g lists round one two. (weight_kept g lists round one two, sign_turned g lists round one two)
