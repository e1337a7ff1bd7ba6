use Rattle.gs_simplex.proofs.Opening.{bases_differ}
use Rattle.gs_simplex.proofs.laws.bases_differ.Goals as goal

pub returns : goal.returns
returns c = λ p o t s u w k h ok kh ht same. bases_differ u w k h ok kh ht (λ j. (same j).1) (λ j. (same j).0)
