use Rattle.gs_frac.proofs.GcdLaws.{gcd_of_is}
use Rattle.gs_frac.proofs.laws.gcd_is_greatest.Goals as goal

pub returns : goal.returns
returns c = gcd_of_is
