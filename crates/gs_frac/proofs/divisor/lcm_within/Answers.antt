use Rattle.gs_frac.proofs.GcdLaws.{divisor_some, lcm_is}
use Rattle.gs_frac.proofs.divisor.lcm_within.Goals as goal

pub nonzero_div-multiple : goal.nonzero_div-multiple
nonzero_div-multiple c = divisor_some c.args.a c.args.b c.gcd.result c.gcd.ensures.divides c.requires.a_some

pub returns-then-multiple-limit : goal.returns-then-multiple-limit
returns-then-multiple-limit c = (lcm_is c.args.a c.args.b c.gcd.result c.requires.a_some c.requires.b_some c.gcd.ensures.divides, c.if-multiple-limit.true)

pub returns-else-multiple-limit : goal.returns-else-multiple-limit
returns-else-multiple-limit c = (lcm_is c.args.a c.args.b c.gcd.result c.requires.a_some c.requires.b_some c.gcd.ensures.divides, c.if-multiple-limit.false)
