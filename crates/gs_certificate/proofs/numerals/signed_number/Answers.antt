use Rattle.std.proofs.{Common.{arith, rules, tests}, lemmas.{Grind.{common_steps}, Int.{ints}}}
use Rattle.gs_certificate.proofs.numerals.signed_number.Goals as goal

pub returns : goal.returns
returns c = search (rules, tests, ints)

pub capped-size-requires : goal.capped-size-requires
capped-size-requires c = grind (arith, common_steps)

pub with_sign-requires : goal.with_sign-requires
with_sign-requires c = grind arith
