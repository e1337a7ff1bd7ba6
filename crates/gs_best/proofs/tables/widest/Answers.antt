use Rattle.std.proofs.Common.{arith}
use Rattle.gs_best.proofs.tables.widest.Goals as goal

pub returns : goal.returns
returns c = record {
  wide = grind arith;
  least = λ n wide. c.widest_to.ensures.least n (λ round some top. wide round some (omega (arith, top, c.round_total.ensures.value)));
}
