use Rattle.std.proofs.Common.{arith}
use Rattle.gs_play.proofs.turns.first_plans.Goals as goal

pub returns : goal.returns
returns c = record {
  played = (c.in_ok-one.ensures.first, c.in_ok-two.ensures.first);
  one = c.in_ok-one.ensures.plan;
  two = c.in_ok-two.ensures.plan;
  total_one = grind arith;
  total_two = grind arith;
}
