use Rattle.std.proofs.Common.{arith}
use Rattle.gs_tree.proofs.signals.Signals.of.Goals as goal

pub invariant_of-result : goal.invariant_of-result
invariant_of-result c = record {
  sound = record {
    listed = c.in_ok-tables.ensures.tables;
    ranked = c.in_ok-strengths.ensures.value;
    beside = c.in_ok-boards.ensures;
    dealt = c.in_ok-hands.ensures;
    strong = c.in_ok-strengths.ensures.within;
    masked = c.in_ok-masks.ensures;
    even = c.is_plain-plain.ensures.plain;
    counted = c.in_ok-tables.ensures.all;
  };
}

pub returns : goal.returns
returns c = grind arith
