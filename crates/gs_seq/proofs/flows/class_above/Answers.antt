use Rattle.std.proofs.Common.{arith}
use Rattle.gs_seq.proofs.Above.{above_more, above_none}
use Rattle.gs_seq.proofs.flows.class_above.Goals as goal

pub loop-at-init : goal.loop-at-init
loop-at-init c = record {
  from = omega arith;
  until = omega arith;
  class_in = c.requires.class;
  above_is = above_none c.args.classes.now c.args.round c.args.class (omega arith) c.requires.top c.requires.class;
}

pub loop-at-preserved : goal.loop-at-preserved
loop-at-preserved c =
    let i = c.loop-at.invariant in
    record {
      from = omega arith;
      until = omega arith;
      class_in = c.parent_class-above.ensures.class;
      above_is = above_more c.args.classes.now c.args.round c.args.class (omega arith) c.requires.top c.requires.class c.loop-at.at c.loop-at.above
          c.parent_class-above.result
          (omega arith) i.until i.above_is c.parent_class-above.ensures.value;
    }

pub returns-clause-above : goal.returns-clause-above
returns-clause-above c = grind arith
