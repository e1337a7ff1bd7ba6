use Rattle.std.proofs.lemmas.Grind.{common_steps}
use Rattle.std.proofs.Common.{arith, rules}
use Rattle.gs_best.specs.Sides.{frame_at, lists_at}
use Rattle.gs_best.proofs.Rooms.{rows_written}
use Rattle.gs_best.proofs.start.best_total.Goals as goal

pub start_total-requires : goal.start_total-requires
start_total-requires c = record { laid = grind arith; row = grind arith; numbers = grind arith; best = grind arith }

pub backward-requires : goal.backward-requires
backward-requires c = grind (arith, common_steps)

pub returns : goal.returns
returns c = record {
  total = search rules;
  small = grind arith;
  laid = grind arith;
  rows = let b = c.backward in
      let s = c.start_total.new in
      rows_written (frame_at c.args.side.now) (lists_at c.args.side.now) b.new.scratch s.numbers s.row b.ensures.rows;
}
