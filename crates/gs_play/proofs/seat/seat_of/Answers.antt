use Rattle.std.proofs.Common.{arith}
use Rattle.gs_seq.specs.Plans.{class_plan}
use Rattle.gs_play.specs.Sides.{side_frame, side_lists}
use Rattle.gs_play.proofs.AtStart.{at_start}
use Rattle.gs_play.proofs.seat.seat_of.Goals as goal

pub returns : goal.returns
returns c =
    let side = c.args.side.now in
    at_start side.form.now side.player side.some side.two c.in_ok-answer.answer c.in_ok-answer.ensures.right c.in_ok-answer.ensures.answer
    c.in_ok-tally.tally c.begin.new.tally c.in_ok-tally.ensures.clear c.in_ok-begin.ensures.kept
    (class_plan (side_frame side) (side_lists side) c.in_ok-other.other) c.in_ok-other.ensures.first c.in_ok-begin.ensures.begun

pub begin-requires : goal.begin-requires
begin-requires c = record {
  other = grind arith;
  one = grind arith;
  room = c.in_ok-tally.ensures.room (side_frame c.args.side.now) (side_lists c.args.side.now) c.args.side.now.plotted;
}
