use Rattle.std.proofs.Common.{refl, arith}
use Rattle.gs_play.specs.Sides.{side_frame, side_lists}
use Rattle.gs_play.proofs.Feeds.{way_read}
use Rattle.gs_play.proofs.ways.way_by.Goals as goal

pub index-requires : goal.index-requires
index-requires c = let side = c.args.side.now in omega (arith, c.requires, side.plotted.many, side.plot.now.rows.ok.0)

pub returns : goal.returns
returns c = λ t move round.
    let side = c.args.side.now in
    way_read (side_frame side) (side_lists side) side.plot.now side.plotted t c.args.step
    (record { row = c.index.result.now; choice = c.args.step.choice; round = c.args.round }) move c.index.ensures refl round
