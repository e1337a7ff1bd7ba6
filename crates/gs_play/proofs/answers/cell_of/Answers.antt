use Rattle.std.proofs.Common.{arith}
use Rattle.gs_play.specs.Sides.{side_frame, side_lists}
use Rattle.gs_play.proofs.{PlotRows.{IsCellAt, cell_at}, answers.cell_of.Goals.{After-index}}
use Rattle.gs_play.proofs.answers.cell_of.Goals as goal

cell : (c : After-index) → IsCellAt (side_frame c.args.side.now) (side_lists c.args.side.now) c.args.point c.args.class c.index.result.now.cell
cell c = cell_at c.args.side.now.form.now c.args.side.now.plot.now c.args.side.now.plotted c.args.point c.args.class c.requires.point c.requires.class
    c.index.result.now c.index.ensures

pub overflow_add-result : goal.overflow_add-result
overflow_add-result c = record { fits = omega (arith, (cell (goal.at.overflow_add-result c).After-index).few) }

pub returns : goal.returns
returns c = let here = cell (goal.at.returns c).After-index in record { place = here.place; inside = omega (arith, here.place, here.inside) }
