use Rattle.std.proofs.Common.{◌+◌, ◌-◌, ◌*◌, ◌<◌, ◌≤◌, length, sym, subst, arith}
use Rattle.std.specs.Prelude.{slice_index}
use Rattle.gs_model.specs.Frame.{point_count}
use Rattle.gs_seq.proofs.Forms.{form_moves}
use Rattle.gs_best.specs.Tables.{start_of}
use Rattle.gs_play.specs.{Sides.{side_frame, side_lists}, Tallies.{IsPicked}}
use Rattle.gs_play.proofs.{PlotLaws.{worths_few}, PlotRows.{cell_within, class_here, class_in, place_here, worths_within}, Tells.{tells_picked, tells_same}}
use Rattle.gs_play.proofs.{Rooms.{room_added, room_chosen}, sweeping.find.Goals.{Start}}
use Rattle.gs_play.proofs.sweeping.find.Goals as goal

in_room : (c : Start) → c.args.cell < start_of (side_frame c.args.side.now) (side_lists c.args.side.now) (point_count (side_frame c.args.side.now))
in_room c = cell_within (side_frame c.args.side.now) (side_lists c.args.side.now) c.args.row c.requires.row c.args.cell c.requires.cell

worths_in : (c : Start) → c.args.row.worth + (c.args.cell - c.args.row.cell) * c.args.row.moves + c.args.row.moves ≤ length c.args.tally.now.worths.items
worths_in c = omega (
  arith,
  worths_within (side_frame c.args.side.now) (side_lists c.args.side.now) c.args.row c.requires.row c.args.cell c.requires.cell,
  c.requires.room.worths,
)

small : (c : Start) → c.args.row.worth + (c.args.cell - c.args.row.cell) * c.args.row.moves < 18446744073709551616
small c =
    let a = c.args.side.now.form.now in
    omega (
      arith,
      worths_within (side_frame c.args.side.now) (side_lists c.args.side.now) c.args.row c.requires.row c.args.cell c.requires.cell,
      worths_few a (point_count (side_frame c.args.side.now)) (omega arith),
    )

pub overflow_mul-first : goal.overflow_mul-first
overflow_mul-first c = omega (arith, small (goal.at.overflow_mul-first c).Start)

pub overflow_add-first : goal.overflow_add-first
overflow_add-first c = omega (arith, small (goal.at.overflow_add-first c).Start)

pub choose-requires-clause-cell : goal.choose-requires-clause-cell
choose-requires-clause-cell c = omega (arith, in_room (goal.at.choose-requires-clause-cell c).Start, c.requires.room.turns)

pub choose-requires-clause-totals : goal.choose-requires-clause-totals
choose-requires-clause-totals c = omega (arith, in_room (goal.at.choose-requires-clause-totals c).Start, c.requires.room.totals)

pub choose-requires-clause-picks : goal.choose-requires-clause-picks
choose-requires-clause-picks c = omega (arith, in_room (goal.at.choose-requires-clause-picks c).Start, c.requires.room.picks)

pub choose-requires-clause-worths : goal.choose-requires-clause-worths
choose-requires-clause-worths c = worths_in (goal.at.choose-requires-clause-worths c).Start

pub choose-requires-clause-some : goal.choose-requires-clause-some
choose-requires-clause-some c = omega (arith, (form_moves c.args.side.now.form.now c.args.row.point c.requires.row.inside).some, c.requires.row.moves)

pub choose-requires-clause-few : goal.choose-requires-clause-few
choose-requires-clause-few c = omega (arith, (form_moves c.args.side.now.form.now c.args.row.point c.requires.row.inside).few, c.requires.row.moves)

pub returns-then-row-side : goal.returns-then-row-side
returns-then-row-side c = record {
  room = let s = c.args.side.now in
      room_chosen (side_frame s) (side_lists s) _ c.args.row.point c.args.cell c.args.clock.turn c.args.clock.last c.args.tally.now c.choose.new.tally
      c.requires.room c.choose.ensures.worths c.choose.ensures.dues c.choose.ensures.blocks c.choose.ensures.found;
  found = grind arith;
  tells = let f = side_frame c.args.side.now in
      let lists = side_lists c.args.side.now in
      let row = c.requires.row in
      let is = c.requires.cell in
      let picked = c.choose.ensures.found.picked in
      let new = c.choose.new.tally in
      tells_picked f lists c.args.row.point (class_here f lists c.args.row row c.args.cell) _ c.args.tally.now new
      (class_in f lists c.args.row row c.args.cell is)
      (subst (λ i. IsPicked c.args.row.point i (slice_index new.picks.items c.args.cell) c.args.tally.now new)
      (sym (place_here f lists c.args.row row c.args.cell is)) picked);
}

pub returns-else-row-side : goal.returns-else-row-side
returns-else-row-side c = record {
  room = let s = c.args.side.now in
      room_added (side_frame s) (side_lists s) _ c.args.cell c.args.clock.last c.args.tally.now c.add_up.new.tally c.requires.room
      c.add_up.ensures.worths c.add_up.ensures.dues c.add_up.ensures.blocks c.add_up.ensures.moved c.add_up.ensures.found;
  found = grind arith;
  tells = tells_same (side_frame c.args.side.now) (side_lists c.args.side.now) c.args.tally.now c.add_up.new.tally
      (c.add_up.ensures.found.picks) c.add_up.ensures.moved;
}

pub choose-requires-clause-dues : goal.choose-requires-clause-dues
choose-requires-clause-dues c = grind arith

pub add_up-requires : goal.add_up-requires
add_up-requires c = record {
  dues = grind arith;
  cell = omega (arith, in_room (goal.at.add_up-requires c).Start, c.requires.room.turns);
  totals = omega (arith, in_room (goal.at.add_up-requires c).Start, c.requires.room.totals);
  worths = worths_in (goal.at.add_up-requires c).Start;
}

pub choose-requires-clause-point : goal.choose-requires-clause-point
choose-requires-clause-point c = grind arith
