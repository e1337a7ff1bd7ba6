use Rattle.std.proofs.Common.{◌≡◌, ◌+◌, ◌-◌, ◌<◌, length, get_or, Some, refl, sym, ap, ◌∙◌, subst, arith}
use Rattle.std.specs.Prelude.{◌↔◌, ◌==◌, IsTrue, true, option_map, slice_index}
use Rattle.std.proofs.lemmas.{Bool.Decides.{Decides-eqb}, List.{get_or_default}}
use Rattle.gs_game.specs.Seen.{step_of}
use Rattle.gs_model.specs.{Frame.{last_step, player_at, round_of}, Positions.{at_point}}
use Rattle.gs_best.specs.Tables.{moves_of}
use Rattle.gs_best.proofs.PointStarts.{starts_few}
use Rattle.gs_play.specs.{Answers.{IsReached}, Plots.{cell_above, cell_place}, Sides.{side_frame, side_lists}}
use Rattle.gs_play.proofs.{Gates.{gate_cell, gate_inside, gate_there}, answers.is_reached.Goals.{After-index-up, In-Some, Start}}
use Rattle.gs_play.proofs.answers.is_reached.Goals as goal

-- the step that was made
made : (c : In-Some) → let f = side_frame c.args.side.now in
    last_step f (player_at f c.args.row.point) (at_point c.args.row.point) ≡ Some (step_of c.in-Some.step)
made c = sym c.requires.gate ∙ ap (option_map step_of) c.in-Some.is

-- the cell
here : (c : Start) → c.args.row.cell + c.args.class - 1 ≡ cell_place (side_frame c.args.side.now) (side_lists c.args.side.now) c.args.row.point c.args.class
here c = let some = c.requires.class.0 in omega (arith, c.requires.row.cell, some)

there : (c : Start) → c.args.row.cell + c.args.class - 1 < length c.args.side.now.plot.now.gates.items
there c =
    let s = c.args.side.now in
    let inside = gate_there s.form.now s.plot.now s.plotted c.args.row.point c.args.class c.requires.row.inside c.requires.class in
    omega (arith, here c, inside)

-- the cell above it
up : (c : After-index-up) → c.args.row.cell + c.args.class - 1 < length c.args.side.now.plot.now.gates.items
    → c.args.row.cell + c.args.class - 1 ≡ cell_place (side_frame c.args.side.now) (side_lists c.args.side.now) c.args.row.point c.args.class
    → last_step (side_frame c.args.side.now) (player_at (side_frame c.args.side.now) c.args.row.point) (at_point c.args.row.point)
    ≡ Some (step_of c.in-Some.step)
    → c.index-up.result.now ≡ cell_above (side_frame c.args.side.now) (side_lists c.args.side.now) c.args.row.point c.args.class c.in-Some.step.point
up c inside at is =
    let s = c.args.side.now in
    let gates = s.plot.now.gates.items in
    c.index-up.ensures ∙ get_or_default gates (c.args.row.cell + c.args.class - 1) c.index-up.result.now 0 inside ∙ ap (slice_index gates) at
    ∙ gate_cell s.form.now s.plot.now s.plotted c.args.row.point c.args.class c.requires.row.inside c.requires.class (step_of c.in-Some.step) is

pub overflow_add-row : goal.overflow_add-row
overflow_add-row c =
    let few = starts_few c.args.side.now.form.now c.args.row.point (let l = c.requires.row.inside in omega (arith, l)) in
    record { fits = omega (arith, few, c.requires.row.cell, c.ranges.class.fits) }

pub index-up-requires : goal.index-up-requires
index-up-requires c = omega (arith, there (goal.at.index-up-requires c).Start, c.args.side.now.plot.now.gates.ok.0)

pub bounds-taken-up : goal.bounds-taken-up
bounds-taken-up c =
    let s = c.args.side.now in
    let at = goal.at.bounds-taken-up c in
    let is = made at.In-Some in
    let above = up at.After-index-up (there at.Start) (here at.Start) is in
    let inside = gate_inside s.form.now s.plot.now s.plotted c.args.row.point c.args.class c.requires.row.inside c.requires.class (step_of c.in-Some.step) is in
    omega (arith, above, inside, c.requires.long)

pub returns-in-None : goal.returns-in-None
returns-in-None c =
    let s = c.args.side.now in
    let f = side_frame s in
    let q = c.args.row.point in
    subst (λ o. IsTrue true ↔ IsReached f (side_lists s) (moves_of f (side_lists s) c.args.taken.now) o (round_of f (at_point q)) c.args.class)
    (sym (ap (option_map step_of) c.in-None.is) ∙ c.requires.gate) (λ h. tt, λ h. refl)

pub returns-in-Some : goal.returns-in-Some
returns-in-Some c =
    let s = c.args.side.now in
    let f = side_frame s in
    let lists = side_lists s in
    let q = c.args.row.point in
    let at = goal.at.returns-in-Some c in
    let is = made at.In-Some in
    let above = up at.After-index-up (there at.Start) (here at.Start) is in
    subst (λ o. IsTrue (get_or c.args.taken.now c.index-up.result.now 0 == c.in-Some.step.choice)
    ↔ IsReached f lists (moves_of f lists c.args.taken.now) o (round_of f (at_point q)) c.args.class) (sym is)
    (let d = Decides-eqb (get_or c.args.taken.now c.index-up.result.now 0) c.in-Some.step.choice in
    let e = ap (λ i. get_or c.args.taken.now i 0) above in (λ h. sym e ∙ d.0 h, λ h. d.1 (e ∙ h)))
