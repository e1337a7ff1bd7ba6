use Rattle.std.proofs.Common.{◌≡◌, ◌+◌, ◌-◌, ◌^◌, ◌<◌, ◌≤◌, None, Some, sym, ap, ◌∙◌, subst, arith}
use Rattle.std.specs.Prelude.{option_map}
use Rattle.gs_game.specs.Seen.{step_of}
use Rattle.gs_model.specs.{Classes.{IsClass}, Frame.{point_count, round_of}, Positions.{Step, at_point}}
use Rattle.gs_seq.specs.Abstracts.{abstract_frame, lists_of}
use Rattle.gs_seq.proofs.Forms.{form_walked}
use Rattle.gs_best.specs.ClassTotals.{earlier_class}
use Rattle.gs_best.proofs.PointStarts.{place_before, starts_few}
use Rattle.gs_play.specs.{Plots.{cell_above, cell_place, row_in}, declared.plot.PointRow.{PointRow}}
use Rattle.gs_play.proofs.{PlotRows.{IsRowAt, row_cell, row_round}, plot.cell_above.Goals.{After-class_above-above, In-Some}}
use Rattle.gs_play.proofs.plot.cell_above.Goals as goal

-- where the step was made
made : (c : In-Some) → (c.in-Some.step.point < point_count (abstract_frame c.args.form.now))
    × (round_of (abstract_frame c.args.form.now) (at_point c.in-Some.step.point) ≤ round_of (abstract_frame c.args.form.now) (at_point c.args.point))
made c = c.requires.step (step_of c.in-Some.step) (ap (option_map step_of) c.in-Some.is)

pub bounds-rows-step : goal.bounds-rows-step
bounds-rows-step c = (let m = made (goal.at.bounds-rows-step c).In-Some in omega (arith, m.0, c.requires.long_rows))

-- its row
abbrev row_here : In-Some → PointRow
row_here c = row_in c.args.rows.now c.in-Some.step.point

row : (c : In-Some) → IsRowAt (abstract_frame c.args.form.now) (lists_of c.args.form.now) c.in-Some.step.point (row_here c)
row c = (let m = made c in let known = c.requires.rows c.in-Some.step.point m.0 in record { point = known.0; known = known.1 })

round : (c : In-Some) → (row_here c).round ≡ round_of (abstract_frame c.args.form.now) (at_point c.in-Some.step.point)
round c = row_round (abstract_frame c.args.form.now) (lists_of c.args.form.now) c.in-Some.step.point (row_here c) (row c)

pub class_above-above-requires-clause-some : goal.class_above-above-requires-clause-some
class_above-above-requires-clause-some c =
    let at = goal.at.class_above-above-requires-clause-some c in
    let m = made at.In-Some in
    let some = (form_walked c.args.form.now 1 (omega arith) (omega arith)).some_round c.in-Some.step.point m.0 in
    omega (arith, some, round at.In-Some)

pub class_above-above-requires-clause-earlier : goal.class_above-above-requires-clause-earlier
class_above-above-requires-clause-earlier c =
    let at = goal.at.class_above-above-requires-clause-earlier c in
    let m = made at.In-Some in
    omega (arith, m.1, round at.In-Some, c.round_at.ensures.value)

pub class_above-above-requires-clause-top : goal.class_above-above-requires-clause-top
class_above-above-requires-clause-top c =
    let top = (form_walked c.args.form.now 1 (omega arith) (omega arith)).point_in c.args.point c.requires.point in
    omega (arith, top, c.round_at.ensures.value)

pub class_above-above-requires-clause-class : goal.class_above-above-requires-clause-class
class_above-above-requires-clause-class c = subst (λ i. IsClass (lists_of c.args.form.now) i c.args.class) (sym c.round_at.ensures.value) c.requires.class

-- the cell of the class above is one of the game
inside : (c : After-class_above-above) → (here : PointRow) → IsRowAt (abstract_frame c.args.form.now) (lists_of c.args.form.now) c.in-Some.step.point here
    → IsClass (lists_of c.args.form.now) here.round c.class_above-above.result → c.in-Some.step.point < point_count (abstract_frame c.args.form.now)
    → (0 < c.class_above-above.result) × (here.cell + (c.class_above-above.result - 1) < 2 ^ 31)
inside c here r lc l =
    let f = abstract_frame c.args.form.now in
    let lists = lists_of c.args.form.now in
    let q = c.in-Some.step.point in
    let e = c.class_above-above.result in
    let class = subst (λ i. IsClass lists i e) (row_round f lists q here r) lc in
    let place = place_before f lists q e (point_count f) class l in
    let some = class.0 in
    (some, omega (arith, place, row_cell f lists q here r e, starts_few c.args.form.now (point_count f) (omega arith)))

pub overflow_sub-result : goal.overflow_sub-result
overflow_sub-result c =
    let at = goal.at.overflow_sub-result c in
    let m = made at.In-Some in
    let h = inside at.After-class_above-above (row_here at.In-Some) (row at.In-Some) c.class_above-above.ensures.class m.0 in
    omega (arith, h.0)

pub overflow_cast-result : goal.overflow_cast-result
overflow_cast-result c =
    let at = goal.at.overflow_cast-result c in
    let m = made at.In-Some in
    let h = inside at.After-class_above-above (row_here at.In-Some) (row at.In-Some) c.class_above-above.ensures.class m.0 in
    omega (arith, h.1)

pub overflow_add-result : goal.overflow_add-result
overflow_add-result c =
    let at = goal.at.overflow_add-result c in
    let m = made at.In-Some in
    let h = inside at.After-class_above-above (row_here at.In-Some) (row at.In-Some) c.class_above-above.ensures.class m.0 in
    omega (arith, h.1)

none_is : (u : Step) → None ≡ Some u → ⊥
none_is u e = absurd (cc)

some_is : (u v : Step) → Some u ≡ Some v → u ≡ v
some_is u v e = cc

pub returns-in-None : goal.returns-in-None
returns-in-None c = λ u is. absurd (none_is u (sym (ap (option_map step_of) c.in-None.is) ∙ is))

pub returns-in-Some : goal.returns-in-Some
returns-in-Some c = λ u is.
    let f = abstract_frame c.args.form.now in
    let lists = lists_of c.args.form.now in
    let at = goal.at.returns-in-Some c in
    let m = made at.In-Some in
    let q = c.in-Some.step.point in
    let here = row_here at.In-Some in
    let same = some_is (step_of c.in-Some.step) u (sym (ap (option_map step_of) c.in-Some.is) ∙ is) in
    let above = c.class_above-above.ensures.value
    ∙ ap (λ i. earlier_class f lists i here.round c.args.class) c.round_at.ensures.value
    ∙ ap (λ i. earlier_class f lists (round_of f (at_point c.args.point)) i c.args.class) (round at.In-Some) in
    row_cell f lists q here (row at.In-Some) c.class_above-above.result
    ∙ ap (cell_place f lists q) above
    ∙ ap (λ (s : Step). cell_above f lists c.args.point c.args.class s.point) same
