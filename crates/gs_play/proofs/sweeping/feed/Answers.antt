use Rattle.std.proofs.{lemmas.Grind.{common_steps}, Common.{◌≡◌, ◌+◌, ◌-◌, ◌*◌, ◌<◌, ℕ, List, length, set, refl, ap, ◌∙◌, arith}, lemmas.List.{get_or_default, length-set}}
use Rattle.std.specs.Prelude.{◌+ℤ◌}
use Rattle.gs_seq.specs.Abstracts.{abstract_frame, lists_of}
use Rattle.gs_seq.proofs.Forms.{form_walked}
use Rattle.gs_play.specs.{Lines.{flat, line_at, wrapped}, Plots.{cell_place, worth_place}, Tallies.{up_of}, declared.line.Line.{Line}}
use Rattle.gs_play.proofs.{Feeds.{cell_few, cell_first, cell_there, worth_few, worth_first, worth_there}, sweeping.feed.Goals.{After-class_above}}
use Rattle.gs_play.proofs.sweeping.feed.Goals as goal

pub class_above-requires-clause-some : goal.class_above-requires-clause-some
class_above-requires-clause-some c =
    let w = form_walked c.args.form.now 1 (omega arith) (omega arith) in
    let way = c.requires.way in
    omega (arith, w.some_round c.args.way.row.point way.row.inside, way.row.round)

pub class_above-requires-clause-earlier : goal.class_above-requires-clause-earlier
class_above-requires-clause-earlier c =
    let w = form_walked c.args.form.now 1 (omega arith) (omega arith) in
    let way = c.requires.way in
    omega (arith, w.onward c.args.way.row.point c.args.way.choice way.row.inside way.choice, way.row.round, way.round)

few : (c : After-class_above) → c.args.way.row.worth + ((c.class_above.result - 1) * c.args.way.row.moves + c.args.way.choice) < 2147483648
few c = worth_few c.args.form.now c.args.way c.requires.way c.class_above.result c.class_above.ensures.class

inside : (c : After-class_above) → c.args.way.row.worth + ((c.class_above.result - 1) * c.args.way.row.moves + c.args.way.choice) < length
    c.args.tally.now.worths.items
inside c =
    let up = c.class_above.result in
    omega (
      arith,
      worth_there c.args.form.now c.args.way c.requires.way up,
      worth_first c.args.form.now c.args.way c.requires.way up c.class_above.ensures.class,
      c.requires.room.worths,
    )

pub overflow_mul-place : goal.overflow_mul-place
overflow_mul-place c = omega (arith, few (goal.at.overflow_mul-place c).After-class_above)

pub overflow_add-place : goal.overflow_add-place
overflow_add-place c = omega (arith, few (goal.at.overflow_add-place c).After-class_above, c.from.ensures)

pub overflow_add-place-2 : goal.overflow_add-place-2
overflow_add-place-2 c = omega (arith, few (goal.at.overflow_add-place-2 c).After-class_above, c.from.ensures)

pub index-requires : goal.index-requires
index-requires c = omega (arith, inside (goal.at.index-requires c).After-class_above, c.from.ensures, c.args.tally.now.worths.ok.0)

pub index_mut-requires : goal.index_mut-requires
index_mut-requires c = omega (arith, inside (goal.at.index_mut-requires c).After-class_above, c.from.ensures, c.args.tally.now.worths.ok.0)

pub overflow_add-way : goal.overflow_add-way
overflow_add-way c = omega (arith, cell_few c.args.form.now c.args.way c.requires.way c.class_above.result c.class_above.ensures.class)

pub class_above-requires-clause-top : goal.class_above-requires-clause-top
class_above-requires-clause-top c = grind (arith, common_steps)

pub set_due-requires : goal.set_due-requires
set_due-requires c = record {
  dues = c.requires.room.dues;
  place = let up = c.class_above.result in
      omega (
        arith,
        cell_there c.args.form.now c.args.way c.requires.way up,
        cell_first c.args.form.now c.args.way c.requires.way up c.class_above.ensures.class,
        c.requires.room.turns,
      );
}

pub returns : goal.returns
returns c = record {
  kept = let t = c.args.tally.now in
      let w = c.args.way.row in
      let room = c.requires.room in
      let due = c.set_due.ensures in
      record {
        moved = refl;
        picks = refl;
        room = record {
          worths = length-set t.worths.items (w.worth + ((c.class_above.result - 1) * w.moves + c.from.result)) c.sum.result ∙ room.worths;
          totals = room.totals;
          picks = room.picks;
          turns = ap (λ (l : List ℕ). length l) due.turns ∙ length-set t.dues.turns.items (w.cell + (c.class_above.result - 1)) 0 ∙ room.turns;
          dues = due.dues;
          blocks = due.blocks ∙ room.blocks;
          moved = room.moved;
        };
      };
  class = grind arith;
  fed = let f = abstract_frame c.args.form.now in
      let lists = lists_of c.args.form.now in
      let w = c.args.way in
      let up = up_of f lists w c.args.class in
      let xs = c.args.tally.now.worths.items in
      let place = w.row.worth + ((c.class_above.result - 1) * w.row.moves + c.from.result) in
      let at : place ≡ worth_place f lists w.row.point up w.choice =
      omega (arith, c.from.ensures, worth_there c.args.form.now w c.requires.way c.class_above.result)
      ∙ ap (λ k. worth_place f lists w.row.point k w.choice) c.class_above.ensures.value in
      let cell : w.row.cell + (c.class_above.result - 1) ≡ cell_place f lists w.row.point up =
      cell_there c.args.form.now w c.requires.way c.class_above.result ∙ ap (cell_place f lists w.row.point) c.class_above.ensures.value in
      let within : place < length xs = omega (arith, inside (goal.at.returns c).After-class_above, c.from.ensures) in
      let read : c.index.result.now ≡ line_at xs (worth_place f lists w.row.point up w.choice) =
      c.index.ensures ∙ get_or_default xs place c.index.result.now flat within ∙ ap (line_at xs) at in
      record {
        worth = c.sum.result;
        at_is = c.sum.ensures.at ∙ ap (λ (l : Line). wrapped (l.at +ℤ c.args.more.at)) read;
        slope_is = c.sum.ensures.slope ∙ ap (λ (l : Line). wrapped (l.slope +ℤ c.args.more.slope)) read;
        worths = ap (λ i. set xs i c.sum.result) at;
        dues = c.set_due.ensures.turns ∙ ap (λ i. set c.args.tally.now.dues.turns.items i 0) cell;
        totals = refl;
        picks = refl;
      };
}
