use Rattle.std.proofs.Common.{◌≡◌, ◌+◌, ◌-◌, ◌<◌, ◌≤◌, int_eq, length, sym, ap, ◌∙◌, subst, arith}
use Rattle.std.specs.{Prelude.{ℤ, ◌-ℤ◌}, Option.{MatchOption}}
use Rattle.std.proofs.lemmas.{Bool.{and_parts}, Bool.Decides.{Decides-int_eq}, List.{get_or_default}}
use Rattle.gs_model.specs.{Classes.{IsClass}, Frame.{point_count, round_of}, FrameFacts.{IsWalked}, Positions.{at_point}}
use Rattle.gs_seq.proofs.Forms.{form_walked}
use Rattle.gs_best.proofs.PointStarts.{starts_few}
use Rattle.gs_best.specs.Tables.{start_of}
use Rattle.gs_play.specs.{Lines.{flat, line_at, wrapped}, Plots.{HasNoWay, LeadsTo}, Sides.{side_frame, side_lists}, Tallies.{at_part, slope_part}}
use Rattle.gs_play.specs.{declared.line.Line.{Line}, declared.role.Role.{Role}}
use Rattle.gs_play.proofs.{PlotRows.{cell_within, class_in}, Settle.{fed_behind, fed_kept, fed_later, found_behind, found_later, nowhere_kept, same_kept}}
use Rattle.gs_play.proofs.{Tells.{tells_next, tells_same}, Wrapped.{wrapped_twice}, sweeping.settle.Goals.{After-index-2, In-Some, Start}}
use Rattle.gs_play.proofs.sweeping.settle.Goals as goal

walked : (s : Role) → IsWalked (side_frame s) s.player
walked s = form_walked s.form.now s.player s.some s.two

in_room : (c : Start) → c.args.cell < start_of (side_frame c.args.side.now) (side_lists c.args.side.now) (point_count (side_frame c.args.side.now))
in_room c = cell_within (side_frame c.args.side.now) (side_lists c.args.side.now) c.args.row c.requires.row c.args.cell c.requires.cell

pub index-requires : goal.index-requires
index-requires c = omega (arith, in_room (goal.at.index-requires c).Start, c.requires.room.totals, c.args.tally.now.totals.ok.0)

pub index-requires-2 : goal.index-requires-2
index-requires-2 c = omega (arith, in_room (goal.at.index-requires-2 c).Start, c.find.ensures.room.totals, c.find.new.tally.totals.ok.0)

-- the totals that are read
old_is : (c : After-index-2) → c.args.cell < length c.args.tally.now.totals.items → c.index.result.now ≡ line_at c.args.tally.now.totals.items c.args.cell
old_is c within = c.index.ensures ∙ get_or_default c.args.tally.now.totals.items c.args.cell c.index.result.now flat within

new_is : (c : After-index-2) → c.args.cell < length c.find.new.tally.totals.items
    → c.index-2.result.now ≡ line_at c.find.new.tally.totals.items c.args.cell
new_is c within = c.index-2.ensures ∙ get_or_default c.find.new.tally.totals.items c.args.cell c.index-2.result.now flat within

same_line : (x y : Line) → x.at ≡ y.at → x.slope ≡ y.slope → x ≡ y
same_line x y a s =
    let with : ℤ → ℤ → Line = λ at slope. record { at = at; slope = slope } in
    ap (λ i. with i x.slope) a ∙ ap (with y.at) s

small : (c : Start) → c.args.cell ≤ 2147483648
small c = omega (arith, in_room c, starts_few c.args.side.now.form.now (point_count (side_frame c.args.side.now)) (omega arith))

pub overflow_cast-class : goal.overflow_cast-class
overflow_cast-class c = omega (arith, small (goal.at.overflow_cast-class c).Start)

pub overflow_add-class : goal.overflow_add-class
overflow_add-class c = omega (arith, small (goal.at.overflow_add-class c).Start)

-- the way leads to the point of the cell
to : (c : In-Some) → LeadsTo (side_frame c.args.side.now) (side_lists c.args.side.now) (at_point c.args.row.point) c.in-Some.way
to c =
    let f = side_frame c.args.side.now in
    let q = at_point c.args.row.point in
    subst (λ o. MatchOption o (HasNoWay f q) (LeadsTo f (side_lists c.args.side.now) q)) c.in-Some.is c.requires.way

pub returns-in-Some : goal.returns-in-Some
returns-in-Some c = record {
  room = c.feed.ensures.kept.room;
  later =
      fed_later (walked c.args.side.now) c.args.clock.order c.args.clock.few c.requires.row c.requires.cell c.requires.room c.find.ensures.found
      (to (goal.at.returns-in-Some c).In-Some) c.feed.ensures.class c.feed.ensures.fed;
  behind =
      fed_behind (walked c.args.side.now) c.args.clock.order c.args.clock.few c.requires.row c.requires.cell c.requires.room c.find.ensures.found
      (to (goal.at.returns-in-Some c).In-Some) c.feed.ensures.class c.feed.ensures.fed;
  tells = let s = c.args.side.now in
      tells_next (side_frame s) (side_lists s) c.args.tally.now c.find.new.tally c.feed.new.tally c.find.ensures.tells
      (tells_same (side_frame s) (side_lists s) c.find.new.tally c.feed.new.tally c.feed.ensures.kept.picks c.feed.ensures.kept.moved);
  kept = let at = goal.at.returns-in-Some c in
      let within = in_room at.Start in
      let xs = c.args.tally.now.totals.items in
      let ys = c.find.new.tally.totals.items in
      let less : (part : Line → ℤ) → part c.index-2.result.now -ℤ part c.index.result.now ≡ part (line_at ys c.args.cell) -ℤ part (line_at xs c.args.cell) =
      λ part. ap (λ (l : Line). part l -ℤ part c.index.result.now) (new_is at.After-index-2 (omega (arith, within, c.find.ensures.room.totals)))
      ∙ ap (λ (l : Line). part (line_at ys c.args.cell) -ℤ part l) (old_is at.After-index-2 (omega (arith, within, c.requires.room.totals))) in
      fed_kept (walked c.args.side.now) c.args.clock.order c.args.clock.few c.requires.row c.requires.cell c.requires.room c.find.ensures.found
      (to (goal.at.returns-in-Some c).In-Some) c.feed.ensures.class c.feed.ensures.fed
      (ap wrapped (c.above.ensures.at ∙ ap wrapped (less at_part)) ∙ wrapped_twice _)
      (ap wrapped (c.above.ensures.slope ∙ ap wrapped (less slope_part)) ∙ wrapped_twice _);
}

pub feed-requires : goal.feed-requires
feed-requires c = record {
  way = (to (goal.at.feed-requires c).In-Some).way;
  class = let at = goal.at.feed-requires c in
      let s = c.args.side.now in
      let by = to at.In-Some in
      subst (λ i. IsClass (side_lists s) i (c.args.cell - c.args.row.cell + 1)) (sym (by.way.round ∙ ap (round_of (side_frame s)) by.leads))
      (class_in (side_frame s) (side_lists s) c.args.row c.requires.row c.args.cell c.requires.cell);
  room = c.find.ensures.room;
}

pub returns-then-eq : goal.returns-then-eq
returns-then-eq c = record {
  room = c.find.ensures.room;
  later = found_later (walked c.args.side.now) c.args.clock.order c.args.clock.few c.requires.row c.requires.cell c.requires.room c.find.ensures.found;
  behind = found_behind (walked c.args.side.now) c.args.clock.order c.args.clock.few c.requires.row c.requires.cell c.requires.room c.find.ensures.found;
  tells = c.find.ensures.tells;
  kept = let at = (goal.at.returns-then-eq c).Start in
      let read = (goal.at.returns-then-eq c).After-index-2 in
      let new = c.index-2.result.now in
      let old = c.index.result.now in
      let within = in_room at in
      let both = and_parts (int_eq new.at old.at) (int_eq new.slope old.slope) (sym c.eq.ensures ∙ c.if-eq.true) in
      let same : new ≡ old = same_line new old ((Decides-int_eq new.at old.at).0 both.0) ((Decides-int_eq new.slope old.slope).0 both.1) in
      same_kept (walked c.args.side.now) c.args.clock.order c.args.clock.few c.requires.row c.requires.cell c.requires.room c.find.ensures.found
      (sym (new_is read (omega (arith, within, c.find.ensures.room.totals))) ∙ same ∙ old_is read (omega (arith, within, c.requires.room.totals)));
}

pub returns-in_default : goal.returns-in_default
returns-in_default c = record {
  room = c.find.ensures.room;
  later = found_later (walked c.args.side.now) c.args.clock.order c.args.clock.few c.requires.row c.requires.cell c.requires.room c.find.ensures.found;
  behind = found_behind (walked c.args.side.now) c.args.clock.order c.args.clock.few c.requires.row c.requires.cell c.requires.room c.find.ensures.found;
  tells = c.find.ensures.tells;
  kept = let f = side_frame c.args.side.now in
      let q = at_point c.args.row.point in
      nowhere_kept (walked c.args.side.now) c.args.clock.order c.args.clock.few c.requires.row c.requires.cell c.requires.room c.find.ensures.found
      (subst (λ o. MatchOption o (HasNoWay f q) (LeadsTo f (side_lists c.args.side.now) q)) c.in_default.is c.requires.way);
}

pub find-requires-clause-room : goal.find-requires-clause-room
find-requires-clause-room c = c.requires.room

pub overflow_sub-class : goal.overflow_sub-class
overflow_sub-class c = grind arith
