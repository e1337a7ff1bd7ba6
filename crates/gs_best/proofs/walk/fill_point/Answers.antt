use Rattle.std.proofs.{Common.{◌≡◌, ◌+◌, ◌++◌, List, drop, length, get_or, ap, ◌∙◌, subst, arith}, lemmas.List.{length-append}}
use Rattle.std.specs.Prelude.{ℤ, pos}
use Rattle.gs_model.specs.{Classes.{class_count}, Frame.{point_count}}
use Rattle.gs_best.specs.{LaterRows.{AreModestFrom}, Places.{AreBestFrom}}
use Rattle.gs_best.specs.{Sides.{frame_at, lists_at, picks_at, plan_at, totals_at}, Tables.{classes_at, start_of}}
use Rattle.gs_seq.proofs.SlotLaws.{sum_range_le}
use Rattle.gs_best.proofs.{BackSteps.{set_before, set_front}, Behind.{merged_later, modest_later}, Modest.{known_modest}, Placed.{IsRow, row_next}}
use Rattle.gs_best.proofs.{Players.{walked}, Stepping.{step_best}, walk.fill_point.Goals.{After-class_total-count, After-fill_row}}
use Rattle.gs_best.proofs.walk.fill_point.Goals as goal

row : (c : After-class_total-count) → let s = c.args.side.now in
    IsRow (classes_at (frame_at s) (lists_at s)) (point_count (frame_at s)) c.args.point (get_or c.args.starts.now c.args.point 0) c.class_total-count.result
row c =
    let s = c.args.side.now in
    let q = c.args.point in
    let width = classes_at (frame_at s) (lists_at s) in
    let start = c.requires.laid.places q c.requires.point in
    let count = c.class_total-count.ensures.value ∙ ap (class_count (lists_at s)) c.round_at-round.ensures.value in
    record {
      start_is = start;
      count_is = count;
      within = omega (
        arith,
        row_next width q _ _ start count,
        sum_range_le width (q + 1) (point_count (frame_at s)) (omega (arith, c.requires.point)),
      );
    }

next : (c : After-class_total-count) → let s = c.args.side.now in
    get_or c.args.starts.now c.args.point 0 + c.class_total-count.result ≡ start_of (frame_at s) (lists_at s) (c.args.point + 1)
next c = let s = c.args.side.now in
    let r = row c in row_next (classes_at (frame_at s) (lists_at s)) c.args.point _ _ r.start_is r.count_is

pub split_at_mut-front-requires : goal.split_at_mut-front-requires
split_at_mut-front-requires c = omega (arith, (row (goal.at.split_at_mut-front-requires c).After-class_total-count).within, c.requires.laid.room)

pub invariant_of-at : goal.invariant_of-at
invariant_of-at c =
    let at = goal.at.invariant_of-at c in
    let s = c.args.side.now in
    let f = frame_at s in
    let lists = lists_at s in
    let front = c.split_at_mut-front.result.0.now in
    let later = c.split_at_mut-front.result.1.now in
    let whole = c.split_at_mut-front.ensures.value in
    let long = c.split_at_mut-front.ensures.front_len in
    let from = next at.After-class_total-count in
    record {
      inside = c.requires.point;
      round_is = c.round_at-round.ensures.value;
      from_is = from;
      count_is = (row at.After-class_total-count).count_is;
      laid = record {
        long = c.requires.laid.long;
        places = c.requires.laid.places;
        room = omega (arith, c.requires.laid.room, ap (λ (l : List ℤ). length l) whole, length-append front later, long);
      };
      modest = modest_later s c.args.point _ front later long from (subst (λ l. AreModestFrom f lists (totals_at s l) (c.args.point + 1)) whole
          (known_modest s c.args.totals.now (picks_at s c.args.picks.now) (c.args.point + 1) c.requires.later.followed));
    }

known : (c : After-fill_row) → let s = c.args.side.now in
    AreBestFrom (frame_at s) (lists_at s) s.player (totals_at s (c.fill_row.new.totals ++ c.split_at_mut-front.result.1.now))
    (picks_at s c.fill_row.new.picks) c.args.point
known c =
    let s = c.args.side.now in
    let f = frame_at s in
    let lists = lists_at s in
    let q = c.args.point in
    let at = (goal.at.After-fill_row c).After-class_total-count in
    let r = row at in
    let start = get_or c.args.starts.now q 0 in
    let from = start + c.class_total-count.result in
    let whole = c.split_at_mut-front.ensures.value in
    let front = c.split_at_mut-front.result.0.now in
    let later = c.split_at_mut-front.result.1.now in
    let long = c.split_at_mut-front.ensures.front_len in
    let totals = c.fill_row.new.totals in
    let picks = c.fill_row.new.picks in
    step_best f lists s.player (walked s) (plan_at s) q c.requires.point (drop start totals) (front ++ later) (totals ++ later)
    (set_front (pos 0) f lists q start from r.start_is (next at) front totals later long (c.fill_row.auto.totals ∙ long))
    (drop start picks) c.args.picks.now picks
    (set_before 0 f lists q start from r.start_is (next at) c.args.picks.now picks (λ i l. c.fill_row.ensures.behind i (omega (arith, l, long))))
    (merged_later s q from front later long (next at) c.requires.point (drop start totals) (drop start picks) c.fill_row.ensures.merged)
    (subst (λ l. AreBestFrom f lists s.player (totals_at s l) (picks_at s c.args.picks.now) (q + 1)) whole c.requires.later)

pub returns : goal.returns
returns c = record {
  rows = grind arith;
  known = known (goal.at.returns c).After-fill_row;
}

pub fill_row-requires : goal.fill_row-requires
fill_row-requires c = record {
  start = omega (arith, c.split_at_mut-front.ensures.front_len);
  picks = omega (arith, c.split_at_mut-front.ensures.front_len, (row (goal.at.fill_row-requires c).After-class_total-count).within, c.requires.picks);
  rows = grind arith;
}

pub class_total-count-requires-clause-top : goal.class_total-count-requires-clause-top
class_total-count-requires-clause-top c = omega arith
