use Rattle.std.proofs.Common.{◌≡◌, ◌+◌, ◌<◌, ◌≤◌, get_or, ap, refl, subst, arith}
use Rattle.gs_model.specs.{Classes.{class_count}, Frame.{end_count, point_count, round_of}, FrameFacts.{IsInside}, Positions.{at_end}}
use Rattle.gs_game.specs.Seen.{target_of}
use Rattle.gs_seq.proofs.SlotLaws.{sum_range_le, sum_range_more}
use Rattle.gs_best.specs.{Tables.{classes_at, start_of}, Sides.{frame_at, lists_at}}
use Rattle.gs_best.proofs.{WalkRows.{held_at_end, held_at_point}, Players.{walked}, targets.row_to.Goals.{In-End, In-Point}}
use Rattle.gs_best.proofs.targets.row_to.Goals as goal

point : (c : In-Point) → c.in-Point.point < point_count (frame_at c.args.side.now)
point c = subst (λ t. IsInside (frame_at c.args.side.now) (target_of t)) c.in-Point.is c.requires.inside

end : (c : In-End) → c.in-End.end < end_count (frame_at c.args.side.now)
end c = subst (λ t. IsInside (frame_at c.args.side.now) (target_of t)) c.in-End.is c.requires.inside

start : (c : In-Point) → get_or c.args.starts.now c.in-Point.point 0 ≡ start_of (frame_at c.args.side.now) (lists_at c.args.side.now) c.in-Point.point
start c = c.requires.laid.places c.in-Point.point (point c)

behind : (c : In-Point) → c.args.from ≤ start_of (frame_at c.args.side.now) (lists_at c.args.side.now) c.in-Point.point
behind c = c.requires.behind c.in-Point.point (ap target_of c.in-Point.is)

pub round_at-requires : goal.round_at-requires
round_at-requires c = point (goal.at.round_at-requires c).In-Point

pub bounds-starts-point : goal.bounds-starts-point
bounds-starts-point c = omega (arith, point (goal.at.bounds-starts-point c).In-Point, c.requires.laid.long)

pub overflow_sub-result : goal.overflow_sub-result
overflow_sub-result c = let at = (goal.at.overflow_sub-result c).In-Point in omega (arith, start at, behind at)

pub end_sums-requires-clause-end : goal.end_sums-requires-clause-end
end_sums-requires-clause-end c = end (goal.at.end_sums-requires-clause-end c).In-End

pub end_round-round-requires : goal.end_round-round-requires
end_round-round-requires c = end (goal.at.end_round-round-requires c).In-End

pub returns-in-Point : goal.returns-in-Point
returns-in-Point c = record {
  held = let at = (goal.at.returns-in-Point c).In-Point in
      held_at_point c.args.side.now c.args.from c.args.totals.now _ (target_of c.args.target) c.in-Point.point (ap target_of c.in-Point.is)
      c.round_at.ensures.value (omega (arith, start at, behind at)) refl;
  room = let at = (goal.at.returns-in-Point c).In-Point in
      let s = c.args.side.now in
      let q = c.in-Point.point in
      let width = classes_at (frame_at s) (lists_at s) in
      omega (
        arith,
        start at,
        behind at,
        ap (class_count (lists_at s)) c.round_at.ensures.value,
        sum_range_more width q,
        sum_range_le width (q + 1) (point_count (frame_at s)) (omega (arith, point at)),
        c.requires.laid.room,
      );
}

pub returns-in-End : goal.returns-in-End
returns-in-End c = record {
  held = held_at_end c.args.side.now c.args.from c.args.totals.now _ (target_of c.args.target) c.in-End.end (ap target_of c.in-End.is)
      c.end_round-round.ensures.value refl c.end_sums.ensures.here;
  room = let s = c.args.side.now in
      let n = end (goal.at.returns-in-End c).In-End in
      let wide = c.requires.row (round_of (frame_at s) (at_end c.in-End.end)) ((walked s).end_round c.in-End.end n) ((walked s).end_in c.in-End.end n) in
      omega (arith, wide, ap (class_count (lists_at s)) c.end_round-round.ensures.value, c.end_sums.auto.sums);
}

pub end_sums-requires-clause-wide : goal.end_sums-requires-clause-wide
end_sums-requires-clause-wide c = grind arith

pub end_sums-requires-clause-room : goal.end_sums-requires-clause-room
end_sums-requires-clause-room c = grind arith

pub end_sums-requires-clause-other : goal.end_sums-requires-clause-other
end_sums-requires-clause-other c = c.args.side.now.plan

pub end_sums-requires-clause-some : goal.end_sums-requires-clause-some
end_sums-requires-clause-some c = grind arith
