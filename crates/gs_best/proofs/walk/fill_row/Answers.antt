use Rattle.std.proofs.Common.{◌≡◌, ◌+◌, ◌-◌, ◌≤◌, length, ◌∙◌, arith}
use Rattle.std.specs.Prelude.{pos}
use Rattle.gs_model.specs.Frame.{last_round}
use Rattle.gs_best.specs.{ClassTotals.{total_worth}, WalkPoints.{frame_on, lists_on, totals_on}}
use Rattle.gs_best.proofs.{Greatest.{merged_rows}, Slices.{part_long, put_behind, put_here, wide_through}, walk.fill_row.Goals.{After-merge_moves}}
use Rattle.gs_best.proofs.walk.fill_row.Goals as goal

inside : (c : After-merge_moves) → c.args.start + (length c.args.totals.now - c.args.start) ≤ length c.args.totals.now
inside c = omega (arith, c.requires.start)

inside_picks : (c : After-merge_moves) → c.args.start + (length c.args.totals.now - c.args.start) ≤ length c.args.picks.now
inside_picks c = omega (arith, c.requires.start, c.requires.picks)

long : (c : After-merge_moves) → length c.merge_moves.new.best ≡ length c.args.totals.now - c.args.start
long c = c.merge_moves.auto.best ∙ part_long c.args.totals.now c.args.start (length c.args.totals.now - c.args.start) (inside c)

long_moves : (c : After-merge_moves) → length c.merge_moves.new.moves ≡ length c.args.totals.now - c.args.start
long_moves c = c.merge_moves.auto.moves ∙ part_long c.args.picks.now c.args.start (length c.args.totals.now - c.args.start) (inside_picks c)

pub returns : goal.returns
returns c = record {
  rows = let old = c.args.scratch.now in
      let at = c.args.at.now in
      let all = last_round (frame_on at) in
      let lists = lists_on at in
      record {
        numbers = wide_through old.numbers _ c.merge_moves.new.numbers c.deref_mut-2.ensures.value c.merge_moves.auto.numbers all lists c.requires.rows.numbers;
        ends = wide_through old.ends _ c.merge_moves.new.row c.deref_mut.ensures.value c.merge_moves.auto.row all lists c.requires.rows.ends;
        worths = wide_through old.worths _ c.merge_moves.new.worths c.deref_mut-3.ensures.value c.merge_moves.auto.worths (all - 1) lists c.requires.rows.worths;
      };
  merged = let here = (goal.at.returns c).After-merge_moves in
      let at = c.args.at.now in
      let n = length c.args.totals.now - c.args.start in
      let best = c.merge_moves.new.best in
      let moves = c.merge_moves.new.moves in
      merged_rows (frame_on at) (lists_on at) at.side.player (total_worth (frame_on at) (lists_on at) (totals_on at)) at.point best _ moves _
      (λ k l. put_here (pos 0) c.args.totals.now best c.args.start n (inside here) (long here) k (omega (arith, l, c.requires.start, at.count_is)))
      (λ k l. put_here 0 c.args.picks.now moves c.args.start n (inside_picks here) (long_moves here) k (omega (arith, l, c.requires.start, at.count_is)))
      c.merge_moves.ensures;
  behind = λ i l.
      let here = (goal.at.returns c).After-merge_moves in
      put_behind 0 c.args.picks.now c.merge_moves.new.moves c.args.start (length c.args.totals.now - c.args.start) (inside_picks here) (long_moves here) i
      (omega (arith, l, c.requires.start));
}

pub merge_moves-requires : goal.merge_moves-requires
merge_moves-requires c = record {
  row = grind arith;
  numbers = grind arith;
  worths = grind arith;
  best = let n = length c.args.totals.now - c.args.start in
      omega (arith, c.requires.start, part_long c.args.totals.now c.args.start n (omega (arith, c.requires.start)));
  moves = let n = length c.args.totals.now - c.args.start in
      omega (arith, c.requires.start, part_long c.args.picks.now c.args.start n (omega (arith, c.requires.start, c.requires.picks)));
}
