use Rattle.std.proofs.Common.{◌≡◌, ℕ, ◌+◌, ◌-◌, List, [], length, sym, ap, subst, arith}
use Rattle.std.specs.Vec.{with_items}
use Rattle.gs_best.specs.{Places.{AreBestFrom}, Sides.{frame_at, lists_at, picks_at, plan_at, totals_at}}
use Rattle.gs_best.proofs.{Slices.{kept_through, long_through}, WalkRows.{laid_from}, Stepping.{all_best}}
use Rattle.gs_best.proofs.walk.backward.Goals as goal

pub loop-point-preserved : goal.loop-point-preserved
loop-point-preserved c =
    let s = c.args.side.now in
    let t = c.loop-point.table in
    let p = c.loop-point.point - 1 in
    let laid = c.loop-point.invariant.laid in
    let totals = c.fill_point.new.totals in
    let picks = c.fill_point.new.picks in
    let totals_is = c.deref_mut.ensures.value in
    let picks_is = c.deref_mut-in-loop-point.ensures.value in
    record {
      laid = record {
        holds = record {
          starts = laid.holds.starts;
          totals = long_through t.totals _ totals totals_is c.fill_point.auto.totals _ laid.holds.totals;
          picks = long_through t.picks _ picks picks_is c.fill_point.auto.picks _ laid.holds.picks;
        };
        places = laid.places;
      };
      rows = c.fill_point.ensures.rows;
      known = kept_through t.totals _ totals totals_is c.fill_point.auto.totals
          (λ l. AreBestFrom (frame_at s) (lists_at s) s.player (totals_at s l) (picks_at s (with_items t.picks picks).items) p)
          (kept_through t.picks _ picks picks_is c.fill_point.auto.picks
          (λ l. AreBestFrom (frame_at s) (lists_at s) s.player (totals_at s totals) (picks_at s l) p) c.fill_point.ensures.known);
    }

pub loop-point-init : goal.loop-point-init
loop-point-init c = grind arith

pub returns : goal.returns
returns c = record {
  laid = grind arith;
  rows = grind arith;
  best = let s = c.args.side.now in
      let t = c.loop-point.table in
      let none : c.loop-point.point ≡ 0 = omega (arith, c.loop-point-test.false) in
      all_best (frame_at s) (lists_at s) s.player (plan_at s) t.totals.items (picks_at s t.picks.items)
      (subst (AreBestFrom (frame_at s) (lists_at s) s.player (totals_at s t.totals.items) (picks_at s t.picks.items)) none c.loop-point.invariant.known);
}

pub fill_point-requires : goal.fill_point-requires
fill_point-requires c = record {
  point = grind arith;
  laid = let s = c.args.side.now in
      laid_from (frame_at s) (lists_at s) c.loop-point.table c.loop-point.invariant.laid c.deref.result.now c.deref.ensures.value []
      c.deref_mut.result.now c.deref_mut.ensures.value;
  picks = omega (arith, c.loop-point.invariant.laid.holds.picks, ap (λ (l : List ℕ). length l) c.deref_mut-in-loop-point.ensures.value);
  rows = grind arith;
  later = let s = c.args.side.now in
      let t = c.loop-point.table in
      let p = c.loop-point.point in
      let here : p - 1 + 1 ≡ p = omega (arith, c.loop-point-test.true) in
      subst (λ l. AreBestFrom (frame_at s) (lists_at s) s.player (totals_at s l) (picks_at s c.deref_mut-in-loop-point.result.now) (p - 1 + 1))
      (sym c.deref_mut.ensures.value)
      (subst (λ l. AreBestFrom (frame_at s) (lists_at s) s.player (totals_at s t.totals.items) (picks_at s l) (p - 1 + 1))
      (sym c.deref_mut-in-loop-point.ensures.value)
      (subst (AreBestFrom (frame_at s) (lists_at s) s.player (totals_at s t.totals.items) (picks_at s t.picks.items)) (sym here) c.loop-point.invariant.known));
}
