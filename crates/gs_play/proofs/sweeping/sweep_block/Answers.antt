use Rattle.std.proofs.lemmas.Grind.{common_steps}
use Rattle.std.proofs.Common.{ℕ, ◌-◌, ◌<◌, ◌≤◌, List, length, ap, sym, subst, arith, Vec}
use Rattle.std.specs.declared.alloc.Global.{Global}
use Rattle.gs_best.specs.Tables.{moves_of}
use Rattle.gs_play.specs.{DueTurns.{IsNoneDue}, Plots.{IsCellOf}, Sides.{side_frame, side_lists}, Tables.{AreSettledUntil}, Tallies.{slopes_of, zeros_of}}
use Rattle.gs_play.proofs.{PlotRows.{IsRowAt, point_at, row_at}, Tells.{swept_next, swept_none}, sweeping.sweep_block.Goals.{After-index-row}}
use Rattle.gs_play.proofs.sweeping.sweep_block.Goals as goal

-- the row of the cell
point_is : (c : After-index-row) → IsCellOf (side_frame c.args.side.now) (side_lists c.args.side.now) c.index.result.now (c.loop-left.left - 1)
point_is c =
    let s = c.args.side.now in
    point_at (side_frame s) (side_lists s) s.plot.now s.plotted (c.loop-left.left - 1) c.index.result.now
    (omega (arith, c.loop-left.invariant.few, c.loop-left-test.true, c.loop-left.invariant.swept.room.totals)) c.index.ensures

row_of : (c : After-index-row) → IsRowAt (side_frame c.args.side.now) (side_lists c.args.side.now) c.index.result.now c.index-row.result.now
row_of c =
    let s = c.args.side.now in
    row_at (side_frame s) (side_lists s) s.plot.now s.plotted c.index.result.now (point_is c).inside c.index-row.result.now c.index-row.ensures

has : (c : After-index-row) → IsCellOf (side_frame c.args.side.now) (side_lists c.args.side.now) c.index-row.result.now.point (c.loop-left.left - 1)
has c = subst (λ q. IsCellOf (side_frame c.args.side.now) (side_lists c.args.side.now) q (c.loop-left.left - 1)) (sym (row_of c).point) (point_is c)

pub loop-left-smaller : goal.loop-left-smaller
loop-left-smaller c =
    let at = (goal.at.loop-left-smaller c).After-index-row in
    omega (arith, (has at).from, (row_of at).known.cell, c.loop-left-test.true, c.past_due-left-in-loop-left.ensures.most, c.max-first.ensures)

pub loop-left-preserved : goal.loop-left-preserved
loop-left-preserved c =
    let at = (goal.at.loop-left-preserved c).After-index-row in
    let was = c.loop-left.invariant in
    let is = c.sweep_row.ensures in
    let next = c.past_due-left-in-loop-left in
    let sooner : next.result < c.loop-left.left =
    omega (arith, (has at).from, (row_of at).known.cell, c.loop-left-test.true, next.ensures.most, c.max-first.ensures) in
    record {
      from = next.ensures.from;
      most = omega (arith, sooner, was.most);
      few = omega (arith, sooner, was.few, is.swept.room.totals, was.swept.room.totals);
      none = subst (λ (xs : List ℕ). IsNoneDue xs next.result (length xs) c.args.clock.turn) c.deref-in-loop-left.ensures.value next.ensures.behind;
      swept = swept_next (side_frame c.args.side.now) (side_lists c.args.side.now) c.args.side.now.player c.args.clock.turn c.args.tally.now c.loop-left.tally
          c.sweep_row.new.tally was.swept is.swept;
    }

pub loop-left-init : goal.loop-left-init
loop-left-init c = record {
  from = grind arith;
  most = grind arith;
  few = grind arith;
  none = grind arith;
  swept = swept_none (side_frame c.args.side.now) (side_lists c.args.side.now) c.args.side.now.player c.args.clock.turn c.args.tally.now c.requires.room;
}

pub index-row-requires : goal.index-row-requires
index-row-requires c =
    let s = c.args.side.now in
    let at = point_at (side_frame s) (side_lists s) s.plot.now s.plotted (c.loop-left.left - 1) c.index.result.now
    (omega (arith, c.loop-left.invariant.few, c.loop-left-test.true, c.loop-left.invariant.swept.room.totals)) c.index.ensures in
    omega (arith, at.inside, s.plotted.many)

pub returns : goal.returns
returns c = record {
  settled = grind arith;
  swept = record {
    room = grind arith;
    tells = c.loop-left.invariant.swept.tells;
    kept = λ pays rise few h.
        let f = side_frame c.args.side.now in
        let lists = side_lists c.args.side.now in
        let t = c.loop-left.tally in
        let now = c.args.clock.turn in
        let k = c.loop-left.invariant.swept.kept pays rise few h in
        record {
          zeros = k.zeros;
          slopes = k.slopes;
          settled = subst (λ (v : Vec ℕ Global). AreSettledUntil f lists c.args.side.now.player (zeros_of f lists pays rise now t.totals.items)
              (slopes_of f lists rise t.totals.items) (moves_of f lists t.picks.items) (moves_of f lists v.items) now) (sym c.renew.ensures.turns) k.settled;
        };
  };
}

pub index-requires : goal.index-requires
index-requires c = grind arith

pub past_due-left-requires-in-loop-left : goal.past_due-left-requires-in-loop-left
past_due-left-requires-in-loop-left c = record {
  order = grind arith;
  within = let at = (goal.at.past_due-left-requires-in-loop-left c).After-index-row in
      let run : c.max-first.result ≤ c.loop-left.left = omega (arith, (has at).from, (row_of at).known.cell, c.loop-left-test.true, c.max-first.ensures) in
      let turns = ap (λ (xs : List ℕ). length xs) c.deref-in-loop-left.ensures.value in
      let was = c.loop-left.invariant in
      let is = c.sweep_row.ensures.swept.room in
      omega (arith, run, turns, was.few, was.swept.room.totals, is.turns);
  behind = grind arith;
}

pub renew-requires : goal.renew-requires
renew-requires c = grind (arith, common_steps)

pub sweep_row-requires : goal.sweep_row-requires
sweep_row-requires c = record {
  row = (row_of (goal.at.sweep_row-requires c).After-index-row).known;
  from = grind arith;
  run = let at = (goal.at.sweep_row-requires c).After-index-row in
      omega (arith, (has at).from, (row_of at).known.cell, c.loop-left-test.true, c.max-first.ensures);
  below = let at = (goal.at.sweep_row-requires c).After-index-row in
      omega (arith, (has at).below, (row_of at).known.cell, c.loop-left-test.true);
  room = c.loop-left.invariant.swept.room;
  behind = grind arith;
}

pub past_due-left-requires : goal.past_due-left-requires
past_due-left-requires c = record {
  order = grind arith;
  within = grind arith;
  behind = grind arith;
}
