use Rattle.std.proofs.{Common.{◌≡◌, ◌-◌, ◌<◌, length, sym, ◌∙◌, subst, arith, ⊎_elim}, lemmas.Bool.{cases_eq}, lemmas.List.{get_or_default}}
use Rattle.std.specs.Prelude.{slice_index}
use Rattle.gs_play.specs.{Plots.{IsCellOf}, Sides.{side_frame, side_lists}}
use Rattle.gs_play.proofs.{PlotRows.{cell_within}, Tells.{swept_next, swept_none}, sweeping.sweep_row.Goals.{In-loop-cell}}
use Rattle.gs_play.proofs.sweeping.sweep_row.Goals as goal

-- the cell is one of the row's
has : (c : In-loop-cell) → IsCellOf (side_frame c.args.side.now) (side_lists c.args.side.now) c.args.row.point (c.loop-cell.cell - 1)
has c = record {
  inside = c.requires.row.inside;
  from = omega (arith, c.requires.from, c.requires.row.cell, c.loop-cell-test.true);
  below = omega (arith, c.requires.below, c.requires.row.cell, c.loop-cell-test.true, c.loop-cell.invariant.most);
}

pub index-requires : goal.index-requires
index-requires c =
    let within = cell_within (side_frame c.args.side.now) (side_lists c.args.side.now) c.args.row c.requires.row (c.loop-cell.cell - 1)
    (has (goal.at.index-requires c).In-loop-cell) in
    omega (arith, within, c.loop-cell.invariant.swept.room.turns, c.loop-cell.tally.dues.turns.ok.0)

pub loop-cell-preserved-then-index-clock : goal.loop-cell-preserved-then-index-clock
loop-cell-preserved-then-index-clock c =
    let cell = c.loop-cell.cell in
    let was = c.loop-cell.invariant in
    let new = c.settle.new.tally in
    let is = c.settle.ensures in
    record {
      most = omega (arith, was.most);
      none = λ k lo hi. ⊎_elim
          (λ (same : k ≡ cell - 1). subst (λ i. c.args.clock.turn < slice_index new.dues.turns.items i) (sym same) is.later)
          (λ (other : k ≡ cell - 1 → ⊥).
          let e = is.behind k (omega (arith, lo, other)) in
          let h = was.none k (omega (arith, lo, other, c.loop-cell-test.true)) (omega (arith, hi, is.room.turns, was.swept.room.turns)) in
          omega (arith, e, h))
          (cases_eq k (cell - 1));
      swept = swept_next (side_frame c.args.side.now) (side_lists c.args.side.now) c.args.side.now.player c.args.clock.turn c.args.tally.now c.loop-cell.tally
          new was.swept (record {
            room = is.room;
            tells = is.tells;
            kept = λ pays rise few h. is.kept pays rise few (λ k lo hi. was.none k (omega (arith, lo, c.loop-cell-test.true)) hi) h;
          });
    }

pub settle-requires : goal.settle-requires
settle-requires c = record {
  row = c.requires.row;
  cell = has (goal.at.settle-requires c).In-loop-cell;
  way = c.way_to_point-way.ensures;
  room = c.loop-cell.invariant.swept.room;
}

pub loop-cell-preserved : goal.loop-cell-preserved
loop-cell-preserved c =
    let cell = c.loop-cell.cell in
    let turns = c.loop-cell.tally.dues.turns.items in
    let was = c.loop-cell.invariant in
    record {
      most = omega (arith, was.most);
      none = λ k lo hi. ⊎_elim
          (λ (same : k ≡ cell - 1).
          let there : cell - 1 < length turns = omega (arith, same, hi) in
          let read : c.index.result.now ≡ slice_index turns (cell - 1) = c.index.ensures ∙ sym (get_or_default turns (cell - 1) 0 c.index.result.now there) in
          subst (λ i. c.args.clock.turn < slice_index turns i) (sym same) (subst (λ t. c.args.clock.turn < t) read c.if-index-clock.false))
          (λ (other : k ≡ cell - 1 → ⊥). was.none k (omega (arith, lo, other, c.loop-cell-test.true)) hi)
          (cases_eq k (cell - 1));
      swept = was.swept;
    }

pub returns-clause-settled : goal.returns-clause-settled
returns-clause-settled c = λ k lo hi. c.loop-cell.invariant.none k (omega (arith, lo, c.loop-cell-test.false)) hi

pub returns-clause-swept : goal.returns-clause-swept
returns-clause-swept c = c.loop-cell.invariant.swept

pub loop-cell-init : goal.loop-cell-init
loop-cell-init c = record {
  most = grind arith;
  none = c.requires.behind;
  swept = swept_none (side_frame c.args.side.now) (side_lists c.args.side.now) c.args.side.now.player c.args.clock.turn c.args.tally.now c.requires.room;
}

pub loop-cell-smaller : goal.loop-cell-smaller
loop-cell-smaller c = grind arith
