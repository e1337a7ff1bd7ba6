use Rattle.std.proofs.lemmas.Grind.{common_steps}
use Rattle.std.proofs.{Common.{◌≡◌, ◌-◌, ◌/◌, ◌<◌, length, sym, ap, ◌∙◌, arith, ⊎_elim}, lemmas.Bool.{cases_eq}, lemmas.List.{get_or_default}}
use Rattle.std.specs.Prelude.{slice_index}
use Rattle.gs_play.specs.Sides.{side_frame, side_lists}
use Rattle.gs_play.proofs.Tells.{swept_next, swept_none}
use Rattle.gs_play.proofs.sweeping.sweep.Goals as goal

pub loop-block-preserved-then-index-clock : goal.loop-block-preserved-then-index-clock
loop-block-preserved-then-index-clock c = record {
  none = c.sweep_block.ensures.settled;
  swept = swept_next (side_frame c.args.side.now) (side_lists c.args.side.now) c.args.side.now.player c.args.clock.turn c.args.tally.now c.loop-block.tally
      c.sweep_block.new.tally c.loop-block.invariant.swept c.sweep_block.ensures.swept;
}

pub loop-block-init : goal.loop-block-init
loop-block-init c = record {
  none = grind arith;
  swept = swept_none (side_frame c.args.side.now) (side_lists c.args.side.now) c.args.side.now.player c.args.clock.turn c.args.tally.now c.requires.room;
}

pub loop-block-preserved : goal.loop-block-preserved
loop-block-preserved c =
    let block = c.loop-block.block - 1 in
    let dues = c.loop-block.tally.dues in
    let was = c.loop-block.invariant in
    let there : block < length dues.soonest.items =
    omega (
      arith,
      c.loop-block-test.true,
      c.loop-block.auto.block,
      c.len-block.ensures,
      c.args.tally.now.dues.soonest.ok.0,
      was.swept.room.blocks,
      c.requires.room.blocks,
    ) in
    let read : c.index.result.now ≡ slice_index dues.soonest.items block =
    c.index.ensures ∙ sym (get_or_default dues.soonest.items block 0 c.index.result.now there) in
    record {
      none = λ k lo hi. ⊎_elim
          (λ (same : k / 64 ≡ block).
          let soonest = ap (λ i. slice_index dues.soonest.items i) same in
          omega (arith, was.swept.room.dues.least k hi, soonest, read, c.if-index-clock.false))
          (λ (other : k / 64 ≡ block → ⊥). was.none k (omega (arith, lo, other, c.loop-block-test.true)) hi)
          (cases_eq (k / 64) block);
      swept = was.swept;
    }

pub sweep_block-requires-clause-room : goal.sweep_block-requires-clause-room
sweep_block-requires-clause-room c = c.loop-block.invariant.swept.room

pub sweep_block-requires-clause-behind : goal.sweep_block-requires-clause-behind
sweep_block-requires-clause-behind c = λ k lo hi. c.loop-block.invariant.none k (omega (arith, lo, c.loop-block-test.true)) hi

pub returns : goal.returns
returns c = grind (arith, common_steps)

pub sweep_block-requires-clause-block : goal.sweep_block-requires-clause-block
sweep_block-requires-clause-block c = omega arith
