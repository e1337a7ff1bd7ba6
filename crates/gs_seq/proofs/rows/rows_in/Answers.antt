use Rattle.std.proofs.lemmas.Grind.{common_steps}
use Rattle.std.proofs.Common.{◌+◌, ◌∙◌, Vec, sym, arith}
use Rattle.std.specs.declared.alloc.Global.{Global}
use Rattle.gs_model.specs.Lossless.{IsLossless}
use Rattle.gs_lossless.proofs.AspectOf.{as_asked}
use Rattle.gs_seq.specs.{Games.{frame_in}, Rows.{AreRowsIn, IsRow}, declared.pair.Pair.{Pair}}
use Rattle.gs_seq.proofs.CellLaws.{pushed_to, rows_made}
use Rattle.gs_seq.proofs.rows.rows_in.Goals as goal

pub class_row-requires : goal.class_row-requires
class_row-requires c = record {
  aspect = grind arith;
  lossless = let at = c.in_ok-deals.ensures in
      as_asked (λ s k a m. IsLossless (frame_in s.game.now) k.lists) (sym at.signals) (sym at.classes) (sym at.aspect.0, sym at.aspect.1)
      c.args.lossless.now.lossless;
  class = (omega (arith), omega (arith, c.loop-before-test.true, c.classes-count.ensures));
}

pub loop-before-preserved : goal.loop-before-preserved
loop-before-preserved c =
    let rows = c.loop-before.rows in
    let at = c.in_ok-deals.deals in
    record {
      long = omega (arith, c.in_ok-push.ensures.len, c.loop-before.invariant.long);
      row = pushed_to (λ j (v : Vec Pair Global). IsRow (frame_in at.signals.now.game.now) at.classes.now.lists at.round (j + 1) v.items) rows.items
          _ c.in_ok-row.row c.loop-before.before c.in_ok-push.ensures.items
          (sym rows.ok.0 ∙ c.loop-before.invariant.long) c.loop-before.invariant.row c.in_ok-row.ensures;
    }

pub returns : goal.returns
returns c =
    let at = c.in_ok-deals.ensures in
    let d = c.in_ok-deals.deals in
    let rows = c.loop-before.rows in
    as_asked (λ s k a m. AreRowsIn (frame_in s.game.now) k.lists m rows.items) at.signals at.classes at.aspect
    (rows_made (frame_in d.signals.now.game.now) d.classes.now.lists d.round c.loop-before.before rows.items (sym rows.ok.0 ∙ c.loop-before.invariant.long)
    (omega (arith, c.loop-before-test.false, c.loop-before.auto, c.classes-count.ensures)) c.loop-before.invariant.row)

pub classes-count-requires : goal.classes-count-requires
classes-count-requires c = grind (arith, common_steps)
