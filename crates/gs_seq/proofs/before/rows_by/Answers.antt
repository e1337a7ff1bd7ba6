use Rattle.std.proofs.lemmas.Grind.{common_steps}
use Rattle.std.proofs.Common.{◌+◌, ◌∙◌, Vec, sym, arith}
use Rattle.std.specs.declared.alloc.Global.{Global}
use Rattle.gs_tree.specs.Trees.{rules_of}
use Rattle.gs_seq.specs.{Games.{frame_in}, Rows.{IsRow}, declared.pair.Pair.{Pair}}
use Rattle.gs_seq.proofs.{CellLaws.{pushed_to, rows_made}, SlotLaws.{over}, Stopped.{in_stopped}}
use Rattle.gs_seq.proofs.before.rows_by.Goals as goal
use Rattle.gs_model.proofs.Walked.{last_round_of}

pub of-requires-clause-aspect : goal.of-requires-clause-aspect
of-requires-clause-aspect c = in_stopped c.args.at.now.lossless.now.signals.now.game.now c.args.at.now.stopped.now.game.now c.args.at.now.round c.args.at.now.some
    (omega (arith, c.args.at.now.before_last)) c.args.at.now.stops

pub classes-count-requires-clause-top : goal.classes-count-requires-clause-top
classes-count-requires-clause-top c =
    omega (
      arith,
      c.args.at.now.before_last,
      last_round_of (rules_of c.args.at.now.lossless.now.signals.now),
      (over (frame_in c.args.at.now.lossless.now.signals.now.game.now) c.args.at.now.lossless.now.classes.now c.args.at.now.lossless.now.parents).rounds,
    )

pub loop-before-preserved : goal.loop-before-preserved
loop-before-preserved c =
    let rows = c.loop-before.rows in
    record {
      long = omega (arith, c.in_ok-push.ensures.len, c.loop-before.invariant.long);
      row = pushed_to (λ j (v : Vec Pair Global). IsRow (frame_in c.args.at.now.lossless.now.signals.now.game.now) c.args.at.now.lossless.now.classes.now.lists c.args.at.now.round
          (j + 1) v.items) rows.items _ c.in_ok-row.row c.loop-before.before c.in_ok-push.ensures.items
          (sym rows.ok.0 ∙ c.loop-before.invariant.long) c.loop-before.invariant.row c.in_ok-row.ensures;
    }

pub row_by-requires : goal.row_by-requires
row_by-requires c = grind (arith, common_steps)

pub returns : goal.returns
returns c =
    let rows = c.loop-before.rows in
    rows_made (frame_in c.args.at.now.lossless.now.signals.now.game.now) c.args.at.now.lossless.now.classes.now.lists c.args.at.now.round c.loop-before.before rows.items
    (sym rows.ok.0 ∙ c.loop-before.invariant.long)
    (omega (arith, c.loop-before-test.false, c.loop-before.auto, c.classes-count.ensures))
    c.loop-before.invariant.row

pub loop-before-init : goal.loop-before-init
loop-before-init c = grind arith

pub overflow_add-before : goal.overflow_add-before
overflow_add-before c = grind arith
