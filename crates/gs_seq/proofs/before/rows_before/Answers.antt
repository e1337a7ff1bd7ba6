use Rattle.std.proofs.{Common.{◌≡◌, ◌+◌, ◌∙◌, ap, Vec, Global, length, sym, arith}, lemmas.List.{length_push}}
use Rattle.gs_model.specs.Frame.{last_round}
use Rattle.gs_model.proofs.Walked.{last_round_of}
use Rattle.gs_tree.specs.Trees.{rules_of}
use Rattle.gs_seq.specs.{Games.{frame_in}, declared.pair.Pair.{Pair}}
use Rattle.gs_seq.proofs.CellLaws.{AreRowsOf, pushed_to}
use Rattle.gs_seq.proofs.before.rows_before.Goals as goal

pub loop-before-preserved : goal.loop-before-preserved
loop-before-preserved c =
    let rows = c.loop-before.rows in
    let x = c.in_ok-at.at in
    record {
      long = ap length c.in_ok-push.ensures.items ∙ length_push rows.items x ∙ ap (λ n. n + 1) c.loop-before.invariant.long;
      rows = pushed_to (λ j (v : Vec (Vec Pair Global) Global). AreRowsOf c.args.lossless.now (j + 1) v.items) rows.items _ x c.loop-before.before
          c.in_ok-push.ensures.items c.loop-before.invariant.long c.loop-before.invariant.rows c.in_ok-at.ensures;
    }

pub returns : goal.returns
returns c = record {
  long = let last : c.rounds-count.result ≡ last_round (frame_in c.args.lossless.now.signals.now.game.now) =
      c.rounds-count.ensures.value ∙ sym (last_round_of (rules_of c.args.lossless.now.signals.now)) in
      omega (arith, c.loop-before.invariant.long, last, c.rounds-count.ensures.some, c.loop-before-test.false, c.loop-before.auto.before-end);
  rows = omega arith;
}

pub rows_at-requires-clause-before_last : goal.rows_at-requires-clause-before_last
rows_at-requires-clause-before_last c = omega arith

pub loop-before-init : goal.loop-before-init
loop-before-init c = grind arith

pub overflow_add-before : goal.overflow_add-before
overflow_add-before c = grind arith
