use Rattle.std.proofs.lemmas.Grind.{common_steps}
use Rattle.std.proofs.Common.{◌≡◌, ◌+◌, ◌-◌, ◌∙◌, ℕ, Vec, Global, ap, get_or, sym, arith}
use Rattle.gs_filter.specs.Filter.{Filter}
use Rattle.gs_model.specs.Classes.{class_count}
use Rattle.gs_seq.specs.{Games.{frame_in}, Rows.{IsRow, below_class}, declared.pair.Pair.{Pair}}
use Rattle.gs_seq.proofs.CellLaws.{pushed_to, rows_made}
use Rattle.gs_seq.proofs.earlier.rows_above.Goals as goal

pub loop-before-preserved : goal.loop-before-preserved
loop-before-preserved c =
    let s = c.args.lossless.now in
    let above = c.loop-before.above in
    record {
      long = omega (arith, c.in_ok-push.ensures.len, c.loop-before.invariant.long);
      row = pushed_to (λ j (v : Vec Pair Global). IsRow (frame_in s.signals.now.game.now) s.classes.now.lists c.args.round (j + 1) v.items) above.items _
          c.in_ok-row.row c.loop-before.before c.in_ok-push.ensures.items
          (sym above.ok.0 ∙ c.loop-before.invariant.long) c.loop-before.invariant.row c.in_ok-row.ensures;
    }

pub classes-count-requires : goal.classes-count-requires
classes-count-requires c = grind (arith, common_steps)

pub classes_below-requires-clause-before_last : goal.classes_below-requires-clause-before_last
classes_below-requires-clause-before_last c = grind arith

pub returns : goal.returns
returns c =
    let rows = c.loop-before.above in
    rows_made (frame_in c.args.lossless.now.signals.now.game.now) c.args.lossless.now.classes.now.lists c.args.round c.loop-before.before rows.items
    (sym rows.ok.0 ∙ c.loop-before.invariant.long)
    (omega (arith, c.loop-before-test.false, c.loop-before.auto, c.classes-count.ensures, ap (λ (x : Filter). class_count x.lists c.args.round) c.classes-classes.ensures.held))
    c.loop-before.invariant.row

pub row_above-requires : goal.row_above-requires
row_above-requires c = record {
  some = grind arith;
  before_last = omega arith;
  class = grind arith;
  below = let b = c.in_ok-below.ensures in
      let d = c.index.result.now in
      let n = c.loop-before.before in
      let back : n + 1 - 1 ≡ n = omega arith in
      let test = c.loop-before-test.true in
      let each = b.each (n + 1) d (omega arith, omega (arith, test, c.classes-count.ensures)) in
      c.deref.ensures.value ∙ ap (λ (v : Vec ℕ Global). v.items) c.index.ensures ∙ ap (λ j. (get_or c.in_ok-below.below.items j d).items) (sym back) ∙ each
      ∙ ap (λ (x : Filter). below_class x c.args.round (n + 1) (class_count x.lists (c.args.round + 1))) c.classes-classes.ensures.held;
  rows = grind arith;
}

pub index-requires : goal.index-requires
index-requires c = grind arith

pub loop-before-init : goal.loop-before-init
loop-before-init c = grind arith

pub overflow_cast-before : goal.overflow_cast-before
overflow_cast-before c = grind arith

pub overflow_add-before : goal.overflow_add-before
overflow_add-before c = grind arith
