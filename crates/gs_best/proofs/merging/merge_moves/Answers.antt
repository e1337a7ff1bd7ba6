use Rattle.std.proofs.lemmas.Grind.{common_steps}
use Rattle.std.proofs.Common.{◌≡◌, ◌≢◌, ◌+◌, ◌*◌, ◌^◌, ◌<◌, ◌∙◌, sym, subst, arith}
use Rattle.gs_model.specs.Frame.{move_count, player_at}
use Rattle.gs_best.specs.{Rows.{AreGreatest, AreSums}, ClassTotals.{total_worth}, WalkPoints.{frame_on, lists_on, totals_on}}
use Rattle.gs_best.proofs.{Greatest.{greatest_step, sum_fits, sum_step}, Modest.{worth_modest, worths_modest}}
use Rattle.gs_best.proofs.merging.merge_moves.Goals.{then-chooser-at, else-chooser-at}
use Rattle.gs_best.proofs.merging.merge_moves.Goals as goal

pub loop-choice-preserved : goal.loop-choice-preserved
loop-choice-preserved c =
    let at = c.args.at.now in
    let f = frame_on at in
    let lists = lists_on at in
    let worth = total_worth f lists (totals_on at) in
    let n = c.loop-choice.choice in
    let read = c.read_worths-read.result.now in
    let old = c.loop-choice.best in
    elim c.if-chooser-at.branch [
      | then-chooser-at w ↦ record {
        own = λ e some. subst (λ best. AreGreatest f lists worth at.point (n + 1) best c.if-chooser-at.moves) (sym w.best-is)
            (subst (AreGreatest f lists worth at.point (n + 1) w.raise.new.best) (sym w.moves-is)
            (greatest_step f lists worth at.point n at.count at.count_is read c.read_worths-read.ensures.worths old w.raise.new.best c.loop-choice.moves
            w.raise.new.moves w.raise.ensures.raised (c.loop-choice.invariant.own e)));
        others = λ ne some. absurd (ne (sym c.chooser.ensures ∙ w.if-chooser-at.true));
      }
      | else-chooser-at w ↦ record {
        own = λ e some. absurd (w.if-chooser-at.false (c.chooser.ensures ∙ e));
        others = λ ne some. subst (AreSums f lists worth at.point (n + 1)) (sym w.best-is)
            (sum_step f lists worth at.point n at.count at.count_is read c.read_worths-read.ensures.worths old w.add.new.sums w.add.ensures.added
            (c.loop-choice.invariant.others ne));
      }
    ]

pub returns : goal.returns
returns c =
    let at = c.args.at.now in
    let f = frame_on at in
    let lists = lists_on at in
    let worth = total_worth f lists (totals_on at) in
    let all : c.loop-choice.choice ≡ move_count f at.point =
    omega (arith, c.loop-choice-test.false, c.loop-choice.auto.choice-end, c.move_total-choice-end.ensures.value) in
    let some : 0 < c.loop-choice.choice = omega (arith, c.loop-choice-test.false, c.loop-choice.auto.choice-end, c.move_total-choice-end.ensures.some) in
    record {
      own = λ e. subst (λ n. AreGreatest f lists worth at.point n c.loop-choice.best c.loop-choice.moves) all (c.loop-choice.invariant.own e some);
      others = λ ne. subst (λ n. AreSums f lists worth at.point n c.loop-choice.best) all (c.loop-choice.invariant.others ne some);
    }

pub loop-choice-init : goal.loop-choice-init
loop-choice-init c = record { own = λ e some. absurd (omega (arith, some)); others = λ ne some. absurd (omega (arith, some)) }

pub read_worths-read-requires : goal.read_worths-read-requires
read_worths-read-requires c = record { choice = grind arith; row = grind arith; numbers = grind arith; wide = grind arith }

pub raise-requires : goal.raise-requires
raise-requires c = grind (arith, common_steps)

pub add-requires : goal.add-requires
add-requires c = record {
  worths = grind arith;
  sums = grind arith;
  fits = let at = c.args.at.now in
      let in_moves : c.loop-choice.choice < move_count (frame_on at) at.point = omega (arith, c.loop-choice-test.true, c.move_total-choice-end.ensures.value) in
      let other : player_at (frame_on at) at.point ≢ at.side.player = λ e. c.if-chooser-at.false (c.chooser.ensures ∙ e) in
      λ i l some.
      sum_fits (frame_on at) (lists_on at) (total_worth (frame_on at) (lists_on at) (totals_on at)) at.point c.loop-choice.choice at.count at.count_is
      c.read_worths-read.result.now c.read_worths-read.ensures.worths c.loop-choice.best (26 * (200000 * 2 ^ 90)) (200000 * 2 ^ 90) (omega arith)
      (c.loop-choice.invariant.others other some)
      (λ e. worths_modest at.side (totals_on at) at.point e c.loop-choice.choice at.modest at.inside (omega (arith, in_moves)))
      (λ e. worth_modest at.side (totals_on at) at.point c.loop-choice.choice e at.modest at.inside in_moves) i l;
}
