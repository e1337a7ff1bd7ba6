use Rattle.std.proofs.Common.{◌≡◌, ◌+◌, ◌<◌, ◌≤◌, sym, subst, arith}
use Rattle.gs_model.specs.{Frame.{frame_of}, Game.{round_count}, Signals.{first_child}}
use Rattle.gs_model.proofs.Ranges.{signal_count_is}
use Rattle.gs_tree.specs.Trees.{rules_of}
use Rattle.gs_lossless.specs.Amounts.{IsRunIn}
use Rattle.gs_lossless.proofs.Descent.{playable, run_more, run_start}
use Rattle.gs_lossless.proofs.runs.descendants_in.Goals as goal

pub loop-at-init : goal.loop-at-init
loop-at-init c =
    let g = rules_of c.args.signals.now in
    let p = playable c.args.signals.now in
    record {
      to = omega (arith, c.requires.onward, c.requires.top);
      run = run_start g p c.args.round c.args.signal (let n = signal_count_is g c.args.round c.requires.some
          (omega (arith, c.requires.onward, c.requires.top)) in omega (arith, n, c.requires.in_range));
    }

pub first_below-first-requires-clause-in_range : goal.first_below-first-requires-clause-in_range
first_below-first-requires-clause-in_range c =
    let n = signal_count_is (rules_of c.args.signals.now) c.loop-at.at (omega arith) c.loop-at.invariant.to in
    omega (arith, n, c.loop-at.invariant.run.ordered, c.loop-at.invariant.run.within)

pub first_below-end-requires-clause-in_range : goal.first_below-end-requires-clause-in_range
first_below-end-requires-clause-in_range c =
    let n = signal_count_is (rules_of c.args.signals.now) c.loop-at.at (omega arith) c.loop-at.invariant.to in
    omega (arith, n, c.loop-at.invariant.run.within)

pub loop-at-preserved : goal.loop-at-preserved
loop-at-preserved c =
    let g = rules_of c.args.signals.now in
    let p = playable c.args.signals.now in
    let i = c.loop-at.invariant in
    let lt : c.loop-at.at < round_count g = omega arith in
    let le : c.args.round ≤ c.loop-at.at = omega arith in
    let more = run_more g p c.loop-at.at c.args.round c.args.signal c.loop-at.first c.loop-at.end c.requires.some le lt i.run in
    record {
      to = omega arith;
      run = subst (λ a. IsRunIn (frame_of g) (c.loop-at.at + 1) c.args.round c.args.signal a c.first_below-end.result) (sym c.first_below-first.ensures)
          (subst (λ b. IsRunIn (frame_of g) (c.loop-at.at + 1) c.args.round c.args.signal (first_child g c.loop-at.at c.loop-at.first) b)
          (sym c.first_below-end.ensures) more);
    }

pub returns : goal.returns
returns c =
    let g = rules_of c.args.signals.now in
    let e : c.loop-at.at ≡ c.args.to = omega arith in
    subst (λ k. IsRunIn (frame_of g) k c.args.round c.args.signal c.loop-at.first c.loop-at.end) e c.loop-at.invariant.run
