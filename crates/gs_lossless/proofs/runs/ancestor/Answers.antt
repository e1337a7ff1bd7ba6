use Rattle.std.proofs.Common.{◌≡◌, ◌-◌, ◌<◌, ℕ, List, ap, get_or, length, sym, ◌∙◌, subst, arith}
use Rattle.gs_model.specs.{Frame.{ancestor, frame_of}, Signals.{signals}}
use Rattle.gs_model.proofs.{Ranges.{length-parents}, Walked.{last_round_of}}
use Rattle.gs_tree.specs.Trees.{rules_of}
use Rattle.gs_lossless.proofs.Descent.{climb, climb_in, playable, tabled}
use Rattle.gs_lossless.proofs.runs.ancestor.Goals as goal

pub loop-at-init : goal.loop-at-init
loop-at-init c =
    let g = rules_of c.args.signals.now in
    let n = c.rounds-at.ensures.value in
    record {
      from = omega arith;
      to = omega arith;
      within = subst (λ k. c.args.signal < length (signals g k)) (sym n) c.requires.in_range;
      same = ap (λ k. ancestor (frame_of g) k c.args.round c.args.signal) (n ∙ sym (last_round_of g));
    }

pub bounds-parents_in-place : goal.bounds-parents_in-place
bounds-parents_in-place c =
    let g = rules_of c.args.signals.now in
    omega (arith, c.loop-at.invariant.within, ap (λ (l : List ℕ). length l) c.parents_in.ensures, length-parents g c.loop-at.at)

pub loop-at-preserved : goal.loop-at-preserved
loop-at-preserved c =
    let g = rules_of c.args.signals.now in
    let p = playable c.args.signals.now in
    let i = c.loop-at.invariant in
    let read = ap (λ (l : List ℕ). get_or l c.loop-at.place 0) c.parents_in.ensures in
    record {
      from = omega arith;
      to = omega arith;
      within = let w = climb_in g p c.loop-at.at c.loop-at.place (omega arith) i.to i.within in omega (arith, w, read);
      same = ap (ancestor (frame_of g) (c.loop-at.at - 1) c.args.round) read
          ∙ climb g p c.args.round c.loop-at.at c.loop-at.place c.requires.some c.loop-at-test.true i.to ∙ i.same;
    }

pub returns : goal.returns
returns c = record {
  value = let g = rules_of c.args.signals.now in
      let p = playable c.args.signals.now in
      let here : c.loop-at.at ≡ c.args.round = omega arith in
      sym ((tabled g p).itself c.args.round c.loop-at.place) ∙ ap (λ k. ancestor (frame_of g) k c.args.round c.loop-at.place) (sym here)
      ∙ c.loop-at.invariant.same;
  within = grind arith;
}
