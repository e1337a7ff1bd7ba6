use Rattle.std.proofs.Common.{◌≡◌, ◌+◌, ◌-◌, ◌++◌, ◌∷◌, ℕ, List, [], ap, arith, get_or, length, subst, sym, ◌∙◌, Vec, Global}
use Rattle.gs_model.specs.{Frame.{frame_of, last_round}, Rows.{rows}}
use Rattle.gs_model.proofs.Walked.{last_round_of}
use Rattle.gs_filter.proofs.RowLaws.{length-rows}
use Rattle.gs_tree.specs.Trees.{rules_of}
use Rattle.gs_split.specs.Proposal.{AreFair, AreFairFrom}
use Rattle.gs_split.proofs.Proposed.{fair_last_alone, fair_more}
use Rattle.gs_split.proofs.proposal.all_numbers.Goals as goal

pub loop-round-init : goal.loop-round-init
loop-round-init c =
    let g = rules_of c.args.grouped.now.signals.now in
    let f = frame_of g in
    let lists = c.args.grouped.now.classes.now.lists in
    let r = c.rounds-round.result in
    let is : r ≡ last_round f = omega (arith, c.rounds-round.ensures.value, last_round_of g) in
    let e : c.push.new.self.items ≡ c.args.last ∷ [] = c.in_ok-push.ensures.items
    ∙ ap (λ (xs : List (Vec ℕ Global)). xs ++ c.args.last ∷ []) c.in_ok-numbers.ensures.items in
    record {
      some = omega (arith, c.rounds-round.ensures.some);
      within = omega (arith, is);
      fair = subst (λ (vs : List (Vec ℕ Global)). AreFairFrom f lists r (rows vs)) (sym e) (fair_last_alone f lists c.args.last.items r is c.requires);
    }

pub first_list-below-requires : goal.first_list-below-requires
first_list-below-requires c =
    let i = c.loop-round.invariant in
    omega (arith, i.fair.rounds, i.within, length-rows c.loop-round.numbers.items, ap (λ (vs : List (Vec ℕ Global)). length vs) c.deref.ensures.value)

pub loop-round-preserved : goal.loop-round-preserved
loop-round-preserved c =
    let f = frame_of (rules_of c.args.grouped.now.signals.now) in
    let lists = c.args.grouped.now.classes.now.lists in
    let i = c.loop-round.invariant in
    let numbers = c.loop-round.numbers.items in
    let here = c.in_ok-here.here in
    let round : ℕ = c.loop-round.round - 1 in
    let e : c.loop-round.round ≡ round + 1 = omega (arith, i.some) in
    let items : c.insert.new.self.items ≡ here ∷ numbers = c.in_ok-insert.ensures.items in
    record {
      some = omega (arith, c.loop-round-test.true);
      within = omega (arith, i.within);
      fair = subst (λ (vs : List (Vec ℕ Global)). AreFairFrom f lists round (rows vs)) (sym items)
          (fair_more f lists (rows numbers) here.items round (subst (λ r. AreFairFrom f lists r (rows numbers)) e i.fair) c.in_ok-here.ensures);
    }

pub returns : goal.returns
returns c =
    let i = c.loop-round.invariant in
    let first : c.loop-round.round ≡ 1 = omega (arith, i.some, c.loop-round-test.false) in
    subst (λ r. AreFairFrom (frame_of (rules_of c.args.grouped.now.signals.now)) c.args.grouped.now.classes.now.lists r (rows c.loop-round.numbers.items)) first
    i.fair

pub fair_numbers-requires : goal.fair_numbers-requires
fair_numbers-requires c = record {
  some = omega (arith, c.loop-round-test.true);
  before_last = omega (arith, c.loop-round-test.true, c.loop-round.invariant.within, c.loop-round.invariant.some);
  fair = let f = frame_of (rules_of c.args.grouped.now.signals.now) in
      let lists = c.args.grouped.now.classes.now.lists in
      let i = c.loop-round.invariant in
      let now = rows c.loop-round.numbers.items in
      let at : c.first_list-below.result.now ≡ get_or now 0 [] = c.first_list-below.ensures
      ∙ ap (λ (vs : List (Vec ℕ Global)). get_or (rows vs) 0 []) c.deref.ensures.value in
      let e : c.loop-round.round + 0 ≡ c.loop-round.round - 1 + 1 = omega (arith, i.some) in
      subst (λ (l : List ℕ). AreFair f lists (c.loop-round.round - 1 + 1) l) (sym at)
      (subst (λ r. AreFair f lists r (get_or now 0 [])) e (i.fair.each 0 (omega (arith, i.fair.rounds, i.within))));
}
