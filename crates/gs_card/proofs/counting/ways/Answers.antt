use Rattle.std.proofs.lemmas.Grind.{common_steps}
use Rattle.std.proofs.Common.{◌≡◌, ◌<◌, ◌-◌, ℕ, List, All, length, get_or, arith, ap, sym, ◌∙◌, subst}
use Rattle.gs_card.proofs.TakenCards.{ways_more, few_ways, ways-none}
use Rattle.gs_card.proofs.counting.ways.Goals as goal

pub loop-i-init : goal.loop-i-init
loop-i-init c = record { counted = sym (ways-none c.args.left.now); small = omega arith }

pub loop-i-preserved : goal.loop-i-preserved
loop-i-preserved c =
    let left : List ℕ = c.args.left.now in
    let card : ℕ = c.index-cards-i.result in
    let number : c.from.result ≡ card = c.from.ensures ∙ c.number.ensures in
    let InRange : List ℕ → Type 0 = λ g. All (λ x. x < length left) g in
    let within : get_or c.cards-cards.result.now c.loop-i.i card < length left = subst InRange (sym c.cards-cards.ensures.cards) c.requires.in_range c.loop-i.i
    card (omega arith) in
    let here : card < length left = omega (arith, within, c.index-cards-i.is) in
    let copies : c.from-copies.result ≡ get_or left card 0 = c.from-copies.ensures ∙ ap (λ k. get_or left k 0) number in
    let rest : c.saturating_sub.result ≡ get_or left card 0 - c.times-taken.result = c.saturating_sub.ensures ∙ ap (λ k. k - c.times-taken.result) copies in
    record {
      counted = ways_more left _ c.loop-i.i card _ _ _ (omega arith) c.index-cards-i.is here c.loop-i.invariant.counted c.times-taken.ensures.value rest;
      small = few_ways c.loop-i.ways _ (get_or left card 0) _ c.loop-i.i c.loop-i.invariant.small (c.requires.few_copies card 0 here) rest;
    }

pub bounds-left-from : goal.bounds-left-from
bounds-left-from c = grind arith

pub returns : goal.returns
returns c = grind (arith, common_steps)

pub overflow_add-ways : goal.overflow_add-ways
overflow_add-ways c = grind arith

pub slice_bounds-times-end : goal.slice_bounds-times-end
slice_bounds-times-end c = grind arith
