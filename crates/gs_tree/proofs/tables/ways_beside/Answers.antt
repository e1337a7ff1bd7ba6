use Rattle.std.proofs.{Common.{◌≡◌, ◌-◌, ◌<◌, ◌≤◌, ℕ, List, length, get_or, subst, sym, ap, ◌∙◌, arith, take_all}, lemmas.Grind.{common_steps}}
use Rattle.gs_model.specs.Cards.{ways, left_after}
use Rattle.gs_model.proofs.Listed.{length-after}
use Rattle.gs_card.proofs.TakenCards.{ways_more, few_ways, ways-none}
use Rattle.gs_tree.proofs.{Beside.{beside_read, four_few, four_taken}, Paths.{at_three, few_product}}
use Rattle.gs_tree.proofs.tables.ways_beside.Goals as goal

pub loop-i-init : goal.loop-i-init
loop-i-init c = record {
  counted = sym (ways-none (left_after (left_after (left_after c.args.deck.now.counts c.args.held.now) c.args.board.now)
      c.args.before.now));
  small = omega arith;
}

pub overflow_mul-ways : goal.overflow_mul-ways
overflow_mul-ways c =
    let counts : List ℕ = c.args.deck.now.counts in
    let card : ℕ = c.index-own-i.result in
    let here : card < length counts =
    subst (λ (n : ℕ). n < length counts) (sym c.index-own-i.is) (subst (λ (n : ℕ). get_or c.args.own.now c.loop-i.i card < n)
    (sym c.requires.deck.counted) (c.requires.own_in c.loop-i.i card c.loop-i-test.true)) in
    let few : get_or counts card 0 ≤ 9 = c.requires.deck.copies card 0 here in
    let rest : c.saturating_sub-rest.result ≤ 9 =
    four_few _ _ _ _ _ _ _ _ c.times-again.result _ 9 (c.from.ensures ∙ c.count.ensures) c.saturating_sub.ensures c.saturating_sub-in-loop-i.ensures
    c.saturating_sub-in-loop-i-2.ensures c.saturating_sub-rest.ensures few in
    let fits = few_product c.loop-i.ways c.saturating_sub-rest.result c.loop-i.i (omega (arith, c.requires.own_few)) c.loop-i.invariant.small
    rest in
    omega (arith, fits)

pub loop-i-preserved : goal.loop-i-preserved
loop-i-preserved c =
    let counts : List ℕ = c.args.deck.now.counts in
    let left : List ℕ = left_after (left_after (left_after counts c.args.held.now) c.args.board.now) c.args.before.now in
    let own : List ℕ = c.args.own.now in
    let i : ℕ = c.loop-i.i in
    let card : ℕ = c.index-own-i.result in
    let here : card < length counts =
    subst (λ (n : ℕ). n < length counts) (sym c.index-own-i.is) (subst (λ (n : ℕ). get_or own i card < n)
    (sym c.requires.deck.counted) (c.requires.own_in i card c.loop-i-test.true)) in
    let there : card < length left = omega (
      arith,
      here,
      length-after (left_after (left_after counts c.args.held.now) c.args.board.now) c.args.before.now,
      length-after (left_after counts c.args.held.now) c.args.board.now,
      length-after counts c.args.held.now,
    ) in
    let few : get_or counts card 0 ≤ 9 = c.requires.deck.copies card 0 here in
    let read = beside_read counts c.args.held.now c.args.board.now c.args.before.now card in
    let copies : c.from.result ≡ get_or counts card 0 = c.from.ensures ∙ c.count.ensures in
    let rest : c.saturating_sub-rest.result ≡ get_or left card 0 - c.times-again.result =
    four_taken _ _ _ _ _ _ _ _ c.times-again.result _ _ _ _ _ copies c.saturating_sub.ensures c.saturating_sub-in-loop-i.ensures
    c.saturating_sub-in-loop-i-2.ensures c.saturating_sub-rest.ensures c.times.ensures.value c.times-in-loop-i.ensures.value c.times-in-loop-i-2.ensures.value
    read in
    let less : get_or left card 0 ≤ 9 = omega (arith, read, few) in
    record {
      counted = c.shared-ways.ensures ∙ ways_more left own i card c.loop-i.ways c.saturating_sub-rest.result c.times-again.result
          (omega arith) c.index-own-i.is there c.loop-i.invariant.counted c.times-again.ensures.value rest;
      small = omega (
        arith,
        c.shared-ways.ensures,
        few_ways c.loop-i.ways c.saturating_sub-rest.result (get_or left card 0) c.times-again.result i
            c.loop-i.invariant.small less rest,
      );
    }

pub shared-ways-requires : goal.shared-ways-requires
shared-ways-requires c = grind (arith, common_steps)

pub returns : goal.returns
returns c = record {
  value = c.loop-i.invariant.counted ∙ ap (ways (left_after (left_after (left_after c.args.deck.now.counts c.args.held.now) c.args.board.now) c.args.before.now))
      (take_all c.loop-i.i c.args.own.now c.loop-i-test.false);
  small = at_three c.loop-i.ways c.loop-i.i (omega (arith, c.requires.own_few)) c.loop-i.invariant.small;
}

pub count-requires : goal.count-requires
count-requires c = grind arith

pub slice_bounds-times-end : goal.slice_bounds-times-end
slice_bounds-times-end c = grind (arith, common_steps)
