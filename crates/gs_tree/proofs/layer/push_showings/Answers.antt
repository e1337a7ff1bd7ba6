use Rattle.std.proofs.lemmas.Grind.{common_steps}
use Rattle.std.proofs.Common.{◌≡◌, ◌++◌, ◌*◌, ℕ, List, map, length, ◌<◌, ◌≤◌, get_or, take_all, ap, subst, sym, ◌∙◌, arith, All}
use Rattle.std.specs.Prelude.{OnOk, flat_map}
use Rattle.gs_model.specs.{Cards.{groups, ways, left_after}, Signals.{Seen}}
use Rattle.gs_card.specs.Groups.{IsGroup}
use Rattle.gs_game.specs.Games.{round_rules}
use Rattle.gs_tree.specs.{Layers.{AreFew, showing}, Shown.{seen_of, cards_of}}
use Rattle.gs_tree.proofs.Pushed.{item_has, edges_alone, edges_of, joined_more, shown_alone}
use Rattle.gs_tree.proofs.layer.push_showings.Goals as goal

pub loop-own-preserved : goal.loop-own-preserved
loop-own-preserved c =
    let left : List ℕ = c.args.left.now in
    let owns : List (List ℕ) = groups left c.args.round.now.private in
    let size : ℕ = c.args.round.now.public in
    let own : List ℕ = c.own-item.result in
    let i : ℕ = c.loop-own.own-index in
    let shows : List ℕ → List Seen = λ o. map (showing o) (groups (left_after left o) size) in
    let edges : List ℕ → List ℕ = λ o. map (λ g. ways left o * ways (left_after left o) g) (groups (left_after left o) size) in
    let at : own ≡ get_or owns i own = c.own-item.is ∙ ap (λ l. get_or l i own) (c.deref-own-items.ensures.value ∙ c.in_ok-groups.ensures.all) in
    let rest : c.deref.result.now ≡ left_after left own = c.deref.ensures.value ∙ c.take_cards.ensures.value
    ∙ ap (λ l. left_after l c.cards.result.now) c.in_ok-rest.ensures.items ∙ ap (left_after left) c.cards.ensures.cards in
    let here : i < length owns =
    subst (λ (l : List (List ℕ)). i < length l) (c.deref-own-items.ensures.value ∙ c.in_ok-groups.ensures.all) c.loop-own-test.true in
    record {
      shown = c.in_ok-push_publics.ensures.shown ∙ joined_more shows (map seen_of c.args.layer.now.shown.items) (map seen_of c.loop-own.layer.shown.items)
          (map (showing (cards_of c.of.result)) (groups c.deref.result.now size)) owns i own here c.loop-own.invariant.shown
          (ap (λ x. map (showing x) (groups c.deref.result.now size)) c.of.ensures ∙ ap (λ r. map (showing own) (groups r size)) rest ∙ ap shows at);
      edges = c.in_ok-push_publics.ensures.edges ∙ joined_more edges c.args.layer.now.edges c.loop-own.layer.edges
          (map (λ g. c.few_ways-own_ways.result * ways c.deref.result.now g) (groups c.deref.result.now size)) owns i own here c.loop-own.invariant.edges
          (ap (λ w. map (λ g. w * ways c.deref.result.now g) (groups c.deref.result.now size)) c.few_ways-own_ways.ensures.value
          ∙ ap (λ r. map (λ g. ways left own * ways r g) (groups r size)) rest ∙ ap edges at);
      firsts = c.in_ok-push_publics.ensures.firsts ∙ c.loop-own.invariant.firsts;
    }

pub returns-then-round-eq0-clause-shown : goal.returns-then-round-eq0-clause-shown
returns-then-round-eq0-clause-shown c =
    let left : List ℕ = c.args.left.now in
    let P : List Seen → Type 0 = λ l.
    OnOk c.push_publics.result (map seen_of c.push_publics.new.layer.shown.items ≡ map seen_of c.args.layer.now.shown.items ++ l) in
    subst P (ap (λ o. map (showing o) (groups left c.args.round.now.public)) c.none.ensures
    ∙ sym (shown_alone left (round_rules c.args.round.now) c.if-round-eq0.true)) c.push_publics.ensures.shown

pub returns-then-round-eq0-clause-edges : goal.returns-then-round-eq0-clause-edges
returns-then-round-eq0-clause-edges c =
    let P : List ℕ → Type 0 = λ l. OnOk c.push_publics.result (c.push_publics.new.layer.edges ≡ c.args.layer.now.edges ++ l) in
    subst P (sym (edges_alone c.args.left.now (round_rules c.args.round.now) c.if-round-eq0.true)) c.push_publics.ensures.edges

pub push_publics-requires-in-loop-own : goal.push_publics-requires-in-loop-own
push_publics-requires-in-loop-own c = record {
  counted = ap (λ (l : List ℕ). length l) c.deref.ensures.value ∙ c.take_cards.ensures.len
      ∙ ap (λ (l : List ℕ). length l) c.in_ok-rest.ensures.items ∙ c.requires.counted;
  few_left = subst AreFew (sym c.deref.ensures.value) (record {
    kinds = omega (arith, c.take_cards.ensures.len, ap (λ (l : List ℕ). length l) c.in_ok-rest.ensures.items, c.requires.few_left.kinds);
    copies = c.take_cards.ensures.few;
  });
  small = c.requires.small_public;
  few_ways = c.few_ways-own_ways.ensures.few;
}

pub returns-in_err-push_publics-clause-firsts : goal.returns-in_err-push_publics-clause-firsts
returns-in_err-push_publics-clause-firsts c = c.push_publics-in-loop-own.ensures.firsts ∙ c.loop-own.invariant.firsts

pub of-requires : goal.of-requires
of-requires c =
    let h = item_has (IsGroup c.args.left.now c.args.round.now.private) c.in_ok-groups.field-0.items c.deref-own-items.result.now c.loop-own.own-index
    c.own-item.result c.deref-own-items.ensures.value c.in_ok-groups.ensures.each c.loop-own-test.true c.own-item.is in
    omega (arith, h.sized, c.requires.small_private)

pub take_cards-requires : goal.take_cards-requires
take_cards-requires c = subst (All (λ (n : ℕ). n ≤ 9)) (sym c.in_ok-rest.ensures.items) c.requires.few_left.copies

pub few_ways-own_ways-requires : goal.few_ways-own_ways-requires
few_ways-own_ways-requires c = record {
  in_range = item_has (All (λ (card : ℕ). card < length c.args.left.now)) c.in_ok-groups.field-0.items c.deref-own-items.result.now c.loop-own.own-index
      c.own-item.result c.deref-own-items.ensures.value c.in_ok-groups.ensures.within c.loop-own-test.true c.own-item.is;
  few_cards = let h = item_has (IsGroup c.args.left.now c.args.round.now.private) c.in_ok-groups.field-0.items c.deref-own-items.result.now c.loop-own.own-index
      c.own-item.result c.deref-own-items.ensures.value c.in_ok-groups.ensures.each c.loop-own-test.true c.own-item.is in
      omega (arith, h.sized, c.requires.small_private);
  few_copies = c.requires.few_left.copies;
}

pub returns : goal.returns
returns c = record {
  shown = let left : List ℕ = c.args.left.now in
      let owns : List (List ℕ) = groups left c.args.round.now.private in
      let size : ℕ = c.args.round.now.public in
      let shows : List ℕ → List Seen = λ o. map (showing o) (groups (left_after left o) size) in
      let over : length owns ≤ c.loop-own.own-index = omega
      (arith, ap (λ (l : List (List ℕ)). length l) (c.deref-own-items.ensures.value ∙ c.in_ok-groups.ensures.all)) in
      c.loop-own.invariant.shown ∙ ap (λ l. map seen_of c.args.layer.now.shown.items ++ flat_map shows l) (take_all c.loop-own.own-index owns over);
  firsts = grind arith;
  edges = let left : List ℕ = c.args.left.now in
      let owns : List (List ℕ) = groups left c.args.round.now.private in
      let size : ℕ = c.args.round.now.public in
      let edges : List ℕ → List ℕ = λ o. map (λ g. ways left o * ways (left_after left o) g) (groups (left_after left o) size) in
      let over : length owns ≤ c.loop-own.own-index = omega
      (arith, ap (λ (l : List (List ℕ)). length l) (c.deref-own-items.ensures.value ∙ c.in_ok-groups.ensures.all)) in
      c.loop-own.invariant.edges ∙ ap (λ l. c.args.layer.now.edges ++ flat_map edges l) (take_all c.loop-own.own-index owns over)
      ∙ ap (λ l. c.args.layer.now.edges ++ l) (sym (edges_of left size owns));
}

pub loop-own-init : goal.loop-own-init
loop-own-init c = grind (arith, common_steps)

pub bounds-own-items-own-index : goal.bounds-own-items-own-index
bounds-own-items-own-index c = omega arith

pub offset_bounds-own-items-own-index : goal.offset_bounds-own-items-own-index
offset_bounds-own-items-own-index c = omega arith
