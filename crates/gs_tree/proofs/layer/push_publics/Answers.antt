use Rattle.std.proofs.lemmas.Grind.{common_steps}
use Rattle.std.proofs.Common.{subst, All, sym}
use Rattle.std.proofs.{Common.{◌≡◌, ◌++◌, ◌∷◌, ◌*◌, ◌<◌, ◌≤◌, ◌∙◌, [], ℕ, List, ap, arith, get_or, length, map, take_all}, lemmas.List.{map-append}}
use Rattle.std.specs.Prelude.{OnOk}
use Rattle.gs_model.specs.{Cards.{groups, ways}, Signals.{Seen}}
use Rattle.gs_model.proofs.Basics.{product_le}
use Rattle.gs_card.specs.Groups.{IsGroup}
use Rattle.gs_tree.specs.{Layers.{showing}, Shown.{cards_of, seen_of}}
use Rattle.gs_tree.proofs.Pushed.{item_has, mapped_more}
use Rattle.gs_tree.proofs.layer.push_publics.Goals as goal

pub loop-public-preserved : goal.loop-public-preserved
loop-public-preserved c =
    let all : List (List ℕ) = groups c.args.rest.now c.args.size in
    let own : List ℕ = cards_of c.args.own in
    let g : List ℕ = c.public-item.result in
    let i : ℕ = c.loop-public.public-index in
    let listed = c.deref-public-items.ensures.value ∙ c.in_ok-groups.ensures.all in
    let at : g ≡ get_or all i g = c.public-item.is ∙ ap (λ l. get_or l i g) listed in
    let here : i < length all = subst (λ (l : List (List ℕ)). i < length l) listed c.loop-public-test.true in
    record {
      shown = ap (map seen_of) c.in_ok-push.ensures.items
          ∙ map-append seen_of c.loop-public.layer.shown.items (record { own = c.args.own; public = c.of.result } ∷ [])
          ∙ mapped_more (showing own) (map seen_of c.args.layer.now.shown.items) (map seen_of c.loop-public.layer.shown.items) all i g
          (showing own (cards_of c.of.result)) here c.loop-public.invariant.shown (ap (showing own) (c.of.ensures ∙ at));
      edges = c.in_ok-push-2.ensures ∙ mapped_more (λ x. c.args.own_ways * ways c.args.rest.now x) c.args.layer.now.edges c.loop-public.layer.edges all i g
          (c.args.own_ways * c.few_ways.result) here c.loop-public.invariant.edges
          (ap (λ n. c.args.own_ways * n) (c.few_ways.ensures.value ∙ ap (ways c.args.rest.now) at));
      firsts = c.loop-public.invariant.firsts;
    }

pub returns : goal.returns
returns c = record {
  shown = let all : List (List ℕ) = groups c.args.rest.now c.args.size in
      let over : length all ≤ c.loop-public.public-index = omega
      (arith, ap (λ (l : List (List ℕ)). length l) (c.deref-public-items.ensures.value ∙ c.in_ok-groups.ensures.all)) in
      c.loop-public.invariant.shown
      ∙ ap (λ l. map seen_of c.args.layer.now.shown.items ++ map (showing (cards_of c.args.own)) l) (take_all c.loop-public.public-index all over);
  firsts = c.loop-public.invariant.firsts;
  edges = let all : List (List ℕ) = groups c.args.rest.now c.args.size in
      let over : length all ≤ c.loop-public.public-index = omega
      (arith, ap (λ (l : List (List ℕ)). length l) (c.deref-public-items.ensures.value ∙ c.in_ok-groups.ensures.all)) in
      c.loop-public.invariant.edges
      ∙ ap (λ l. c.args.layer.now.edges ++ map (λ g. c.args.own_ways * ways c.args.rest.now g) l) (take_all c.loop-public.public-index all over);
}

pub returns-in_err-push-2-clause-firsts : goal.returns-in_err-push-2-clause-firsts
returns-in_err-push-2-clause-firsts c = c.loop-public.invariant.firsts

pub returns-then-size-eq1-clause-edges : goal.returns-then-size-eq1-clause-edges
returns-then-size-eq1-clause-edges c =
    let P : ℕ → Type 0 = λ n.
    OnOk c.push_cards.result
    (c.push_cards.new.layer.edges ≡ c.args.layer.now.edges ++ map (λ g. c.args.own_ways * ways c.args.rest.now g) (groups c.args.rest.now n)) in
    subst P (sym c.if-size-eq1.true) c.push_cards.ensures.edges

pub overflow_mul-own_ways : goal.overflow_mul-own_ways
overflow_mul-own_ways c = omega (arith, product_le c.args.own_ways c.few_ways.result 729 729 c.requires.few_ways c.few_ways.ensures.few)

pub of-requires : goal.of-requires
of-requires c =
    let h = item_has (IsGroup c.args.rest.now c.args.size) c.in_ok-groups.field-0.items c.deref-public-items.result.now c.loop-public.public-index
    c.public-item.result c.deref-public-items.ensures.value c.in_ok-groups.ensures.each c.loop-public-test.true c.public-item.is in
    omega (arith, h.sized, c.requires.small)

pub few_ways-requires : goal.few_ways-requires
few_ways-requires c = record {
  in_range = item_has (All (λ (card : ℕ). card < length c.args.rest.now)) c.in_ok-groups.field-0.items c.deref-public-items.result.now c.loop-public.public-index
      c.public-item.result c.deref-public-items.ensures.value c.in_ok-groups.ensures.within c.loop-public-test.true c.public-item.is;
  few_cards = let h = item_has (IsGroup c.args.rest.now c.args.size) c.in_ok-groups.field-0.items c.deref-public-items.result.now c.loop-public.public-index
      c.public-item.result c.deref-public-items.ensures.value c.in_ok-groups.ensures.each c.loop-public-test.true c.public-item.is in
      omega (arith, h.sized, c.requires.small);
  few_copies = c.requires.few_left.copies;
}

pub returns-in_err-push-clause-firsts : goal.returns-in_err-push-clause-firsts
returns-in_err-push-clause-firsts c = c.loop-public.invariant.firsts

pub returns-then-size-eq1-clause-shown : goal.returns-then-size-eq1-clause-shown
returns-then-size-eq1-clause-shown c =
    let shown : List Seen = map seen_of c.args.layer.now.shown.items in
    let P : ℕ → Type 0 = λ n.
    OnOk c.push_cards.result (map seen_of c.push_cards.new.layer.shown.items ≡ shown ++ map (showing (cards_of c.args.own)) (groups c.args.rest.now n)) in
    subst P (sym c.if-size-eq1.true) c.push_cards.ensures.shown

pub bounds-public-items-public-index : goal.bounds-public-items-public-index
bounds-public-items-public-index c = omega arith

pub offset_bounds-public-items-public-index : goal.offset_bounds-public-items-public-index
offset_bounds-public-items-public-index c = omega arith

pub loop-public-init : goal.loop-public-init
loop-public-init c = grind (arith, common_steps)
