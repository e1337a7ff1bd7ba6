use Rattle.std.proofs.{Common.{◌≡◌, ◌<◌, ◌++◌, ◌∷◌, ◌*◌, ◌∙◌, [], ℕ, List, ap, arith, get_or, map, refl, sym}, lemmas.List.{map-append}}
use Rattle.gs_model.specs.Cards.{ways}
use Rattle.gs_tree.specs.{Layers.{showing}, Shown.{cards_of, seen_of}, declared.layer.Shown.{Shown}}
use Rattle.gs_tree.proofs.{OneCard.{ways_card, with_some}, Results.{held, passed}}
use Rattle.gs_tree.proofs.layer.push_card.Goals as goal

pub returns : goal.returns
returns c =
    let rest : List ℕ = c.args.rest.now in
    let kind : ℕ = c.args.kind in
    let own : List ℕ = cards_of c.args.own.now in
    let old : List Shown = c.args.layer.now.shown.items in
    let some : 0 < get_or rest kind 0 = omega (arith, c.if-copies-eq0.false) in
    let groups = with_some rest kind some in
    let public : cards_of c.one.result ≡ kind ∷ [] = c.one.ensures ∙ ap (λ k. k ∷ []) c.new.ensures in
    let copies : c.from.result ≡ ways rest (kind ∷ []) = c.from.ensures ∙ sym (ways_card rest kind c.requires.kind_in) in
    record {
      shown = held c.push-2.result _ (ap (map seen_of) c.in_ok-push.ensures.items
          ∙ map-append seen_of old (record { own = c.args.own.now; public = c.one.result } ∷ [])
          ∙ ap (λ p. map seen_of old ++ showing own p ∷ []) public
          ∙ ap (λ l. map seen_of old ++ map (showing own) l) (sym groups));
      firsts = refl;
      edges = passed c.push-2.result (λ e. e
          ∙ ap (λ n. c.args.layer.now.edges ++ (c.args.own_ways * n) ∷ []) copies
          ∙ ap (λ l. c.args.layer.now.edges ++ map (λ g. c.args.own_ways * ways rest g) l) (sym groups)) c.push-2.ensures;
    }

pub overflow_mul-own_ways : goal.overflow_mul-own_ways
overflow_mul-own_ways c = grind arith
