use Rattle.std.proofs.Common.{◌≡◌, ℕ, ◌+◌, ◌<◌, List, [], ◌∷◌, ◌++◌, map, drop, length, get_or, Option, Some, None, Bor, append_assoc, sym, ap, ◌∙◌}
use Rattle.std.proofs.Common.{refl, arith}
use Rattle.std.proofs.{lemmas.List.{drop_more, map-append}, lemmas.Grind.{common_steps}}
use Rattle.gs_json.proofs.Lists.{behind}
use Rattle.gs_json.specs.Shapes.{each_in}
use Rattle.serde_json.specs.{Find.{as_str}, View.{view}, declared.value.Value.{Value}}
use Rattle.gs_certificate.specs.Views.{text_list}
use Rattle.gs_certificate.proofs.shapes.each_text.Goals as goal

-- one text more
joined : (front : List (List ℕ)) (t : List ℕ) (rest : Option (List (List ℕ))) → behind (front ++ t ∷ []) rest ≡ behind front (behind (t ∷ []) rest)
joined front t None = refl
joined front t (Some xs) = ap (λ (all : List (List ℕ)). Some all) (append_assoc front (t ∷ []) xs)

one_more : (texts : List (Bor (List ℕ))) (t : Bor (List ℕ)) (items : List Value) (i : ℕ) (v : Value) → i < length items
    → as_str (view (get_or items i v)) ≡ Some t.now
    → behind (text_list (texts ++ t ∷ [])) (each_in as_str (map view (drop (i + 1) items)))
    ≡ behind (text_list texts) (each_in as_str (map view (drop i items)))
one_more texts t items i v lt is =
    ap (λ front. behind front (each_in as_str (map view (drop (i + 1) items)))) (map-append (λ (x : Bor (List ℕ)). x.now) texts (t ∷ []))
    ∙ joined (text_list texts) t.now (each_in as_str (map view (drop (i + 1) items)))
    ∙ ap (behind (text_list texts)) (rw (drop_more items i v lt, is) refl)

pub loop-item-preserved : goal.loop-item-preserved
loop-item-preserved c =
    let i = c.loop-item.item-index in
    let told = ap (λ (v : Value). as_str (view v)) (sym c.item-item.is) ∙ sym c.in-Some.ensures in
    ap (λ (texts : List (Bor (List ℕ))). behind (text_list texts) (each_in as_str (map view (drop (i + 1) c.args.items.now))))
    c.in_ok-push-in-Some.ensures.items
    ∙ one_more c.loop-item.texts.items c.in-Some.text c.args.items.now i c.item-item.result c.loop-item-test.true told ∙ c.loop-item.invariant

pub returns-in-None : goal.returns-in-None
returns-in-None c = grind (arith, common_steps)

pub returns : goal.returns
returns c = grind (arith, common_steps)

pub loop-item-init : goal.loop-item-init
loop-item-init c = grind arith

pub push-requires-text-value : goal.push-requires-text-value
push-requires-text-value c = grind arith
