use Rattle.std.proofs.Common.{[], ◌∷◌, ℕ, List, None, Option, Bor, get_or, subst, sym}
use Rattle.gs_card.specs.Decks.{card_text}
use Rattle.gs_tree.specs.Texts.{IsRest}
use Rattle.gs_tree.proofs.Rests.{rest_both, rest_none}
use Rattle.gs_tree.proofs.reading.after_card.Goals as goal

pub returns-in_err-rest : goal.returns-in_err-rest
returns-in_err-rest c =
    let text : List ℕ = c.args.text.now in
    let P : List ℕ → Type 0 = λ l. IsRest text (get_or l 0 0 ∷ get_or l 1 0 ∷ []) None in
    let none = rest_none text (get_or c.card_text.result 0 0 ∷ []) (get_or c.card_text.result 1 0 ∷ []) c.in_err-rest.ensures in
    let Q : Option (Bor (List ℕ)) → Type 0 = λ o. IsRest text (card_text c.args.deck.now c.args.card) o in
    subst Q (sym c.from_residual.ensures) (subst P c.card_text.ensures.letters none)

pub returns : goal.returns
returns c =
    let text : List ℕ = c.args.text.now in
    let P : List ℕ → Type 0 = λ l. IsRest text (get_or l 0 0 ∷ get_or l 1 0 ∷ []) c.after_byte-2.result in
    let both = rest_both text (get_or c.card_text.result 0 0 ∷ []) (get_or c.card_text.result 1 0 ∷ []) c.in_ok-rest.rest.now c.after_byte-2.result
    c.in_ok-rest.ensures c.after_byte-2.ensures in
    subst P c.card_text.ensures.letters both
