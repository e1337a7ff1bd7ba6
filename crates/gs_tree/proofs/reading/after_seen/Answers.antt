use Rattle.std.proofs.{Common.{◌++◌, [], ◌∷◌, ℕ, List, None, Option, Bor, subst, sym, arith}, lemmas.Grind.{common_steps}}
use Rattle.gs_card.specs.Decks.{DeckValue}
use Rattle.gs_tree.specs.{Shown.{cards_of, seen_of}, Texts.{IsRest, group_text, public_text, seen_text}}
use Rattle.gs_tree.proofs.{Rests.{public_shown, rest_both, rest_none}, reading.after_seen.Goals.{Else-is_empty}}
use Rattle.gs_tree.proofs.reading.after_seen.Goals as goal

-- what is behind the groups is behind what the signal shows
seen : (c : Else-is_empty) (o : Option (Bor (List ℕ))) → let d = c.args.deck.now in
    IsRest c.args.text.now (group_text d c.cards.result.now ++ (43 ∷ group_text d c.cards-public.result.now)) o
    → IsRest c.args.text.now (seen_text d (seen_of c.args.shown.now)) o
seen c o rest =
    let d : DeckValue = c.args.deck.now in
    let text : List ℕ = c.args.text.now in
    let public : List ℕ = c.cards-public.result.now in
    let P : List ℕ → Type 0 = λ x. IsRest text (group_text d c.cards.result.now ++ x) o in
    let Q : List ℕ → Type 0 = λ x. IsRest text (group_text d x ++ public_text d public) o in
    let R : List ℕ → Type 0 = λ x. IsRest text (group_text d (cards_of c.args.shown.now.own) ++ public_text d x) o in
    subst R c.cards-public.ensures (subst Q c.cards.ensures (subst P (public_shown d public c.if-is_empty.ensures) rest))

pub returns-in_err-rest-2 : goal.returns-in_err-rest-2
returns-in_err-rest-2 c =
    let d : DeckValue = c.args.deck.now in
    let text : List ℕ = c.args.text.now in
    let public : List ℕ = c.cards-public.result.now in
    let behind : List ℕ = c.in_ok-rest.rest.now in
    let none = rest_both text (group_text d c.cards.result.now) (43 ∷ group_text d public) behind None c.in_ok-rest.ensures
    (rest_none behind (43 ∷ []) (group_text d public) c.in_err-rest-2.ensures) in
    let S : Option (Bor (List ℕ)) → Type 0 = λ o. IsRest text (seen_text d (seen_of c.args.shown.now)) o in
    subst S (sym c.from_residual-in_err-rest-2.ensures) (seen (goal.at.returns-in_err-rest-2 c).Else-is_empty None none)

pub returns : goal.returns
returns c =
    let d : DeckValue = c.args.deck.now in
    let o : Option (Bor (List ℕ)) = c.after_group-2.result in
    let public : List ℕ = c.cards-public.result.now in
    let behind : List ℕ = c.in_ok-rest.rest.now in
    seen (goal.at.returns c).Else-is_empty o (rest_both c.args.text.now (group_text d c.cards.result.now)
    (43 ∷ group_text d public) behind o c.in_ok-rest.ensures
    (rest_both behind (43 ∷ []) (group_text d public) c.in_ok-rest-2.rest.now o c.in_ok-rest-2.ensures c.after_group-2.ensures))

pub after_group-requires-2 : goal.after_group-requires-2
after_group-requires-2 c = grind (arith, common_steps)

pub returns-in_err-rest : goal.returns-in_err-rest
returns-in_err-rest c = grind (arith, common_steps)

pub after_group-requires : goal.after_group-requires
after_group-requires c = grind arith
