use Rattle.std.proofs.Common.{slice_index, length, subst, sym, ◌≡◌, ◌<◌, ◌++◌, ◌∷◌, [], ℕ, List, ap, ◌∙◌, append_assoc}
use Rattle.std.specs.Prelude.{string_bytes}
use Rattle.gs_model.specs.Outcome.{rank_of, suit_of}
use Rattle.gs_tree.proofs.{Named.{letters_ascii}, Results.{left_where_ok}}
use Rattle.gs_tree.proofs.texts.push_card.Goals as goal

pub returns : goal.returns
returns c =
    let before : List ℕ = string_bytes c.args.text.now in
    let d = c.args.deck.now in
    let small = letters_ascii d c.args.card c.card_text.ensures.deck c.requires in
    let rank : c.from.result ≡ slice_index d.ranks (rank_of (length d.suits) c.args.card) =
    c.from.ensures ∙ ap (λ (t : List ℕ). slice_index t 0) c.card_text.ensures.letters in
    let suit : c.from-2.result ≡ slice_index d.suits (suit_of (length d.suits) c.args.card) =
    c.from-2.ensures ∙ ap (λ (t : List ℕ). slice_index t 1) c.card_text.ensures.letters in
    let P : ℕ → Type 0 = λ n. n < 128 in
    left_where_ok c.push-2.result _ _ _ _ c.push-2.ensures.bytes (ap (λ x. string_bytes c.push.new.self ++ x) (c.push-2.ensures.ascii (subst P (sym suit) small.1))
    ∙ ap (λ x. x ++ c.from-2.result ∷ []) (c.in_ok-push.ensures.bytes ∙ ap (λ x. before ++ x) (c.in_ok-push.ensures.ascii (subst P (sym rank) small.0)))
    ∙ append_assoc before (c.from.result ∷ []) (c.from-2.result ∷ [])
    ∙ ap (λ x. before ++ x ∷ c.from-2.result ∷ []) rank
    ∙ ap (λ x. before ++ slice_index d.ranks (rank_of (length d.suits) c.args.card) ∷ x ∷ []) suit)
