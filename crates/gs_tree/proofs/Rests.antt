-- What follows the beginning of a text.
use Rattle.std.proofs.Common.{◌≡◌, ℕ, ◌-◌, ◌<◌, List, [], ◌∷◌, ◌++◌, length, get_or, refl, sym, ap, ◌∙◌, append_assoc, arith, Option, Some, None, Bor, false}
use Rattle.std.proofs.{lemmas.Bool.{false≢true}, lemmas.List.{append_cancel_left}}
use Rattle.std.specs.Prelude.{◌==◌}
use Rattle.gs_card.specs.Decks.{DeckValue}
use Rattle.gs_model.specs.{Game.{Game}, Signals.{Seen, signals, signal_at, parents}}
use Rattle.gs_tree.specs.{Layers.{last_seen}, Shown.{seen_of}, Texts.{IsRest, group_text, public_text, seen_text, signal_text}, declared.layer.Shown.{Shown}}
use Rattle.gs_tree.proofs.Lookups.{is_child, text_later}

-- what follows two parts is what follows the second behind the first
pub rest_both : (text a b mid : List ℕ) (o : Option (Bor (List ℕ))) → text ≡ a ++ mid → IsRest mid b o → IsRest text (a ++ b) o
rest_both text a b mid None e h = λ t f. h t (append_cancel_left a mid (b ++ t) (sym e ∙ f ∙ append_assoc a b t))
rest_both text a b mid (Some rest) e h = e ∙ ap (λ x. a ++ x) h ∙ sym (append_assoc a b rest.now)

-- where the first part is not there both are not
pub rest_none : (text a b : List ℕ) → IsRest text a None → IsRest text (a ++ b) None
rest_none text a b h = λ t f. h (b ++ t) (f ∙ append_assoc a b t)

-- public cards stand behind a plus
pub public_shown : (d : DeckValue) (g : List ℕ) → false ≡ (length g == 0) → 43 ∷ group_text d g ≡ public_text d g
public_shown d [] l = absurd (false≢true l)
public_shown d (x ∷ g) l = refl

-- the text of a signal of a later round, from what the tables hold
pub text_grown : (g : Game) (d : DeckValue) (round i parent : ℕ) (shown : Shown) → 1 < round → i < length (signals g round)
    → parent ≡ get_or (parents g round) i 0 → seen_of shown ≡ last_seen (signal_at g round i) →
    (signal_text d (signal_at g (round - 1) parent) ++ 47 ∷ []) ++ seen_text d (seen_of shown) ≡ signal_text d (signal_at g round i)
text_grown g d round i parent shown some l at shows =
    ap (λ k. (signal_text d (signal_at g (round - 1) k) ++ 47 ∷ []) ++ seen_text d (seen_of shown)) at
    ∙ ap (λ (q : Seen). (signal_text d (signal_at g (round - 1) (get_or (parents g round) i 0)) ++ 47 ∷ []) ++ seen_text d q) shows
    ∙ sym (text_later g d round i some l (is_child g round i (omega arith) l))

-- the same behind what stands before
pub text_behind : (before front last whole : List ℕ) → (front ++ 47 ∷ []) ++ last ≡ whole → ((before ++ front) ++ 47 ∷ []) ++ last ≡ before ++ whole
text_behind before front last whole e = ap (λ x. x ++ last) (append_assoc before front (47 ∷ [])) ∙ append_assoc before (front ++ 47 ∷ []) last
    ∙ ap (λ x. before ++ x) e
