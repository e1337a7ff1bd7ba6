-- The text of a signal tells it from the others of its round.
use Rattle.std.proofs.Common.{◌≡◌, ℕ, zero, suc, ◌/◌, ◌%◌, ◌<◌, ◌≤◌, List, [], ◌∷◌, ◌++◌, length, get_or, refl, sym, ap, ◌∙◌, arith, subst, All, ⊎_elim}
use Rattle.std.proofs.{Common.{length-append}, lemmas.{Bool.{cases_lt}, Nat.{mod_below}}}
use Rattle.std.specs.{Char.{is_ascii_alphanumeric}, Prelude.{slice_index, true}}
use Rattle.gs_model.specs.Outcome.{rank_of, suit_of}
use Rattle.gs_model.specs.{Game.{Game}, Signals.{Seen, Signal, signals, signal_at, parents}}
use Rattle.gs_model.proofs.Facing.{signals_differ}
use Rattle.gs_card.specs.Decks.{DeckValue, IsDeck, card_text, kinds}
use Rattle.gs_card.proofs.{KindLaws.{number_of_places, some_suits, row_below}, Letters.{one_place}}
use Rattle.gs_tree.specs.{Layers.{last_seen}, Texts.{group_text, public_text, seen_text, rounds_text, signal_text}}
use Rattle.gs_tree.proofs.{Dealt.{last_is_shown}, Lookups.{grown_from}, Same.{parted, shapes, shaped}}

-- two letters tell a card
card_once : (d : DeckValue) (a b : ℕ) → IsDeck d → a < kinds d → b < kinds d → card_text d a ≡ card_text d b → a ≡ b
card_once d a b h la lb e =
    let n : ℕ = length d.suits in
    let some : 0 < n = some_suits (length d.ranks) n a la in
    let first : get_or d.ranks (a / n) 0 ≡ get_or d.ranks (b / n) 0 = cc in
    let second : get_or d.suits (a % n) 0 ≡ get_or d.suits (b % n) 0 = cc in
    let row : a / n ≡ b / n = one_place d.ranks (a / n) (b / n) h.ranks_differ (row_below (length d.ranks) n a la)
    (row_below (length d.ranks) n b lb) first in
    let column : a % n ≡ b % n = one_place d.suits (a % n) (b % n) h.suits_differ (omega arith) (omega arith) second in
    sym (number_of_places n (b / n) (b % n) a some row column) ∙ number_of_places n (b / n) (b % n) b some refl refl

abbrev InDeck : DeckValue → List ℕ → Type 0
InDeck d g = All (λ card. card < kinds d) g

-- the text of a group tells it from others of its size
group_once : (d : DeckValue) (g h : List ℕ) → IsDeck d → length g ≡ length h → InDeck d g → InDeck d h → group_text d g ≡ group_text d h → g ≡ h
group_once d [] [] k l a b e = refl
group_once d [] (y ∷ h) k l a b e = absurd (omega (arith, l))
group_once d (x ∷ g) [] k l a b e = absurd (omega (arith, l))
group_once d (x ∷ g) (y ∷ h) k l a b e =
    let r = parted (card_text d x) (card_text d y) (group_text d g) (group_text d h) refl e in
    let first : x ≡ y = card_once d x y k (a 0 0 (omega arith)) (b 0 0 (omega arith)) r.0 in
    let others : g ≡ h = group_once d g h k (omega (arith, l)) (λ i z m. a (suc i) z (omega arith)) (λ i z m. b (suc i) z (omega arith)) r.1 in
    ap (λ z. z ∷ g) first ∙ ap (λ z. y ∷ z) others

group_long : (d : DeckValue) (g h : List ℕ) → length g ≡ length h → length (group_text d g) ≡ length (group_text d h)
group_long d [] [] l = refl
group_long d [] (y ∷ h) l = absurd (omega (arith, l))
group_long d (x ∷ g) [] l = absurd (omega (arith, l))
group_long d (x ∷ g) (y ∷ h) l = let r = group_long d g h (omega (arith, l)) in omega (arith, r)

public_once : (d : DeckValue) (g h : List ℕ) → IsDeck d → length g ≡ length h → InDeck d g → InDeck d h → public_text d g ≡ public_text d h → g ≡ h
public_once d [] [] k l a b e = refl
public_once d [] (y ∷ h) k l a b e = absurd (omega (arith, l))
public_once d (x ∷ g) [] k l a b e = absurd (omega (arith, l))
public_once d (x ∷ g) (y ∷ h) k l a b e = let tail : group_text d (x ∷ g) ≡ group_text d (y ∷ h) = cc in group_once d (x ∷ g) (y ∷ h) k l a b tail

public_long : (d : DeckValue) (g h : List ℕ) → length g ≡ length h → length (public_text d g) ≡ length (public_text d h)
public_long d [] [] l = refl
public_long d [] (y ∷ h) l = absurd (omega (arith, l))
public_long d (x ∷ g) [] l = absurd (omega (arith, l))
public_long d (x ∷ g) (y ∷ h) l = let r = group_long d (x ∷ g) (y ∷ h) l in omega (arith, r)

-- all cards of a signal are of the deck
abbrev OfDeck : DeckValue → Signal → Type 0
OfDeck d [] = Unit {0}
OfDeck d (p ∷ s) = InDeck d p.own × InDeck d p.public × OfDeck d s

seen_long : (d : DeckValue) (p q : Seen) → length p.own ≡ length q.own → length p.public ≡ length q.public → length (seen_text d p) ≡ length (seen_text d q)
seen_long d p q l m = omega (
  arith,
  length-append (group_text d p.own) (public_text d p.public),
  length-append (group_text d q.own) (public_text d q.public),
  group_long d p.own q.own l,
  public_long d p.public q.public m,
)

seen_once : (d : DeckValue) (p q : Seen) → IsDeck d → length p.own ≡ length q.own → length p.public ≡ length q.public → InDeck d p.own → InDeck d p.public
    → InDeck d q.own → InDeck d q.public → seen_text d p ≡ seen_text d q → p ≡ q
seen_once d p q k l m a b x y e =
    let r = parted (group_text d p.own) (group_text d q.own) (public_text d p.public) (public_text d q.public) (group_long d p.own q.own l) e in
    let own : p.own ≡ q.own = group_once d p.own q.own k l a x r.0 in
    let public : p.public ≡ q.public = public_once d p.public q.public k m b y r.1 in
    let f : List ℕ → Seen = λ g. record { own = g; public = p.public } in
    let h : List ℕ → Seen = λ g. record { own = q.own; public = g } in
    ap f own ∙ ap h public

-- what two signals show first, and the others
firsts_once : (d : DeckValue) (p q : Seen) (s t : Signal) → IsDeck d → shapes (p ∷ s) ≡ shapes (q ∷ t) → OfDeck d (p ∷ s) → OfDeck d (q ∷ t)
    → seen_text d p ++ rounds_text d s ≡ seen_text d q ++ rounds_text d t → (p ≡ q) × (rounds_text d s ≡ rounds_text d t)
firsts_once d p q s t k e a b h =
    let first : ℕ × ℕ = (length p.own, length p.public) in
    let other : ℕ × ℕ = (length q.own, length q.public) in
    let pair : first ≡ other = cc in
    let l : length p.own ≡ length q.own = ap (λ (x : ℕ × ℕ). x.0) pair in
    let m : length p.public ≡ length q.public = ap (λ (x : ℕ × ℕ). x.1) pair in
    let r = parted (seen_text d p) (seen_text d q) (rounds_text d s) (rounds_text d t) (seen_long d p q l m) h in
    (seen_once d p q k l m a.0 a.1 b.0 b.1 r.0, r.1)

rounds_once : (d : DeckValue) (s t : Signal) → IsDeck d → shapes s ≡ shapes t → OfDeck d s → OfDeck d t → rounds_text d s ≡ rounds_text d t → s ≡ t
rounds_once d [] [] k e a b h = refl
rounds_once d [] (q ∷ t) k e a b h = absurd (cc)
rounds_once d (p ∷ s) [] k e a b h = absurd (cc)
rounds_once d (p ∷ s) (q ∷ t) k e a b h =
    let tail : seen_text d p ++ rounds_text d s ≡ seen_text d q ++ rounds_text d t = cc in
    let r = firsts_once d p q s t k e a b tail in
    let others : shapes s ≡ shapes t = cc in
    ap (λ x. x ∷ s) r.0 ∙ ap (λ x. q ∷ x) (rounds_once d s t k others a.2 b.2 r.1)

signal_once : (d : DeckValue) (s t : Signal) → IsDeck d → shapes s ≡ shapes t → OfDeck d s → OfDeck d t → signal_text d s ≡ signal_text d t → s ≡ t
signal_once d [] [] k e a b h = refl
signal_once d [] (q ∷ t) k e a b h = absurd (cc)
signal_once d (p ∷ s) [] k e a b h = absurd (cc)
signal_once d (p ∷ s) (q ∷ t) k e a b h =
    let r = firsts_once d p q s t k e a b h in
    let others : shapes s ≡ shapes t = cc in
    ap (λ x. x ∷ s) r.0 ∙ ap (λ x. q ∷ x) (rounds_once d s t k others a.2 b.2 r.1)

of_deck-push : (d : DeckValue) (s : Signal) (p : Seen) → OfDeck d s → InDeck d p.own → InDeck d p.public → OfDeck d (s ++ p ∷ [])
of_deck-push d [] p h a b = (a, b, tt)
of_deck-push d (q ∷ s) p h a b = (h.0, h.1, of_deck-push d s p h.2 a b)

of_deck : (g : Game) (d : DeckValue) (round i : ℕ) → length g.copies ≡ kinds d → i < length (signals g round) → OfDeck d (signal_at g round i)
of_deck g d zero zero k l = tt
of_deck g d zero (suc i) k l = absurd (omega arith)
of_deck g d (suc r) i k l =
    let c = grown_from g r i l in
    let h = last_is_shown g (suc r) i (omega arith) l in
    let p : ℕ = get_or (parents g (suc r)) i 0 in
    let last : Seen = last_seen (signal_at g (suc r) i) in
    let P : Signal → Type 0 = λ s. OfDeck d s in
    let A : ℕ → Type 0 = λ n. All (λ c. c < n) last.own in
    let B : ℕ → Type 0 = λ n. All (λ c. c < n) last.public in
    subst P (sym c.is) (of_deck-push d (signal_at g r p) last (of_deck g d r p k c.within) (subst A k h.own_in) (subst B k h.public_in))

-- signals of a round with one text are one
pub text_once : (g : Game) (d : DeckValue) (round i k : ℕ) → IsDeck d → length g.copies ≡ kinds d → i < length (signals g round)
    → k < length (signals g round) → signal_text d (signal_at g round i) ≡ signal_text d (signal_at g round k) → i ≡ k
text_once g d round i k deck e a b h =
    let same : signal_at g round i ≡ signal_at g round k =
    signal_once d (signal_at g round i) (signal_at g round k) deck (shaped g round i a
    ∙ sym (shaped g round k b)) (of_deck g d round i e a) (of_deck g d round k e b) h in
    ⊎_elim
    (λ (l : i < k). absurd (signals_differ g round i k l b same))
    (λ (l : k ≤ i). ⊎_elim
    (λ (m : k < i). absurd (signals_differ g round k i m a (sym same)))
    (λ (m : i ≤ k). omega arith)
    (cases_lt k i))
    (cases_lt i k)

-- a letter or a digit is one byte
letter_small : (c : ℕ) → is_ascii_alphanumeric c ≡ true → c < 128
letter_small c h = grind (arith, h)

-- the letters of a card are a byte each
pub letters_ascii : (d : DeckValue) (card : ℕ) → IsDeck d → card < kinds d
    → (slice_index d.ranks (rank_of (length d.suits) card) < 128) × (slice_index d.suits (suit_of (length d.suits) card) < 128)
letters_ascii d card h l =
    let n : ℕ = length d.suits in
    let some = some_suits (length d.ranks) n card l in (
      letter_small (get_or d.ranks (card / n) 0) (h.rank_letters (card / n) 0 (row_below (length d.ranks) n card l)),
      letter_small (get_or d.suits (card % n) 0) (h.suit_letters (card % n) 0 (mod_below card n some)),
    )
