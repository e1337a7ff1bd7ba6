-- The cards of signals in one pile, round by round.
use Rattle.std.proofs.Common.{◌≡◌, ℕ, suc, ◌-◌, ◌*◌, ◌<◌, ◌++◌, List, [], ◌∷◌, length, map, drop, take, get_or, refl, sym, ap, ◌∙◌, append-nil, arith}
use Rattle.std.proofs.lemmas.List.{drop_more, get_or-map}
use Rattle.std.specs.Prelude.{flat_map}
use Rattle.gs_game.specs.{Games.{round_rules}, declared.game.Round.{Round as GameRound}}
use Rattle.gs_model.specs.{Betting.{even}, Game.{Game, Round, round_at}, Signals.{Seen, Signal, own_cards, public_cards, signal_at, signals}}
use Rattle.gs_tree.specs.{Layers.{last_seen}, Shown.{cards_on, seen_on, shown_by}, declared.layer.Pile.{Pile}, declared.layer.Pile.TheVariants.{Own, Public}}
use Rattle.gs_tree.proofs.{Dealt.{last_is_shown}, Hands.{own_cards-push, public_cards-push}}

-- the cards of a signal: its parent's, and those that it shows last
own_hand : (s front : Signal) (last : Seen) (part cards : List ℕ) → s ≡ front ++ last ∷ [] → part ≡ own_cards front → cards ≡ last.own
    → part ++ cards ≡ own_cards s
own_hand s front last part cards e p c = ap (λ x. x ++ cards) p ∙ ap (λ x. own_cards front ++ x) c ∙ sym (own_cards-push front last) ∙ ap own_cards (sym e)

public_hand : (s front : Signal) (last : Seen) (part cards : List ℕ) → s ≡ front ++ last ∷ [] → part ≡ public_cards front → cards ≡ last.public
    → part ++ cards ≡ public_cards s
public_hand s front last part cards e p c = ap (λ x. x ++ cards) p ∙ ap (λ x. public_cards front ++ x) c ∙ sym (public_cards-push front last)
    ∙ ap public_cards (sym e)

pub hand_on : (pile : Pile) (s front : Signal) (last : Seen) (part cards : List ℕ) → s ≡ front ++ last ∷ [] → part ≡ cards_on pile front
    → cards ≡ seen_on pile last → part ++ cards ≡ cards_on pile s
hand_on Own s front last part cards e p c = own_hand s front last part cards e p c
hand_on Public s front last part cards e p c = public_hand s front last part cards e p c

-- a signal shows as many cards in one pile as its last round says
pub shows_many : (g : Game) (n i : ℕ) (rounds : List GameRound) (r : GameRound) (pile : Pile) → g.rounds ≡ map round_rules rounds → n < length rounds
    → r ≡ get_or rounds n r → i < length (signals g (suc n)) → length (seen_on pile (last_seen (signal_at g (suc n) i))) ≡ shown_by pile (round_rules r)
shows_many g n i rounds r pile e m at l =
    let none : Round = record { private = 0; public = 0; tree = even } in
    let before : suc n - 1 ≡ n = omega arith in
    let shown = last_is_shown g (suc n) i (omega arith) l in
    let is : round_at g (suc n) ≡ round_rules r = ap (λ j. get_or g.rounds j none) before ∙ ap (λ (x : List Round). get_or x n none) e
    ∙ get_or-map round_rules rounds n r none m ∙ ap round_rules (sym at) in
    go pile shown.own_counted shown.public_counted is
  where
    go : (pile : Pile) → length (last_seen (signal_at g (suc n) i)).own ≡ (round_at g (suc n)).private
        → length (last_seen (signal_at g (suc n) i)).public ≡ (round_at g (suc n)).public → round_at g (suc n) ≡ round_rules r
        → length (seen_on pile (last_seen (signal_at g (suc n) i))) ≡ shown_by pile (round_rules r)
    go Own own public is = own ∙ ap (λ (x : Round). x.private) is
    go Public own public is = public ∙ ap (λ (x : Round). x.public) is

-- one of parts of one card
one_part : (xs : List ℕ) (p : ℕ) → p < length xs → take 1 (drop (p * 1) xs) ≡ get_or xs p 0 ∷ []
one_part xs p l =
    let at : p * 1 ≡ p = omega arith in
    ap (λ k. take 1 (drop k xs)) at ∙ ap (take 1) (drop_more xs p 0 l)

-- where each has one card, those of parents that show no more are the cards of their children
pub parents_alone : {X : Type 0} (f : X → List ℕ) (h : ℕ → ℕ) (xs : List X) (d : X) (ps : List ℕ) → length ps ≡ length xs
    → ((i : ℕ) → i < length xs → f (get_or xs i d) ≡ h (get_or ps i 0) ∷ []) → map h ps ≡ flat_map f xs
parents_alone f h [] d [] e k = refl
parents_alone f h [] d (p ∷ ps) e k = absurd (omega (arith, e))
parents_alone f h (x ∷ xs) d [] e k = absurd (omega (arith, e))
parents_alone f h (x ∷ xs) d (p ∷ ps) e k =
    let here : f x ≡ h p ∷ [] = k 0 (omega arith) in
    let rest = parents_alone f h xs d ps (omega (arith, e)) (λ i l. k (suc i) (omega arith)) in
    ap (λ l. h p ∷ l) rest ∙ ap (λ l. l ++ flat_map f xs) (sym here)

-- a signal that shows nothing more has the one card of its parent
pub alone : (pile : Pile) (s front : Signal) (last : Seen) (before : List ℕ) (p : ℕ) → s ≡ front ++ last ∷ [] → p < length before
    → take 1 (drop (p * 1) before) ≡ cards_on pile front → length (seen_on pile last) ≡ 0 → cards_on pile s ≡ get_or before p 0 ∷ []
alone pile s front last before p e l h none =
    let nothing : [] ≡ seen_on pile last = empty (seen_on pile last) none in
    sym (hand_on pile s front last (take 1 (drop (p * 1) before)) [] e h nothing) ∙ append-nil (take 1 (drop (p * 1) before)) ∙ one_part before p l
  where
    empty : (xs : List ℕ) → length xs ≡ 0 → [] ≡ xs
    empty [] e = refl
    empty (x ∷ xs) e = absurd (omega (arith, e))

-- a signal has the one card of its parent and the one that it shows more
pub paired : (pile : Pile) (s front : Signal) (last : Seen) (before : List ℕ) (p a b : ℕ) → s ≡ front ++ last ∷ [] → p < length before
    → take 1 (drop (p * 1) before) ≡ cards_on pile front → length (seen_on pile last) ≡ 1 → a ≡ get_or before p 0 → b ≡ get_or (seen_on pile last) 0 0
    → a ∷ b ∷ [] ≡ cards_on pile s
paired pile s front last before p a b e l h one at more =
    hand_on pile s front last (a ∷ []) (b ∷ []) e (ap (λ x. x ∷ []) at ∙ sym (one_part before p l) ∙ h) (ap (λ x. x ∷ []) more
    ∙ sym (single (seen_on pile last) one))
  where
    single : (xs : List ℕ) → length xs ≡ 1 → xs ≡ get_or xs 0 0 ∷ []
    single [] e = absurd (omega (arith, e))
    single (x ∷ []) e = refl
    single (x ∷ y ∷ xs) e = absurd (omega (arith, e))
