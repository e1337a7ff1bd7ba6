-- Signals of one round that show the same public cards.
use Rattle.std.proofs.Common.{◌≡◌, ℕ, zero, suc, ◌<◌, ◌++◌, List, [], ◌∷◌, length, get_or, refl, sym, ap, ◌∙◌, arith, Bool, true, false}
use Rattle.std.specs.Prelude.{◌&&◌}
use Rattle.gs_model.specs.{Deals.{same_cards, same_public}, Game.{Game, round_at}, Signals.{Seen, Signal, signals, signal_at, parents, public_cards}}
use Rattle.gs_model.proofs.{Children.{same_cards-self}, Exchanged.{and_both, same_cards-is}}
use Rattle.gs_tree.specs.Layers.{last_seen}
use Rattle.gs_tree.proofs.{Dealt.{last_is_shown}, Lookups.{grown_from}}

pub public_self : (s : Signal) → same_public s s ≡ true
public_self [] = refl
public_self (p ∷ s) = ap (λ b. b && same_public s s) (same_cards-self p.public) ∙ public_self s

-- signals that show the same show the same as others
pub public_alike : (s t u : Signal) → same_public s t ≡ true → same_public s u ≡ same_public t u
public_alike [] [] u h = refl
public_alike [] (q ∷ t) u h = cc
public_alike (p ∷ s) [] u h = cc
public_alike (p ∷ s) (q ∷ t) [] h = refl
public_alike (p ∷ s) (q ∷ t) (r ∷ u) h =
    let b = and_both (same_cards p.public q.public) (same_public s t) h in
    ap (λ c. same_cards c r.public && same_public s u) (same_cards-is p.public q.public b.0)
    ∙ ap (λ c. same_cards q.public r.public && c) (public_alike s t u b.1)

-- the same public cards, all in one list
pub one_list : (s t : Signal) → same_public s t ≡ true → public_cards s ≡ public_cards t
one_list [] [] h = refl
one_list [] (q ∷ t) h = cc
one_list (p ∷ s) [] h = cc
one_list (p ∷ s) (q ∷ t) h =
    let b = and_both (same_cards p.public q.public) (same_public s t) h in
    ap (λ c. c ++ public_cards s) (same_cards-is p.public q.public b.0) ∙ ap (λ c. q.public ++ c) (one_list s t b.1)

-- how many own and public cards each round shows
abbrev pub shapes : Signal → List (ℕ × ℕ)
shapes [] = []
shapes (p ∷ s) = (length p.own, length p.public) ∷ shapes s

-- two lists with fronts of one length
pub parted : (a b x y : List ℕ) → length a ≡ length b → a ++ x ≡ b ++ y → (a ≡ b) × (x ≡ y)
parted [] [] x y l e = (refl, e)
parted [] (c ∷ b) x y l e = absurd (omega (arith, l))
parted (c ∷ a) [] x y l e = absurd (omega (arith, l))
parted (c ∷ a) (d ∷ b) x y l e =
    let head : c ≡ d = cc in
    let tail : a ++ x ≡ b ++ y = cc in
    let r = parted a b x y (omega (arith, l)) tail in
    (ap (λ z. z ∷ a) head ∙ ap (λ z. d ∷ z) r.0, r.1)

by_shapes : (s t : Signal) → shapes s ≡ shapes t → public_cards s ≡ public_cards t → same_public s t ≡ true
by_shapes [] [] e h = refl
by_shapes [] (q ∷ t) e h = cc
by_shapes (p ∷ s) [] e h = cc
by_shapes (p ∷ s) (q ∷ t) e h =
    let first : ℕ × ℕ = (length p.own, length p.public) in
    let other : ℕ × ℕ = (length q.own, length q.public) in
    let pair : first ≡ other = cc in
    let tail : shapes s ≡ shapes t = cc in
    let r = parted p.public q.public (public_cards s) (public_cards t) (ap (λ (x : ℕ × ℕ). x.1) pair) h in
    ap (λ c. same_cards c q.public && same_public s t) r.0 ∙ ap (λ b. b && same_public s t) (same_cards-self q.public) ∙ by_shapes s t tail r.1

shapes-push : (s : Signal) (p : Seen) → shapes (s ++ p ∷ []) ≡ shapes s ++ (length p.own, length p.public) ∷ []
shapes-push [] p = refl
shapes-push (q ∷ s) p = ap (λ l. (length q.own, length q.public) ∷ l) (shapes-push s p)

-- how many cards the first rounds of a game show
pub dealt_shapes : Game → ℕ → List (ℕ × ℕ)
dealt_shapes g zero = []
dealt_shapes g (suc round) = dealt_shapes g round ++ ((round_at g (suc round)).private, (round_at g (suc round)).public) ∷ []

-- all signals of a round show as many cards in each part
pub shaped : (g : Game) (round i : ℕ) → i < length (signals g round) → shapes (signal_at g round i) ≡ dealt_shapes g round
unfolding dealt_shapes
shaped g zero zero l = refl
shaped g zero (suc i) l = absurd (omega arith)
shaped g (suc r) i l =
    let c = grown_from g r i l in
    let h = last_is_shown g (suc r) i (omega arith) l in
    let p : ℕ = get_or (parents g (suc r)) i 0 in
    let last : Seen = last_seen (signal_at g (suc r) i) in
    ap shapes c.is
    ∙ shapes-push (signal_at g r p) last
    ∙ ap (λ l. l ++ (length last.own, length last.public) ∷ []) (shaped g r p c.within)
    ∙ ap (λ n. dealt_shapes g r ++ (n, length last.public) ∷ []) h.own_counted
    ∙ ap (λ n. dealt_shapes g r ++ ((round_at g (suc r)).private, n) ∷ []) h.public_counted

-- the list of all public cards tells signals of a round by what they show
pub same_list : (g : Game) (round i k : ℕ) → i < length (signals g round) → k < length (signals g round)
    → public_cards (signal_at g round i) ≡ public_cards (signal_at g round k) → same_public (signal_at g round i) (signal_at g round k) ≡ true
same_list g round i k a b e = by_shapes (signal_at g round i) (signal_at g round k) (shaped g round i a ∙ sym (shaped g round k b)) e

pub other_list : (g : Game) (round i k : ℕ) → (public_cards (signal_at g round k) ≡ public_cards (signal_at g round i) → ⊥)
    → same_public (signal_at g round i) (signal_at g round k) ≡ false
other_list g round i k ne = go (same_public (signal_at g round i) (signal_at g round k)) refl
  where
    go : (b : Bool) → same_public (signal_at g round i) (signal_at g round k) ≡ b → b ≡ false
    go true e = absurd (ne (sym (one_list (signal_at g round i) (signal_at g round k) e)))
    go false e = refl
