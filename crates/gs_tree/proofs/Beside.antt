-- The groups of one player beside the signal of another.
use Rattle.std.proofs.Common.{◌≡◌, ℕ, suc, ◌+◌, ◌-◌, ◌*◌, ◌≤◌, ◌++◌, List, [], ◌∷◌, append-nil, get_or, length, length-append, refl, sym, ap, ◌∙◌, arith, cond}
use Rattle.std.proofs.Common.{eqb}
use Rattle.std.proofs.lemmas.{List.{nil_from_length}, List.Sums.{sum_by-append}}
use Rattle.std.specs.Prelude.{count_by, ◌==◌}
use Rattle.gs_model.specs.{Cards.{ways, left_after, left_from}, Deals.{own_ways}, Signals.{Seen, Signal, left_by, own_cards, public_cards}}
use Rattle.gs_model.proofs.Listed.{left_at}
use Rattle.gs_card.proofs.TakenCards.{ways-none}
use Rattle.gs_tree.proofs.Taken.{taken_none}

-- how often a card stands among cards
abbrev pub times : ℕ → List ℕ → ℕ
times card g = count_by (λ other. other == card) g

pub times-append : (card : ℕ) (g h : List ℕ) → times card (g ++ h) ≡ times card g + times card h
times-append card g h = sum_by-append (λ x. cond (eqb x card) 1 0) g h

-- taking groups one after another
left_twice : (left g h : List ℕ) → left_after (left_after left g) h ≡ left_after left (g ++ h)
left_twice left g h = go 0 left
  where
    go : (kind : ℕ) (left : List ℕ) → left_from kind (left_from kind left g) h ≡ left_from kind left (g ++ h)
    go kind [] = refl
    go kind (c ∷ cs) =
        let e : c - times kind g - times kind h ≡ c - times kind (g ++ h) = omega (arith, times-append kind g h) in
        ap (λ n. n ∷ left_from (suc kind) (left_from (suc kind) cs g) h) e ∙ ap (λ l. (c - times kind (g ++ h)) ∷ l) (go (suc kind) cs)

-- in either order
left_swap : (left g h : List ℕ) → left_after (left_after left g) h ≡ left_after (left_after left h) g
left_swap left g h = go 0 left
  where
    go : (kind : ℕ) (left : List ℕ) → left_from kind (left_from kind left g) h ≡ left_from kind (left_from kind left h) g
    go kind [] = refl
    go kind (c ∷ cs) =
        let e : c - times kind g - times kind h ≡ c - times kind h - times kind g = omega arith in
        ap (λ n. n ∷ left_from (suc kind) (left_from (suc kind) cs g) h) e ∙ ap (λ l. (c - times kind h - times kind g) ∷ l) (go (suc kind) cs)

-- what a signal leaves: its own cards taken, and its public ones
pub left_by_cards : (left : List ℕ) (s : Signal) → left_by left s ≡ left_after (left_after left (own_cards s)) (public_cards s)
left_by_cards left [] = sym (ap (λ l. left_after l []) (taken_none left) ∙ taken_none left)
left_by_cards left (p ∷ s) =
    left_by_cards (left_after (left_after left p.own) p.public) s
    ∙ ap (λ l. left_after l (public_cards s)) (left_swap (left_after left p.own) p.public (own_cards s))
    ∙ ap (λ l. left_after (left_after l p.public) (public_cards s)) (left_twice left p.own (own_cards s))
    ∙ left_twice (left_after left (p.own ++ own_cards s)) p.public (public_cards s)

pub own_ways-push : (left : List ℕ) (s : Signal) (p : Seen) → own_ways left (s ++ p ∷ []) ≡ own_ways left s * ways (left_after left (own_cards s)) p.own
own_ways-push left [] p = omega (arith, ap (λ l. ways l p.own) (taken_none left))
own_ways-push left (q ∷ s) p =
    ap (λ n. ways left q.own * n) (own_ways-push (left_after left q.own) s p)
    ∙ ap (λ l. ways left q.own * (own_ways (left_after left q.own) s * ways l p.own)) (left_twice left q.own (own_cards s)) ∙ omega arith

-- a signal without own cards is taken in one way
own_ways-none : (left : List ℕ) (s : Signal) → length (own_cards s) ≡ 0 → own_ways left s ≡ 1
own_ways-none left [] e = refl
own_ways-none left (p ∷ s) e =
    let both = length-append p.own (own_cards s) in
    let none : p.own ≡ [] = nil_from_length p.own (omega (arith, e, both)) in
    let rest : own_ways (left_after left p.own) s ≡ 1 = own_ways-none (left_after left p.own) s (omega (arith, e, both)) in
    ap (λ n. ways left p.own * n) rest ∙ ap (λ g. ways left g * 1) none ∙ omega (arith, ways-none left)

-- where all rounds show one own card together, it is taken from the copies that are left at first
pub own_ways-one : (left : List ℕ) (s : Signal) → length (own_cards s) ≡ 1 → own_ways left s ≡ ways left (own_cards s)
own_ways-one left [] e = absurd (omega (arith, e))
own_ways-one left (p ∷ s) e = go (λ later. own_ways-one left s later) p.own refl
  where
    both : length (p.own ++ own_cards s) ≡ length p.own + length (own_cards s)
    both = length-append p.own (own_cards s)

    go : (length (own_cards s) ≡ 1 → own_ways left s ≡ ways left (own_cards s)) → (own : List ℕ) → own ≡ p.own
        → own_ways left (p ∷ s) ≡ ways left (p.own ++ own_cards s)
    go behind [] is =
        let later : length (own_cards s) ≡ 1 = omega (arith, e, both, ap (λ (g : List ℕ). length g) is) in
        ap (λ g. ways left g * own_ways (left_after left g) s) (sym is) ∙ ap (λ l. ways left [] * own_ways l s) (taken_none left)
        ∙ ap (λ n. n * own_ways left s) (ways-none left) ∙ omega (arith, behind later) ∙ ap (λ g. ways left (g ++ own_cards s)) is
    go behind (c ∷ cs) is =
        let none : length (own_cards s) ≡ 0 = omega (arith, e, both, ap (λ (g : List ℕ). length g) is) in
        let nil : own_cards s ≡ [] = nil_from_length (own_cards s) none in
        ap (λ n. ways left p.own * n) (own_ways-none (left_after left p.own) s none) ∙ omega arith
        ∙ ap (ways left) (sym (ap (λ r. p.own ++ r) nil ∙ append-nil p.own))

-- the copies of a kind left beside another player's own cards, the public cards and earlier own cards
pub beside_read : (left held board before : List ℕ) (card : ℕ) → get_or (left_after (left_after (left_after left held) board) before) card 0
    ≡ get_or left card 0 - times card held - times card board - times card before
beside_read left held board before card = omega (
  arith,
  left_at (left_after (left_after left held) board) before card,
  left_at (left_after left held) board card,
  left_at left held card,
)

-- copies taken away four times, where each count is known by another name
pub four_taken : (a b c d rest p q r again x y z all left : ℕ) → a ≡ all → b ≡ a - p → c ≡ b - q → d ≡ c - r → rest ≡ d - again → p ≡ x → q ≡ y → r ≡ z
    → left ≡ all - x - y - z → rest ≡ left - again
four_taken a b c d rest p q r again x y z all left ha hb hc hd he hp hq hr hl =
    he ∙ ap (λ n. n - again) (hd ∙ ap (λ n. n - r) (hc ∙ ap (λ n. n - q) (hb ∙ ap (λ n. n - p) ha ∙ ap (λ n. all - n) hp)
    ∙ ap (λ n. all - x - n) hq) ∙ ap (λ n. all - x - y - n) hr ∙ sym hl)

-- and no more is left than there was
pub four_few : (a b c d rest p q r again all most : ℕ) → a ≡ all → b ≡ a - p → c ≡ b - q → d ≡ c - r → rest ≡ d - again → all ≤ most → rest ≤ most
four_few a b c d rest p q r again all most ha hb hc hd he few = omega (arith, ha, hb, hc, hd, he, few)
