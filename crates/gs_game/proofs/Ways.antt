-- The ways to take cards where no kind has more than one copy.
use Rattle.std.proofs.Common.{◌≡◌, ◌+◌, ◌<◌, ◌≤◌, ℕ, zero, suc, List, [], ◌∷◌, length, get_or, arith, subst}
use Rattle.std.specs.Prelude.{count_by, ◌==◌}
use Rattle.gs_model.specs.Cards.{choose, left_after, ways, ways_from}
use Rattle.gs_model.proofs.{Basics.{factors_positive, product_positive}, Fits.{choose-some}, Factorials.{choose_room}}
use Rattle.gs_model.proofs.{SingleCards.{choose-le_one, product-le_one}, Listed.{left_at}}

-- how often a card stands among cards
abbrev pub times : ℕ → List ℕ → ℕ
times card g = count_by (λ x. x == card) g

-- no kind has more than one copy
abbrev pub Single : List ℕ → Type 0
Single left = (card : ℕ) → get_or left card 0 ≤ 1

pub single_after : (left g : List ℕ) → Single left → Single (left_after left g)
single_after left g h card = omega (arith, left_at left g card, h card)

-- a group can be taken where there are enough copies of each kind
pub ways_some : (left g : List ℕ) → ((card : ℕ) → card < length left → times card g ≤ get_or left card 0) → 0 < ways left g
ways_some left g h = go 0 left (λ i l. let e : i ≡ 0 + i = omega arith in subst (λ k. times k g ≤ get_or left i 0) e (h i l))
  where
    go : (kind : ℕ) (left : List ℕ) → ((i : ℕ) → i < length left → times (kind + i) g ≤ get_or left i 0) → 0 < ways_from kind left g
    go kind [] h = omega arith
    go kind (c ∷ cs) h =
        let z : kind + 0 ≡ kind = omega arith in
        let here : times kind g ≤ c = subst (λ k. times k g ≤ c) z (h 0 (omega arith)) in
        product_positive (choose c (times kind g)) (ways_from (suc kind) cs g) (choose-some c (times kind g) here)
        (go (suc kind) cs (λ i l. let e : kind + suc i ≡ suc kind + i = omega arith in subst (λ k. times k g ≤ get_or cs i 0) e (h (suc i) (omega arith))))

-- and only there
pub ways_room : (left g : List ℕ) → 0 < ways left g → (card : ℕ) → card < length left → times card g ≤ get_or left card 0
ways_room left g h card l = let e : 0 + card ≡ card = omega arith in subst (λ k. times k g ≤ get_or left card 0) e (go 0 left h card l)
  where
    go : (kind : ℕ) (left : List ℕ) → 0 < ways_from kind left g → (i : ℕ) → i < length left → times (kind + i) g ≤ get_or left i 0
    go kind [] h i l = absurd (omega arith)
    go kind (c ∷ cs) h zero l =
        let e : kind ≡ kind + 0 = omega arith in
        subst (λ k. times k g ≤ c) e (choose_room c (times kind g) (factors_positive (choose c (times kind g)) (ways_from (suc kind) cs g) h).0)
    go kind (c ∷ cs) h (suc i) l =
        let e : suc kind + i ≡ kind + suc i = omega arith in
        subst (λ k. times k g ≤ get_or cs i 0) e (go (suc kind) cs (factors_positive (choose c (times kind g)) (ways_from (suc kind) cs g) h).1 i (omega arith))

-- in one way, where no kind has more than one copy
pub ways_one : (left g : List ℕ) → Single left → ways left g ≤ 1
ways_one left g h = go 0 left h
  where
    go : (kind : ℕ) (left : List ℕ) → Single left → ways_from kind left g ≤ 1
    go kind [] h = omega arith
    go kind (c ∷ cs) h = product-le_one (choose c (times kind g)) (ways_from (suc kind) cs g) (choose-le_one c (times kind g) (h 0))
        (go (suc kind) cs (λ i. h (suc i)))
