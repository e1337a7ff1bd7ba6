-- The ways of taking a group, card by card.
use Rattle.std.proofs.Common.{◌≡◌, ◌≢◌, ℕ, zero, suc, ◌+◌, ◌-◌, ◌*◌, ◌/◌, ◌^◌, ◌<◌, ◌≤◌, List, [], ◌∷◌, ◌++◌, length, take, get_or, refl, ap, sym, ◌∙◌, cond}
use Rattle.std.proofs.{Common.{eqb, arith, ⊎_elim, subst, add-one, true, false}, Math.Nat.{mul-div_cancel, div-le_self, pow-succ'}}
use Rattle.std.proofs.{lemmas.Bool.{cases_lt, eq-eqb, ne_eqb}, lemmas.List.{take_more}, lemmas.List.Sums.{sum_by_push}}
use Rattle.gs_model.specs.Cards.{choose, ways, ways_from}
use Rattle.gs_model.proofs.{Choose.{choose-zero}, Listed.{times}}

-- one more of n things is chosen: each choice of t + 1 comes from t + 1 choices of t
pub choose_more : (n t : ℕ) → choose n (suc t) * suc t ≡ choose n t * (n - t)
choose_more zero zero = refl
choose_more zero (suc t) = omega arith
choose_more (suc n) zero = omega (arith, choose_more n zero)
choose_more (suc n) (suc t) =
    let e : suc n - suc t ≡ n - t = omega arith in
    ⊎_elim
    (λ (l : n < suc t).
    let z = choose-zero n (suc t) l in
    let y = choose-zero n (suc (suc t)) (omega arith) in
    omega (
      arith,
      choose_more n t,
      ap (λ k. k * suc t) z,
      ap (λ k. k * suc (suc t)) z,
      ap (λ k. k * suc (suc t)) y,
      ap (λ k. k * (n - t)) z,
      ap (λ k. choose n t * k) e,
      ap (λ k. choose n (suc t) * k) e,
    ))
    (λ (l : suc t ≤ n).
    let f : n - t ≡ suc (n - suc t) = omega arith in
    omega (
      arith,
      choose_more n (suc t),
      choose_more n t,
      ap (λ k. choose n t * k) e,
      ap (λ k. choose n (suc t) * k) e,
      ap (λ k. choose n t * k) f,
      ap (λ k. choose n (suc t) * k) f,
    ))
    (cases_lt n (suc t))

pub times_here : (k : ℕ) (g : List ℕ) → times k (g ++ k ∷ []) ≡ suc (times k g)
times_here k g =
    let p = sum_by_push (λ x. cond (eqb x k) 1 0) g k in
    let e : eqb k k ≡ true = eq-eqb k k refl in
    grind (arith, p, e)

pub times_other : (k a : ℕ) (g : List ℕ) → a ≢ k → times k (g ++ a ∷ []) ≡ times k g
times_other k a g n =
    let p = sum_by_push (λ x. cond (eqb x k) 1 0) g a in
    let e : eqb a k ≡ false = ne_eqb a k n in
    grind (arith, p, e)

-- a card of a lower kind does not matter
ways_skip : (kind : ℕ) (left g : List ℕ) (a : ℕ) → a < kind → ways_from kind left (g ++ a ∷ []) ≡ ways_from kind left g
ways_skip kind [] g a l = refl
ways_skip kind (c ∷ cs) g a l =
    ap (λ t. choose c t * ways_from (suc kind) cs (g ++ a ∷ [])) (times_other kind a g (λ (e : a ≡ kind). absurd (omega arith)))
    ∙ ap (λ w. choose c (times kind g) * w) (ways_skip (suc kind) cs g a (omega arith))

-- one more card of the first kind
first_more : (kind c : ℕ) (cs g : List ℕ) → ways_from kind (c ∷ cs) (g ++ kind ∷ []) * suc (times kind g) ≡ ways_from kind (c ∷ cs) g * (c - times kind g)
first_more kind c cs g =
    let w = ways_from (suc kind) cs g in
    let t = times kind g in
    ap (λ k. choose c k * ways_from (suc kind) cs (g ++ kind ∷ []) * suc t) (times_here kind g)
    ∙ ap (λ v. choose c (suc t) * v * suc t) (ways_skip (suc kind) cs g kind (omega arith))
    ∙ omega (arith, ap (λ k. k * w) (choose_more c t))

-- one more card of a group
ways_from-more : (kind : ℕ) (left g : List ℕ) (i a : ℕ) → i < length left → kind + i ≡ a
    → ways_from kind left (g ++ a ∷ []) * suc (times a g) ≡ ways_from kind left g * (get_or left i 0 - times a g)
ways_from-more kind [] g i a l e = absurd (omega arith)
ways_from-more kind (c ∷ cs) g zero a l e =
    let same : kind ≡ a = omega arith in
    let P : ℕ → Type 0 = λ x. ways_from kind (c ∷ cs) (g ++ x ∷ []) * suc (times x g) ≡ ways_from kind (c ∷ cs) g * (c - times x g) in
    subst P same (first_more kind c cs g)
ways_from-more kind (c ∷ cs) g (suc i) a l e =
    let t = times kind g in
    ap (λ k. choose c k * ways_from (suc kind) cs (g ++ a ∷ []) * suc (times a g)) (times_other kind a g (λ (s : a ≡ kind). absurd (omega arith)))
    ∙ omega (arith, ap (λ k. choose c t * k) (ways_from-more (suc kind) cs g i a (omega arith) (omega arith)))

-- the ways of one card more, by an exact division
pub ways_more : (left g : List ℕ) (i a w s t : ℕ) → i < length g → a ≡ get_or g i a → a < length left → w ≡ ways left (take i g) → t ≡ times a (take i g)
    → s ≡ get_or left a 0 - t → w * s / (t + 1) ≡ ways left (take (i + 1) g)
ways_more left g i a w s t l at b e f h =
    let next : take i g ++ a ∷ [] ≡ take (i + 1) g = ap (λ x. take i g ++ x ∷ []) at ∙ sym (take_more g i a l) in
    let step : ways left (take i g ++ a ∷ []) * suc (times a (take i g)) ≡ ways left (take i g) * (get_or left a 0 - times a (take i g)) =
    ways_from-more 0 left (take i g) a a b (omega arith) in
    let product : w * s ≡ ways left (take i g ++ a ∷ []) * (t + 1) = rw (e, h, f) (sym step ∙ rw add-one refl) in
    ap (λ k. k / (t + 1)) product ∙ mul-div_cancel (ways left (take i g ++ a ∷ [])) (omega arith) ∙ ap (ways left) next

product_small : (w d p : ℕ) → w ≤ p → d ≤ 9 → w * d ≤ 9 * p
product_small w d p h k = grind (arith, h, k)

-- with at most nine copies of each kind there are few ways
pub few_ways : (w s c t i : ℕ) → w ≤ 9 ^ i → c ≤ 9 → s ≡ c - t → w * s / (t + 1) ≤ 9 ^ (i + 1)
few_ways w s c t i h k f =
    let a : w * s / (t + 1) ≤ w * s = div-le_self (w * s) (t + 1) in
    let b : w * s ≤ 9 * 9 ^ i = product_small w s (9 ^ i) h (omega arith) in
    let e : 9 ^ (i + 1) ≡ 9 * 9 ^ i = rw add-one (pow-succ' 9 i) in
    rw e (omega arith)

-- no card is taken in one way
pub ways-none : (left : List ℕ) → ways left [] ≡ 1
ways-none left = go 0 left
  where
    go : (kind : ℕ) (left : List ℕ) → ways_from kind left [] ≡ 1
    go kind [] = refl
    go kind (c ∷ cs) = omega (arith, go (suc kind) cs)
