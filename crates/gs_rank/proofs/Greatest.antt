-- The category of three cards is the greatest that applies.
use Rattle.std.proofs.Common.{◌≡◌, ◌≢◌, ℕ, ◌+◌, ◌-◌, ◌*◌, ◌/◌, ◌<◌, ◌≤◌, max, min, refl, sym, ap, ◌∙◌, suc, arith, Bool, true, false, cond, ⊎_elim, inl, inr}
use Rattle.std.proofs.{Math.Bool.{or-true}, lemmas.Bool.{eqb-true, eq-eqb, and_parts, and_from, or_cases, cases_eq}}
use Rattle.std.specs.Prelude.{◌==◌, ◌&&◌, ◌||◌, ◌⊎◌, nat_lt}
use Rattle.gs_model.specs.{Game.{Three}, Outcome.{rank_of, suit_of, three_strength, category}}
use Rattle.gs_rank.specs.ThreeCards.{Cards, Category, HighCard, OnePair, Flush, Straight, ThreeOfAKind, StraightFlush, category_number, Applies, IsPair}
use Rattle.gs_rank.specs.ThreeCards.{IsFlush, IsStraight, IsThreeOfAKind, IsGreatest}

-- the category by the tests: straight, flush, three of a kind, a high pair, a low pair
abbrev chosen : Bool → Bool → Bool → Bool → Bool → ℕ
chosen s f e p q = cond (s && f) 5 (cond e 4 (cond s 3 (cond f 2 (cond p 1 (cond q 1 0)))))

chosen_is : (high middle low : ℕ) (s f e p q : Bool) → high < 64 → middle < 64 → low < 64 →
    cond (s && f) (5 * 262144 + high * 4096) (cond e (4 * 262144 + high * 4096)
    (cond s (3 * 262144 + high * 4096) (cond f (2 * 262144 + high * 4096 + middle * 64 + low)
    (cond p (262144 + high * 4096 + low * 64) (cond q (262144 + middle * 4096 + high * 64) (high * 4096 + middle * 64 + low)))))) / 262144
    ≡ chosen s f e p q
chosen_is h m l true true e p q a b c = omega arith
chosen_is h m l true false true p q a b c = omega arith
chosen_is h m l true false false p q a b c = omega arith
chosen_is h m l false f true p q a b c = omega arith
chosen_is h m l false true false p q a b c = omega arith
chosen_is h m l false false false true q a b c = omega arith
chosen_is h m l false false false false true a b c = omega arith
chosen_is h m l false false false false false a b c = omega arith

-- the ranks in order
record InOrder (x y z high middle low : ℕ) : Type 0 where
  top : high ≡ max x (max y z)
  bottom : low ≡ min x (min y z)
  between : middle ≡ x + y + z - high - low

either : (a b c d e f : ℕ) → ((a ≡ d → ⊥) → (b ≡ e → ⊥) → (c ≡ f → ⊥) → ⊥) → (a ≡ d) ⊎ (b ≡ e) ⊎ (c ≡ f)
either a b c d e f k = ⊎_elim inl (λ p. ⊎_elim (λ x. inr (inl x)) (λ q. ⊎_elim (λ x. inr (inr x)) (λ r. absurd (k p q r)) (cases_eq c f)) (cases_eq b e))
    (cases_eq a d)

-- some rank of three is this one
abbrev Some : ℕ → ℕ → ℕ → ℕ → Type 0
Some x y z rank = (x ≡ rank) ⊎ (y ≡ rank) ⊎ (z ≡ rank)

straight_ranks : (x y z : ℕ) (h m l : ℕ) → InOrder x y z h m l → h ≡ m + 1 → m ≡ l + 1 → Some x y z l × Some x y z (l + 1) × Some x y z (l + 2)
straight_ranks x y z h m l o e f = (
  either x y z l l l (λ (p : x ≢ l) (q : y ≢ l) (r : z ≢ l). absurd (omega arith)),
  either x y z (l + 1) (l + 1) (l + 1) (λ (p : x ≢ l + 1) (q : y ≢ l + 1) (r : z ≢ l + 1). absurd (omega arith)),
  either x y z (l + 2) (l + 2) (l + 2) (λ (p : x ≢ l + 2) (q : y ≢ l + 2) (r : z ≢ l + 2). absurd (omega arith)),
)

ranks_straight : (x y z : ℕ) (h m l low : ℕ) → InOrder x y z h m l → Some x y z low → Some x y z (low + 1) → Some x y z (low + 2) → (h ≡ m + 1) × (m ≡ l + 1)
ranks_straight x y z h m l low o a b c = (grind (arith, o.top, o.bottom, o.between, a, b, c), grind (arith, o.top, o.bottom, o.between, a, b, c))

some_pair : (x y z : ℕ) (h m l : ℕ) → InOrder x y z h m l → (h ≡ m) ⊎ (m ≡ l) → (x ≡ y) ⊎ (y ≡ z) ⊎ (x ≡ z)
some_pair x y z h m l o e = either x y x y z z (λ (p : x ≢ y) (q : y ≢ z) (r : x
    ≢ z). ⊎_elim (λ (k : h ≡ m). absurd (omega arith)) (λ (k : m ≡ l). absurd (omega arith)) e)

pair_some : (x y z : ℕ) (h m l : ℕ) → InOrder x y z h m l → (x ≡ y) ⊎ (y ≡ z) ⊎ (x ≡ z) → (h ≡ m) ⊎ (m ≡ l)
pair_some x y z h m l o e =
    ⊎_elim inl
    (λ (p : h ≢ m). ⊎_elim inr (λ (q : m ≢ l). absurd (⊎_elim (λ (k : x ≡ y). omega arith)
    (λ (r : (y ≡ z) ⊎ (x ≡ z)). ⊎_elim (λ (k : y ≡ z). omega arith) (λ (k : x ≡ z). omega arith) r) e)) (cases_eq m l))
    (cases_eq h m)

all_same : (x y z : ℕ) (h m l : ℕ) → InOrder x y z h m l → h ≡ l → (x ≡ y) × (y ≡ z)
all_same x y z h m l o e = (omega arith, omega arith)

same_all : (x y z : ℕ) (h m l : ℕ) → InOrder x y z h m l → (x ≡ y) × (y ≡ z) → h ≡ l
same_all x y z h m l o e = omega arith

-- what the tests have to say where a category applies
abbrev says : Category → Bool → Bool → Bool → Bool → Bool → Bool
says HighCard s f e p q = true
says OnePair s f e p q = p || q
says Flush s f e p q = f
says Straight s f e p q = s
says ThreeOfAKind s f e p q = e
says StraightFlush s f e p q = s && f

-- what is chosen applies, and what applies is no higher
abbrev agrees : Category → Bool → Bool → Bool → Bool → Bool → Bool
agrees c s f e p q = cond (category_number c == chosen s f e p q) (says c s f e p q) true && cond (says c s f e p q)
    (nat_lt (category_number c) (suc (chosen s f e p q))) true

-- a test at both truth values
abbrev each : (Bool → Bool) → Bool
each t = t true && t false

at_each : (t : Bool → Bool) → each t ≡ true → (b : Bool) → t b ≡ true
at_each t h true = (and_parts (t true) (t false) h).0
at_each t h false = (and_parts (t true) (t false) h).1

-- all 32 outcomes of the tests
all_agree : (c : Category) → each (λ s. each (λ f. each (λ e. each (λ p. each (λ q. agrees c s f e p q))))) ≡ true
all_agree HighCard = refl
all_agree OnePair = refl
all_agree Flush = refl
all_agree Straight = refl
all_agree ThreeOfAKind = refl
all_agree StraightFlush = refl

module _ (c : Category) (s f e p q : Bool) where
  agree : (cond (category_number c == chosen s f e p q) (says c s f e p q) true ≡ true)
      × (cond (says c s f e p q) (nat_lt (category_number c) (suc (chosen s f e p q))) true ≡ true)
  agree =
      let a = at_each (λ s. each (λ f. each (λ e. each (λ p. each (λ q. agrees c s f e p q))))) (all_agree c) s in
      let b = at_each (λ f. each (λ e. each (λ p. each (λ q. agrees c s f e p q)))) a f in
      let d = at_each (λ e. each (λ p. each (λ q. agrees c s f e p q))) b e in
      let g = at_each (λ q. agrees c s f e p q) (at_each (λ p. each (λ q. agrees c s f e p q)) d p) q in
      and_parts (cond (category_number c == chosen s f e p q) (says c s f e p q) true)
      (cond (says c s f e p q) (nat_lt (category_number c) (suc (chosen s f e p q))) true) g

  said : category_number c ≡ chosen s f e p q → says c s f e p q ≡ true
  said n = ap (λ t. cond t (says c s f e p q) true) (sym (eq-eqb _ _ n)) ∙ agree.0

  most : says c s f e p q ≡ true → category_number c ≤ chosen s f e p q
  most h =
      let l : nat_lt (category_number c) (suc (chosen s f e p q)) ≡ true = ap (λ t. cond t (nat_lt (category_number c) (suc (chosen s f e p q))) true)
      (sym h) ∙ agree.1 in
      grind (arith, l)

-- the category is the greatest that applies
pub is_greatest : (suits : ℕ) (h : Cards) → rank_of suits h.first < 64 → rank_of suits h.second < 64 → rank_of suits h.third < 64
    → IsGreatest suits h (category Three (three_strength suits h.first h.second h.third))
is_greatest suits h a b c =
    let x = rank_of suits h.first in
    let y = rank_of suits h.second in
    let z = rank_of suits h.third in
    let high = max x (max y z) in
    let low = min x (min y z) in
    let middle = x + y + z - high - low in
    let s = (high == middle + 1) && (middle == low + 1) in
    let f = (suit_of suits h.first == suit_of suits h.second) && (suit_of suits h.second == suit_of suits h.third) in
    let e = high == low in
    let p = high == middle in
    let q = middle == low in
    let o : InOrder x y z high middle low = record { top = refl; bottom = refl; between = refl } in
    let is : category Three (three_strength suits h.first h.second h.third) ≡ chosen s f e p q =
    chosen_is high middle low s f e p q (omega arith) (omega arith) (omega arith) in
    let straight : s ≡ true → IsStraight suits h = λ t. let k = and_parts (high == middle + 1) (middle == low + 1) t in
    let r = straight_ranks x y z high middle low o (eqb-true _ _ k.0) (eqb-true _ _ k.1) in (low, r.0, r.1, r.2) in
    let straight_back : IsStraight suits h → s ≡ true = λ t. let k = ranks_straight x y z high middle low t.0 o t.1 t.2 t.3 in
    and_from (high == middle + 1) (middle == low + 1) (eq-eqb _ _ k.0) (eq-eqb _ _ k.1) in
    let flush : f ≡ true → IsFlush suits h = λ t. let k = and_parts (suit_of suits h.first == suit_of suits h.second) (suit_of suits h.second
    == suit_of suits h.third) t in (eqb-true _ _ k.0, eqb-true _ _ k.1) in
    let flush_back : IsFlush suits h → f ≡ true = λ t. and_from (suit_of suits h.first == suit_of suits h.second) (suit_of suits h.second
    == suit_of suits h.third) (eq-eqb _ _ t.0) (eq-eqb _ _ t.1) in
    let three : e ≡ true → IsThreeOfAKind suits h = λ t. all_same x y z high middle low o (eqb-true _ _ t) in
    let three_back : IsThreeOfAKind suits h → e ≡ true = λ t. eq-eqb _ _ (same_all x y z high middle low o t) in
    let pair : (p ≡ true) ⊎ (q ≡ true) → IsPair suits h = λ t. some_pair x y z high middle low o
    (⊎_elim (λ (k : p ≡ true). inl (eqb-true _ _ k)) (λ (k : q ≡ true). inr (eqb-true _ _ k)) t) in
    let pair_back : IsPair suits h → (p ≡ true) ⊎ (q ≡ true) = λ t. ⊎_elim (λ (k : high ≡ middle). inl (eq-eqb _ _ k))
    (λ (k : middle ≡ low). inr (eq-eqb _ _ k)) (pair_some x y z high middle low o t) in
    rw is (by suits h s f e p q straight straight_back flush flush_back three three_back pair pair_back)
  where
    by : (suits : ℕ) (h : Cards) (s f e p q : Bool) → (s ≡ true → IsStraight suits h) → (IsStraight suits h → s ≡ true) → (f ≡ true → IsFlush suits h)
        → (IsFlush suits h → f ≡ true) → (e ≡ true → IsThreeOfAKind suits h) → (IsThreeOfAKind suits h → e ≡ true)
        → ((p ≡ true) ⊎ (q ≡ true) → IsPair suits h) → (IsPair suits h → (p ≡ true) ⊎ (q ≡ true)) → IsGreatest suits h (chosen s f e p q)
    by suits h s f e p q straight straight_back flush flush_back three three_back pair pair_back = record { applies = applies; greatest = greatest }
      where
        told : (c : Category) → says c s f e p q ≡ true → Applies suits h c
        told HighCard t = tt
        told OnePair t = pair (or_cases p q t)
        told Flush t = flush t
        told Straight t = straight t
        told ThreeOfAKind t = three t
        told StraightFlush t = let k = and_parts s f t in (straight k.0, flush k.1)

        tells : (c : Category) → Applies suits h c → says c s f e p q ≡ true
        tells HighCard a = refl
        tells OnePair a = ⊎_elim (λ (k : p ≡ true). ap (λ t. t || q) k) (λ (k : q ≡ true). ap (λ t. p || t) k ∙ or-true p) (pair_back a)
        tells Flush a = flush_back a
        tells Straight a = straight_back a
        tells ThreeOfAKind a = three_back a
        tells StraightFlush a = and_from s f (straight_back a.0) (flush_back a.1)

        applies : (c : Category) → category_number c ≡ chosen s f e p q → Applies suits h c
        applies c n = told c (said c s f e p q n)

        greatest : (c : Category) → Applies suits h c → category_number c ≤ chosen s f e p q
        greatest c a = most c s f e p q (tells c a)
