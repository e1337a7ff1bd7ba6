-- The copies left once cards are taken, card by card.
use Rattle.std.proofs.Common.{◌≡◌, ℕ, zero, suc, ◌+◌, ◌-◌, ◌<◌, List, [], ◌∷◌, ◌++◌, length, take, get_or, refl, sym, ap, ◌∙◌, arith, slice_index, slice_set}
use Rattle.std.proofs.Common.{subst, All, ◌≤◌, ◌*◌, ◌/◌, ◌^◌, take_all}
use Rattle.std.proofs.{lemmas.List.{take_more}, lemmas.List.Elements.{All-from_recursion, recursion_from_All}}
use Rattle.std.specs.{Prelude.{count_by, ◌==◌}, List.{AllByRecursion}}
use Rattle.gs_model.specs.Cards.{left_after, left_from, ways}
use Rattle.gs_model.proofs.Listed.{times}
use Rattle.gs_card.proofs.TakenCards.{times_here, times_other, ways_more, few_ways, ways-none}

-- a card of a lower kind does not matter
left_skip : (kind : ℕ) (left g : List ℕ) (a : ℕ) → a < kind → left_from kind left (g ++ a ∷ []) ≡ left_from kind left g
left_skip kind [] g a l = refl
left_skip kind (c ∷ cs) g a l =
    ap (λ t. (c - t) ∷ left_from (suc kind) cs (g ++ a ∷ [])) (times_other kind a g (λ (e : a ≡ kind). absurd (omega arith)))
    ∙ ap (λ w. (c - count_by (λ x. x == kind) g) ∷ w) (left_skip (suc kind) cs g a (omega arith))

left_more : (kind : ℕ) (left g : List ℕ) (i a : ℕ) → kind + i ≡ a → left_from kind left (g ++ a ∷ [])
    ≡ slice_set (left_from kind left g) i (slice_index (left_from kind left g) i - 1)
left_more kind [] g i a e = refl
left_more kind (c ∷ cs) g zero a e =
    let same : kind ≡ a = omega arith in
    let P : ℕ → Type 0 = λ x. left_from kind (c ∷ cs) (g ++ x ∷ []) ≡ (c - count_by (λ x. x == kind) g - 1) ∷ left_from (suc kind) cs g in
    let here : c - suc (count_by (λ x. x == kind) g) ≡ c - count_by (λ x. x == kind) g - 1 = omega arith in
    subst P same (ap (λ t. (c - t) ∷ left_from (suc kind) cs (g ++ kind ∷ [])) (times_here kind g)
    ∙ ap (λ n. n ∷ left_from (suc kind) cs (g ++ kind ∷ [])) here ∙ ap (λ w. (c - count_by (λ x. x == kind) g - 1) ∷ w)
    (left_skip (suc kind) cs g kind (omega arith)))
left_more kind (c ∷ cs) g (suc i) a e =
    ap (λ t. (c - t) ∷ left_from (suc kind) cs (g ++ a ∷ [])) (times_other kind a g (λ (s : a ≡ kind). absurd (omega arith)))
    ∙ ap (λ w. (c - count_by (λ x. x == kind) g) ∷ w) (left_more (suc kind) cs g i a (omega arith))

-- one more card is taken
pub taken_more : (left g : List ℕ) (i a v : ℕ) → i < length g → a ≡ get_or g i a → v ≡ slice_index (left_after left (take i g)) a - 1
    → slice_set (left_after left (take i g)) a v ≡ left_after left (take (i + 1) g)
taken_more left g i a v l at e =
    let next : take i g ++ a ∷ [] ≡ take (i + 1) g = ap (λ x. take i g ++ x ∷ []) at ∙ sym (take_more g i a l) in
    ap (slice_set (left_after left (take i g)) a) e ∙ sym (left_more 0 left (take i g) a a (omega arith)) ∙ ap (left_after left) next

-- no card is taken
pub taken_none : (left : List ℕ) → left_after left [] ≡ left
taken_none left = go 0 left
  where
    go : (kind : ℕ) (left : List ℕ) → left_from kind left [] ≡ left
    go kind [] = refl
    go kind (c ∷ cs) = let e : c - 0 ≡ c = omega arith in ap (λ n. n ∷ left_from (suc kind) cs []) e ∙ ap (λ l. c ∷ l) (go (suc kind) cs)

-- less is left of each kind
pub taken_small : (left g : List ℕ) (n : ℕ) → All (λ c. c ≤ n) left → All (λ c. c ≤ n) (left_after left g)
taken_small left g n h = All-from_recursion (λ c. c ≤ n) (left_after left g) (go 0 left (recursion_from_All (λ c. c ≤ n) left h))
  where
    go : (kind : ℕ) (left : List ℕ) → AllByRecursion (λ c. c ≤ n) left → AllByRecursion (λ c. c ≤ n) (left_from kind left g)
    go kind [] h = tt
    go kind (c ∷ cs) h = (omega (arith, h.0), go (suc kind) cs h.1)

get_or_same : (xs : List ℕ) (i d e : ℕ) → i < length xs → get_or xs i e ≡ get_or xs i d
get_or_same [] i d e l = absurd (omega arith)
get_or_same (x ∷ xs) zero d e l = refl
get_or_same (x ∷ xs) (suc i) d e l = get_or_same xs i d e (omega arith)

-- the ways of taking few cards, from at most nine copies of each kind
ways_up_to : (left g : List ℕ) → All (λ c. c < length left) g → All (λ c. c ≤ 9) left → (i : ℕ) → i ≤ length g → ways left (take i g) ≤ 9 ^ i
ways_up_to left g h k zero l = omega (arith, ways-none left)
ways_up_to left g h k (suc i) l =
    let a = get_or g i 0 in
    let at : a ≡ get_or g i a = get_or_same g i a 0 (omega arith) in
    let w = ways left (take i g) in
    let t = times a (take i g) in
    let here : a < length left = h i 0 (omega arith) in
    let step : w * (get_or left a 0 - t) / (t + 1) ≡ ways left (take (i + 1) g) =
    ways_more left g i a w (get_or left a 0 - t) t (omega arith) at here refl refl refl in
    let bound : w * (get_or left a 0 - t) / (t + 1) ≤ 9 ^ (i + 1) = few_ways w (get_or left a 0 - t) (get_or left a 0) t i
    (ways_up_to left g h k i (omega arith)) (k a 0 here) refl in
    let next : suc i ≡ i + 1 = omega arith in
    let P : ℕ → Type 0 = λ j. ways left (take j g) ≤ 9 ^ j in
    subst P (sym next) (let Q : ℕ → Type 0 = λ v. v ≤ 9 ^ (i + 1) in subst Q step bound)

pub ways_power : (left g : List ℕ) → All (λ c. c < length left) g → All (λ c. c ≤ 9) left → ways left g ≤ 9 ^ length g
ways_power left g h k =
    let all : take (length g) g ≡ g = take_all (length g) g (omega arith) in
    let P : List ℕ → Type 0 = λ x. ways left x ≤ 9 ^ length g in
    subst P all (ways_up_to left g h k (length g) (omega arith))

pub ways_small : (left g : List ℕ) → All (λ c. c < length left) g → All (λ c. c ≤ 9) left → length g ≤ 3 → ways left g ≤ 729
ways_small left g h k l =
    let all : take (length g) g ≡ g = take_all (length g) g (omega arith) in
    let P : List ℕ → Type 0 = λ x. ways left x ≤ 9 ^ length g in
    le_power (ways left g) (length g) l (subst P all (ways_up_to left g h k (length g) (omega arith)))
  where
    le_power : (w n : ℕ) → n ≤ 3 → w ≤ 9 ^ n → w ≤ 729
    le_power w zero l h = omega arith
    le_power w (suc zero) l h = omega arith
    le_power w (suc (suc zero)) l h = omega arith
    le_power w (suc (suc (suc zero))) l h = omega arith
    le_power w (suc (suc (suc (suc n)))) l h = absurd (omega arith)

-- a step of a loop that takes cards
pub taken_step : (left rest next g : List ℕ) (i a k : ℕ) → i < length g → a ≡ get_or g i a → k ≡ a → rest ≡ left_after left (take i g)
    → next ≡ slice_set rest k (slice_index rest k - 1) → next ≡ left_after left (take (i + 1) g)
taken_step left rest next g i a k l at e f h =
    h ∙ ap (λ r. slice_set r k (slice_index r k - 1)) f ∙ ap (λ j. slice_set (left_after left (take i g)) j (slice_index (left_after left (take i g)) j - 1))
    e
    ∙ taken_more left g i a (slice_index (left_after left (take i g)) a - 1) l at refl

pub taken_end : (left rest g : List ℕ) (n : ℕ) → length g ≤ n → rest ≡ left_after left (take n g) → rest ≡ left_after left g
taken_end left rest g n l e = e ∙ ap (left_after left) (take_all n g l)

pub few_left : (left rest g : List ℕ) → rest ≡ left_after left g → All (λ c. c ≤ 9) left → All (λ c. c ≤ 9) rest
few_left left rest g e h = let P : List ℕ → Type 0 = λ r. All (λ c. c ≤ 9) r in subst P (sym e) (taken_small left g 9 h)
