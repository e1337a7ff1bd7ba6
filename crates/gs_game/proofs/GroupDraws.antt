-- The ways of all groups of a size, added up, and what each group leaves.
use Rattle.std.proofs.Common.{◌≡◌, ◌≢◌, ℕ, zero, suc, ◌+◌, ◌-◌, ◌*◌, ◌<◌, ◌≤◌, List, [], ◌∷◌, ◌++◌, length, drop, drop-cons, add-one, sum, refl, sym, ap, ◌∙◌}
use Rattle.std.proofs.Common.{arith, inl, inr, count_by, slice_set, slice_index, length-set, drop_of_length-le}
use Rattle.std.proofs.{lemmas.Bool.{cases_lt, lt-ltb, le-ltb}, lemmas.List.Sums.{sum_by-cons}, lemmas.List.{get_or-set_same, drop-set-lt}}
use Rattle.std.specs.{Prelude.{◌==◌}, List.{range_with_len, AllByRecursion}}
use Rattle.gs_model.specs.Cards.{choose, groups, groups_above, groups_with, ways, ways_from, left_after}
use Rattle.gs_model.proofs.{Ranges.{every-flat_map}, Basics.{every-map, count-head, count-past, every-any}}
use Rattle.gs_game.proofs.{CountSteps.{after-none, taken}, Drawing.{mixed, mixed-choose, mixed-none}}
use Rattle.gs_game.proofs.Totals.{total, total-same, total-same_every, total-append, total-map, total-times}

-- ---- groups from a kind on

above-more : (size : ℕ) (left : List ℕ) (least : ℕ) → least < length left
    → groups_above (suc size) left least ≡ groups_with (groups_above size) left least ++ groups_above (suc size) left (least + 1)
above-more size left least h = let n : length left - least ≡ suc (length left - (least + 1)) = omega arith in rw n refl

-- what holds of the groups of one card less, with the first card put before them, holds of the groups that begin with it
every-with : (P : List ℕ → Type 0) (others : List ℕ → ℕ → List (List ℕ)) (left : List ℕ) (card : ℕ)
    → (0 < slice_index left card → AllByRecursion (λ g. P (card ∷ g)) (others (slice_set left card (slice_index left card - 1)) card))
    → AllByRecursion P (groups_with others left card)
every-with P others left card h = elim (cases_lt 0 (slice_index left card)) [
  | inl some ↦ rw (lt-ltb 0 (slice_index left card) some) (every-map P (λ g. card ∷ g) (others (slice_set left card (slice_index left card - 1)) card)
      (h some))
  | inr none ↦ rw (le-ltb 0 (slice_index left card) none) tt
]

from-least : (a n m : ℕ) → m ≤ a → AllByRecursion (λ card. m ≤ card) (range_with_len a n)
from-least a zero m h = tt
from-least a (suc n) m h = (h, from-least (a + 1) n m (omega arith))

weaker : (kind card : ℕ) (gs : List (List ℕ)) → kind < card → AllByRecursion (λ g. count_by (λ x. x == kind) g ≡ 0) gs
    → AllByRecursion (λ g. count_by (λ x. x == kind) (card ∷ g) ≡ 0) gs
weaker kind card [] h a = tt
weaker kind card (g ∷ gs) h a = (count-past kind card g (λ e. absurd (omega (arith, e, h))) ∙ a.0, weaker kind card gs h a.1)

-- no card of a group is of a lower kind
high : (size : ℕ) (left : List ℕ) (least kind : ℕ) → kind < least → AllByRecursion (λ g. count_by (λ x. x == kind) g ≡ 0) (groups_above size left least)
high zero left least kind h = (refl, tt)
high (suc size) left least kind h =
    every-flat_map (λ g. count_by (λ x. x == kind) g ≡ 0) (groups_with (groups_above size) left) (λ card. least ≤ card)
    (λ card low. every-with (λ g. count_by (λ x. x == kind) g ≡ 0) (groups_above size) left card
    (λ some. weaker kind card (groups_above size (slice_set left card (slice_index left card - 1)) card) (omega (arith, low, h))
    (high size (slice_set left card (slice_index left card - 1)) card kind (omega (arith, low, h)))))
    (range_with_len least (length left - least)) (from-least least (length left - least) least (omega arith))

-- ---- their ways

ways-nil : (kind : ℕ) (left : List ℕ) → ways_from kind left [] ≡ 1
ways-nil kind [] = refl
ways-nil kind (c ∷ cs) = let r = ways-nil (suc kind) cs in omega (arith, r)

ways-skip : (kind card : ℕ) (left g : List ℕ) → card < kind → ways_from kind left (card ∷ g) ≡ ways_from kind left g
ways-skip kind card [] g h = refl
ways-skip kind card (c ∷ cs) g h =
    let n : card ≢ kind = λ e. absurd (omega (arith, e)) in
    rw (count-past kind card g n) (ap (λ (k : ℕ). choose c (count_by (λ x. x == kind) g) * k) (ways-skip (suc kind) card cs g (omega arith)))

-- ---- the ways of all groups from a kind on, where the ways of those from the next kind on are known

-- all ways to take a group of the kinds from k on, of lists of this length
abbrev pub Draws : ℕ → ℕ → Type 0
Draws k len = (left : List ℕ) (size : ℕ) → length left ≡ len → total (λ g. ways_from k (drop k left) g) (groups_above size left k)
    ≡ choose (sum (drop k left)) size

-- where t copies of the kind `least` are taken already, of n
abbrev weight_from : ℕ → ℕ → ℕ → List ℕ → List ℕ → ℕ
weight_from n t least above g = choose n (t + count_by (λ x. x == least) g) * ways_from (least + 1) above g

weight-here : (n t least : ℕ) (above g : List ℕ) → weight_from n t least above (least ∷ g) ≡ weight_from n (t + 1) least above g
weight-here n t least above g =
    let e : t + count_by (λ x. x == least) (least ∷ g) ≡ t + 1 + count_by (λ x. x == least) g = omega (arith, count-head least g) in
    rw (e, ways-skip (least + 1) least above g (omega arith)) refl

weight-none : (n t least : ℕ) (above g : List ℕ) → count_by (λ x. x == least) g ≡ 0
    → weight_from n t least above g ≡ choose n t * ways_from (least + 1) above g
weight-none n t least above g h = let e : t + count_by (λ x. x == least) g ≡ t = omega (arith, h) in rw e refl

every-none : (n t least : ℕ) (above : List ℕ) (gs : List (List ℕ)) → AllByRecursion (λ g. count_by (λ x. x == least) g ≡ 0) gs
    → AllByRecursion (λ g. weight_from n t least above g ≡ choose n t * ways_from (least + 1) above g) gs
every-none n t least above [] h = tt
every-none n t least above (g ∷ gs) h = (weight-none n t least above g h.0, every-none n t least above gs h.1)

drop-lower : (left : List ℕ) (least y : ℕ) → drop (least + 1) (slice_set left least y) ≡ drop (least + 1) left
drop-lower left least y = drop-set-lt (least + 1) left least y (omega arith)

begun : (size : ℕ) (left : List ℕ) (least len n t : ℕ) → length left ≡ len → least < len → n ≡ t + slice_index left least
    → ((l : List ℕ) (m u : ℕ) → length l ≡ len → m ≡ u + slice_index l least
    → total (weight_from m u least (drop (least + 1) l)) (groups_above size l least) ≡ mixed m u (sum (drop (least + 1) l)) size)
    → total (weight_from n t least (drop (least + 1) left)) (groups_with (groups_above size) left least) ≡ mixed n (t + 1) (sum (drop (least + 1) left)) size
begun size left least len n t long within all others = elim (cases_lt 0 (slice_index left least)) [
  | inl some ↦
      let v = slice_index left least - 1 in
      let lower = slice_set left least v in
      let long' : length lower ≡ len = length-set left least v ∙ long in
      let here : slice_index lower least ≡ v = get_or-set_same left least v 0 (omega (arith, long)) in
      let rest = rw (drop-lower left least v) at (others lower n (t + 1) long' (omega (arith, all, here, some))) in
      rw (lt-ltb 0 (slice_index left least) some)
      (total-map (weight_from n t least (drop (least + 1) left)) (λ g. least ∷ g) (groups_above size lower least)
      ∙ total-same (λ g. weight_from n t least (drop (least + 1) left) (least ∷ g)) (weight_from n (t + 1) least (drop (least + 1) left))
      (weight-here n t least (drop (least + 1) left)) (groups_above size lower least)
      ∙ rest)
  | inr none ↦ rw (le-ltb 0 (slice_index left least) none) (sym (mixed-none n (t + 1) (sum (drop (least + 1) left)) size (omega (arith, all, none))))
]

mixed-from : (size : ℕ) (left : List ℕ) (least len n t : ℕ) → Draws (least + 1) len → length left ≡ len → least < len → n ≡ t + slice_index left least
    → total (weight_from n t least (drop (least + 1) left)) (groups_above size left least) ≡ mixed n t (sum (drop (least + 1) left)) size
mixed-from zero left least len n t d long within all =
    let e : t + 0 ≡ t = omega arith in
    rw (ways-nil (least + 1) (drop (least + 1) left)) (omega (arith, ap (choose n) e))
mixed-from (suc size) left least len n t d long within all =
    let above = drop (least + 1) left in
    let split = above-more size left least (omega (arith, long)) in
    let two = total-append (weight_from n t least above) (groups_with (groups_above size) left least) (groups_above (suc size) left (least + 1)) in
    let none = total-same_every (weight_from n t least above) (λ g. choose n t * ways_from (least + 1) above g) (groups_above (suc size) left (least + 1))
    (every-none n t least above (groups_above (suc size) left (least + 1)) (high (suc size) left (least + 1) least (omega arith))) in
    let times = total-times (choose n t) (λ g. ways_from (least + 1) above g) (groups_above (suc size) left (least + 1)) in
    let known = ap (λ (k : ℕ). choose n t * k) (d left (suc size) long) in
    let first = begun size left least len n t long within all (λ l m u long' all'. mixed-from size l least len m u d long' within all') in
    rw split (omega (arith, two, none, times, known, first))

-- ---- all ways to take a group of a size

cut : (k : ℕ) (left : List ℕ) → k < length left → drop k left ≡ slice_index left k ∷ drop (k + 1) left
cut k left h = rw (add-one, drop-cons left k 0) refl

weights-same : (k : ℕ) (left g : List ℕ) → k < length left → ways_from k (drop k left) g ≡ weight_from (slice_index left k) 0 k (drop (k + 1) left) g
weights-same k left g h =
    let e = cut k left h in
    let f : suc k ≡ k + 1 = omega arith in
    let z : 0 + count_by (λ x. x == k) g ≡ count_by (λ x. x == k) g = omega arith in
    rw (e, z, f) refl

sum-drop : (k : ℕ) (left : List ℕ) → k < length left → sum (drop k left) ≡ slice_index left k + sum (drop (k + 1) left)
sum-drop k left h =
    let e = cut k left h in
    ap sum e ∙ sum_by-cons (λ x. x) (slice_index left k) (drop (k + 1) left)

draws-past : (k len : ℕ) → len ≤ k → Draws k len
draws-past k len h left zero long = rw (drop_of_length-le left {i = k} (omega (arith, long, h))) refl
draws-past k len h left (suc size) long =
    let n : length left - k ≡ 0 = omega (arith, long, h) in
    rw (n, drop_of_length-le left {i = k} (omega (arith, long, h))) refl

draws-from : (d k len : ℕ) → len ≤ k + d → Draws k len
draws-from zero k len h left size long = draws-past k len (omega arith) left size long
draws-from (suc d) k len h left size long = elim (cases_lt k len) [
  | inl within ↦
      let x = slice_index left k in
      let same = total-same (λ g. ways_from k (drop k left) g) (weight_from x 0 k (drop (k + 1) left)) (λ g. weights-same k left g (omega (arith, long)))
      (groups_above size left k) in
      let mix = mixed-from size left k len x 0 (draws-from d (k + 1) len (omega arith)) long within (omega arith) in
      same ∙ mix ∙ mixed-choose x (sum (drop (k + 1) left)) size ∙ ap (λ (n : ℕ). choose n size) (sym (sum-drop k left (omega (arith, long))))
  | inr past ↦ draws-past k len past left size long
]

pub all_ways : (left : List ℕ) (size : ℕ) → total (λ g. ways left g) (groups left size) ≡ choose (sum left) size
all_ways left size = draws-from (length left) 0 (length left) (omega arith) left size refl

-- ---- what a group leaves

lowered : (left : List ℕ) (card : ℕ) → 0 < slice_index left card → sum (slice_set left card (slice_index left card - 1)) + 1 ≡ sum left
lowered [] card h = absurd (omega arith)
lowered (c ∷ cs) zero h = omega (arith, sum_by-cons (λ (x : ℕ). x) (c - 1) cs, sum_by-cons (λ (x : ℕ). x) c cs)
lowered (c ∷ cs) (suc card) h = omega (
  arith,
  sum_by-cons (λ (x : ℕ). x) c (slice_set cs card (slice_index cs card - 1)),
  sum_by-cons (λ (x : ℕ). x) c cs,
  lowered cs card h,
)

abbrev Leaves : ℕ → List ℕ → List ℕ → Type 0
Leaves size left g = sum (left_after left g) + size ≡ sum left

one-taken : (size card : ℕ) (left : List ℕ) (gs : List (List ℕ)) → 0 < slice_index left card
    → AllByRecursion (Leaves size (slice_set left card (slice_index left card - 1))) gs
    → AllByRecursion (λ g. Leaves (suc size) left (card ∷ g)) gs
one-taken size card left [] h a = tt
one-taken size card left (g ∷ gs) h a =
    (rw (taken card left g) (omega (arith, a.0, lowered left card h)), one-taken size card left gs h a.1)

leaves-above : (size : ℕ) (left : List ℕ) (least : ℕ) → AllByRecursion (Leaves size left) (groups_above size left least)
leaves-above zero left least = (rw (after-none 0 left) (omega arith), tt)
leaves-above (suc size) left least =
    every-flat_map (Leaves (suc size) left) (groups_with (groups_above size) left) (λ card. Unit {0})
    (λ card u. every-with (Leaves (suc size) left) (groups_above size) left card
    (λ some. one-taken size card left _ some (leaves-above size (slice_set left card (slice_index left card - 1)) card)))
    (range_with_len least (length left - least)) (every-any (λ card. Unit {0}) (λ card. tt) (range_with_len least (length left - least)))

pub leaves_sum : (left : List ℕ) (size : ℕ) → AllByRecursion (λ g. sum (left_after left g) + size ≡ sum left) (groups left size)
leaves_sum left size = leaves-above size left 0
