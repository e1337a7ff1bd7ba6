-- The listed groups are all groups of the size, and they stand in order.
use Rattle.std.proofs.Common.{◌≡◌, ◌≢◌, ◌↔◌, ℕ, zero, suc, ◌+◌, ◌-◌, ◌<◌, ◌≤◌, List, [], ◌∷◌, map, length, get_or, refl, ap, sym, ◌∙◌, subst, arith, cond, eqb}
use Rattle.std.proofs.{Common.{true, false, ⊎_elim, slice_set, All}, lemmas.Bool.{cases_eq, cases_lt, eq-eqb, ne_eqb, lt-ltb, le-ltb}}
use Rattle.std.proofs.lemmas.List.{get_or-set_same, get_or-set_other, length-map, get_or-map}
use Rattle.std.proofs.{lemmas.List.Elements.{All-contains, All-from_recursion, Contains-append_left, Contains-append_right}, lemmas.List.Sums.{sum_by-cons}}
use Rattle.std.specs.{Prelude.{flat_map, Contains}, List.{range_with_len, AllByRecursion}, List.Sorted.{IsNonDecreasing}}
use Rattle.gs_model.specs.Cards.{groups, groups_above, groups_with}
use Rattle.gs_model.proofs.{Listed.{times}, Basics.{every-map, every-weaker, every-append}}
use Rattle.gs_card.specs.Groups.{IsGroup}

times-here : (k : ℕ) (g : List ℕ) → times k (k ∷ g) ≡ suc (times k g)
times-here k g =
    let p = sum_by-cons (λ x. cond (eqb x k) 1 0) k g in
    let e : eqb k k ≡ true = eq-eqb k k refl in
    grind (arith, p, e)

times-other : (k x : ℕ) (g : List ℕ) → x ≢ k → times k (x ∷ g) ≡ times k g
times-other k x g n =
    let p = sum_by-cons (λ y. cond (eqb y k) 1 0) x g in
    let e : eqb x k ≡ false = ne_eqb x k n in
    grind (arith, p, e)

-- from a least card on, each card is no lower than the one before
abbrev pub Ascends : ℕ → List ℕ → Type 0
Ascends least [] = Unit {0}
Ascends least (x ∷ xs) = (least ≤ x) × Ascends x xs

-- a group of kinds from `least` on
pub record IsGroupFrom (size : ℕ) (left : List ℕ) (least : ℕ) (g : List ℕ) : Type 0 where
  pub ascends : Ascends least g
  pub sized : length g ≡ size
  pub copies : (kind : ℕ) → times kind g ≤ get_or left kind 0

some_length : (xs : List ℕ) (i : ℕ) → 0 < get_or xs i 0 → i < length xs
some_length [] i h = absurd (omega arith)
some_length (x ∷ xs) zero h = omega arith
some_length (x ∷ xs) (suc i) h = omega (arith, some_length xs i h)

-- a card in front of a group of what it leaves
with_card : (size : ℕ) (left : List ℕ) (least card : ℕ) (h : List ℕ) → least ≤ card → 0 < get_or left card 0
    → IsGroupFrom size (slice_set left card (get_or left card 0 - 1)) card h → IsGroupFrom (suc size) left least (card ∷ h)
with_card size left least card h le there p = record {
  ascends = (le, p.ascends);
  sized = omega (arith, p.sized);
  copies = λ kind. ⊎_elim
      (λ (e : card ≡ kind).
      let here : get_or (slice_set left card (get_or left card 0 - 1)) card 0 ≡ get_or left card 0 - 1 =
      get_or-set_same left card (get_or left card 0 - 1) 0 (some_length left card there) in
      let P : ℕ → Type 0 = λ k. times k (card ∷ h) ≤ get_or left k 0 in
      subst P e (omega (arith, p.copies card, here, times-here card h)))
      (λ (n : card ≢ kind).
      let m : kind ≢ card = λ (e : kind ≡ card). n (sym e) in
      omega (arith, p.copies kind, get_or-set_other left card kind (get_or left card 0 - 1) 0 m, times-other kind card h n))
      (cases_eq card kind);
}

-- the first card of a group, and the group behind it
behind_card : (size : ℕ) (left : List ℕ) (least card : ℕ) (h : List ℕ) → IsGroupFrom (suc size) left least (card ∷ h)
    → (least ≤ card) × (0 < get_or left card 0) × IsGroupFrom size (slice_set left card (get_or left card 0 - 1)) card h
behind_card size left least card h p =
    let there : 0 < get_or left card 0 = omega (arith, p.copies card, times-here card h) in (
      p.ascends.0,
      there,
      record {
        ascends = p.ascends.1;
        sized = omega (arith, p.sized);
        copies = λ kind. ⊎_elim
            (λ (e : card ≡ kind).
            let here : get_or (slice_set left card (get_or left card 0 - 1)) card 0 ≡ get_or left card 0 - 1 =
            get_or-set_same left card (get_or left card 0 - 1) 0 (some_length left card there) in
            let P : ℕ → Type 0 = λ k. times k h ≤ get_or (slice_set left card (get_or left card 0 - 1)) k 0 in
            subst P e (omega (arith, p.copies card, here, times-here card h)))
            (λ (n : card ≢ kind).
            let m : kind ≢ card = λ (e : kind ≡ card). n (sym e) in
            omega (arith, p.copies kind, get_or-set_other left card kind (get_or left card 0 - 1) 0 m, times-other kind card h n))
            (cases_eq card kind);
      },
    )

pub every-range : {Y : Type 0} (P : Y → Type 0) (f : ℕ → List Y) (a n : ℕ) → ((k : ℕ) → a ≤ k → AllByRecursion P (f k))
    → AllByRecursion P (flat_map f (range_with_len a n))
every-range P f a zero h = tt
every-range P f a (suc n) h = every-append P (f a) (flat_map f (range_with_len (a + 1) n)) (h a (omega arith))
    (every-range P f (a + 1) n (λ k l. h k (omega arith)))

-- each listed group is one
pub listed_is_group : (size : ℕ) (left : List ℕ) (least : ℕ) → AllByRecursion (IsGroupFrom size left least) (groups_above size left least)
listed_is_group zero left least = (record { ascends = tt; sized = refl; copies = λ kind. omega arith }, tt)
listed_is_group (suc size) left least =
    every-range (IsGroupFrom (suc size) left least) (groups_with (groups_above size) left) least (length left - least)
    (λ card le. ⊎_elim
    (λ (there : 0 < get_or left card 0).
    let lower = slice_set left card (get_or left card 0 - 1) in
    let P : List (List ℕ) → Type 0 = λ gs. AllByRecursion (IsGroupFrom (suc size) left least) gs in
    rw (lt-ltb 0 (get_or left card 0) there) (every-map (IsGroupFrom (suc size) left least) (λ g. card ∷ g) (groups_above size lower card)
    (every-weaker (IsGroupFrom size lower card) (λ h. IsGroupFrom (suc size) left least (card ∷ h)) (λ h p. with_card size left least card h le there p)
    (groups_above size lower card) (listed_is_group size lower card))))
    (λ (none : get_or left card 0 ≤ 0). rw (le-ltb 0 (get_or left card 0) none) tt)
    (cases_lt 0 (get_or left card 0)))

Contains-map : {X Y : Type 0} (f : X → Y) (xs : List X) (x : X) → Contains xs x → Contains (map f xs) (f x)
Contains-map f xs x h = (h.0, omega (arith, length-map xs f, h.1), get_or-map f xs h.0 x (f x) h.1 ∙ ap f h.2)

Contains-range : {Y : Type 0} (f : ℕ → List Y) (a n k : ℕ) (y : Y) → a ≤ k → k < a + n → Contains (f k) y → Contains (flat_map f (range_with_len a n)) y
Contains-range f a zero k y l m h = absurd (omega arith)
Contains-range f a (suc n) k y l m h = ⊎_elim
    (λ (e : a ≡ k). let P : ℕ → Type 0 = λ j. Contains (f j) y in Contains-append_left (f a) (flat_map f (range_with_len (a + 1) n)) y (subst P (sym e) h))
    (λ (e : a ≢ k). Contains-append_right (f a) (flat_map f (range_with_len (a + 1) n)) y (Contains-range f (a + 1) n k y (omega arith) (omega arith) h))
    (cases_eq a k)

-- each group is listed
pub group_is_listed : (size : ℕ) (left : List ℕ) (least : ℕ) (g : List ℕ) → IsGroupFrom size left least g → Contains (groups_above size left least) g
group_is_listed zero left least [] p = (0, omega arith, refl)
group_is_listed zero left least (card ∷ h) p = absurd (omega (arith, p.sized))
group_is_listed (suc size) left least [] p = absurd (omega (arith, p.sized))
group_is_listed (suc size) left least (card ∷ h) p =
    let q = behind_card size left least card h p in
    let lower = slice_set left card (get_or left card 0 - 1) in
    let here : Contains (groups_with (groups_above size) left card) (card ∷ h) =
    rw (lt-ltb 0 (get_or left card 0) q.1) (Contains-map (λ g. card ∷ g) (groups_above size lower card) h (group_is_listed size lower card h q.2)) in
    Contains-range (groups_with (groups_above size) left) least (length left - least) card (card ∷ h) q.0 (omega (arith, some_length left card q.1)) here

no_lower : (least : ℕ) (g : List ℕ) (j d : ℕ) → Ascends least g → j < length g → least ≤ get_or g j d
no_lower least [] j d h l = absurd (omega arith)
no_lower least (x ∷ xs) zero d h l = h.0
no_lower least (x ∷ xs) (suc j) d h l = omega (arith, no_lower x xs j d h.1 (omega arith), h.0)

ascending_from : (least : ℕ) (g : List ℕ) → Ascends least g → IsNonDecreasing g
ascending_from least [] h i j d l m = absurd (omega arith)
ascending_from least (x ∷ xs) h zero zero d l m = omega arith
ascending_from least (x ∷ xs) h zero (suc j) d l m = no_lower x xs j d h.1 (omega arith)
ascending_from least (x ∷ xs) h (suc i) zero d l m = absurd (omega arith)
ascending_from least (x ∷ xs) h (suc i) (suc j) d l m = ascending_from x xs h.1 i j d (omega arith) (omega arith)

ascends_from : (least : ℕ) (g : List ℕ) → IsNonDecreasing g → (0 < length g → least ≤ get_or g 0 0) → Ascends least g
ascends_from least [] h first = tt
ascends_from least (x ∷ xs) h first =
    (first (omega arith), ascends_from x xs (λ i j d l m. h (suc i) (suc j) d (omega arith) (omega arith)) (λ l. h 0 1 0 (omega arith) (omega arith)))

stands : (g : List ℕ) (k d : ℕ) → k < length g → 0 < times (get_or g k d) g
stands [] k d l = absurd (omega arith)
stands (x ∷ xs) zero d l = omega (arith, times-here x xs)
stands (x ∷ xs) (suc k) d l = ⊎_elim
    (λ (e : x ≡ get_or xs k d). omega (arith, times-here x xs, ap (λ y. times y (x ∷ xs)) e))
    (λ (n : x ≢ get_or xs k d). omega (arith, times-other (get_or xs k d) x xs n, stands xs k d (omega arith)))
    (cases_eq x (get_or xs k d))

pub group_from : (left : List ℕ) (size : ℕ) (g : List ℕ) → IsGroupFrom size left 0 g → IsGroup left size g
group_from left size g p = record { ascending = ascending_from 0 g p.ascends; sized = p.sized; copies = p.copies }

pub from_group : (left : List ℕ) (size : ℕ) (g : List ℕ) → IsGroup left size g → IsGroupFrom size left 0 g
from_group left size g p = record { ascends = ascends_from 0 g p.ascending (λ l. omega arith); sized = p.sized; copies = p.copies }

-- each card of a group is a kind
pub cards_within : (left : List ℕ) (size : ℕ) (g : List ℕ) → IsGroup left size g → All (λ card. card < length left) g
cards_within left size g p = λ k d l. some_length left (get_or g k d) (omega (arith, p.copies (get_or g k d), stands g k d l))

-- the laws
pub groups_all : (left : List ℕ) (size : ℕ) (g : List ℕ) → Contains (groups left size) g ↔ IsGroup left size g
groups_all left size g = (
  λ there. group_from left size g (All-contains (IsGroupFrom size left 0) (groups left size) g
      (All-from_recursion (IsGroupFrom size left 0) (groups left size) (listed_is_group size left 0)) there),
  λ p. group_is_listed size left 0 g (from_group left size g p),
)

pub groups_are_groups : (left : List ℕ) (size : ℕ) → All (IsGroup left size) (groups left size)
groups_are_groups left size = All-from_recursion (IsGroup left size) (groups left size)
    (every-weaker (IsGroupFrom size left 0) (IsGroup left size) (group_from left size) (groups left size) (listed_is_group size left 0))

pub each_is_group : (left : List ℕ) (size : ℕ) (gs : List (List ℕ)) → gs ≡ groups left size → All (IsGroup left size) gs
each_is_group left size gs e = rw e (groups_are_groups left size)

pub each_within : (left : List ℕ) (size : ℕ) (gs : List (List ℕ)) → gs ≡ groups left size → All (λ g. All (λ card. card < length left) g) gs
each_within left size gs e = λ k d l. cards_within left size (get_or gs k d) (each_is_group left size gs e k d l)
