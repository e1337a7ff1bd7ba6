-- The listed groups stand in the order of lists of numbers.
use Rattle.std.proofs.Common.{◌≡◌, ℕ, zero, suc, ◌+◌, ◌-◌, ◌<◌, ◌≤◌, List, [], ◌∷◌, ◌++◌, map, length, get_or, refl, ap, sym, ◌∙◌, arith, ⊎_elim, slice_set}
use Rattle.std.proofs.lemmas.Bool.{cases_lt, lt-ltb, le-ltb}
use Rattle.std.specs.{Prelude.{flat_map}, List.{range_with_len, AllByRecursion}, List.Sorted.{IsStrictlySortedBy}, Cmp.Lexicographic.{slice_cmp}}
use Rattle.std.specs.{Cmp.{nat_cmp_is}, Ordering.{nat_cmp, ordering_then}, declared.cmp.Ordering.TheVariants.{Less, Equal}}
use Rattle.gs_model.specs.Cards.{groups_above, groups_with}
use Rattle.gs_model.proofs.Basics.{every-map, every-weaker, every-append, every-any}
use Rattle.gs_card.proofs.GroupLaws.{every-range}

abbrev InOrder : List (List ℕ) → Type 0
InOrder gs = IsStrictlySortedBy (slice_cmp nat_cmp) gs

abbrev AllAfter : List (List ℕ) → List ℕ → Type 0
AllAfter gs g = AllByRecursion (λ h. slice_cmp nat_cmp g h ≡ Less) gs

joined : (gs hs : List (List ℕ)) → InOrder gs → InOrder hs → AllByRecursion (AllAfter hs) gs → InOrder (gs ++ hs)
unfolding IsStrictlySortedBy
joined [] hs a b c = b
joined (g ∷ gs) hs a b c = (every-append (λ h. slice_cmp nat_cmp g h ≡ Less) gs hs a.0 c.0, joined gs hs a.1 b c.1)

same_card : (card : ℕ) → nat_cmp card card ≡ Equal
same_card card = sym (nat_cmp_is card card Equal refl)

lower_card : (a b : ℕ) → a < b → nat_cmp a b ≡ Less
lower_card a b l = sym (nat_cmp_is a b Less l)

-- groups behind one first card
behind : (card : ℕ) (gs : List (List ℕ)) → InOrder gs → InOrder (map (λ g. card ∷ g) gs)
unfolding IsStrictlySortedBy
behind card [] a = tt
behind card (g ∷ gs) a = (
  every-map (λ h. slice_cmp nat_cmp (card ∷ g) h ≡ Less) (λ h. card ∷ h) gs
      (every-weaker (λ h. slice_cmp nat_cmp g h ≡ Less) (λ h. slice_cmp nat_cmp (card ∷ g) (card ∷ h)
      ≡ Less) (λ h e. ap (λ o. ordering_then o (slice_cmp nat_cmp g h)) (same_card card) ∙ e) gs a.0),
  behind card gs a.1,
)

-- groups with a higher first card
abbrev BeginsAbove : ℕ → List ℕ → Type 0
BeginsAbove card [] = ⊥
BeginsAbove card (x ∷ xs) = card < x

higher_after : (card : ℕ) (g h : List ℕ) → BeginsAbove card h → slice_cmp nat_cmp (card ∷ g) h ≡ Less
higher_after card g [] b = absurd b
higher_after card g (x ∷ xs) b = ap (λ o. ordering_then o (slice_cmp nat_cmp g xs)) (lower_card card x b)

abbrev ListsInOrder : (List ℕ → ℕ → List (List ℕ)) → Type 0
ListsInOrder others = (left : List ℕ) (card : ℕ) → InOrder (others left card)

block_in_order : (others : List ℕ → ℕ → List (List ℕ)) (left : List ℕ) (card : ℕ) → ListsInOrder others → InOrder (groups_with others left card)
unfolding IsStrictlySortedBy
block_in_order others left card a = ⊎_elim
    (λ (there : 0 < get_or left card 0). rw (lt-ltb 0 (get_or left card 0) there) (behind card _ (a (slice_set left card (get_or left card 0 - 1)) card)))
    (λ (none : get_or left card 0 ≤ 0). rw (le-ltb 0 (get_or left card 0) none) tt)
    (cases_lt 0 (get_or left card 0))

block_begins : (others : List ℕ → ℕ → List (List ℕ)) (left : List ℕ) (low card : ℕ) → low < card
    → AllByRecursion (BeginsAbove low) (groups_with others left card)
block_begins others left low card l = ⊎_elim
    (λ (there : 0 < get_or left card 0). rw (lt-ltb 0 (get_or left card 0) there)
    (every-map (BeginsAbove low) (λ g. card ∷ g) _ (every-any (λ g. low < card) (λ g. l) (others (slice_set left card (get_or left card 0 - 1)) card))))
    (λ (none : get_or left card 0 ≤ 0). rw (le-ltb 0 (get_or left card 0) none) tt)
    (cases_lt 0 (get_or left card 0))

block_before : (others : List ℕ → ℕ → List (List ℕ)) (left : List ℕ) (card : ℕ) (hs : List (List ℕ)) → AllByRecursion (BeginsAbove card) hs
    → AllByRecursion (AllAfter hs) (groups_with others left card)
block_before others left card hs b = ⊎_elim
    (λ (there : 0 < get_or left card 0). rw (lt-ltb 0 (get_or left card 0) there) (every-map (AllAfter hs) (λ g. card ∷ g) _
    (every-any (λ g. AllAfter hs (card ∷ g)) (λ g. every-weaker (BeginsAbove card) (λ h. slice_cmp nat_cmp (card ∷ g) h ≡ Less) (higher_after card g) hs b)
    (others (slice_set left card (get_or left card 0 - 1)) card))))
    (λ (none : get_or left card 0 ≤ 0). rw (le-ltb 0 (get_or left card 0) none) tt)
    (cases_lt 0 (get_or left card 0))

blocks_in_order : (others : List ℕ → ℕ → List (List ℕ)) (left : List ℕ) (a n : ℕ) → ListsInOrder others
    → InOrder (flat_map (groups_with others left) (range_with_len a n))
unfolding IsStrictlySortedBy
blocks_in_order others left a zero o = tt
blocks_in_order others left a (suc n) o =
    let rest = flat_map (groups_with others left) (range_with_len (a + 1) n) in
    joined (groups_with others left a) rest (block_in_order others left a o) (blocks_in_order others left (a + 1) n o)
    (block_before others left a rest (every-range (BeginsAbove a) (groups_with others left) (a + 1) n (λ k l. block_begins others left a k (omega arith))))

-- the groups stand in order
pub groups_in_order : (size : ℕ) (left : List ℕ) (least : ℕ) → InOrder (groups_above size left least)
unfolding IsStrictlySortedBy
groups_in_order zero left least = (tt, tt)
groups_in_order (suc size) left least = blocks_in_order (groups_above size) left least (length left - least) (groups_in_order size)
