-- The loop that counts sequences of groups.
use Rattle.std.proofs.Common.{min, ◌≡◌, ℕ, zero, suc, ◌+◌, ◌-◌, ◌<◌, ◌≤◌, ◌≢◌, cond, List, [], ◌∷◌, map, length, sum_by, refl, ap, ◌∙◌, true, false, Bool, drop}
use Rattle.std.proofs.{Common.{arith, slice_set, slice_index, nat_lt, count_by, sym}, Math.ListN.{drop_of_length-le}, Math.Seq.{drop-cons}}
use Rattle.std.proofs.{lemmas.Bool.{lt-ltb}, lemmas.List.Sums.{sum_by-append, sum_by-cons}, lemmas.List.{get_or-set_same, set-get_or}}
use Rattle.std.specs.{Prelude.{◌==◌, flat_map}, List.{range_with_len}}
use Rattle.gs_model.specs.Cards.{groups_above, groups_with, left_from, left_after}
use Rattle.gs_model.proofs.{GroupSteps.{set-set}, Basics.{count-head, count-past}}
use Rattle.gs_game.specs.Sequences.{count_sequences}

-- a card of a lower kind does not matter
left-skip : (kind card : ℕ) (left g : List ℕ) → card < kind → left_from kind left (card ∷ g) ≡ left_from kind left g
left-skip kind card [] g l = refl
left-skip kind card (c ∷ cs) g l =
    let n : card ≢ kind = λ e. absurd (omega (arith, e)) in
    let t = count-past kind card g n in
    let r = left-skip (suc kind) card cs g (omega arith) in
    cc (ap (λ (k : ℕ). c - k) t, r)

left-card : (kind card all : ℕ) (left g : List ℕ) → all ≡ kind + card → left_from kind left (all ∷ g)
    ≡ left_from kind (slice_set left card (slice_index left card - 1)) g
left-card kind card all [] g e = refl
left-card kind zero all (c ∷ cs) g e =
    let here : all ≡ kind = omega arith in
    let t : c - count_by (λ x. x == kind) (all ∷ g) ≡ c - 1 - count_by (λ x. x == kind) g = rw here (omega (arith, count-head kind g)) in
    let r : left_from (suc kind) cs (all ∷ g) ≡ left_from (suc kind) cs g = left-skip (suc kind) all cs g (omega arith) in
    cc (t, r)
left-card kind (suc card) all (c ∷ cs) g e =
    let n : all ≢ kind = λ f. absurd (omega (arith, e, f)) in
    let t : c - count_by (λ x. x == kind) (all ∷ g) ≡ c - count_by (λ x. x == kind) g = ap (λ (k : ℕ). c - k) (count-past kind all g n) in
    let r : left_from (suc kind) cs (all ∷ g) ≡ left_from (suc kind) (slice_set cs card (slice_index cs card - 1)) g =
    left-card (suc kind) card all cs g (omega (arith, e)) in
    cc (t, r)

-- taking a card and then a group is taking both
pub taken : (card : ℕ) (left g : List ℕ) → left_after left (card ∷ g) ≡ left_after (slice_set left card (slice_index left card - 1)) g
taken card left g = left-card 0 card card left g (omega arith)

sum-mapped : {X Y : Type 0} (f : Y → ℕ) (g : X → Y) (h : X → ℕ) → ((x : X) → f (g x) ≡ h x) → (xs : List X) → sum_by f (map g xs) ≡ sum_by h xs
sum-mapped f g h e [] = refl
sum-mapped f g h e (x ∷ xs) = omega (arith, sum_by-cons f (g x) (map g xs), sum_by-cons h x xs, e x, sum-mapped f g h e xs)

-- the sequences whose first group begins with a card
pub with_card : (later left lower : List ℕ) (size card : ℕ) → 0 < slice_index left card → lower ≡ slice_set left card (slice_index left card - 1)
    → sum_by (λ g. count_sequences (left_after left g) later) (groups_with (groups_above size) left card)
    ≡ sum_by (λ g. count_sequences (left_after lower g) later) (groups_above size lower card)
with_card later left lower size card some e =
    let there : nat_lt 0 (slice_index left card) ≡ true = lt-ltb 0 (slice_index left card) some in
    rw (there, e)
    (sum-mapped (λ g. count_sequences (left_after left g) later) (λ g. card ∷ g)
    (λ g. count_sequences (left_after (slice_set left card (slice_index left card - 1)) g) later)
    (λ g. ap (λ (l : List ℕ). count_sequences l later) (taken card left g)) (groups_above size (slice_set left card (slice_index left card - 1)) card))

-- the sequences whose first group begins with a card of the kinds from one on
abbrev pub count_rest : List ℕ → List ℕ → ℕ → ℕ → ℕ
count_rest later left size card = sum_by (λ g. count_sequences (left_after left g) later)
    (flat_map (groups_with (groups_above size) left) (range_with_len card (length left - card)))

pub rest_more : (later left : List ℕ) (size card : ℕ) → card < length left
    → count_rest later left size card ≡ sum_by (λ g. count_sequences (left_after left g) later) (groups_with (groups_above size) left card)
    + count_rest later left size (card + 1)
rest_more later left size card h =
    let n : length left - card ≡ suc (length left - (card + 1)) = omega arith in
    rw n (sum_by-append (λ g. count_sequences (left_after left g) later) (groups_with (groups_above size) left card)
    (flat_map (groups_with (groups_above size) left) (range_with_len (card + 1) (length left - (card + 1)))))

pub rest_none : (later left : List ℕ) (size card : ℕ) → length left ≤ card → count_rest later left size card ≡ 0
rest_none later left size card h = let n : length left - card ≡ 0 = omega arith in rw n refl

pub rest_all : (later left : List ℕ) (size least : ℕ) → 0 < size
    → sum_by (λ g. count_sequences (left_after left g) later) (groups_above size left least) ≡ count_rest later left (size - 1) least
rest_all later left zero least h = absurd (omega arith)
rest_all later left (suc size) least h = let e : suc size - 1 ≡ size = omega arith in rw e refl

-- a group of no cards takes nothing
pub after-none : (kind : ℕ) (left : List ℕ) → left_from kind left [] ≡ left
after-none kind [] = refl
after-none kind (c ∷ cs) = let t : c - 0 ≡ c = omega arith in cc (t, after-none (suc kind) cs)

pub no_cards : (later left : List ℕ) (least : ℕ) → sum_by (λ g. count_sequences (left_after left g) later) (groups_above 0 left least)
    ≡ count_sequences left later
no_cards later left least = let e = ap (λ (l : List ℕ). count_sequences l later) (after-none 0 left) in omega (arith, e)

-- the next group's size
pub next_group : (later rest left : List ℕ) (least size next : ℕ) → size ≡ 0 → later ≡ next ∷ rest
    → sum_by (λ g. count_sequences (left_after left g) later) (groups_above size left least)
    ≡ sum_by (λ g. count_sequences (left_after left g) rest) (groups_above next left 0)
next_group later rest left least size next e f = rw (e, f) (no_cards (next ∷ rest) left least)

-- a count that was lowered is raised again
pub restored : (left new : List ℕ) (card : ℕ) → card < length left → 0 < slice_index left card → new ≡ slice_set left card (slice_index left card - 1)
    → slice_set new card (slice_index new card + 1) ≡ left
restored left new card within some e =
    let v = slice_index left card - 1 in
    let is : slice_index (slice_set left card v) card ≡ v = get_or-set_same left card v 0 within in
    let back : v + 1 ≡ slice_index left card = omega arith in
    rw e (rw is (set-set left card v (v + 1) ∙ ap (slice_set left card) back ∙ set-get_or left card 0))

-- groups of no cards are taken in one way
pub nothing_more : (later left : List ℕ) → ((k : ℕ) → k < length later → slice_index later k ≡ 0) → count_sequences left later ≡ 1
nothing_more [] left h = refl
nothing_more (size ∷ later) left h =
    let none : size ≡ 0 = h 0 (omega arith) in
    let rest = nothing_more later (left_after left []) (λ k l. h (suc k) (omega arith)) in
    let one : count_sequences left (0 ∷ later) ≡ 1 = omega (arith, rest) in
    ap (λ s. count_sequences left (s ∷ later)) none ∙ one

-- one more card: a kind that is left
one_kind : (later left : List ℕ) (card n : ℕ) → ((rest : List ℕ) → count_sequences rest later ≡ 1) → slice_index left card ≡ n
    → sum_by (λ g. count_sequences (left_after left g) later) (groups_with (groups_above 0) left card) ≡ cond (nat_lt 0 n) 1 0
one_kind later left card n h e =
    let here : slice_index left card ≡ n = e in
    rw here (go (nat_lt 0 n))
  where
    go : (b : Bool) → sum_by (λ g. count_sequences (left_after left g) later) (cond b (map (λ g. card ∷ g) ([] ∷ [])) []) ≡ cond b 1 0
    go true = let o = h (left_after left (card ∷ [])) in omega (arith, o)
    go false = refl

pub last_kinds : (later left : List ℕ) (least : ℕ) → ((rest : List ℕ) → count_sequences rest later ≡ 1) → least ≤ length left
    → count_rest later left 0 least ≡ count_by (λ copies. nat_lt 0 copies) (drop least left)
last_kinds later left least h l = go (length left - least) least (omega arith)
  where
    go : (n card : ℕ) → card + n ≡ length left → count_rest later left 0 card ≡ count_by (λ copies. nat_lt 0 copies) (drop card left)
    go zero card e =
        let none : drop card left ≡ [] = drop_of_length-le left (omega arith) in
        rest_none later left 0 card (omega arith) ∙ sym (ap (λ (l : List ℕ). count_by (λ copies. nat_lt 0 copies) l) none)
    go (suc n) card e =
        let more = rest_more later left 0 card (omega arith) in
        let one = one_kind later left card (slice_index left card) h refl in
        let rest = go n (card + 1) (omega arith) in
        let next : suc card ≡ card + 1 = omega arith in
        let first : drop card left ≡ slice_index left card ∷ drop (card + 1) left =
        drop-cons left card 0 (omega arith) ∙ ap (λ k. slice_index left card ∷ drop k left) next in
        let count = ap (λ (l : List ℕ). count_by (λ copies. nat_lt 0 copies) l) first
        ∙ sum_by-cons (λ copies. cond (nat_lt 0 copies) 1 0) (slice_index left card) (drop (card + 1) left) in
        omega (arith, more, one, rest, count)

-- one part more of a count that stops at a cap
pub counted_more : (all cap total rest first others count : ℕ) → min all cap ≡ min (total + rest) cap → total ≤ cap → rest ≡ first + others
    → count ≡ min first (cap - total) → (min all cap ≡ min (total + count + others) cap) × (total + count ≤ cap)
counted_more all cap total rest first others count so_far small parts here =
    (omega (arith, so_far, small, parts, here), omega (arith, small, here))

-- the count that has reached its cap
pub counted_all : (whole all cap total rest first others count : ℕ) → whole ≡ all → min all cap ≡ min (total + rest) cap → rest ≡ first + others
    → count ≡ min first (cap - total) → cap ≤ total + count → cap ≡ min whole cap
counted_all whole all cap total rest first others count same so_far parts here over = omega (arith, same, so_far, parts, here, over)
