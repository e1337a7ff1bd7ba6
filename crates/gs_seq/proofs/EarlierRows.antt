-- The row of a class from the rows of the next round: what the pairs of the classes below it add up to.
use Rattle.std.proofs.Common.{⊎_elim, set, append-nil, ◌≡◌, ◌≢◌, ℕ, ℤ, pos, zero, suc, ◌+◌, ◌-◌, ◌<◌, ◌≤◌, Bool, true, false, cond, not, List, []}
use Rattle.std.proofs.Common.{◌∷◌, ◌++◌, length, get_or, map, refl, sym, ap, ◌∙◌, subst, arith, sum_by, eqb, Vec, IsPermutation}
use Rattle.std.proofs.{Math.IntN.{*ℤ-zero}, lemmas.Bool.{cases_eq}, lemmas.Bool.Decides.{Decides-eqb}, lemmas.Int.{ints}}
use Rattle.std.proofs.{lemmas.List.{get_or-set_other, get_or-set_same, length-set}, lemmas.List.Elements.{All-filter, All-from_recursion, recursion_from_All}}
use Rattle.std.proofs.lemmas.List.FromFn.{filter_of_map_range_with_len_more, get_or-range_with_len, length-range_with_len}
use Rattle.std.proofs.{lemmas.List.Filters.{sum_by-filter_both}, lemmas.List.Sorted.{All-permutation, sum_by-IsPermutation}}
use Rattle.std.proofs.lemmas.List.Sums.{sum_by-append, sum_by-cons}
use Rattle.std.specs.{Prelude.{◌==◌, ◌*ℤ◌, All, filter, flat_map}, List.{AllByRecursion, range_with_len}, List.Sorted.{IsNonDecreasingBy}}
use Rattle.std.specs.declared.alloc.Global.{Global}
use borrow.Author.Differences.{product_is}
use Rattle.gs_filter.specs.Filter.{Filter, IsParentClass}
use Rattle.gs_filter.proofs.TallyLaws.{first_in, first_member_of}
use Rattle.gs_game.specs.declared.valid.ValidGame.{ValidGame}
use Rattle.gs_lossless.specs.declared.parts.Part.{Part}
use Rattle.gs_model.specs.{Classes.{IsClass, IsClasses, class_count, class_of, first_member, list_of}, Deals.{Deal}}
use Rattle.gs_model.specs.{Frame.{ancestor, at_round, last_round, signal_count}, Pairs.{pair_sum}}
use Rattle.gs_model.proofs.{Gather.{class_in, firsts_from}, Regroup.{sum_z-pos}, Total.{sum_z-same}}
use Rattle.gs_model.proofs.{Basics.{pos-injective, every-append, sum-same, not_eq, sum_by-map}, Alike.{ancestor-parent}}
use Rattle.gs_seq.specs.{Games.{frame_in}, Rows.{AreBelow, AreRowsIn, IsRow, below_class, class_up, gathered, pair_of, part_up, row_at, weight_in}}
use Rattle.gs_seq.specs.declared.pair.Pair.{Pair}
use Rattle.gs_seq.proofs.{ClassRows.{alike_lists}, Gathered.{StartsFrom, gathered-signed, gathered-weight, head_from, part_signed, part_weight}}
use Rattle.gs_seq.proofs.RowFacts.{both_weight, class_weight, classes_weigh, pair_weight_is, row_class, row_weighs, sum-add, weight_both}
use Rattle.gs_seq.proofs.{RowLaws.{RisesBy, by_index, join_rises}, RowRoom.{table}, SlotLaws.{over}, Singles.{once}}

-- ---- parts whose classes do not fall

abbrev IsWeak : List Part → Type 0
IsWeak [] = Unit {0}
IsWeak (p ∷ []) = Unit {0}
IsWeak (p ∷ q ∷ ps) = (p.class ≤ q.class) × IsWeak (q ∷ ps)

sorted_weak : (ps : List Part) → IsNonDecreasingBy (λ (p : Part). p.class) ps → IsWeak ps
sorted_weak [] s = tt
sorted_weak (p ∷ []) s = tt
sorted_weak (p ∷ q ∷ ps) s = (s 0 1 p (omega arith) (omega arith), sorted_weak (q ∷ ps) (λ i j d l m. s (suc i) (suc j) d (omega arith) (omega arith)))

lower : (c d : ℕ) (row : List Pair) → c ≤ d → StartsFrom d row → StartsFrom c row
lower c d [] l h = tt
lower c d (r ∷ rs) l h = omega arith

-- what holds of a part that comes from a pair
abbrev IsPlain : Part → Type 0
IsPlain p = (0 < p.weight) × (p.outcome ≡ pos 0)

rises_weak : (ps : List Part) → IsWeak ps → AllByRecursion IsPlain ps → RisesBy (gathered 1 ps)
rises_weak [] h w = tt
rises_weak (p ∷ []) h w = (let l = w.0.0 in omega arith, tt, tt)
rises_weak (p ∷ q ∷ ps) h w =
    join_rises (pair_of 1 p) (gathered 1 (q ∷ ps)) (let l = w.0.0 in omega arith) (rises_weak (q ∷ ps) h.1 w.1)
    (lower p.class q.class (gathered 1 (q ∷ ps)) h.0 (head_from (pair_of 1 q) (gathered 1 ps)))

no_signed : (ps : List Part) (e : ℕ) → AllByRecursion IsPlain ps → part_signed ps e ≡ pos 0
no_signed [] e w = refl
no_signed (p ∷ ps) e w =
    let none : (b : Bool) → cond b (pos p.weight *ℤ p.outcome) (pos 0) ≡ pos 0 =
    λ b. elim b as (λ b. cond b (pos p.weight *ℤ p.outcome) (pos 0) ≡ pos 0) [
      | true ↦ ap (λ o. pos p.weight *ℤ o) w.0.1
          ∙ *ℤ-zero (pos p.weight)
      | false ↦ refl
    ] in
    let here = none (p.class == e) in
    let rest = no_signed ps e w.1 in
    omega (arith, ints)

-- ---- lists

items_at : (rows : List (Vec Pair Global)) (k : ℕ) (P : List Pair → Type 0) → ((d : Vec Pair Global) → P (get_or rows k d).items) → k < length rows
    → P (get_or (map (λ (v : Vec Pair Global). v.items) rows) k [])
items_at [] k P h l = absurd (omega arith)
items_at (v ∷ vs) zero P h l = h v
items_at (v ∷ vs) (suc k) P h l = items_at vs k P h (omega arith)

pub sum-same_all : {X : Type 0} (f g : X → ℕ) (xs : List X) → All (λ x. f x ≡ g x) xs → sum_by f xs ≡ sum_by g xs
sum-same_all f g [] h = refl
sum-same_all f g (x ∷ xs) h = omega (
  arith,
  sum_by-cons f x xs,
  sum_by-cons g x xs,
  h 0 x (omega arith),
  sum-same_all f g xs (λ i d l. h (suc i) d (omega arith)),
)

filter_sum : (of : ℕ → Bool) (v : ℕ → ℕ) (xs : List ℕ) → sum_by v (filter of xs) ≡ sum_by (λ k. cond (of k) (v k) 0) xs
filter_sum of v [] = refl
filter_sum of v (x ∷ xs) = by (of x) (filter_sum of v xs) ∙ sym (sum_by-cons (λ k. cond (of k) (v k) 0) x xs)
  where
    by : (b : Bool) → sum_by v (filter of xs) ≡ sum_by (λ k. cond (of k) (v k) 0) xs
        → sum_by v (cond b (x ∷ filter of xs) (filter of xs)) ≡ cond b (v x) 0 + sum_by (λ k. cond (of k) (v k) 0) xs
    by true h = omega (arith, sum_by-cons v x (filter of xs), h)
    by false h = omega (arith, h)

swap : (a b : Bool) (w : ℕ) → cond a (cond b w 0) 0 ≡ cond b (cond a w 0) 0
swap true true w = refl
swap true false w = refl
swap false true w = refl
swap false false w = refl

-- a number that passes counts once among those of a range that pass
once_of : (a w : ℕ) (of : ℕ → Bool) (b n : ℕ) → b ≤ a → a < b + n → sum_by (λ k. cond (a == k) w 0) (filter of (range_with_len b n)) ≡ cond (of a) w 0
once_of a w of b n l m =
    filter_sum of (λ k. cond (a == k) w 0) (range_with_len b n)
    ∙ sum-same (λ k. cond (of k) (cond (a == k) w 0) 0) (λ k. cond (a == k) (cond (of a) w 0) 0) (λ k. at k (a == k) refl) (range_with_len b n)
    ∙ once a (cond (of a) w 0) b n l m
  where
    at : (k : ℕ) (t : Bool) → (a == k) ≡ t → cond (of k) (cond t w 0) 0 ≡ cond t (cond (of a) w 0) 0
    at k true e = ap (λ j. cond (of j) w 0) (sym ((Decides-eqb a k).0 e))
    at k false e = swap (of k) false w

-- what counts for a number, over the numbers of a range that pass, is what counts for any that passes
spread : (key : Deal → ℕ) (of : ℕ → Bool) (w : Deal → ℕ) (b n : ℕ) (ds : List Deal) → All (λ d. (b ≤ key d) × (key d < b + n)) ds
    → sum_by (λ k. sum_by (λ d. cond (key d == k) (w d) 0) ds) (filter of (range_with_len b n)) ≡ sum_by (λ d. cond (of (key d)) (w d) 0) ds
spread key of w b n [] h = none (filter of (range_with_len b n))
  where
    none : (xs : List ℕ) → sum_by (λ k. 0) xs ≡ 0
    none [] = refl
    none (x ∷ xs) = omega (arith, sum_by-cons (λ (k : ℕ). 0) x xs, none xs)
spread key of w b n (d ∷ ds) h =
    let ks = filter of (range_with_len b n) in
    let one = λ (k : ℕ). cond {A = ℕ} (key d == k) (w d) 0 in
    let rest = λ (k : ℕ). sum_by (λ d. cond (key d == k) (w d) 0) ds in
    let e : sum_by (λ k. sum_by (λ d. cond (key d == k) (w d) 0) (d ∷ ds)) ks ≡ sum_by (λ k. one k + rest k) ks =
    sum-same (λ k. sum_by (λ d. cond (key d == k) (w d) 0) (d ∷ ds)) (λ k. one k + rest k) (λ k. sum_by-cons (λ d. cond (key d == k) (w d) 0) d ds) ks in
    let here = h 0 d (omega arith) in
    omega (
      arith,
      e,
      sum-add one rest ks,
      once_of (key d) (w d) of b n here.0 here.1,
      spread key of w b n ds (λ i x l. h (suc i) x (omega arith)),
      sum_by-cons (λ d. cond (of (key d)) (w d) 0) d ds,
    )

times : (b : Bool) (w : ℕ) → pos w *ℤ pos (cond b 1 0) ≡ pos (cond b w 0)
times true w = omega (arith, ints, product_is (pos w) (pos 1))
times false w = *ℤ-zero (pos w)

-- the class above a class is that of its first member's parent
pub up_is : (f : Filter) → (round k above : ℕ) → 0 < round → round < length f.lists → IsClass f.lists (round + 1) k
    → IsParentClass f (round + 1) k above → above ≡ class_up f round k
up_is f round k above some top h p =
    let next = round + 1 in
    let n = f.classes.numbered next (omega arith) (omega (arith, f.classes.rounds, top)) in
    let first = first_member f.lists next k in
    let back : next - 1 ≡ round = omega arith in
    sym (p first (first_in (list_of f.lists next) k n h.0 h.1) (first_member_of (list_of f.lists next) k n h.0 h.1))
    ∙ ap (λ j. class_of f.lists j (get_or (list_of f.parents next) first 0)) back

-- ---- lists of the classes below each class

below_next : (c : Filter) (round class n : ℕ) → below_class c round class (n + 1)
    ≡ below_class c round class n ++ cond (class_up c round (n + 1) == class) ((n + 1) ∷ []) []
below_next c round class n =
    let of : ℕ → Bool = λ j. class_up c round j == class in
    let same : (m : ℕ) → map (λ (j : ℕ). j) (range_with_len 1 m) ≡ range_with_len 1 m = λ m. map_same (range_with_len 1 m) in
    ap (filter of) (sym (same (n + 1))) ∙ filter_of_map_range_with_len_more of (λ j. j) 1 n (n + 1) (omega arith)
    ∙ ap (λ xs. filter of xs ++ cond (of (n + 1)) ((n + 1) ∷ []) []) (same n)
  where
    map_same : (xs : List ℕ) → map (λ (j : ℕ). j) xs ≡ xs
    map_same [] = refl
    map_same (x ∷ xs) = ap (λ ys. x ∷ ys) (map_same xs)

-- one more class of the next round
pub below_more : (c : Filter) (round n : ℕ) (below : List (Vec ℕ Global)) (old new : Vec ℕ Global) (above : ℕ) → AreBelow c round n below
    → IsClass c.lists round above → above ≡ class_up c round (n + 1)
    → old ≡ get_or below (above - 1) old → new.items ≡ old.items ++ (n + 1) ∷ [] → AreBelow c round (n + 1) (set below (above - 1) new)
below_more c round n below old new above b h up is items = record {
  long = length-set below (above - 1) new ∙ b.long;
  each = λ class d k. ⊎_elim (same class d k) (other class d k) (cases_eq class above);
}
  where
    grown : (class : ℕ) (t : Bool) → (class_up c round (n + 1) == class) ≡ t
        → below_class c round class (n + 1) ≡ below_class c round class n ++ cond t ((n + 1) ∷ []) []
    grown class t e = below_next c round class n ∙ ap (λ b. below_class c round class n ++ cond b ((n + 1) ∷ []) []) e

    same : (class : ℕ) (d : Vec ℕ Global) → IsClass c.lists round class → class ≡ above
        → (get_or (set below (above - 1) new) (class - 1) d).items ≡ below_class c round class (n + 1)
    same class d k e =
        let low = k.0 in
        let high = k.1 in
        let at : above - 1 < length below = omega (arith, b.long, e) in
        let test : (class_up c round (n + 1) == class) ≡ true = (Decides-eqb (class_up c round (n + 1)) class).1 (sym up ∙ sym e) in
        ap (λ j. (get_or (set below (above - 1) new) (j - 1) d).items) e
        ∙ ap (λ (v : Vec ℕ Global). v.items) (get_or-set_same below (above - 1) new d at)
        ∙ items ∙ ap (λ (v : Vec ℕ Global). v.items ++ (n + 1) ∷ []) is
        ∙ ap (λ xs. xs ++ (n + 1) ∷ []) (ap (λ j. (get_or below (j - 1) old).items) (sym e) ∙ b.each class old k)
        ∙ sym (grown class true test)

    other : (class : ℕ) (d : Vec ℕ Global) → IsClass c.lists round class → class ≢ above
        → (get_or (set below (above - 1) new) (class - 1) d).items ≡ below_class c round class (n + 1)
    other class d k e =
        let low = k.0 in
        let least = h.0 in
        let apart : class - 1 ≢ above - 1 = λ i. e (omega arith) in
        let test : (class_up c round (n + 1) == class) ≡ false = not_eq (class_up c round (n + 1)) class (λ i. e (sym i ∙ sym up)) in
        ap (λ (v : Vec ℕ Global). v.items) (get_or-set_other below (above - 1) (class - 1) new d apart)
        ∙ b.each class d k ∙ sym (append-nil (below_class c round class n)) ∙ sym (grown class false test)

-- ---- the classes below a class

module _ (g : ValidGame) (c : Filter) (e : c.parents ≡ (frame_in g).parents) (round : ℕ) (some : 0 < round) (before : round
    < last_round (frame_in g)) where
  k : IsClasses (frame_in g).parents c.lists
  k = over (frame_in g) c e

  lo : 0 < round + 1
  lo = omega arith

  hi : round + 1 ≤ last_round (frame_in g)
  hi = omega arith

  abbrev one : Deal → ℕ
  one d = class_of c.lists (round + 1) (at_round (frame_in g) (round + 1) d.one)

  abbrev two : Deal → ℕ
  two d = class_of c.lists (round + 1) (at_round (frame_in g) (round + 1) d.two)

  up_of : (x : ℕ) → x < signal_count (frame_in g) (round + 1) → class_up c round (class_of c.lists (round + 1) x)
      ≡ class_of c.lists round (ancestor (frame_in g) (round + 1) round x)
  up_of x l =
      let h = firsts_from (frame_in g) c.lists k in
      let first = first_member c.lists (round + 1) (class_of c.lists (round + 1) x) in
      ap (λ (ps : List (List ℕ)). class_of c.lists round (get_or (list_of ps (round + 1)) first 0)) e
      ∙ k.filter round first x some before (h.in_range (round + 1) x l) l (h.member (round + 1) x l)
      ∙ ap (class_of c.lists round) (sym (ancestor-parent (frame_in g) round x))

  -- the class above that of a signal is its own class in the round
  up_at : (x : ℕ) → x < signal_count (frame_in g) (last_round (frame_in g))
      → class_up c round (class_of c.lists (round + 1) (at_round (frame_in g) (round + 1) x)) ≡ class_of c.lists round (at_round (frame_in g) round x)
  up_at x l =
      let t = table g in
      up_of (at_round (frame_in g) (round + 1) x) (t.kept (last_round (frame_in g)) (round + 1) x lo hi l)
      ∙ ap (class_of c.lists round) (t.chain (last_round (frame_in g)) (round + 1) round x (omega arith) hi)

  -- what the deals of a class of the next round weigh against those below a class
  abbrev child_weight : ℕ → ℕ → ℕ
  child_weight j q = sum_by (λ (d : Deal). cond (class_up c round (two d) == q) (cond (one d == j) d.weight 0) 0) (frame_in g).deals

  row_counts : (j : ℕ) (row : List Pair) → IsRow (frame_in g) c.lists (round + 1) j row → (q : ℕ)
      → part_weight (map (part_up c round) row) q ≡ child_weight j q
  row_counts j row h q =
      let v : ℕ → ℤ = λ m. pos (cond (class_up c round m == q) 1 0) in
      let w : Deal → ℕ = λ d. cond (one d == j) d.weight 0 in
      let a : Pair → ℕ = λ p. cond (class_up c round p.two == q) p.weight 0 in
      let b : Deal → ℕ = λ d. cond (class_up c round (two d) == q) (w d) 0 in
      let same = alike_lists eqb Decides-eqb (λ (p : Pair). p.two) (λ p. p.weight) two w v row (frame_in g).deals
      (weight_both (frame_in g) (table g) c.lists k (round + 1) lo hi j row h) in
      let left = sum_z-same (λ (p : Pair). pos p.weight *ℤ v p.two) (λ p. pos (a p)) (λ p. times (class_up c round p.two == q) p.weight) row
      ∙ sum_z-pos a row in
      let right = sum_z-same (λ d. pos (w d) *ℤ v (two d)) (λ d. pos (b d)) (λ d. times (class_up c round (two d) == q) (w d)) (frame_in g).deals
      ∙ sum_z-pos b (frame_in g).deals in
      sum_by-map (λ (p : Part). cond (p.class == q) p.weight 0) (part_up c round) row
      ∙ pos-injective (sum_by a row) (sum_by b (frame_in g).deals) (sym left ∙ same ∙ right)

  -- over the classes below a class: what its own deals weigh
  below_counts : (class q : ℕ) → sum_by (λ j. child_weight j q) (below_class c round class (class_count c.lists (round + 1)))
      ≡ both_weight (frame_in g) (table g) c.lists k round some (omega arith) class q
  below_counts class q =
      let n = class_count c.lists (round + 1) in
      let ks = below_class c round class n in
      let t = table g in
      let w : Deal → ℕ = λ d. cond (class_up c round (two d) == q) d.weight 0 in
      let of : ℕ → Bool = λ j. class_up c round j == class in
      let turned = sum-same (λ j. child_weight j q) (λ j. sum_by (λ d. cond (one d == j) (w d) 0) (frame_in g).deals)
      (λ j. sum-same (λ (d : Deal). cond (class_up c round (two d) == q) (cond (one d == j) d.weight 0) 0) (λ d. cond (one d == j) (w d) 0)
      (λ d. swap (class_up c round (two d) == q) (one d == j) d.weight) (frame_in g).deals) ks in
      let within : All (λ d. (1 ≤ one d) × (one d < 1 + n)) (frame_in g).deals = λ i d l. (
      let x = get_or (frame_in g).deals i d in
      let here = class_in (frame_in g) c.lists k (round + 1) (at_round (frame_in g) (round + 1) x.one) lo hi
      (t.kept (last_round (frame_in g)) (round + 1) x.one lo hi (t.dealt i d l)) in
      let a = here.0 in
      let b = here.1 in
      (omega arith, omega arith)) in
      let out = sum-same_all (λ d. cond (of (one d)) (w d) 0)
      (λ (d : Deal). cond (class_of c.lists round (at_round (frame_in g) round d.two) == q)
      (cond (class_of c.lists round (at_round (frame_in g) round d.one) == class) d.weight 0) 0) (frame_in g).deals
      (λ i d l.
      let x = get_or (frame_in g).deals i d in
      ap (λ m. cond (m == class) (w x) 0) (up_at x.one (t.dealt i d l))
      ∙ ap (λ m. cond (class_of c.lists round (at_round (frame_in g) round x.one) == class) (cond (m == q) x.weight 0) 0) (up_at x.two (t.dealt_two i d l))
      ∙ swap (class_of c.lists round (at_round (frame_in g) round x.one) == class) (class_of c.lists round (at_round (frame_in g) round x.two) == q) x.weight)
      in
      turned ∙ spread one of w 1 n (frame_in g).deals within ∙ out

  module _ (rows : List (Vec Pair Global)) (r : AreRowsIn (frame_in g) c.lists (round + 1) rows) where
    pub row_is : (j : ℕ) → IsClass c.lists (round + 1) j → IsRow (frame_in g) c.lists (round + 1) j (row_at rows j)
    row_is j h =
        let low = h.0 in
        let high = h.1 in
        items_at rows (j - 1) (IsRow (frame_in g) c.lists (round + 1) j) (λ d. r.row j d h) (omega (arith, r.long))

    -- the pairs of the row are of classes of the next round
    pub pairs_in : (j : ℕ) → IsClass c.lists (round + 1) j → All (λ (p : Pair). IsClass c.lists (round + 1) p.two) (row_at rows j)
    pairs_in j h i d l = row_class (frame_in g) (table g) c.lists k (round + 1) lo hi j (row_at rows j) (row_is j h) i d l

    abbrev parts_of : List ℕ → List Part
    parts_of ks = flat_map (λ j. map (part_up c round) (row_at rows j)) ks

    counts : (ks : List ℕ) → All (IsClass c.lists (round + 1)) ks → (q : ℕ) → part_weight (parts_of ks) q ≡ sum_by (λ j. child_weight j q) ks
    counts [] h q = refl
    counts (j ∷ ks) h q =
        omega (
          arith,
          sum_by-append (λ (p : Part). cond (p.class == q) p.weight 0) (map (part_up c round) (row_at rows j)) (parts_of ks),
          row_counts j (row_at rows j) (row_is j (h 0 j (omega arith))) q,
          counts ks (λ i d l. h (suc i) d (omega arith)) q,
          sum_by-cons (λ j. child_weight j q) j ks,
        )

    weighs : (ks : List ℕ) → All (IsClass c.lists (round + 1)) ks → sum_by (λ (p : Part). p.weight) (parts_of ks)
        ≡ sum_by (class_weight (frame_in g) (table g) c.lists k (round + 1) lo hi) ks
    weighs [] h = refl
    weighs (j ∷ ks) h =
        let w : Part → ℕ = λ p. p.weight in
        omega (
          arith,
          sum_by-append w (map (part_up c round) (row_at rows j)) (parts_of ks),
          sum_by-map w (part_up c round) (row_at rows j),
          row_weighs (frame_in g) (table g) c.lists k (round + 1) lo hi j (row_at rows j) (row_is j (h 0 j (omega arith))),
          weighs ks (λ i d l. h (suc i) d (omega arith)),
          sum_by-cons (class_weight (frame_in g) (table g) c.lists k (round + 1) lo hi) j ks,
        )

    plain_row : (row : List Pair) → AllByRecursion (λ (p : Pair). 0 < p.weight) row → AllByRecursion IsPlain (map (part_up c round) row)
    plain_row [] h = tt
    plain_row (p ∷ ps) h = ((h.0, refl), plain_row ps h.1)

    plain : (ks : List ℕ) → All (IsClass c.lists (round + 1)) ks → AllByRecursion IsPlain (parts_of ks)
    plain [] h = tt
    plain (j ∷ ks) h =
        every-append IsPlain (map (part_up c round) (row_at rows j)) (parts_of ks)
        (plain_row (row_at rows j) (recursion_from_All (λ (p : Pair). 0 < p.weight) (row_at rows j) (row_is j (h 0 j (omega arith))).rises.some))
        (plain ks (λ i d l. h (suc i) d (omega arith)))

    -- the classes below a class are classes of the next round
    pub classes_in : (class : ℕ) → All (IsClass c.lists (round + 1)) (below_class c round class (class_count c.lists (round + 1)))
    classes_in class =
        let n = class_count c.lists (round + 1) in
        All-filter (λ j. class_up c round j == class) (IsClass c.lists (round + 1)) (range_with_len 1 n) (λ i d l.
        let long = length-range_with_len 1 n in
        let at = get_or-range_with_len 1 n i d (omega arith) in
        (omega arith, omega arith))

    module _ (class : ℕ) (parts sorted : List Part) (is : parts ≡ parts_of (below_class c round class (class_count c.lists (round + 1))))
        (m : IsPermutation parts sorted) where
      abbrev ks : List ℕ
      ks = below_class c round class (class_count c.lists (round + 1))

      plain_sorted : AllByRecursion IsPlain sorted
      plain_sorted = recursion_from_All IsPlain sorted (All-permutation IsPlain parts sorted m
          (subst (All IsPlain) (sym is) (All-from_recursion IsPlain (parts_of ks) (plain ks (classes_in class)))))

      -- the parts weigh little
      pub parts_fit : sum_by (λ (p : Part). p.weight) sorted ≤ 67108864
      parts_fit =
          let w : Part → ℕ = λ p. p.weight in
          let v = class_weight (frame_in g) (table g) c.lists k (round + 1) lo hi in
          let n = class_count c.lists (round + 1) in
          let of : ℕ → Bool = λ j. class_up c round j == class in
          omega (
            arith,
            sum_by-IsPermutation w parts sorted m,
            ap (sum_by w) is,
            weighs ks (classes_in class),
            sum_by-filter_both of (λ j. not (of j)) (λ _. refl) v (range_with_len 1 n),
            classes_weigh (frame_in g) (table g) c.lists k (round + 1) lo hi 1 n,
            g.limits.weight_in,
          )

      -- and gathered in order they are the class's row
      pub row_from : IsNonDecreasingBy (λ (p : Part). p.class) sorted → IsRow (frame_in g) c.lists round class (gathered 1 sorted)
      row_from o = record {
        rises = by_index (gathered 1 sorted) (rises_weak sorted (sorted_weak sorted o) plain_sorted);
        weights = λ q.
            let v : Part → ℕ = λ p. cond (p.class == q) p.weight 0 in
            let both = both_weight (frame_in g) (table g) c.lists k round some (omega arith) class q in
            let e : weight_in (gathered 1 sorted) q ≡ both =
            omega (
              arith,
              gathered-weight 1 sorted q,
              sum_by-IsPermutation v parts sorted m,
              ap (sum_by v) is,
              counts ks (classes_in class) q,
              below_counts class q,
            ) in
            ap pos e ∙ sym (pair_weight_is (frame_in g) (table g) c.lists k round some (omega arith) class q);
        signed = λ q.
            gathered-signed 1 sorted q ∙ ap (λ z. pos 1 *ℤ z) (no_signed sorted q plain_sorted) ∙ *ℤ-zero (pos 1)
            ∙ sym (ap (λ b. cond b (pair_sum (frame_in g) c.lists c.lists round (λ o. o) class q) (pos 0))
            (not_eq round (last_round (frame_in g)) (λ e. omega arith)));
      }
