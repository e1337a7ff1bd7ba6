-- One more number, and the sizes and first members of the classes.
use Rattle.std.proofs.Common.{◌≡◌, ◌≢◌, ◌==◌, ◌+◌, ◌-◌, ◌<◌, ◌≤◌, ◌++◌, ℕ, Bool, true, false, cond, List, [], ◌∷◌, map, length, take, sym, ◌∙◌, ap, subst}
use Rattle.std.proofs.{Common.{get_or, set, arith, ⊎_elim, count_by, refl, true≢false, below_more}, lemmas.List.{get_or-map}}
use Rattle.std.proofs.{lemmas.Bool.{cases_eq, cases_lt, ne_eqb, eq-eqb, eqb-true, cond-true, cond-false}, lemmas.List.Folds.{position_or_len_push}}
use Rattle.std.proofs.lemmas.List.{same_lists, get_or-take, take-take, length-take-le, get_or-set_same, get_or-set_other, length-set, take_more}
use Rattle.std.proofs.lemmas.List.FromFn.{length-map-range_with_len, get_or-map-range_with_len, map-range_with_len_more}
use Rattle.std.proofs.lemmas.List.Sums.{position_or_len_is, fails_before_first, sum_by_push, sum_by-cons, count_by-le-length, passes_at_first}
use Rattle.std.specs.List.{range_with_len, position_or_len}
use Rattle.gs_model.specs.{Numbering.{greatest, IsNumbered}, Classes.{ClassLists, list_of}}
use Rattle.gs_model.proofs.{Numbered.{greatest_push, occurs, whole}, Push.{le_greatest}, Order.{counts_none}}
use Rattle.gs_filter.specs.{declared.tally.Tally.{Tally}, Tallies.{tally_of, tallies_of, IsNextNumber}}

-- the numbers before a place are numbered
pub numbered_before : (list : List ℕ) (at : ℕ) → at ≤ length list → ((k : ℕ) → k < at → IsNextNumber list k) → IsNumbered (take at list)
numbered_before list at top h k lt =
    let len = length-take-le at list top in
    let in' : k < at = omega arith in
    let low : k ≤ at = omega arith in
    rw (get_or-take at list k 0 in', take-take k at list low) (h k in')

pub length-tallies_of : (xs : List ℕ) → length (tallies_of xs) ≡ greatest xs
length-tallies_of xs = length-map-range_with_len (tally_of xs) 1 (greatest xs)

-- the first place of a member's class is not behind the member
pub first_before : (xs : List ℕ) (s : ℕ) → position_or_len (λ x. x == get_or xs s 0) xs ≤ s
first_before xs s = ⊎_elim
    (λ after. absurd (true≢false (sym (eq-eqb (get_or xs s 0) (get_or xs s 0) refl) ∙ fails_before_first (λ x. x == get_or xs s 0) xs s 0 after)))
    (λ before. before)
    (cases_lt s (position_or_len (λ x. x == get_or xs s 0) xs))

-- each number up to the greatest stands somewhere
pub first_in : (xs : List ℕ) (c : ℕ) → IsNumbered xs → 0 < c → c ≤ greatest xs → position_or_len (λ x. x == c) xs < length xs
first_in xs c h some top =
    let r = occurs xs h (length xs) c (omega arith) some (subst (λ l. c ≤ greatest l) (sym (whole xs)) top) in
    let b = r.before in
    let a = first_before xs r.at in
    let i : position_or_len (λ x. x == c) xs ≤ r.at = subst (λ v. position_or_len (λ x. x == v) xs ≤ r.at) r.here a in
    omega arith

-- a number above the greatest stands nowhere
above_fails : (xs : List ℕ) (c k : ℕ) → greatest xs < c → k < length xs → (get_or xs k 0 == c) ≡ false
above_fails xs c k up l = ne_eqb (get_or xs k 0) c (λ e. let g = le_greatest xs k l in absurd (omega arith))

one_of : (b : Bool) → b ≡ true → cond {A = ℕ} b 1 0 ≡ 1
one_of b e = cond-true b 1 0 e

behind : (b : Bool) → b ≡ true → cond {A = ℕ} b 0 1 ≡ 0
behind b e = cond-true b 0 1 e

first_past : (xs : List ℕ) (c : ℕ) → greatest xs < c → position_or_len (λ x. x == c) xs ≡ length xs
first_past xs c up = position_or_len_is (λ x. x == c) xs (length xs) 0 (omega arith) (λ k l. above_fails xs c k up l) (λ l. absurd (omega arith))

count_past : (xs : List ℕ) (c : ℕ) → greatest xs < c → count_by (λ x. x == c) xs ≡ 0
count_past [] c up = refl
count_past (x ∷ xs) c up =
    let tail : count_by (λ x. x == c) xs ≡ 0 = count_past xs c (omega arith) in
    let b = counts_none (x == c) (ne_eqb x c (λ e. absurd (omega arith))) in
    let q : count_by (λ x. x == c) (x ∷ xs) ≡ cond (x == c) 1 0 + count_by (λ x. x == c) xs = sum_by-cons (λ y. cond (y == c) 1 0) x xs in
    omega arith

-- ---- one more number

count_push : (xs : List ℕ) (y c : ℕ) → count_by (λ x. x == c) (xs ++ y ∷ []) ≡ count_by (λ x. x == c) xs + cond (y == c) 1 0
count_push xs y c = sum_by_push (λ x. cond (x == c) 1 0) xs y

first_kept : (p : ℕ → Bool) (xs : List ℕ) (y : ℕ) → position_or_len p xs < length xs → position_or_len p (xs ++ y ∷ []) ≡ position_or_len p xs
first_kept p xs y l = position_or_len_push p xs y ∙ cond-false _ _ _ (ne_eqb (position_or_len p xs) (length xs) (λ e. absurd (omega arith)))

-- a class that the number is not of
tally_other : (xs : List ℕ) (y c : ℕ) → IsNumbered xs → 0 < c → c ≤ greatest xs → c ≢ y → tally_of (xs ++ y ∷ []) c ≡ tally_of xs c
tally_other xs y c h some top ne =
    let p : ℕ → Bool = λ x. x == c in
    let n : (y == c) ≡ false = ne_eqb y c (λ e. absurd (ne (sym e))) in
    let q = count_push xs y c in
    let z = counts_none (y == c) n in
    let a : count_by (λ x. x == c) (xs ++ y ∷ []) ≡ count_by (λ x. x == c) xs = omega arith in
    let b = first_kept p xs y (first_in xs c h some top) in
    ap (λ s. let t : Tally = record { size = s; first = position_or_len p (xs ++ y ∷ []) } in t) a
    ∙ ap (λ f. let t : Tally = record { size = count_by p xs; first = f } in t) b

-- the class that it is of
tally_own : (xs : List ℕ) (y : ℕ) → IsNumbered xs → 0 < y → y ≤ greatest xs
    → tally_of (xs ++ y ∷ []) y ≡ record { size = (tally_of xs y).size + 1; first = (tally_of xs y).first }
tally_own xs y h some top =
    let p : ℕ → Bool = λ x. x == y in
    let n : (y == y) ≡ true = eq-eqb y y refl in
    let q = count_push xs y y in
    let z = one_of (y == y) n in
    let a : count_by (λ x. x == y) (xs ++ y ∷ []) ≡ count_by (λ x. x == y) xs + 1 = omega arith in
    let b = first_kept p xs y (first_in xs y h some top) in
    ap (λ s. let t : Tally = record { size = s; first = position_or_len p (xs ++ y ∷ []) } in t) a
    ∙ ap (λ f. let t : Tally = record { size = count_by p xs + 1; first = f } in t) b

-- a new class
tally_new : (xs : List ℕ) (y : ℕ) → greatest xs < y → tally_of (xs ++ y ∷ []) y ≡ record { size = 1; first = length xs }
tally_new xs y up =
    let p : ℕ → Bool = λ x. x == y in
    let n : (y == y) ≡ true = eq-eqb y y refl in
    let none = count_past xs y up in
    let far = first_past xs y up in
    let q = count_push xs y y in
    let z = one_of (y == y) n in
    let a : count_by (λ x. x == y) (xs ++ y ∷ []) ≡ 1 = omega arith in
    let b : position_or_len p (xs ++ y ∷ []) ≡ length xs =
    position_or_len_push p xs y ∙ cond-true _ _ _ (eq-eqb (position_or_len p xs) (length xs) far) ∙ (let z = behind (y == y) n in omega arith) in
    ap (λ s. let t : Tally = record { size = s; first = position_or_len p (xs ++ y ∷ []) } in t) a
    ∙ ap (λ f. let t : Tally = record { size = 1; first = f } in t) b

pub tallies_more-new : (xs : List ℕ) (y : ℕ) → IsNumbered xs → y ≡ 1 + greatest xs
    → tallies_of (xs ++ y ∷ []) ≡ tallies_of xs ++ record { size = 1; first = length xs } ∷ []
tallies_more-new xs y h is =
    let ys = xs ++ y ∷ [] in
    let g : greatest ys ≡ greatest xs + 1 = (let p = greatest_push xs y in omega arith) in
    let e : 1 + greatest xs ≡ y = omega arith in
    let same : map (tally_of ys) (range_with_len 1 (greatest xs)) ≡ tallies_of xs = same_lists _ _
    (length-map-range_with_len (tally_of ys) 1 (greatest xs) ∙ sym (length-map-range_with_len (tally_of xs) 1 (greatest xs)))
    (λ k d l.
    let in' : k < greatest xs = (let q = length-map-range_with_len (tally_of ys) 1 (greatest xs) in omega arith) in
    get_or-map-range_with_len (tally_of ys) 1 (greatest xs) k (1 + k) d in' refl
    ∙ tally_other xs y (1 + k) h (omega arith) (omega arith) (λ q. absurd (omega arith))
    ∙ sym (get_or-map-range_with_len (tally_of xs) 1 (greatest xs) k (1 + k) d in' refl)) in
    ap (λ n. map (tally_of ys) (range_with_len 1 n)) g ∙ map-range_with_len_more (tally_of ys) 1 (greatest xs) y e ∙ ap (λ l. l ++ tally_of ys y ∷ []) same
    ∙ ap (λ t. tallies_of xs ++ t ∷ []) (tally_new xs y (omega arith))

pub tallies_more-old : (xs : List ℕ) (y : ℕ) → IsNumbered xs → 0 < y → y ≤ greatest xs
    → tallies_of (xs ++ y ∷ []) ≡ set (tallies_of xs) (y - 1) (record { size = (tally_of xs y).size + 1; first = (tally_of xs y).first })
tallies_more-old xs y h some top =
    let ys = xs ++ y ∷ [] in
    let g : greatest ys ≡ greatest xs = (let p = greatest_push xs y in omega arith) in
    let new : Tally = record { size = (tally_of xs y).size + 1; first = (tally_of xs y).first } in
    let long : length (tallies_of xs) ≡ greatest xs = length-map-range_with_len (tally_of xs) 1 (greatest xs) in
    ap (λ n. map (tally_of ys) (range_with_len 1 n)) g ∙ same_lists _ _
    (length-map-range_with_len (tally_of ys) 1 (greatest xs) ∙ sym long ∙ sym (length-set (tallies_of xs) (y - 1) new))
    (λ k d l.
    let in' : k < greatest xs = (let q = length-map-range_with_len (tally_of ys) 1 (greatest xs) in omega arith) in
    get_or-map-range_with_len (tally_of ys) 1 (greatest xs) k (1 + k) d in' refl ∙ ⊎_elim
    (λ (e : k ≡ y - 1).
    let f : 1 + k ≡ y = omega arith in
    ap (tally_of ys) f ∙ tally_own xs y h some top ∙ sym (get_or-set_same (tallies_of xs) (y - 1) new d (omega arith))
    ∙ ap (λ i. get_or (set (tallies_of xs) (y - 1) new) i d) (sym e))
    (λ ne. tally_other xs y (1 + k) h (omega arith) (omega arith) (λ q. ne (omega arith))
    ∙ sym (get_or-map-range_with_len (tally_of xs) 1 (greatest xs) k (1 + k) d in' refl)
    ∙ sym (get_or-set_other (tallies_of xs) (y - 1) k new d ne))
    (cases_eq k (y - 1)))

-- ---- a turn of the loop over a list

module _ (list : List ℕ) (at : ℕ) (ts : List Tally) (within : at < length list) (tallied : ts ≡ tallies_of (take at list)) (counted : (k : ℕ) → k < at
    → IsNextNumber list k) where
  classes_so_far : length ts ≡ greatest (take at list)
  classes_so_far = ap length tallied ∙ length-tallies_of (take at list)

  so_far : IsNumbered (take at list)
  so_far = numbered_before list at (omega arith) counted

  pub turn_new : length ts < get_or list at 0 → get_or list at 0 ≤ length ts + 1
      → ts ++ record { size = 1; first = at } ∷ [] ≡ tallies_of (take (at + 1) list)
  turn_new low high =
      let g = classes_so_far in
      let n : length (take at list) ≡ at = length-take-le at list (omega arith) in
      ap (λ l. l ++ record { size = 1; first = at } ∷ []) tallied ∙ ap (λ i. let t : Tally = record { size = 1; first = i } in
      tallies_of (take at list) ++ t ∷ []) (sym n)
      ∙ sym (tallies_more-new (take at list) (get_or list at 0) so_far (omega arith)) ∙ ap tallies_of (sym (take_more list at 0 within))

  pub read_tally : (t : Tally) → 0 < get_or list at 0 → get_or list at 0 ≤ length ts → t ≡ get_or ts (get_or list at 0 - 1) t
      → t ≡ tally_of (take at list) (get_or list at 0)
  read_tally t low high is =
      let g = classes_so_far in
      let e : 1 + (get_or list at 0 - 1) ≡ get_or list at 0 = omega arith in
      is ∙ ap (λ l. get_or l (get_or list at 0 - 1) t) tallied
      ∙ get_or-map-range_with_len (tally_of (take at list)) 1 (greatest (take at list)) (get_or list at 0 - 1) (get_or list at 0) t (omega arith) e

  pub size_fits : (t : Tally) → 0 < get_or list at 0 → get_or list at 0 ≤ length ts → t ≡ get_or ts (get_or list at 0 - 1) t → t.size ≤ at
  size_fits t low high is =
      let e = ap (λ (t : Tally). t.size) (read_tally t low high is) in
      let b = count_by-le-length (λ x. x == get_or list at 0) (take at list) in
      let n : length (take at list) ≡ at = length-take-le at list (omega arith) in
      omega arith

  pub turn_old : (t : Tally) → 0 < get_or list at 0 → get_or list at 0 ≤ length ts → t ≡ get_or ts (get_or list at 0 - 1) t
      → set ts (get_or list at 0 - 1) (record { size = t.size + 1; first = t.first }) ≡ tallies_of (take (at + 1) list)
  turn_old t low high is =
      let g = classes_so_far in
      ap (λ (t : Tally). let u : Tally = record { size = t.size + 1; first = t.first } in set ts (get_or list at 0 - 1) u) (read_tally t low high is)
      ∙ ap (λ l. let u : Tally = record {
        size = (tally_of (take at list) (get_or list at 0)).size + 1;
        first =
            (tally_of (take at list) (get_or list at 0)).first;
      } in set l (get_or list at 0 - 1) u) tallied
      ∙ sym (tallies_more-old (take at list) (get_or list at 0) so_far low (omega arith)) ∙ ap tallies_of (sym (take_more list at 0 within))

  pub counted_more : 0 < get_or list at 0 → get_or list at 0 ≤ length ts + 1 → (k : ℕ) → k < at + 1 → IsNextNumber list k
  counted_more low high = let g = classes_so_far in below_more (IsNextNumber list) at counted (low, omega arith)

-- ---- the tallies of a whole list

-- what a read of the tallies gives
pub tally_read : (list : List ℕ) (ts : List Tally) (class : ℕ) → ts ≡ tallies_of list → 0 < class → class ≤ greatest list → (t : Tally)
    → t ≡ get_or ts (class - 1) t → t ≡ tally_of list class
tally_read list ts class tallied low high t is =
    let e : 1 + (class - 1) ≡ class = omega arith in
    is ∙ ap (λ l. get_or l (class - 1) t) tallied ∙ get_or-map-range_with_len (tally_of list) 1 (greatest list) (class - 1) class t (omega arith) e

-- a member's number is a class
pub number_in : (list : List ℕ) (s : ℕ) → IsNumbered list → s < length list → (0 < get_or list s 0) × (get_or list s 0 ≤ greatest list)
number_in list s h l = ((h s l).0, le_greatest list s l)

-- a place whose number has been told apart from the others
pub first_member_of : (list : List ℕ) (class : ℕ) → IsNumbered list → 0 < class → class ≤ greatest list
    → get_or list (position_or_len (λ x. x == class) list) 0 ≡ class
first_member_of list class h low high = eqb-true _ class (passes_at_first (λ x. x == class) list 0 (first_in list class h low high))

-- the tallies of a round
pub round_tallies : (lists : ClassLists) (tallies : List (List Tally)) → tallies ≡ map tallies_of lists → (round : ℕ) (ts : List Tally)
    → 0 < round → round ≤ length lists → ts ≡ get_or tallies (round - 1) ts → ts ≡ tallies_of (list_of lists round)
round_tallies lists tallies tallied round ts some top is =
    is ∙ ap (λ (l : List (List Tally)). get_or l (round - 1) ts) tallied ∙ get_or-map tallies_of lists (round - 1) [] ts (omega arith)
