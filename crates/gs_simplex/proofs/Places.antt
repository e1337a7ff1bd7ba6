-- Numbers of rows that stand one after the other in one list, and what is at each place after a part was written.
use Rattle.std.proofs.Common.{◌≡◌, ◌≢◌, ℕ, suc, ◌+◌, ◌-◌, ◌*◌, ◌<◌, ◌≤◌, ◌⊎◌, inl, inr, List, [], ◌++◌, length, take, drop, map, Vec, vec_items, Global, get_or}
use Rattle.std.proofs.Common.{slice_index, slice_index_or, slice_set, ℤ, pos, neg_ℤ, ◌*ℤ◌, ◌<ℤ◌, unsigned_abs, refl, sym, ap, subst, ◌∙◌, arith}
use Rattle.std.proofs.{Common.{below_more, get_or-set_other, get_or-set_same}, lemmas.Bool.{cases_order, cases_lt}, lemmas.List.{length-drop, length-map}}
use Rattle.std.proofs.lemmas.List.{get_or_append_left, get_or-append_right, get_or_default, get_or-drop, get_or-take, length-take-le, length-append}
use Rattle.std.proofs.Math.ListN.{get_or-map}
use Prim.Native.Nat.{◌∣◌}
use borrow.Rule.Slice.PartMut.{put_mid}
use Rattle.gs_simplex.specs.{Rows.{IsNarrow, IsPrimitive}, Numbers.{IsLeadOf}}
use Rattle.gs_simplex.specs.Numbers.{at, cell, AreNarrowNumbers, IsAtMost, IsMultiple, IsDivided, IsTurned}
use Rattle.gs_simplex.proofs.{Ring.{linear}, Multiples.{down_nonneg}}

-- the numbers of a row of a list of rows
pub vec_at : (rows : List (Vec ℤ Global)) (i : ℕ) (v : Vec ℤ Global) → i < length rows → v ≡ get_or rows i v
    → v.items ≡ slice_index_or (map vec_items rows) i []
vec_at rows i v h e = ap vec_items e ∙ sym (get_or-map vec_items rows i v)
    ∙ get_or_default (map vec_items rows) i v.items [] (omega (arith, length-map rows vec_items))

-- a number of a part of a list
pub at_part : (xs : List ℤ) (a n j : ℕ) → j < n → at (take n (drop a xs)) j ≡ at xs (a + j)
at_part xs a n j h = get_or-take n (drop a xs) j (pos 0) h ∙ get_or-drop a xs j (pos 0)

-- a part that begins at `start` and ends `width` places behind it
pub part_long : (xs : List ℤ) (start width n : ℕ) → n ≡ start + width - start → start + width ≤ length xs → length (take n (drop start xs)) ≡ width
part_long xs start width n e h = length-take-le n (drop start xs) (omega (arith, length-drop start xs)) ∙ (let q : n ≡ width = omega arith in q)

length_front : (xs : List ℤ) (a : ℕ) → a ≤ length xs → length (take a xs) ≡ a
length_front xs a h = length-take-le a xs h

-- a number after a part was written
pub at_put_below : (xs ys : List ℤ) (a n k : ℕ) → k < a → a ≤ length xs → at (put_mid a n xs ys) k ≡ at xs k
at_put_below xs ys a n k h l =
    let s = length_front xs a l in
    get_or_append_left (take a xs) (ys ++ drop n (drop a xs)) (pos 0) k (omega (arith, s)) ∙ get_or-take a xs k (pos 0) h

pub at_put_inside : (xs ys : List ℤ) (a n j : ℕ) → j < n → length ys ≡ n → a + n ≤ length xs → at (put_mid a n xs ys) (a + j) ≡ at ys j
at_put_inside xs ys a n j h e l =
    let s = length_front xs a (omega arith) in
    get_or-append_right (take a xs) (ys ++ drop n (drop a xs)) a (a + j) (pos 0) s (omega arith)
    ∙ ap (λ t. at (ys ++ drop n (drop a xs)) t) (let q : a + j - a ≡ j = omega arith in q)
    ∙ get_or_append_left ys (drop n (drop a xs)) (pos 0) j (omega arith)

pub at_put_above : (xs ys : List ℤ) (a n k : ℕ) → a + n ≤ k → length ys ≡ n → a + n ≤ length xs → at (put_mid a n xs ys) k ≡ at xs k
at_put_above xs ys a n k h e l =
    let s = length_front xs a (omega arith) in
    get_or-append_right (take a xs) (ys ++ drop n (drop a xs)) a k (pos 0) s (omega arith)
    ∙ get_or-append_right ys (drop n (drop a xs)) n (k - a) (pos 0) e (omega arith)
    ∙ get_or-drop n (drop a xs) (k - a - n) (pos 0) ∙ get_or-drop a xs (n + (k - a - n)) (pos 0)
    ∙ ap (at xs) (let q : a + (n + (k - a - n)) ≡ k = omega arith in q)

pub length_put : (xs ys : List ℤ) (a n : ℕ) → length ys ≡ n → a + n ≤ length xs → length (put_mid a n xs ys) ≡ length xs
length_put xs ys a n e l =
    let s = length_front xs a (omega arith) in
    omega (arith, length-append (take a xs) (ys ++ drop n (drop a xs)), length-append ys (drop n (drop a xs)), length-drop n (drop a xs), length-drop a xs)

-- all numbers are narrow after a part was written with narrow ones
pub narrow_put : (xs ys : List ℤ) (a n : ℕ) → length ys ≡ n → a + n ≤ length xs → AreNarrowNumbers xs → AreNarrowNumbers ys → (k : ℕ) → k < length xs
    → IsNarrow (at (put_mid a n xs ys) k)
narrow_put xs ys a n e l u w k h =
    let P : ℤ → Type 0 = λ z. IsNarrow z in
    elim (cases_lt k a) [
      | inl below ↦ subst P (sym (at_put_below xs ys a n k below (omega arith))) (u k h)
      | inr from ↦ elim (cases_lt k (a + n)) [
        | inl inside ↦ (let q : a + (k - a) ≡ k = omega arith in let Q : ℕ → Type 0 = λ t. IsNarrow (at (put_mid a n xs ys) t) in
            subst Q q (subst P (sym (at_put_inside xs ys a n (k - a) (omega arith) e l)) (w (k - a) (omega arith))))
        | inr above ↦ subst P (sym (at_put_above xs ys a n k above e l)) (u k h)
      ]
    ]

-- ---- rows that agree below `width`
pub primitive_same_row : (last : ℕ) (f g : ℕ → ℤ) → ((j : ℕ) → j ≤ last → f j ≡ g j) → IsPrimitive last f → IsPrimitive last g
primitive_same_row last f g e u = elim u.form [
  | inl z ↦ record { form = inl (λ j h. sym (e j h) ∙ z j h) }
  | inr d ↦ record { form = inr (λ k h. d k (λ j l. let P : ℤ → Type 0 = λ t. k ∣ unsigned_abs t in subst P (sym (e j l)) (h j l))) }
]

pub multiple_same : (width : ℕ) (old old' new new' : ℕ → ℤ) → ((j : ℕ) → j < width → old j ≡ old' j) → ((j : ℕ) → j < width → new j ≡ new' j)
    → IsMultiple width old new → IsMultiple width old' new'
multiple_same width old old' new new' eo en u = let m = u.by in
    record { by = (m.0, m.1, λ j h. sym (eo j h) ∙ m.2 j h ∙ ap (λ t. m.0 *ℤ t) (en j h)) }

pub divided_same : (width : ℕ) (old old' new new' : ℕ → ℤ) → 0 < width → ((j : ℕ) → j < width → old j ≡ old' j) → ((j : ℕ) → j < width → new j ≡ new' j)
    → IsDivided width old new → IsDivided width old' new'
divided_same width old old' new new' some eo en u = record {
  multiple = multiple_same width old old' new new' eo en u.multiple;
  primitive = primitive_same_row (width - 1) new new' (λ j h. en j (omega arith)) u.primitive;
}

pub at_most_same : (width most : ℕ) (old new : ℕ → ℤ) → ((j : ℕ) → j < width → old j ≡ new j) → IsAtMost width old most → IsAtMost width new most
at_most_same width most old new e u j h = let P : ℤ → Type 0 = λ t. unsigned_abs t ≤ most in subst P (e j h) (u j h)

-- ---- places of rows that stand one after the other
pub row_inside : (count width i j : ℕ) → i < count → j < width → i * width + j < count * width
row_inside count width i j h l =
    let m : suc i * width ≤ count * width = Rattle.std.proofs.Math.Nat.mul-le-mul_right width (omega arith) in omega arith

pub row_ends : (count width i : ℕ) → i < count → i * width + width ≤ count * width
row_ends count width i h =
    let m : suc i * width ≤ count * width = Rattle.std.proofs.Math.Nat.mul-le-mul_right width (omega arith) in omega arith

pub row_apart : (width h i j : ℕ) → j < width → h ≢ i → (h * width + j < i * width) ⊎ (i * width + width ≤ h * width + j)
row_apart width h i j jw ne = elim (cases_order h i) [
  | inl s ↦ absurd (ne s)
  | inr x ↦ elim x [
    | inl less ↦ inl (let m : h * width + width ≤ i * width = row_ends i width h less in omega arith)
    | inr more ↦ inr (let m : i * width + width ≤ h * width = row_ends h width i more in omega arith)
  ]
]

-- where only row i was written, the other rows stay, and those behind it are still the old ones
pub row_stays : (now new : List ℤ) (width i : ℕ) → ((k : ℕ) → (k < i * width) ⊎ (i * width + width ≤ k) → at new k ≡ at now k) → (h : ℕ) → h ≢ i → (j : ℕ)
    → j < width → cell new width h j ≡ cell now width h j
row_stays now new width i others h ne j jw = others (h * width + j) (row_apart width h i j jw ne)

pub rows_left : (old now new : List ℤ) (width i : ℕ) → ((k : ℕ) → (k < i * width) ⊎ (i * width + width ≤ k) → at new k ≡ at now k)
    → ((h : ℕ) → i ≤ h → (j : ℕ) → j < width → cell now width h j ≡ cell old width h j)
    → (h : ℕ) → i + 1 ≤ h → (j : ℕ) → j < width → cell new width h j ≡ cell old width h j
rows_left old now new width i others left h l j jw = row_stays now new width i others h (λ e. omega arith) j jw ∙ left h (omega arith) j jw

-- ---- a row that is taken: turned, and then divided
pub lead_of : (old mid new : ℕ → ℤ) (c width : ℕ) → c < width → IsTurned old mid c width → IsDivided width mid new → IsLeadOf old new c width
lead_of old mid new c width cw t u =
    let g = u.multiple.by in
    record {
      own = down_nonneg g.0 (mid c) (new c) g.1 (g.2 c cw) t.own;
      divided = elim t.self [
        | inl s ↦ inl (divided_same width mid old new new (omega arith) s (λ j h. refl) u)
        | inr s ↦ inr (divided_same width mid (λ j. neg_ℤ (old j)) new new (omega arith) s (λ j h. refl) u)
      ];
    }

-- by what the row was divided
pub lead_by : (old new : ℕ → ℤ) (c width : ℕ) → IsLeadOf old new c width
    → (d : ℤ) × (pos 0 <ℤ d) × (((j : ℕ) → j < width → old j ≡ d *ℤ new j) ⊎ ((j : ℕ) → j < width → old j ≡ neg_ℤ (d *ℤ new j)))
    × IsPrimitive (width - 1) new
lead_by old new c width u = elim u.divided [
  | inl v ↦ (let m = v.multiple.by in (m.0, m.1, inl m.2, v.primitive))
  | inr v ↦ (let m = v.multiple.by in (m.0, m.1, inr (λ j h. let e = m.2 j h in omega (arith, linear)), v.primitive))
]

-- what stands outside a part that was written
pub others_put : (xs ys : List ℤ) (start width n : ℕ) → n ≡ start + width - start → start + width ≤ length xs → length ys ≡ n → (k : ℕ)
    → (k < start) ⊎ (start + width ≤ k) → at (put_mid start n xs ys) k ≡ at xs k
others_put xs ys start width n e h long k w = elim w [
  | inl l ↦ at_put_below xs ys start n k l (omega arith)
  | inr l ↦ at_put_above xs ys start n k (omega arith) long (omega arith)
]

-- ---- one more row with its bound
pub tops_more : (now new : List ℤ) (tops : List ℕ) (w i top : ℕ) → i < length tops
    → ((h : ℕ) → h < i → (j : ℕ) → j < w → cell new w h j ≡ cell now w h j) → ((h : ℕ) → h < i → IsAtMost w (cell now w h) (slice_index tops h))
    → IsAtMost w (cell new w i) top → (h : ℕ) → h < i + 1 → IsAtMost w (cell new w h) (slice_index (slice_set tops i top) h)
tops_more now new tops w i top il stays done here =
    below_more (λ h. IsAtMost w (cell new w h) (slice_index (slice_set tops i top) h)) i
    (λ h l. let P : ℕ → Type 0 = λ t. IsAtMost w (cell new w h) t in
    subst P (sym (get_or-set_other tops i h top 0 (λ e. omega arith)))
    (at_most_same w (slice_index tops h) (cell now w h) (cell new w h) (λ j jw. sym (stays h l j jw)) (done h l)))
    (let P : ℕ → Type 0 = λ t. IsAtMost w (cell new w i) t in subst P (sym (get_or-set_same tops i top 0 il)) here)

pub tops_left_more : (tops old : List ℕ) (i top : ℕ) → ((h : ℕ) → i ≤ h → slice_index tops h ≡ slice_index old h) → (h : ℕ) → i + 1 ≤ h
    → slice_index (slice_set tops i top) h ≡ slice_index old h
tops_left_more tops old i top left h l = get_or-set_other tops i h top 0 (λ e. omega arith) ∙ left h (omega arith)
