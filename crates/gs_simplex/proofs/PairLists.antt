-- Lists of basic pairs: what stands in them, their rows, that a pivot keeps them regular, and that the aim's last number is its value.
use Rattle.std.proofs.Common.{◌≡◌, ℕ, suc, ◌+◌, ◌<◌, ◌≤◌, ◌⊎◌, inl, inr, length, slice_index, slice_index_or, slice_set, ℤ, pos, ◌-ℤ◌, ◌*ℤ◌, neg_ℤ, sym, ap}
use Rattle.std.proofs.Common.{subst, ◌∙◌, List, arith, get_or-set_other, get_or-set_same}
use Rattle.std.proofs.{lemmas.Bool.{cases_eq}, lemmas.List.{length-set}, Math.Seq.{take-length}}
use Rattle.gs_simplex.specs.{declared.program.Program.{Program}, Sums.{sum_to}, Path.{IsPivot}}
use Rattle.gs_simplex.specs.Program.{aim_of, Listing, IsListed, RowListed, ColListed, IsPairList, IsRowsOf, IsRegularList, IsTakenInTurn, IsSolution}
use Rattle.gs_simplex.proofs.{Ring.{ring, linear, times_zero, zero_times}, Sums.{sum_same, sum_zero}, Steps.{IsList, rows_same}}
use Rattle.gs_simplex.proofs.{Pivots.{IsOnce, IsPlace, any_default, turn_is_list, turn_is_once, turn_is_regular}, Solutions.{find_col, aim_dot}}
use Rattle.gs_simplex.proofs.{Opening.{IsOpened, opened, solution_killed}, Exists.{rows_exist}}

-- `rows` has the row of each column of the first `count` pairs, counted from 1; the other numbers are those of `old`
pub record IsMarked (l : Listing) (old rows : List ℕ) (count : ℕ) : Type 0 where
  pub listed : (k i j : ℕ) → k < count → slice_index_or l k (0, 0) ≡ (i + 1, j + 1) → slice_index rows j ≡ i + 1
  pub unlisted : (j : ℕ) → ((k : ℕ) → k < count → (slice_index_or l k (0, 0)).1 ≡ j + 1 → ⊥) → slice_index rows j ≡ slice_index old j

-- the pair at the place where row i and column j stand
pub place_of : (l : Listing) (i j : ℕ) (h : IsListed l i j) → slice_index_or l h.0 (0, 0) ≡ (i + 1, j + 1)
place_of l i j h = any_default l h.0 (0, 0) (i + 1, j + 1) h.1 ∙ h.2

pub listed_at : (l : Listing) (k i j : ℕ) → k < length l → slice_index_or l k (0, 0) ≡ (i + 1, j + 1) → IsListed l i j
listed_at l k i j h e = (k, h, any_default l k (i + 1, j + 1) (0, 0) h ∙ e)

pub less_one : (a b : ℕ) → a + 1 ≡ b + 1 → a ≡ b
less_one a b e = omega arith

module _ {p : Program} {l : Listing} where
  -- the names of the pair at a listed place are those of the row and the column
  names_are : (u : IsPairList p l) (i j : ℕ) (h : IsListed l i j) → (i < p.rows) × (j < p.cols)
  names_are u i j h =
      let n = u.named h.0 h.1 in
      let e : (n.0 + 1, n.1 + 1) ≡ (i + 1, j + 1) = sym n.2 ∙ place_of l i j h in
      let a : n.0 ≡ i = less_one n.0 i (ap (λ (w : ℕ × ℕ). w.0) e) in let b : n.1 ≡ j = less_one n.1 j (ap (λ (w : ℕ × ℕ). w.1) e) in
      (omega (arith, n.3), omega (arith, n.4))

  -- a column, or a row, that stands in no pair
  pub no_column : (j k : ℕ) → IsPairList p l → (ColListed l j → ⊥) → k < length l → (slice_index_or l k (0, 0)).1 ≡ j + 1 → ⊥
  no_column j k pairs out h e =
      let n = pairs.named k h in
      let s : n.1 ≡ j = less_one n.1 j (ap (λ (x : ℕ × ℕ). x.1) (sym n.2) ∙ e) in
      out (n.0, (let P : ℕ → Type 0 = λ x. IsListed l n.0 x in subst P s (listed_at l k n.0 n.1 h n.2)))

  pub no_row : (i k : ℕ) → IsPairList p l → (RowListed l i → ⊥) → k < length l → (slice_index_or l k (0, 0)).0 ≡ i + 1 → ⊥
  no_row i k pairs out h e =
      let n = pairs.named k h in
      let s : n.0 ≡ i = less_one n.0 i (ap (λ (x : ℕ × ℕ). x.0) (sym n.2) ∙ e) in
      out (n.1, (let P : ℕ → Type 0 = λ x. IsListed l x n.1 in subst P s (listed_at l k n.0 n.1 h n.2)))

same_place : {i j k h : ℕ} (l : Listing) (a : IsListed l i j) (b : IsListed l k h) → a.0 ≡ b.0 → (i ≡ k) × (j ≡ h)
same_place {i} {j} {k} {h} l a b e =
    let q : (i + 1, j + 1) ≡ (k + 1, h + 1) = sym (place_of l i j a) ∙ ap (λ x. slice_index_or l x (0, 0)) e ∙ place_of l k h b in
    (less_one i k (ap (λ (w : ℕ × ℕ). w.0) q), less_one j h (ap (λ (w : ℕ × ℕ). w.1) q))

module _ {p : Program} {l : Listing} where
  pub pair_list_is_list : IsPairList p l → IsList p l
  pair_list_is_list u = record {
    row_inside = λ i j h. (names_are u i j h).0;
    column_inside = λ i j h. (names_are u i j h).1;
    one_column = λ i j k h g. (same_place l h g (u.rows_differ h.0 g.0 h.1 g.1 (ap (λ (w : ℕ × ℕ). w.0) (place_of l i j h)
        ∙ sym (ap (λ (w : ℕ × ℕ). w.0) (place_of l i k g))))).1;
    one_row = λ i k j h g. (same_place l h g (u.columns_differ h.0 g.0 h.1 g.1 (ap (λ (w : ℕ × ℕ). w.1) (place_of l i j h)
        ∙ sym (ap (λ (w : ℕ × ℕ). w.1) (place_of l k j g))))).0;
  }

  pub pair_list_is_once : IsPairList p l → IsOnce l
  pair_list_is_once u = record { place = u.rows_differ }

  -- a row is listed or not, and so a column
  pub row_decided : IsPairList p l → (i : ℕ) → (RowListed l i) ⊎ (RowListed l i → ⊥)
  row_decided u i = elim (find_col (length l) (λ k. (slice_index_or l k (0, 0)).0) (i + 1)) [
    | inl f ↦ (let n = u.named f.0 f.1 in let s : n.0 ≡ i = less_one n.0 i (ap (λ (w : ℕ × ℕ). w.0) (sym n.2) ∙ f.2) in
        inl (n.1, let P : ℕ → Type 0 = λ x. IsListed l x n.1 in subst P s (listed_at l f.0 n.0 n.1 f.1 n.2)))
    | inr none ↦ inr (λ h. none h.1.0 h.1.1 (ap (λ (w : ℕ × ℕ). w.0) (place_of l i h.0 h.1)))
  ]

  pub column_decided : IsPairList p l → (j : ℕ) → (ColListed l j) ⊎ (ColListed l j → ⊥)
  column_decided u j = elim (find_col (length l) (λ k. (slice_index_or l k (0, 0)).1) (j + 1)) [
    | inl f ↦ (let n = u.named f.0 f.1 in let s : n.1 ≡ j = less_one n.1 j (ap (λ (w : ℕ × ℕ). w.1) (sym n.2) ∙ f.2) in
        inl (n.0, let P : ℕ → Type 0 = λ x. IsListed l n.0 x in subst P s (listed_at l f.0 n.0 n.1 f.1 n.2)))
    | inr none ↦ inr (λ h. none h.1.0 h.1.1 (ap (λ (w : ℕ × ℕ). w.1) (place_of l h.0 j h.1)))
  ]

-- back: what the lists of a path are
pub is_pair_list : {p : Program} {l : Listing} → IsList p l → IsOnce l
    → ((k : ℕ) → k < length l → (i : ℕ) × (j : ℕ) × (slice_index_or l k (0, 0) ≡ (i + 1, j + 1))) → IsPairList p l
is_pair_list {l} il once named = record {
  named = λ k h. (let n = named k h in let w : IsListed l n.0 n.1 = listed_at l k n.0 n.1 h n.2 in
      (n.0, n.1, n.2, il.row_inside n.0 n.1 w, il.column_inside n.0 n.1 w));
  rows_differ = once.place;
  columns_differ = λ k h kl hl e.
      (let n = named k kl in let m = named h hl in
      let q : n.1 ≡ m.1 = less_one n.1 m.1 (ap (λ (w : ℕ × ℕ). w.1) (sym n.2) ∙ e ∙ ap (λ (w : ℕ × ℕ). w.1) m.2) in
      let a : IsListed l n.0 n.1 = listed_at l k n.0 n.1 kl n.2 in
      let b : IsListed l m.0 n.1 = (let P : ℕ → Type 0 = λ x. IsListed l m.0 x in subst P (sym q) (listed_at l h m.0 m.1 hl m.2)) in
      let r : n.0 ≡ m.0 = il.one_row n.0 m.0 n.1 a b in
      once.place k h kl hl (ap (λ (w : ℕ × ℕ). w.0) n.2 ∙ ap (λ x. x + 1) r ∙ sym (ap (λ (w : ℕ × ℕ). w.0) m.2)));
}

pub opened_pair_list : {p : Program} {l : Listing} → IsOpened p l → IsPairList p l
opened_pair_list w = is_pair_list w.is_list w.once w.named

-- ---- the laws
pub rows_are_determined_lem : (p : Program) (l : Listing) (R S : ℕ → ℕ → ℤ) (a b : ℕ → ℤ) → IsPairList p l → IsRegularList p l → IsRowsOf p l R a
    → IsRowsOf p l S b
    → ((i j : ℕ) → i < p.rows → j ≤ p.cols → R i j ≡ S i j) × ((j : ℕ) → j ≤ p.cols + 1 → a j ≡ b j)
rows_are_determined_lem p l R S a b u reg w v = rows_same (pair_list_is_list u) reg (row_decided u) w v

pub whole_opened : {p : Program} {l : Listing} → IsTakenInTurn p l → IsOpened p l
whole_opened {p} {l} u = let P : Listing → Type 0 = λ x. IsOpened p x in subst P (take-length l) (opened l u (length l) (omega arith))

pub taken_is_regular_lem : (p : Program) (l : Listing) → IsTakenInTurn p l → IsPairList p l × IsRegularList p l
taken_is_regular_lem p l u = let w = whole_opened u in (opened_pair_list w, w.regular)

pub taken_has_rows_lem : (p : Program) (l : Listing) → IsTakenInTurn p l → (R : ℕ → ℕ → ℤ) × (a : ℕ → ℤ) × IsRowsOf p l R a
taken_has_rows_lem p l u =
    let w = rows_exist l u (length l) (omega arith) in
    let P : Listing → Type 0 = λ x. (R : ℕ → ℕ → ℤ) × (a : ℕ → ℤ) × IsRowsOf p x R a in subst P (take-length l) w

pub place_in : {p : Program} {l : Listing} {q r c : ℕ} → IsPairList p l → q < length l → slice_index_or l q (0, 0) ≡ (r + 1, c + 1) → IsPlace p l q r c
place_in u inside pair = record { inside = inside; pair = pair; is_list = pair_list_is_list u; once = pair_list_is_once u }

-- the pair at a place changed
pub changed_pair_list : {p : Program} {l : Listing} {q r c : ℕ} (at : IsPlace p l q r c) (e : ℕ) → IsPairList p l → e < p.cols → (ColListed l e → ⊥)
    → IsPairList p (slice_set l q (r + 1, e + 1))
changed_pair_list {l} {q} {r} at e u en out = is_pair_list (turn_is_list at e en out) (turn_is_once at e) (λ k h. elim (cases_eq k q) [
  | inl s ↦ (r, e, ap (λ x. slice_index_or (slice_set l q (r + 1, e + 1)) x (0, 0)) s ∙ get_or-set_same l q (r + 1, e + 1) (0, 0) at.inside)
  | inr ne ↦ (let long = length-set l q (r + 1, e + 1) in let n = u.named k (omega (arith, long)) in
      (n.0, n.1, get_or-set_other l q k (r + 1, e + 1) (0, 0) ne ∙ n.2))
])

pub pivot_keeps_regular_lem : (p : Program) (l : Listing) (R : ℕ → ℕ → ℤ) (a : ℕ → ℤ) (next : Listing) (e c : ℕ) → IsPairList p l → IsRegularList p l
    → IsRowsOf p l R a → IsPivot p l R a next e c → IsPairList p next × IsRegularList p next
pivot_keeps_regular_lem p l R a next e c u reg w v =
    let at : IsPlace p l v.place.0 v.place.1 c = place_in u v.place.2 v.place.3 in let en = v.enters.column in let out = v.enters.unlisted in
    let P : Listing → Type 0 = λ x. IsPairList p x × IsRegularList p x in
    subst P (sym v.place.5) (changed_pair_list at e u en out, turn_is_regular at e en out v.place.4.pivot w reg)

pub last_number_is_value_lem : (p : Program) (l : Listing) (R : ℕ → ℕ → ℤ) (a : ℕ → ℤ) (d : ℤ) (v : ℕ → ℤ) → IsPairList p l → IsRowsOf p l R a
    → IsSolution p d v → ((j : ℕ) → j < p.cols → (ColListed l j → ⊥) → v j ≡ pos 0)
    → d *ℤ a p.cols ≡ a (suc p.cols) *ℤ sum_to p.cols (λ j. aim_of p j *ℤ v j)
last_number_is_value_lem p l R a d v u w sol off =
    let n = p.cols in let m = p.rows in
    let k = solution_killed sol in
    let ar = w.aim_row in
    let f : a (suc n) *ℤ sum_to n (λ j. aim_of p j *ℤ k.0 j) ≡ sum_to n (λ j. a j *ℤ k.0 j) -ℤ a n *ℤ k.0 n =
    aim_dot ar.2 k.1 in
    let g : sum_to n (λ j. a j *ℤ k.0 j) ≡ pos 0 = sum_zero n (λ j. a j *ℤ k.0 j)
    (λ j jn. elim (column_decided u j) [
      | inl c ↦ (ap (λ t. t *ℤ k.0 j) (ar.2.zeros j c) ∙ zero_times (k.0 j))
      | inr none ↦ (ap (λ t. a j *ℤ t) (k.3 j jn ∙ off j jn none) ∙ times_zero (a j))
    ]) in
    let h : a n *ℤ k.0 n ≡ neg_ℤ (d *ℤ a n) = ap (λ t. a n *ℤ t) k.2 ∙ simp ring in
    let s : sum_to n (λ j. aim_of p j *ℤ k.0 j) ≡ sum_to n (λ j. aim_of p j *ℤ v j) =
    sum_same n (λ j. aim_of p j *ℤ k.0 j) (λ j. aim_of p j *ℤ v j) (λ j jn. ap (λ t. aim_of p j *ℤ t) (k.3 j jn)) in
    let q : a (suc n) *ℤ sum_to n (λ j. aim_of p j *ℤ k.0 j) ≡ d *ℤ a n = omega (arith, linear) in
    sym q ∙ ap (λ t. a (suc n) *ℤ t) s
