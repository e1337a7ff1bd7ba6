-- The lists of an opening are regular, the whole opening is full and feasible, and no path from there on has a basis twice.
use Rattle.std.proofs.Common.{◌≡◌, ℕ, zero, suc, ◌+◌, ◌-◌, ◌<◌, ◌≤◌, ◌⊎◌, inl, inr, [], ◌∷◌, ◌++◌, length, slice_index_or, take, ℤ, pos, ◌*ℤ◌, neg_ℤ, ◌≤ℤ◌}
use Rattle.std.proofs.Common.{◌<ℤ◌, sym, ap, subst, ◌∙◌, arith}
use Rattle.std.proofs.{lemmas.Bool.{cases_lt}, Math.Seq.{take-length}, lemmas.List.{take_more, length_push, get_or_append_left, get_or_push}}
use Rattle.gs_simplex.specs.{declared.program.Program.{Program}, Sums.{sum_to}, Path.{IsPivot, States, IsPath}}
use Rattle.gs_simplex.specs.Program.{number, Listing, IsListed, RowListed, ColListed, IsRowsOf, CanTake, IsTakenInTurn, IsSolution, IsOpening, IsRegularList}
use Rattle.gs_simplex.proofs.{States.{later}, Ring.{ring, linear, times_nonneg, cancel_nonneg}, Sums.{sum_same}, Steps.{IsList, take_is_list, take_is_regular}}
use Rattle.gs_simplex.proofs.{Pivots.{IsOnce, any_default}, Solutions.{IsKilled, IsBasic, placed, row_at_basic}}
use Rattle.gs_simplex.proofs.Bases.{IsFull, IsTrail, RowsFeasible, col_of, col_is, in_cols, table_of, turn_is_full, turn_is_feasible, trail_columns_differ}

-- what stands at a place after a push
place_push : (l : Listing) (x : ℕ × ℕ) (k : ℕ) → k < length (l ++ x ∷ [])
    → ((k < length l) × (slice_index_or (l ++ x ∷ []) k (0, 0) ≡ slice_index_or l k (0, 0))) ⊎ ((k ≡ length l) × (slice_index_or (l ++ x ∷ []) k (0, 0) ≡ x))
place_push l x k h =
    let long = length_push l x in
    elim (cases_lt k (length l)) [
      | inl less ↦ inl (less, get_or_append_left l (x ∷ []) (0, 0) k less)
      | inr more ↦ (let e : length l ≡ k = omega (arith, long) in inr (sym e, get_or_push l x (0, 0) k e))
    ]

-- each opening list is a list of different rows and columns, and regular
pub record IsOpened (p : Program) (l : Listing) : Type 0 where
  pub is_list : IsList p l
  pub once : IsOnce l
  pub named : (k : ℕ) → k < length l → (i : ℕ) × (j : ℕ) × (slice_index_or l k (0, 0) ≡ (i + 1, j + 1))
  pub regular : IsRegularList p l

old_row : (p : Program) (l : Listing) (r c k : ℕ) → IsOpened p l → (RowListed l r → ⊥) → k < length l → (slice_index_or l k (0, 0)).0 ≡ r + 1 → ⊥
old_row p l r c k w out h e =
    let n = w.named k h in
    let f : n.0 + 1 ≡ r + 1 = ap (λ (x : ℕ × ℕ). x.0) (sym n.2) ∙ e in
    let s : n.0 ≡ r = omega arith in
    out (n.1, let P : ℕ → Type 0 = λ x. IsListed l x n.1 in subst P s (k, h, any_default l k (n.0 + 1, n.1 + 1) (0, 0) h ∙ n.2))

pub opened_push : {p : Program} {l : Listing} {r c : ℕ} → IsOpened p l → CanTake p l r c → IsOpened p (l ++ (r + 1, c + 1) ∷ [])
opened_push {p} {l} {r} {c} w t = record {
  is_list = take_is_list w.is_list t;
  once = record {
    place = λ q k ql kl s. elim (place_push l (r + 1, c + 1) q ql) [
      | inl x ↦ elim (place_push l (r + 1, c + 1) k kl) [
        | inl y ↦ w.once.place q k x.0 y.0 (ap (λ (z : ℕ × ℕ). z.0) (sym x.1) ∙ s ∙ ap (λ (z : ℕ × ℕ). z.0) y.1)
        | inr y ↦ absurd (old_row p l r c q w t.row_free x.0 (ap (λ (z : ℕ × ℕ). z.0) (sym x.1) ∙ s ∙ ap (λ (z : ℕ × ℕ). z.0) y.1))
      ]
      | inr x ↦ elim (place_push l (r + 1, c + 1) k kl) [
        | inl y ↦ absurd (old_row p l r c k w t.row_free y.0 (ap (λ (z : ℕ × ℕ). z.0) (sym y.1) ∙ sym s ∙ ap (λ (z : ℕ × ℕ). z.0) x.1))
        | inr y ↦ x.0 ∙ sym y.0
      ]
    ];
  };
  named = λ k kl. elim (place_push l (r + 1, c + 1) k kl) [
    | inl x ↦ (let n = w.named k x.0 in (n.0, n.1, x.1 ∙ n.2))
    | inr x ↦ (r, c, x.1)
  ];
  regular = take_is_regular w.is_list w.regular t;
}

pub opened : {p : Program} (o : Listing) → IsTakenInTurn p o → (k : ℕ) → k ≤ length o → IsOpened p (take k o)
opened o taken zero h = record {
  is_list = record {
    row_inside = λ i j x. absurd (omega (arith, x.1));
    column_inside = λ i j x. absurd (omega (arith, x.1));
    one_column = λ i j k x y. absurd (omega (arith, x.1));
    one_row = λ i k j x y. absurd (omega (arith, x.1));
  };
  once = record { place = λ q k x y s. absurd (omega arith) };
  named = λ k x. absurd (omega arith);
  regular = record { only = λ z off on i im. off i im (λ x. absurd (omega (arith, x.1.1))) };
}
opened {p} o taken (suc k) h =
    let w = opened o taken k (omega arith) in
    let t = taken k (omega arith) in
    let e : take (k + 1) o ≡ take k o ++ (slice_index_or o k (0, 0) ∷ []) = take_more o k (0, 0) (omega arith) in
    let f : take (suc k) o ≡ take k o ++ ((t.0 + 1, t.1 + 1) ∷ []) = ap (λ x. take x o) (let q : suc k ≡ k + 1 = omega arith in q) ∙ e
    ∙ ap (λ x. take k o ++ (x ∷ [])) t.2 in
    let P : Listing → Type 0 = λ x. IsOpened p x in
    subst P (sym f) (opened_push w t.3)

-- a solution, with minus its denominator at the right side's place
pub solution_killed : {p : Program} {d : ℤ} {v : ℕ → ℤ} → IsSolution p d v
    → (x : ℕ → ℤ) × IsKilled p.rows p.cols (number p) x × (x p.cols ≡ neg_ℤ d) × ((j : ℕ) → j < p.cols → x j ≡ v j)
solution_killed {p} {d} {v} u =
    let n = p.cols in
    let w = placed n (neg_ℤ d) v in let x : ℕ → ℤ = w.0 in let side : x n ≡ neg_ℤ d = w.1 in
    let below : (k : ℕ) → k < n → x k ≡ v k = λ k kn. w.2 k (λ (e : k ≡ n). omega arith) in (
      x,
      record {
        row = λ k km.
            let e : sum_to n (λ c. number p k c *ℤ x c) ≡ d *ℤ number p k n =
            sum_same n (λ c. number p k c *ℤ x c) (λ c. number p k c *ℤ v c) (λ c cn. ap (λ t. number p k c *ℤ t) (below c cn)) ∙ u.solves k km in
            let g : number p k n *ℤ x n ≡ neg_ℤ (d *ℤ number p k n) = ap (λ t. number p k n *ℤ t) side ∙ simp ring in omega (arith, linear);
      },
      side,
      below,
    )

module _ {p : Program} {o : Listing} where
  -- the whole opening is full
  pub opening_is_full : IsOpening p o → IsFull p o
  opening_is_full u =
      let w : IsOpened p o = (let P : Listing → Type 0 = λ x. IsOpened p x in subst P (take-length o) (opened o u.taken (length o) (omega arith))) in
      record { is_list = w.is_list; once = w.once; regular = w.regular; all = u.each_row; free_in = u.free_named }

  -- and its rows are feasible
  pub opening_is_feasible : {R : ℕ → ℕ → ℤ} {a : ℕ → ℤ} → IsOpening p o → IsRowsOf p o R a → RowsFeasible p o R
  opening_is_feasible {R} u w i j h bound =
      let f = opening_is_full u in
      let d = u.feasible.0 in let v = u.feasible.1 in let fs = u.feasible.2 in
      let n = p.cols in let k = solution_killed fs.solution in let x = k.0 in
      let dp : pos 0 <ℤ d = fs.solution.positive in
      let b : IsBasic p.rows n (number p) (col_of o) d x = record {
        killed = k.1;
        side = k.2;
        positive = dp;
        outside = λ h kn out. k.3 h kn ∙ u.feasible.3 h kn (λ y. (let z = in_cols f h y in out z.0 z.1 z.2));
      } in
      let e : R i (col_of o i) *ℤ x (col_of o i) ≡ d *ℤ R i n = row_at_basic (table_of f w) b i (f.is_list.row_inside i j h) in
      let jn : j < n = f.is_list.column_inside i j h in
      let own : pos 0 <ℤ R i j = (w.listed i j h).2.own in
      let P : ℕ → Type 0 = λ t. R i t *ℤ x t ≡ d *ℤ R i n in
      let e2 : R i j *ℤ v j ≡ d *ℤ R i n = ap (λ t. R i j *ℤ t) (sym (k.3 j jn)) ∙ subst P (col_is f i h) e in
      let y : pos 0 ≤ℤ (R i j *ℤ v j) = times_nonneg (R i j) (v j) (omega (arith, linear)) (fs.nonnegative j jn bound) in
      cancel_nonneg d (R i n) dp (omega (arith, linear))

  module _ {t : ℕ} {steps : States} where
    -- a path from the end of the opening on
    pub path_trail : IsOpening p o → IsPath p o t steps → (d : ℕ) → length o + d ≤ t
        → (IsFull p (steps.lists (length o + d))) × (RowsFeasible p (steps.lists (length o + d)) (steps.rows (length o + d)))
    path_trail u w zero h =
        let k = length o + 0 in let e : k ≡ length o = omega arith in
        let s : steps.lists k ≡ o = ap steps.lists e ∙ w.opens (length o) (omega arith) (omega arith) ∙ take-length o in
        let Q : Listing → Type 0 = λ x. IsRowsOf p x (steps.rows k) (steps.aim k) in
        let P : Listing → Type 0 = λ x. (IsFull p x) × (RowsFeasible p x (steps.rows k)) in
        subst P (sym s) (opening_is_full u, opening_is_feasible u (subst Q s (w.rows k h)))
    path_trail u w (suc d) h =
        let k = length o + d in
        let z = path_trail u w d (omega arith) in
        let tn = w.pivots k (omega arith) (omega arith) in
        let full = turn_is_full z.0 (w.rows k (omega arith)) tn in
        let feas = turn_is_feasible z.0 (w.rows k (omega arith)) (w.rows (suc k) (omega arith)) tn z.1 in
        let P : ℕ → Type 0 = λ x. (IsFull p (steps.lists x)) × (RowsFeasible p (steps.lists x) (steps.rows x)) in
        let q : suc k ≡ length o + suc d = omega arith in subst P q (full, feas)

    pub trail_at : IsOpening p o → IsPath p o t steps → (k : ℕ) → length o ≤ k → k ≤ t
        → (IsFull p (steps.lists k)) × (RowsFeasible p (steps.lists k) (steps.rows k))
    trail_at u w k ok kt =
        let P : ℕ → Type 0 = λ x. (IsFull p (steps.lists x)) × (RowsFeasible p (steps.lists x) (steps.rows x)) in
        let q : length o + (k - length o) ≡ k = omega arith in subst P q (path_trail u w (k - length o) (omega arith))

    -- NO BASIS TWICE: two steps of a path never list the same columns
    pub bases_differ : IsOpening p o → IsPath p o t steps → (k l : ℕ) → length o ≤ k → k < l → l ≤ t
        → ((j : ℕ) → ColListed (steps.lists l) j → ColListed (steps.lists k) j) → ((j : ℕ) → ColListed (steps.lists k) j → ColListed (steps.lists l) j) → ⊥
    bases_differ u w k l ok kl lt back forth =
        let trail : IsTrail p (l - k) (later k steps) = record {
          full = λ x h. (trail_at u w (x + k) (omega arith) (omega arith)).0;
          rows = λ x h. w.rows (x + k) (omega arith);
          feasible = λ x h. (trail_at u w (x + k) (omega arith) (omega arith)).1;
          turn = λ x h. (let q : suc (x + k) ≡ suc x + k = omega arith in let s = later k steps in
              let P : ℕ → Type 0 = λ y. IsPivot p (s.lists x) (s.rows x) (s.aim x) (steps.lists y) (s.entering x) (s.leaving x) in
              subst P q (w.pivots (x + k) (omega arith) (omega arith)));
        } in
        let last : (l - k) + k ≡ l = omega arith in let first : 0 + k ≡ k = omega arith in
        trail_columns_differ trail (omega arith)
        (λ j h. let P : ℕ → Type 0 = λ y. ColListed (steps.lists y) j in subst P (sym first) (back j (subst P last h)))
        (λ j h. let P : ℕ → Type 0 = λ y. ColListed (steps.lists y) j in subst P (sym last) (forth j (subst P first h)))
