-- Where a path ends its values are feasible and its prices have multipliers; where it is unbounded the aim has no bound.
use Rattle.std.proofs.Common.{◌≡◌, ℕ, suc, ◌+◌, ◌<◌, List, inl, inr, slice_index_or, ℤ, pos, neg_ℤ, ◌+ℤ◌, ◌-ℤ◌, ◌*ℤ◌, ◌≤ℤ◌, ◌<ℤ◌, sym, ap, subst, ◌∙◌, arith}
use Rattle.gs_simplex.proofs.Ring.{ring, linear, times_times, zero_times, times_nonneg, times_pos, cancel, cancel_nonneg}
use Rattle.gs_simplex.proofs.{Solutions.{IsKilled, IsBasic, find_col, row_at_basic, basic_exists, aim_at_basic}, Turns.{IsState}}
use Rattle.gs_simplex.proofs.{Bases.{IsFull, RowsFeasible, col_of, col_listed, in_cols, from_cols, state_of}, Opening.{trail_at}, Agree.{Agree, rows_agree}}
use Rattle.gs_simplex.proofs.{RowLaws.{IsUnboundedAt, end_feasible, no_bound}, Pairing.{price_from_multipliers}}
use Rattle.gs_frac.specs.declared.value.Fraction.{Fraction}
use Rattle.gs_simplex.specs.{declared.program.Program.{Program}, Sums.{sum_to}}
use Rattle.gs_simplex.specs.Program.{number, aim_of, IsFree, Listing, IsListed, ColListed, IsRowsOf, IsSolution, IsFeasible, IsOpening}
use Rattle.gs_simplex.specs.{Path.{NoneEnters, ends, unbounded, PathStops}, declared.answer.Best.{Best}, Answer.{IsBestAt, IsBest}, Laws.{AreOver}}
use lib.IntN.{*ℤ_comm}

-- ---- the end of a path
pub record IsLast (p : Program) (l : Listing) (R : ℕ → ℕ → ℤ) (a : ℕ → ℤ) : Type 0 where
  pub full : IsFull p l
  pub feasible : RowsFeasible p l R
  pub none : NoneEnters p l a

module _ {p : Program} {l : Listing} {R : ℕ → ℕ → ℤ} {a : ℕ → ℤ} {o : Listing} {limit : ℕ} where
  last_of : (n : ℕ) → IsOpening p o → PathStops p o limit (ends n l) → IsRowsOf p l R a → IsLast p l R a
  last_of n ok u rows =
      let t = u.stops.0 in let s = u.stops.1 in let w = u.stops.2 in
      let el : l ≡ s.lists t = w.3 in
      let z = trail_at ok w.0.path t w.0.whole (omega arith) in
      let Q : Listing → Type 0 = λ x. (IsFull p x) × (RowsFeasible p x (s.rows t)) in
      let y = subst Q (sym el) z in
      let B : Listing → Type 0 = λ x. IsRowsOf p x (s.rows t) (s.aim t) in
      let ag : Agree p R (s.rows t) a (s.aim t) = rows_agree y.0 rows (subst B (sym el) (w.0.path.rows t (omega arith))) in
      let N : Listing → Type 0 = λ x. NoneEnters p x (s.aim t) in
      let none : NoneEnters p l (s.aim t) = subst N (sym el) w.1 in
      record {
        full = y.0;
        feasible = λ i j h bound. (let q : R i p.cols ≡ s.rows t i p.cols = ag.rows i p.cols (y.0.is_list.row_inside i j h) (omega arith) in
            let k : pos 0 ≤ℤ s.rows t i p.cols = y.1 i j h bound in omega (arith, linear));
        none = λ j jn out. (let q : a j ≡ s.aim t j = ag.aim j (omega arith) in let k : s.aim t j ≤ℤ pos 0 = none j jn out in omega (arith, linear));
      }

-- ---- the values over one denominator
over_from : (r s num den d v : ℤ) → pos 0 <ℤ r → num *ℤ r ≡ s *ℤ den → r *ℤ v ≡ d *ℤ s → num *ℤ d ≡ v *ℤ den
over_from r s num den d v rp e f =
    let left : r *ℤ (num *ℤ d) ≡ d *ℤ (num *ℤ r) = simp ring in
    cancel r (num *ℤ d) (v *ℤ den) rp (left ∙ ap (λ t. d *ℤ t) e ∙ sym (times_times d s den) ∙ ap (λ t. t *ℤ den) (sym f) ∙ times_times r v den)

basic_solution : (p : Program) (d : ℤ) (v : ℕ → ℤ) → pos 0 <ℤ d → v p.cols ≡ neg_ℤ d → IsKilled p.rows p.cols (number p) v → IsSolution p d v
basic_solution p d v dp side killed = record {
  positive = dp;
  solves = λ i im. (let z : sum_to p.cols (λ j. number p i j *ℤ v j) +ℤ number p i p.cols *ℤ v p.cols ≡ pos 0 = killed.row i im in
      let s : number p i p.cols *ℤ v p.cols ≡ neg_ℤ (d *ℤ number p i p.cols) = ap (λ x. number p i p.cols *ℤ x) side ∙ simp ring in omega (arith, linear));
}

-- the values as v over d
pub record AreValues (p : Program) (a : ℕ → ℤ) (value : List Fraction) (d : ℤ) (v : ℕ → ℤ) : Type 0 where
  pub over : AreOver p.cols value d v
  pub feasible : IsFeasible p d v
  pub aim : a (suc p.cols) *ℤ sum_to p.cols (λ j. aim_of p j *ℤ v j) ≡ d *ℤ a p.cols

module _ {p : Program} {l : Listing} {R : ℕ → ℕ → ℤ} {a : ℕ → ℤ} {value price : List Fraction} {d : ℤ} {v : ℕ → ℤ} (w : IsLast p l R a)
    (b : IsBestAt p l R a value price) (st : IsState p.rows p.cols (number p) (aim_of p) (IsFree p) (col_of l) R a)
    (basic : IsBasic p.rows p.cols (number p) (col_of l) d v) where
  values_over : AreOver p.cols value d v
  values_over j jn x = elim (find_col p.rows (col_of l) j) [
    | inr none ↦ (let out : ColListed l j → ⊥ = λ h. (let z = in_cols w.full j h in none z.0 z.1 z.2) in
        let v0 : v j ≡ pos 0 = basic.outside j jn none in
        ap (λ t. t *ℤ d) (b.unlisted j jn out x) ∙ zero_times d ∙ sym (ap (λ t. t *ℤ (slice_index_or value j x).den) v0
        ∙ zero_times (slice_index_or value j x).den))
    | inl c ↦ (let i = c.0 in
        let L : ℕ → Type 0 = λ k. IsListed l i k in
        let h : IsListed l i j = subst L c.2 (col_listed w.full i c.1) in
        let S : ℕ → Type 0 = λ k. R i k *ℤ v k ≡ d *ℤ R i p.cols in
        over_from (R i j) (R i p.cols) (slice_index_or value j x).num (slice_index_or value j x).den d (v j) (b.rows_of.listed i j h).2.own (b.listed i j h x)
        (subst S c.2 (row_at_basic st.table basic i c.1)))
  ]

  are_values : AreValues p a value d v
  are_values = record {
    over = values_over;
    feasible = record {
      solution = basic_solution p d v basic.positive basic.side basic.killed;
      nonnegative = λ j jn bound. end_feasible st basic j jn bound;
    };
    aim = aim_at_basic st.aim_row.2 basic;
  }

values_exist : {p : Program} {l : Listing} {R : ℕ → ℕ → ℤ} {a : ℕ → ℤ} (value price : List Fraction) → IsLast p l R a → IsBestAt p l R a value price
    → (d : ℤ) × (v : ℕ → ℤ) × AreValues p a value d v
values_exist value price w b =
    let st = state_of w.full b.rows_of w.feasible in
    let z = basic_exists st.table in
    (z.0, z.1, are_values w b st z.2)

-- ---- the prices
price_nonnegative : (num den m f : ℤ) → pos 0 <ℤ m → f ≤ℤ pos 0 → num *ℤ m ≡ neg_ℤ f *ℤ den → pos 0 <ℤ den → pos 0 ≤ℤ num
price_nonnegative num den m f mp fn e dp =
    let z : pos 0 ≤ℤ (neg_ℤ f *ℤ den) = times_nonneg (neg_ℤ f) den (omega (arith, linear)) (omega (arith, linear)) in
    let c : m *ℤ num ≡ num *ℤ m = *ℤ_comm m num in
    cancel_nonneg m num mp (omega (arith, linear))

module _ {p : Program} {l : Listing} {R : ℕ → ℕ → ℤ} {a : ℕ → ℤ} where
  falls : IsLast p l R a → IsRowsOf p l R a → (j : ℕ) → j < p.cols → a j ≤ℤ pos 0
  falls w u j jn = elim (find_col p.rows (col_of l) j) [
    | inl c ↦ (let z : a j ≡ pos 0 = u.aim_row.2.zeros j (from_cols w.full j c) in omega (arith, linear))
    | inr none ↦ w.none j jn (λ h. let z = in_cols w.full j h in none z.0 z.1 z.2)
  ]

  price_at : (value price : List Fraction) → IsBestAt p l R a value price → (j : ℕ) → j < p.cols → (x : Fraction)
      → (slice_index_or price j x).num *ℤ a (suc p.cols) ≡ neg_ℤ (a j) *ℤ (slice_index_or price j x).den
  price_at value price b j jn x =
      let q : p.cols + 1 ≡ suc p.cols = omega arith in
      ap (λ k. (slice_index_or price j x).num *ℤ a k) (sym q) ∙ b.prices j jn x

-- ---- the laws
pub end_is_feasible : (p : Program) (o : Listing) (limit : ℕ) (b : Best) → IsOpening p o → IsBest p o limit b
    → ((d : ℤ) × (v : ℕ → ℤ) × (IsFeasible p d v) × AreOver p.cols b.value.items d v)
    × ((j : ℕ) → j < p.cols → (x : Fraction) → pos 0 <ℤ (slice_index_or b.price.items j x).den → pos 0 ≤ℤ (slice_index_or b.price.items j x).num)
end_is_feasible p o limit b ok u =
    let R = u.last.0 in let a = u.last.1 in let at = u.last.2 in let l = b.basis.items in
    let w = last_of b.pivots ok u.stops at.rows_of in
    let z = values_exist b.value.items b.price.items w at in (
      (z.0, z.1, z.2.feasible, z.2.over),
      λ j jn x dp. price_nonnegative (slice_index_or b.price.items j x).num (slice_index_or b.price.items j x).den (a (suc p.cols))
          (a j) at.rows_of.aim_row.2.multiple (falls w at.rows_of j jn)
          (price_at b.value.items b.price.items at j jn x) dp,
    )

aim_over : (s m d x f y : ℤ) → m *ℤ x ≡ d *ℤ f → s *ℤ f ≡ y → (s *ℤ m) *ℤ x ≡ d *ℤ y
aim_over s m d x f y e g =
    let r : s *ℤ (d *ℤ f) ≡ d *ℤ (s *ℤ f) = simp ring in
    times_times s m x ∙ ap (λ t. s *ℤ t) e ∙ r ∙ ap (λ t. d *ℤ t) g

pub prices_have_multipliers_lem : (p : Program) (o : Listing) (limit : ℕ) (b : Best) → IsOpening p o → IsBest p o limit b
    → (s : ℤ) × (y : ℕ → ℤ) × (pos 0 <ℤ s)
    × ((j : ℕ) → j < p.cols → (x : Fraction) → (slice_index_or b.price.items j x).num *ℤ s
    ≡ (slice_index_or b.price.items j x).den *ℤ (sum_to p.rows (λ i. y i *ℤ number p i j) -ℤ s *ℤ aim_of p j))
    × ((d : ℤ) × (v : ℕ → ℤ) × (IsFeasible p d v) × (AreOver p.cols b.value.items d v)
    × (s *ℤ sum_to p.cols (λ j. aim_of p j *ℤ v j) ≡ d *ℤ sum_to p.rows (λ i. y i *ℤ number p i p.cols)))
prices_have_multipliers_lem p o limit b ok u =
    let R = u.last.0 in let a = u.last.1 in let at = u.last.2 in let l = b.basis.items in
    let w = last_of b.pivots ok u.stops at.rows_of in
    let z = values_exist b.value.items b.price.items w at in
    let ar = at.rows_of.aim_row in
    let s = ar.0 in let y = ar.1 in let m = a (suc p.cols) in (
      s *ℤ m,
      y,
      times_pos s m ar.2.positive ar.2.multiple,
      λ j jn x. price_from_multipliers (slice_index_or b.price.items j x).num (slice_index_or b.price.items j x).den j ar.2 jn
          (price_at b.value.items b.price.items at j jn x),
      (
        z.0,
        z.1,
        z.2.feasible,
        z.2.over,
        aim_over s m z.0 (sum_to p.cols (λ j. aim_of p j *ℤ z.1 j)) (a p.cols) (sum_to p.rows (λ i. y i *ℤ number p i p.cols)) z.2.aim ar.2.side,
      ),
    )

pub aim_has_no_bound_lem : (p : Program) (o : Listing) (limit column : ℕ) → IsOpening p o → PathStops p o limit (unbounded column)
    → (n : ℤ) → (d : ℤ) × (v : ℕ → ℤ) × (IsFeasible p d v) × ((n *ℤ d) <ℤ sum_to p.cols (λ j. aim_of p j *ℤ v j))
aim_has_no_bound_lem p o limit column ok u n =
    let t = u.stops.0 in let s = u.stops.1 in let w = u.stops.2 in
    let path = w.0.path in let l = s.lists t in let R = s.rows t in let a = s.aim t in
    let e = w.1.0 in let en = w.1.2 in let leaves = w.1.3 in
    let z = trail_at ok path t w.0.whole (omega arith) in
    let f = z.0 in
    let st = state_of f (path.rows t (omega arith)) z.1 in
    let un : IsUnboundedAt p.rows p.cols (IsFree p) (col_of l) R a e = record {
      column = en.column;
      unlisted = λ i im h. en.unlisted (from_cols f e (i, im, h));
      rises = en.rises;
      none = λ i im bound. leaves i (col_of l i) (col_listed f i im) bound;
    } in
    let x = no_bound st un n in
    (x.0, x.1, record { solution = basic_solution p x.0 x.1 x.2.positive x.2.side x.2.killed; nonnegative = x.2.nonnegative }, x.3)
