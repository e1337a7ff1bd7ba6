-- From the end of the opening on every list gives each row a column, a pivot keeps it so and the rows feasible, and no basis comes twice.
use Rattle.std.proofs.Common.{◌≡◌, ℕ, suc, ◌+◌, ◌-◌, ◌<◌, ◌≤◌, ◌⊎◌, inl, inr, length, slice_index_or, slice_set, ℤ, pos, ◌≤ℤ◌, sym, ap, subst, ◌∙◌, arith}
use Rattle.std.proofs.lemmas.Bool.{cases_eq, cases_lt}
use Rattle.gs_simplex.specs.declared.program.Program.{Program}
use Rattle.gs_simplex.specs.{Program.{number, aim_of, IsFree, Listing, IsListed, RowListed, ColListed, IsRowsOf, IsRegularList}, Path.{IsPivot, States}}
use Rattle.gs_simplex.proofs.{Steps.{IsList}, Solutions.{InCols, IsTable, find_col}, Turns.{IsState, next_feasible}, Circle.{IsRun, no_circle}}
use Rattle.gs_simplex.proofs.Pivots.{IsOnce, IsPlace, any_default, listed_set_here, listed_set_old, turn_is_list, turn_is_once, turn_is_regular}
use Rattle.gs_simplex.proofs.Turns as Turns

-- what holds of every list from the end of the opening on
pub record IsFull (p : Program) (l : Listing) : Type 0 where
  pub is_list : IsList p l
  pub once : IsOnce l
  pub regular : IsRegularList p l
  pub all : (i : ℕ) → i < p.rows → RowListed l i
  pub free_in : (j : ℕ) → j < p.cols → IsFree p j → ColListed l j

-- the column listed with row i
abbrev pub col_of : Listing → ℕ → ℕ
col_of l i = elim (find_col (length l) (λ k. (slice_index_or l k (0, 0)).0) (i + 1)) [ inl f ↦ (slice_index_or l f.0 (0, 0)).1 - 1 | inr none ↦ 0 ]

module _ {p : Program} {l : Listing} where
  pub col_is : {j : ℕ} (f : IsFull p l) (i : ℕ) → IsListed l i j → col_of l i ≡ j
  col_is {j} f i h =
      let at : slice_index_or l h.0 (0, 0) ≡ (i + 1, j + 1) = any_default l h.0 (0, 0) (i + 1, j + 1) h.1 ∙ h.2 in
      elim (find_col (length l) (λ k. (slice_index_or l k (0, 0)).0) (i + 1)) as (λ q. elim q as (λ w. ℕ)
      [ inl g ↦ (slice_index_or l g.0 (0, 0)).1 - 1 | inr none ↦ 0 ] ≡ j) [
        | inl g ↦ (let s : g.0 ≡ h.0 = f.once.place g.0 h.0 g.1 h.1 (g.2 ∙ sym (ap (λ (w : ℕ × ℕ). w.0) at)) in
            let e : (slice_index_or l g.0 (0, 0)).1 ≡ j + 1 = ap (λ x. (slice_index_or l x (0, 0)).1) s ∙ ap (λ (w : ℕ × ℕ). w.1) at in omega (arith, e))
        | inr none ↦ absurd (none h.0 h.1 (ap (λ (w : ℕ × ℕ). w.0) at))
      ]

  pub col_listed : (f : IsFull p l) (i : ℕ) → i < p.rows → IsListed l i (col_of l i)
  col_listed f i im = (let h = f.all i im in let P : ℕ → Type 0 = λ j. IsListed l i j in subst P (sym (col_is f i h.1)) h.1)

  pub in_cols : (f : IsFull p l) (j : ℕ) → ColListed l j → InCols p.rows (col_of l) j
  in_cols f j h = (h.0, f.is_list.row_inside h.0 j h.1, col_is f h.0 h.1)

  pub from_cols : (f : IsFull p l) (j : ℕ) → InCols p.rows (col_of l) j → ColListed l j
  from_cols f j h = (h.0, let P : ℕ → Type 0 = λ k. IsListed l h.0 k in subst P h.2 (col_listed f h.0 h.1))

  pub table_of : {R : ℕ → ℕ → ℤ} {a : ℕ → ℤ} (f : IsFull p l) → IsRowsOf p l R a → IsTable p.rows p.cols (number p) (col_of l) R
  table_of f u = record {
    row = λ i im. (let w = u.listed i (col_of l i) (col_listed f i im) in (
      w.0,
      w.1,
      record {
        combination = w.2.combination;
        own = w.2.own;
        others = λ k km off. absurd (off km);
        zeros = λ j cj ne. w.2.zeros j (from_cols f j cj) ne;
      },
    ));
    regular = record { only = λ z off on. f.regular.only z (λ i im out. absurd (let h = f.all i im in out h)) (λ j cj. on j (in_cols f j cj)) };
    apart = λ i k im km e. f.is_list.one_row i k (col_of l i) (col_listed f i im) (let P : ℕ → Type 0 = λ x. IsListed l k x in
        subst P (sym e) (col_listed f k km));
    inside = λ i im. f.is_list.column_inside i (col_of l i) (col_listed f i im);
  }

abbrev pub RowsFeasible : Program → Listing → (ℕ → ℕ → ℤ) → Type 0
RowsFeasible p l R = (i j : ℕ) → IsListed l i j → (IsFree p j → ⊥) → pos 0 ≤ℤ R i p.cols

module _ {p : Program} {l : Listing} {R : ℕ → ℕ → ℤ} {a : ℕ → ℤ} where
  pub state_of : (f : IsFull p l) → IsRowsOf p l R a → RowsFeasible p l R → IsState p.rows p.cols (number p) (aim_of p) (IsFree p) (col_of l) R a
  state_of f u feas = record {
    table = table_of f u;
    aim_row = (let w = u.aim_row in (
      w.0,
      w.1,
      record {
        multiple = w.2.multiple;
        positive = w.2.positive;
        each = w.2.each;
        side = w.2.side;
        others = λ k km off. absurd (off km);
        zeros = λ j cj. w.2.zeros j (from_cols f j cj);
      },
    ));
    feasible = λ i im bound. feas i (col_of l i) (col_listed f i im) bound;
    free_in = λ j jn fr. in_cols f j (f.free_in j jn fr);
  }

  -- the place of the pair that a pivot changes
  pub turn_place : {e c : ℕ} {next : Listing} → IsFull p l → (u : IsPivot p l R a next e c) → IsPlace p l u.place.0 u.place.1 c
  turn_place f u = record { inside = u.place.2; pair = u.place.3; is_list = f.is_list; once = f.once }

  pub turn_of : {e c : ℕ} {next : Listing} (f : IsFull p l) (g : IsFull p next) (u : IsPivot p l R a next e c)
      → Turns.IsPivot p.rows p.cols (IsFree p) (col_of l) R a (col_of next) e u.place.1
  turn_of {e} {c} f g u =
      let r = u.place.1 in let v = u.place.4 in let is = u.place.5 in let at = turn_place f u in
      let im : r < p.rows = f.is_list.row_inside r c v.listed in
      let here : col_of l r ≡ c = col_is f r v.listed in
      record {
        column = u.enters.column;
        unlisted = λ i h s. u.enters.unlisted (from_cols f e (i, h, s));
        rises = u.enters.rises;
        least = λ j je out. u.enters.least j je (λ h. (let w = in_cols f j h in out w.0 w.1 w.2));
        row = im;
        not_free = λ x. v.not_free (let P : ℕ → Type 0 = λ k. IsFree p k in subst P here x);
        pivot = v.pivot;
        ratio = λ i h b x. v.ratio i (col_of l i) (col_listed f i h) b x;
        tie = λ i h b x s. (let w : c ≤ col_of l i = v.tie i (col_of l i) (col_listed f i h) b x s in omega arith);
        entered = col_is g r (let P : Listing → Type 0 = λ k. IsListed k r e in subst P (sym is) (listed_set_here at e));
        kept = λ i h ne. col_is g i (let P : Listing → Type 0 = λ k. IsListed k i (col_of l i) in
            subst P (sym is) (listed_set_old at e i (col_of l i) (col_listed f i h) ne));
      }

module _ {p : Program} {l : Listing} {R : ℕ → ℕ → ℤ} {a : ℕ → ℤ} {e c : ℕ} where
  -- a turn keeps a list full
  pub turn_is_full : {next : Listing} → IsFull p l → IsRowsOf p l R a → IsPivot p l R a next e c → IsFull p next
  turn_is_full f w u =
      let r = u.place.1 in let v = u.place.4 in let at = turn_place f u in
      let en = u.enters.column in let out = u.enters.unlisted in
      let P : Listing → Type 0 = λ k. IsFull p k in subst P (sym u.place.5) (record {
        is_list = turn_is_list at e en out;
        once = turn_is_once at e;
        regular = turn_is_regular at e en out v.pivot w f.regular;
        all = λ i im. elim (cases_eq i r) [
          | inl s ↦ (e, (let Q : ℕ → Type 0 = λ x. IsListed (slice_set l u.place.0 (r + 1, e + 1)) x e in subst Q (sym s) (listed_set_here at e)))
          | inr ne ↦ (col_of l i, listed_set_old at e i (col_of l i) (col_listed f i im) ne)
        ];
        free_in = λ j jn fr. (let h = f.free_in j jn fr in (
          h.0,
          listed_set_old at e h.0 j h.1
              (λ s. v.not_free (let Q : ℕ → Type 0 = λ x. IsFree p x in subst Q (f.is_list.one_column r j c (let S : ℕ → Type 0 = λ x. IsListed l x j in
              subst S s h.1) v.listed) fr)),
        ));
      })

  -- and its rows feasible
  pub turn_is_feasible : {next : Listing} {S : ℕ → ℕ → ℤ} {b : ℕ → ℤ} (f : IsFull p l) → IsRowsOf p l R a → IsRowsOf p next S b → IsPivot p l R a next e c
      → RowsFeasible p l R → RowsFeasible p next S
  turn_is_feasible f u w t feas i j h bound =
      let g = turn_is_full f u t in
      let st = state_of f u feas in
      let tn = turn_of f g t in
      let im : i < p.rows = g.is_list.row_inside i j h in
      next_feasible st tn (table_of g w) i im (λ x. bound (let P : ℕ → Type 0 = λ k. IsFree p k in subst P (col_is g i h) x))

-- ---- no basis twice
-- the lists and rows from the end of the opening on: list k is full, its rows are its own and feasible
pub record IsTrail (p : Program) (t : ℕ) (steps : States) : Type 0 where
  pub full : (k : ℕ) → k ≤ t → IsFull p (steps.lists k)
  pub rows : (k : ℕ) → k ≤ t → IsRowsOf p (steps.lists k) (steps.rows k) (steps.aim k)
  pub feasible : (k : ℕ) → k ≤ t → RowsFeasible p (steps.lists k) (steps.rows k)
  pub turn : (k : ℕ) → k < t → IsPivot p (steps.lists k) (steps.rows k) (steps.aim k) (steps.lists (suc k)) (steps.entering k) (steps.leaving k)

module _ {p : Program} {t : ℕ} {steps : States} (w : IsTrail p t steps) where
  -- the row that leaves after step k
  abbrev row_or_zero : (k : ℕ) → (k < t) ⊎ (t ≤ k) → ℕ
  row_or_zero k q = elim q [ inl h ↦ (w.turn k h).place.1 | inr h ↦ 0 ]

  run_of : IsRun t p.rows p.cols (number p) (aim_of p) (IsFree p) (λ k. col_of (steps.lists k)) steps.rows steps.aim steps.entering
      (λ k. row_or_zero k (cases_lt k t))
  run_of = record {
    state = λ k kt. state_of (w.full k kt) (w.rows k kt) (w.feasible k kt);
    turn = λ k kt. elim (cases_lt k t) as (λ q. Turns.IsPivot p.rows p.cols (IsFree p) (col_of (steps.lists k)) (steps.rows k) (steps.aim k)
        (col_of (steps.lists (suc k))) (steps.entering k) (row_or_zero k q)) [
          | inl h ↦ turn_of (w.full k (omega arith)) (w.full (suc k) (omega arith)) (w.turn k h)
          | inr h ↦ absurd (omega arith)
        ];
  }

  pub trail_columns_differ : 0 < t → ((j : ℕ) → ColListed (steps.lists t) j → ColListed (steps.lists 0) j)
      → ((j : ℕ) → ColListed (steps.lists 0) j → ColListed (steps.lists t) j) → ⊥
  trail_columns_differ turns back forth =
      let first = w.full 0 (omega arith) in let last = w.full t (omega arith) in
      no_circle run_of (λ j x. in_cols first j (back j (from_cols last j x))) (λ j x. in_cols last j (forth j (from_cols first j x))) turns
