-- No run of pivots by Bland's rule comes back to the listed columns that it began with.
use Rattle.std.proofs.Common.{◌≡◌, ◌≢◌, ℕ, zero, suc, ◌+◌, ◌-◌, ◌<◌, ◌≤◌, ◌⊎◌, inl, inr, ℤ, pos, ◌+ℤ◌, ◌-ℤ◌, ◌*ℤ◌, neg_ℤ, ◌≤ℤ◌, ◌<ℤ◌, refl, sym, ap, subst, ◌∙◌}
use Rattle.std.proofs.{Common.{arith}, lemmas.Bool.{cases_eq, cases_lt}}
use Rattle.gs_simplex.specs.Sums.{sum_to}
use Rattle.gs_simplex.proofs.Ring.{ring, linear, sign_of, times_zero, zero_times, times_nonneg, times_pos, cancel, cancel_zero, cancel_pos, cancel_nonneg}
use Rattle.gs_simplex.proofs.{Ring.{times_left, times_neg}, Sums.{cases_last}, Solutions.{table_solves, row_sum_two, placed, listed_vector, common_values}}
use Rattle.gs_simplex.proofs.Solutions.{IsKilled, InCols, IsTable, IsBasic, find_col, row_at_basic, basic_exists, aim_dot, aim_at_two, aim_at_basic}
use Rattle.gs_simplex.proofs.Turns.{IsState, IsPivot, out_before, left_out, aim_not_falls, basic_back}
use lib.IntN.{*ℤ_comm}

-- ---- a direction: column q rises, the listed columns answer, the others stay
pub record IsDirection (m n : ℕ) (A : ℕ → ℕ → ℤ) (col : ℕ → ℕ) (R : ℕ → ℕ → ℤ) (q : ℕ) (D : ℤ) (u : ℕ → ℤ) : Type 0 where
  pub killed : IsKilled m n A u
  pub side : u n ≡ pos 0
  pub positive : pos 0 <ℤ D
  pub rises : u q ≡ D
  pub answers : (i : ℕ) → i < m → R i (col i) *ℤ u (col i) ≡ neg_ℤ (D *ℤ R i q)
  pub outside : (j : ℕ) → j < n → ((i : ℕ) → i < m → col i ≡ j → ⊥) → j ≢ q → u j ≡ pos 0

module _ {m n : ℕ} {A : ℕ → ℕ → ℤ} {col : ℕ → ℕ} {R : ℕ → ℕ → ℤ} {q : ℕ} where
  pub direction_exists : IsTable m n A col R → q < n → ((i : ℕ) → i < m → col i ≡ q → ⊥) → (D : ℤ) × (u : ℕ → ℤ) × IsDirection m n A col R q D u
  direction_exists T qn q_out =
      let c = common_values m (λ i. R i (col i)) (λ i. R i q) (λ i h. (T.row i h).2.own) in
      let v = listed_vector T (λ i. neg_ℤ (c.1 i)) (pos 0) in let x = placed q c.0 v.0 in let u : ℕ → ℤ = x.0 in
      let at_n : u n ≡ pos 0 = x.2 n (λ (e : n ≡ q). omega arith) ∙ v.1 in
      let out : (j : ℕ) → j < n → ((i : ℕ) → i < m → col i ≡ j → ⊥) → j ≢ q → u j ≡ pos 0 = λ j jn none ne. x.2 j ne ∙ v.3 j jn none in
      let ans : (i : ℕ) → i < m → R i (col i) *ℤ u (col i) ≡ neg_ℤ (c.0 *ℤ R i q) = λ i im.
      ap (λ t. R i (col i) *ℤ t) (x.2 (col i) (q_out i im) ∙ v.2 i im) ∙ times_neg (R i (col i)) (c.1 i) ∙ ap neg_ℤ (c.3 i im) in (
        c.0,
        u,
        record {
          killed = table_solves T (λ i im.
              let s : sum_to n (λ j. R i j *ℤ u j) ≡ R i (col i) *ℤ u (col i) +ℤ R i q *ℤ u q = row_sum_two q T qn q_out out i im in
              let a : R i (col i) *ℤ u (col i) ≡ neg_ℤ (c.0 *ℤ R i q) = ans i im in
              let b : R i q *ℤ u q ≡ c.0 *ℤ R i q = ap (λ t. R i q *ℤ t) x.1 ∙ *ℤ_comm (R i q) c.0 in
              let z : R i n *ℤ u n ≡ pos 0 = ap (λ t. R i n *ℤ t) at_n ∙ times_zero (R i n) in
              omega (arith, linear));
          side = at_n;
          positive = c.2;
          rises = x.1;
          answers = ans;
          outside = out;
        },
      )

-- ---- a run of t turns
pub record IsRun (t m n : ℕ) (A : ℕ → ℕ → ℤ) (aim : ℕ → ℤ) (Free : ℕ → Type 0) (col : ℕ → ℕ → ℕ) (R : ℕ → ℕ → ℕ → ℤ) (a : ℕ → ℕ → ℤ) (e r : ℕ
    → ℕ) : Type 0 where
  pub state : (k : ℕ) → k ≤ t → IsState m n A aim Free (col k) (R k) (a k)
  pub turn : (k : ℕ) → k < t → IsPivot m n Free (col k) (R k) (a k) (col (suc k)) (e k) (r k)

-- what holds at one turn holds d turns later, but for a turn at which it ends
carried : (t : ℕ) (P Q : ℕ → Type 0) → ((k : ℕ) → k < t → P k → (P (suc k)) ⊎ (Q k)) → (d k : ℕ) → k + d ≤ t → P k → (P (k + d)) ⊎ ((l : ℕ) × (l < t) × Q l)
carried t P Q one zero k h f = inl (subst P (omega arith) f)
carried t P Q one (suc d) k h f = elim (one k (omega arith) f) [
  | inr q ↦ inr (k, omega arith, q)
  | inl g ↦ elim (carried t P Q one d (suc k) (omega arith) g) [
    | inl x ↦ inl (subst P (omega arith) x)
    | inr w ↦ inr w
  ]
]

-- the greatest number below a bound with a property that one of them has
greatest : (n : ℕ) (P : ℕ → Type 0) → ((j : ℕ) → (P j) ⊎ (P j → ⊥)) → (j : ℕ) → j < n → P j → (g : ℕ) × (g < n) × (P g) × ((i : ℕ) → i < n → P i → i ≤ g)
greatest zero P dec j jn p = absurd (omega arith)
greatest (suc n) P dec j jn p = elim (dec n) [
  | inl y ↦ (n, omega arith, y, λ i h x. omega arith)
  | inr z ↦ elim (cases_last j n jn) [
    | inl less ↦ (let w = greatest n P dec j less p in (
      w.0,
      omega (arith, w.1),
      w.2,
      λ i h x. elim (cases_last i n h) [ inl l ↦ w.3 i l x | inr q ↦ absurd (z (subst P q x)) ],
    ))
    | inr q ↦ absurd (z (subst P q p))
  ]
]

pub positive_term : (n : ℕ) (f : ℕ → ℤ) → pos 0 <ℤ sum_to n f → (j : ℕ) × (j < n) × (pos 0 <ℤ f j)
positive_term zero f h = absurd (omega (arith, linear))
positive_term (suc n) f h = elim (sign_of (f n)) [
  | inl l ↦ (let w = positive_term n f (omega (arith, linear)) in (w.0, omega (arith, w.1), w.2))
  | inr x ↦ elim x [
    | inl z ↦ (let w = positive_term n f (omega (arith, linear)) in (w.0, omega (arith, w.1), w.2))
    | inr g ↦ (n, omega arith, g)
  ]
]

-- crosswise order of fractions with positive denominators
pub cross_trans : (a b c d x y : ℤ) → pos 0 <ℤ b → pos 0 <ℤ d → pos 0 <ℤ y → (a *ℤ d) ≤ℤ (c *ℤ b) → (c *ℤ y) ≤ℤ (x *ℤ d) → (a *ℤ y) ≤ℤ (x *ℤ b)
cross_trans a b c d x y bp dp yp f g =
    let p : pos 0 ≤ℤ (y *ℤ (c *ℤ b -ℤ a *ℤ d)) = times_nonneg y (c *ℤ b -ℤ a *ℤ d) (omega (arith, linear)) (omega (arith, linear)) in
    let q : pos 0 ≤ℤ (b *ℤ (x *ℤ d -ℤ c *ℤ y)) = times_nonneg b (x *ℤ d -ℤ c *ℤ y) (omega (arith, linear)) (omega (arith, linear)) in
    let e : d *ℤ (x *ℤ b -ℤ a *ℤ y) ≡ y *ℤ (c *ℤ b -ℤ a *ℤ d) +ℤ b *ℤ (x *ℤ d -ℤ c *ℤ y) = simp ring (omega (arith, linear)) in
    let z : pos 0 ≤ℤ (x *ℤ b -ℤ a *ℤ y) = cancel_nonneg d (x *ℤ b -ℤ a *ℤ y) dp (omega (arith, linear)) in omega (arith, linear)

-- a positive product of two numbers has factors of one sign
pub factors : (a b : ℤ) → pos 0 <ℤ (a *ℤ b) → ((pos 0 <ℤ a) × (pos 0 <ℤ b)) ⊎ ((a <ℤ pos 0) × (b <ℤ pos 0))
factors a b h = elim (sign_of a) [
  | inl l ↦ (let p : pos 0 <ℤ (neg_ℤ a *ℤ neg_ℤ b) = (let q : neg_ℤ a *ℤ neg_ℤ b ≡ a *ℤ b = simp ring (omega (arith, linear)) in omega (arith, linear)) in
      let k : pos 0 <ℤ neg_ℤ b = cancel_pos (neg_ℤ a) (neg_ℤ b) (omega (arith, linear)) p in inr (l, omega (arith, linear)))
  | inr x ↦ elim x [
    | inl z ↦ (let q : a *ℤ b ≡ pos 0 = ap (λ t. t *ℤ b) z ∙ zero_times b in absurd (omega (arith, linear)))
    | inr g ↦ inl (g, cancel_pos a b g h)
  ]
]

module _ {m n : ℕ} {A : ℕ → ℕ → ℤ} {col : ℕ → ℕ} {R : ℕ → ℕ → ℤ} {aim : ℕ → ℤ} {Free : ℕ → Type 0} {a : ℕ → ℤ} {next : ℕ → ℕ} {e r : ℕ} {other : ℕ → ℕ}
    {S : ℕ → ℕ → ℤ} {b : ℕ → ℤ} {D : ℤ} {u : ℕ → ℤ} where
  -- the direction of one turn raises the aim, so some term of it is positive in the aim's row of another list
  pub good_term : IsState m n A aim Free col R a → IsPivot m n Free col R a next e r → IsState m n A aim Free other S b → IsDirection m n A col R e D u
      → (j : ℕ) × (j < n) × (pos 0 <ℤ (b j *ℤ u j))
  good_term st tn st' d =
      let X : ℤ = sum_to n (λ j. aim j *ℤ u j) in
      let side0 : u n ≡ neg_ℤ (pos 0) = d.side in
      let f : a (suc n) *ℤ X ≡ a e *ℤ u e +ℤ pos 0 *ℤ a n = aim_at_two col (pos 0) e st.aim_row.2 d.killed side0 tn.column d.outside in
      let du : u e ≡ D = d.rises in let dp : pos 0 <ℤ D = d.positive in
      let rise : pos 0 <ℤ (a e *ℤ u e) = times_pos (a e) (u e) tn.rises (omega (arith, linear)) in
      let up_X : pos 0 <ℤ X = cancel_pos (a (suc n)) X st.aim_row.2.multiple (omega (arith, linear, zero_times (a n))) in
      let h : b (suc n) *ℤ X ≡ sum_to n (λ j. b j *ℤ u j) -ℤ b n *ℤ u n = aim_dot st'.aim_row.2 d.killed in
      let z : b n *ℤ u n ≡ pos 0 = ap (λ x. b n *ℤ x) d.side ∙ times_zero (b n) in
      let muX : pos 0 <ℤ (b (suc n) *ℤ X) = times_pos (b (suc n)) X st'.aim_row.2.multiple up_X in
      positive_term n (λ j. b j *ℤ u j) (omega (arith, linear))

  module _ {next' : ℕ → ℕ} {e' r' : ℕ} {V : ℤ} {v : ℕ → ℤ} where
    -- column g leaves in one turn and enters in another, as the greatest column that moves, and no value changes: that cannot be
    pub two_turns : (j : ℕ) → IsState m n A aim Free col R a → IsPivot m n Free col R a next e r → IsState m n A aim Free other S b
        → IsPivot m n Free other S b next' e' r' → IsDirection m n A col R e D u → IsBasic m n A col V v → col r ≡ e' → v (col r) ≡ pos 0 → j < n
        → pos 0 <ℤ (b j *ℤ u j) → ((i : ℕ) → i < m → other i ≡ j → ⊥) → j ≤ col r → v j ≡ pos 0 → ⊥
    two_turns j st tn st' tn' d w g vg jn good out low vj =
        let dp : pos 0 <ℤ D = d.positive in
        let at_g : (i : ℕ) → i < m → pos 0 <ℤ R i e → u (col i) <ℤ pos 0 = λ i im x.
        (let own : pos 0 <ℤ R i (col i) = (st.table.row i im).2.own in
        let f : R i (col i) *ℤ u (col i) ≡ neg_ℤ (D *ℤ R i e) = d.answers i im in
        let y : pos 0 <ℤ (D *ℤ R i e) = times_pos D (R i e) dp x in
        let k : pos 0 <ℤ (R i (col i) *ℤ neg_ℤ (u (col i))) = (let q : R i (col i) *ℤ neg_ℤ (u (col i)) ≡ neg_ℤ (R i (col i) *ℤ u (col i)) =
        times_neg (R i (col i)) (u (col i)) in omega (arith, linear)) in
        let l : pos 0 <ℤ neg_ℤ (u (col i)) = cancel_pos (R i (col i)) (neg_ℤ (u (col i))) own k in omega (arith, linear)) in
        elim (factors (b j) (u j) good) [
          | inl both ↦ elim (cases_eq j e') [
            | inl same ↦ (let x : u (col r) <ℤ pos 0 = at_g r tn.row tn.pivot in let q : u j ≡ u (col r) = ap u (same ∙ sym g) in
                let y : pos 0 <ℤ u j = both.1 in absurd (omega (arith, linear)))
            | inr ne ↦ (let x : b j ≤ℤ pos 0 = tn'.least j (omega arith) out in let y : pos 0 <ℤ b j = both.0 in absurd (omega (arith, linear)))
          ]
          | inr both ↦ (let neg_b : b j <ℤ pos 0 = both.0 in let neg_u : u j <ℤ pos 0 = both.1 in
              elim (cases_eq j e) [
                | inl same ↦ (let q : u j ≡ D = ap u same ∙ d.rises in absurd (omega (arith, linear)))
                | inr ne ↦ elim (find_col m col j) [
                  | inr none ↦ (let q : u j ≡ pos 0 = d.outside j jn none ne in absurd (omega (arith, linear)))
                  | inl c ↦
                      (let i = c.0 in let im = c.1 in
                      let own : pos 0 <ℤ R i (col i) = (st.table.row i im).2.own in
                      let f : R i (col i) *ℤ u (col i) ≡ neg_ℤ (D *ℤ R i e) = d.answers i im in
                      let q : u (col i) ≡ u j = ap u c.2 in
                      let k : pos 0 <ℤ (R i (col i) *ℤ neg_ℤ (u (col i))) = times_pos (R i (col i)) (neg_ℤ (u (col i))) own (omega (arith, linear)) in
                      let k2 : R i (col i) *ℤ neg_ℤ (u (col i)) ≡ neg_ℤ (R i (col i) *ℤ u (col i)) = times_neg (R i (col i)) (u (col i)) in
                      let Rie : pos 0 <ℤ R i e = cancel_pos D (R i e) dp (omega (arith, linear)) in
                      let bound : Free (col i) → ⊥ = λ fr. (let P : ℕ → Type 0 = λ x. Free x in let h = st'.free_in j jn (subst P c.2 fr) in out h.0 h.1 h.2) in
                      let ri : R i n ≡ pos 0 = cancel_zero V (R i n) w.positive (sym (row_at_basic st.table w i im)
                      ∙ ap (λ x. R i (col i) *ℤ x) (ap v c.2 ∙ vj) ∙ times_zero (R i (col i))) in
                      let rr : R r n ≡ pos 0 = cancel_zero V (R r n) w.positive (sym (row_at_basic st.table w r tn.row)
                      ∙ ap (λ x. R r (col r) *ℤ x) vg ∙ times_zero (R r (col r))) in
                      let tied : R r n *ℤ R i e ≡ R i n *ℤ R r e = ap (λ x. x *ℤ R i e) rr ∙ zero_times (R i e)
                      ∙ sym (ap (λ x. x *ℤ R r e) ri ∙ zero_times (R r e)) in
                      let least : col r ≤ col i = tn.tie i im bound Rie tied in
                      let s : u (col r) <ℤ pos 0 = at_g r tn.row tn.pivot in
                      let je : j ≡ e' = omega (arith, c.2) in
                      let q2 : b j ≡ b e' = ap b je in let rise : pos 0 <ℤ b e' = tn'.rises in absurd (omega (arith, linear)))
                ]
              ])
        ]

-- ---- a run that ends with the listed columns of its beginning
module _ {t m n : ℕ} {A : ℕ → ℕ → ℤ} {aim : ℕ → ℤ} {Free : ℕ → Type 0} {col : ℕ → ℕ → ℕ} {R : ℕ → ℕ → ℕ → ℤ} {a : ℕ → ℕ → ℤ} {e r : ℕ → ℕ}
    (run : IsRun t m n A aim Free col R a e r) where
  abbrev In : ℕ → ℕ → Type 0
  In k j = InCols m (col k) j

  abbrev Out : ℕ → ℕ → Type 0
  Out k j = (i : ℕ) → i < m → col k i ≡ j → ⊥

  abbrev left : ℕ → ℕ
  left k = col k (r k)

  stays_one : (k : ℕ) → k < t → (j : ℕ) → In k j → (In (suc k) j) ⊎ (left k ≡ j)
  stays_one k kt j f = elim (cases_eq f.0 (r k)) [
    | inl same ↦ inr (ap (col k) (sym same) ∙ f.2)
    | inr d ↦ inl (f.0, f.1, (run.turn k kt).kept f.0 f.1 d ∙ f.2)
  ]

  out_one : (k : ℕ) → k < t → (j : ℕ) → Out k j → (Out (suc k) j) ⊎ (e k ≡ j)
  out_one k kt j none = elim (cases_eq (e k) j) [
    | inl same ↦ inr same
    | inr d ↦ inl (out_before (run.turn k kt) none (λ q. d (sym q)))
  ]

  -- over d turns from k on
  stays : (d k : ℕ) → k + d ≤ t → (j : ℕ) → In k j → (In (k + d) j) ⊎ ((l : ℕ) × (l < t) × (left l ≡ j))
  stays d k h j f = carried t (λ k. In k j) (λ l. left l ≡ j) (λ k kt f. stays_one k kt j f) d k h f

  stays_out : (d k : ℕ) → k + d ≤ t → (j : ℕ) → Out k j → (Out (k + d) j) ⊎ ((l : ℕ) × (l < t) × (e l ≡ j))
  stays_out d k h j f = carried t (λ k. Out k j) (λ l. e l ≡ j) (λ k kt f. out_one k kt j f) d k h f

  abbrev Moves : ℕ → Type 0
  Moves j = ((l : ℕ) × (l < t) × (left l ≡ j)) ⊎ ((l : ℕ) × (l < t) × (e l ≡ j))

  -- listed at p and not at q, in either order: the column moves
  changed : (p q : ℕ) → p ≤ t → q ≤ t → (j : ℕ) → In p j → Out q j → Moves j
  changed p q pt qt j f none = elim (cases_lt p q) [
    | inl less ↦ elim (stays (q - p) p (omega arith) j f) [
      | inl g ↦ (let P : ℕ → Type 0 = λ x. In x j in let h : In q j = subst P (omega arith) g in absurd (none h.0 h.1 h.2))
      | inr w ↦ inl w
    ]
    | inr more ↦ elim (stays_out (p - q) q (omega arith) j none) [
      | inl g ↦ (let P : ℕ → Type 0 = λ x. Out x j in let h : Out p j = subst P (omega arith) g in absurd (h f.0 f.1 f.2))
      | inr w ↦ inr w
    ]
  ]

  moves_or_not : (j : ℕ) → (Moves j) ⊎ (Moves j → ⊥)
  moves_or_not j = elim (find_col t left j) [
    | inl w ↦ inl (inl w)
    | inr x ↦ elim (find_col t e j) [
      | inl w ↦ inl (inr w)
      | inr y ↦ inr (λ z. elim z [ inl p ↦ x p.0 p.1 p.2 | inr p ↦ y p.0 p.1 p.2 ])
    ]
  ]

  abbrev mu : ℕ → ℤ
  mu k = a k (suc n)

  mu_pos : (k : ℕ) → k ≤ t → pos 0 <ℤ mu k
  mu_pos k h = (run.state k h).aim_row.2.multiple

  -- the aim's value does not fall along the run
  rises_along : (d k : ℕ) → k + d ≤ t → (a k n *ℤ mu (k + d)) ≤ℤ (a (k + d) n *ℤ mu k)
  rises_along zero k h = (let P : ℕ → Type 0 = λ x. (a k n *ℤ mu x) ≤ℤ (a x n *ℤ mu k) in let z : P k = omega (arith, linear) in
      let q : k ≡ k + 0 = omega arith in subst P q z)
  rises_along (suc d) k h =
      let f : (a k n *ℤ mu (suc k)) ≤ℤ (a (suc k) n *ℤ mu k) =
      aim_not_falls (run.state k (omega arith)) (run.turn k (omega arith)) (run.state (suc k) (omega arith)) in
      let g : (a (suc k) n *ℤ mu (suc k + d)) ≤ℤ (a (suc k + d) n *ℤ mu (suc k)) = rises_along d (suc k) (omega arith) in
      let w : (a k n *ℤ mu (suc k + d)) ≤ℤ (a (suc k + d) n *ℤ mu k) =
      cross_trans (a k n) (mu k) (a (suc k) n) (mu (suc k)) (a (suc k + d) n) (mu (suc k + d)) (mu_pos k (omega arith)) (mu_pos (suc k) (omega arith))
      (mu_pos (suc k + d) (omega arith)) f g in
      let P : ℕ → Type 0 = λ x. (a k n *ℤ mu x) ≤ℤ (a x n *ℤ mu k) in subst P (omega arith) w

  module _ (back : (j : ℕ) → In t j → In 0 j) (forth : (j : ℕ) → In 0 j → In t j) where
    -- a column that enters also leaves, and the other way round
    leaves_too : (k : ℕ) → k < t → (l : ℕ) × (l < t) × (left l ≡ e k)
    leaves_too k kt =
        let u = run.turn k kt in
        elim (stays (t - suc k) (suc k) (omega arith) (e k) (r k, u.row, u.entered)) [
          | inr w ↦ w
          | inl g ↦ (let P : ℕ → Type 0 = λ x. In x (e k) in let h : In t (e k) = subst P (omega arith) g in
              elim (stays k 0 (omega arith) (e k) (back (e k) h)) [
                | inr w ↦ w
                | inl x ↦ (let y : In k (e k) = subst P (omega arith) x in absurd (u.unlisted y.0 y.1 y.2))
              ])
        ]

    enters_too : (k : ℕ) → k < t → (l : ℕ) × (l < t) × (e l ≡ left k)
    enters_too k kt =
        let u = run.turn k kt in
        elim (stays_out (t - suc k) (suc k) (omega arith) (left k) (left_out (run.state k (omega arith)).table u)) [
          | inr w ↦ w
          | inl g ↦ (let P : ℕ → Type 0 = λ x. Out x (left k) in let h : Out t (left k) = subst P (omega arith) g in
              elim (stays_out k 0 (omega arith) (left k) (λ i im q. (let f = forth (left k) (i, im, q) in h f.0 f.1 f.2))) [
                | inr w ↦ w
                | inl x ↦ (let y : Out k (left k) = subst P (omega arith) x in absurd (y (r k) u.row refl))
              ])
        ]

    first_basic : {D : ℤ} {v : ℕ → ℤ} → IsBasic m n A (col t) D v → IsBasic m n A (col 0) D v
    first_basic w = record {
      killed = w.killed;
      side = w.side;
      positive = w.positive;
      outside = λ j jn none. w.outside j jn (λ i im q. (let f = back j (i, im, q) in none f.0 f.1 f.2));
    }

    -- the aim's values at both ends are one
    ends_meet : a t n *ℤ mu 0 ≡ a 0 n *ℤ mu t
    ends_meet =
        let st = run.state t (omega arith) in let s0 = run.state 0 (omega arith) in
        let w = basic_exists st.table in
        let D = w.0 in let v = w.1 in let X : ℤ = sum_to n (λ j. aim j *ℤ v j) in
        let f : mu t *ℤ X ≡ D *ℤ a t n = aim_at_basic st.aim_row.2 w.2 in
        let g : mu 0 *ℤ X ≡ D *ℤ a 0 n = aim_at_basic s0.aim_row.2 (first_basic w.2) in
        let f1 : mu 0 *ℤ (mu t *ℤ X) ≡ mu 0 *ℤ (D *ℤ a t n) = ap (λ x. mu 0 *ℤ x) f in
        let g1 : mu t *ℤ (mu 0 *ℤ X) ≡ mu t *ℤ (D *ℤ a 0 n) = ap (λ x. mu t *ℤ x) g in
        let h : mu 0 *ℤ (mu t *ℤ X) ≡ mu t *ℤ (mu 0 *ℤ X) = times_left (mu 0) (mu t) X in
        let f2 : D *ℤ (a t n *ℤ mu 0) ≡ mu 0 *ℤ (D *ℤ a t n) = simp ring in
        let g2 : D *ℤ (a 0 n *ℤ mu t) ≡ mu t *ℤ (D *ℤ a 0 n) = simp ring in
        cancel D (a t n *ℤ mu 0) (a 0 n *ℤ mu t) w.2.positive (f2 ∙ sym f1 ∙ h ∙ g1 ∙ sym g2)

    -- so no turn raises it
    level : (k : ℕ) → k < t → (a (suc k) n *ℤ mu k) ≤ℤ (a k n *ℤ mu (suc k))
    level k kt =
        let u : (a (suc k) n *ℤ mu t) ≤ℤ (a t n *ℤ mu (suc k)) = (let P : ℕ → Type 0 = λ x. (a (suc k) n *ℤ mu x) ≤ℤ (a x n *ℤ mu (suc k)) in
        subst P (omega arith) (rises_along (t - suc k) (suc k) (omega arith))) in
        let l : (a 0 n *ℤ mu k) ≤ℤ (a k n *ℤ mu 0) = (let P : ℕ → Type 0 = λ x. (a 0 n *ℤ mu x) ≤ℤ (a x n *ℤ mu 0) in let q : 0 + k ≡ k = omega arith in
        subst P q (rises_along k 0 (omega arith))) in
        let x : (a (suc k) n *ℤ mu 0) ≤ℤ (a 0 n *ℤ mu (suc k)) =
        cross_trans (a (suc k) n) (mu (suc k)) (a t n) (mu t) (a 0 n) (mu 0) (mu_pos (suc k) (omega arith)) (mu_pos t (omega arith))
        (mu_pos 0 (omega arith)) u (omega (arith, linear, ends_meet)) in
        cross_trans (a (suc k) n) (mu (suc k)) (a 0 n) (mu 0) (a k n) (mu k) (mu_pos (suc k) (omega arith)) (mu_pos 0 (omega arith))
        (mu_pos k (omega arith)) x l

    module _ {V : ℤ} {v : ℕ → ℤ} (w : IsBasic m n A (col t) V v) where
      -- so one vector is basic for every list of the run
      basic_all : (d k : ℕ) → k + d ≡ t → IsBasic m n A (col k) V v
      basic_all zero k h = (let P : ℕ → Type 0 = λ x. IsBasic m n A (col x) V v in subst P (omega arith) w)
      basic_all (suc d) k h =
          basic_back (run.state k (omega arith)) (run.turn k (omega arith)) (run.state (suc k) (omega arith))
          (basic_all d (suc k) (omega arith)) (level k (omega arith))

      -- a column that moves has the value 0
      still : (j : ℕ) → j < n → Moves j → v j ≡ pos 0
      still j jn (inl x) = (basic_all (t - suc x.0) (suc x.0) (omega (arith, x.1))).outside j jn
          (λ i im s. left_out (run.state x.0 (omega (arith, x.1))).table (run.turn x.0 x.1) i im (s ∙ sym x.2))
      still j jn (inr x) = (basic_all (t - x.0) x.0 (omega (arith, x.1))).outside j jn (λ i im s. (run.turn x.0 x.1).unlisted i im (s ∙ sym x.2))

      ends : {D : ℤ} {u : ℕ → ℤ} (p q : ℕ) → p < t → q < t → IsDirection m n A (col p) (R p) (e p) D u
          → (j : ℕ) → j < n → pos 0 <ℤ (a q j *ℤ u j)
          → (g : ℕ) → col p (r p) ≡ g → e q ≡ g → ((i : ℕ) → i < n → Moves i → i ≤ g) → ⊥
      ends {D} {u} p q pt qt d j jn good g leaves enters top =
          let sp = run.state p (omega arith) in let tp = run.turn p pt in let sq = run.state q (omega arith) in let tq = run.turn q qt in
          let out_q : (i : ℕ) → i < m → col q i ≡ j → ⊥ = λ i im s. (let y : a q j ≡ pos 0 = sq.aim_row.2.zeros j (i, im, s) in
          let y2 : a q j *ℤ u j ≡ pos 0 = ap (λ x. x *ℤ u j) y ∙ zero_times (u j) in absurd (omega (arith, linear))) in
          let mj : Moves j = elim (cases_eq j (e p)) [
            | inl s ↦ inr (p, pt, sym s)
            | inr ne ↦ elim (find_col m (col p) j) [
              | inl c ↦ changed p q (omega arith) (omega arith) j c out_q
              | inr none ↦ (let y : u j ≡ pos 0 = d.outside j jn none ne in let y2 : a q j *ℤ u j ≡ pos 0 = ap (λ x. a q j *ℤ x) y ∙ times_zero (a q j) in
                  absurd (omega (arith, linear)))
            ]
          ] in
          two_turns j sp tp sq tq d (basic_all (t - p) p (omega arith))
          (leaves ∙ sym enters) (still (col p (r p)) (sp.table.inside (r p) tp.row) (inl (p, pt, refl))) jn good out_q (let b : j ≤ g = top j jn mj in
          omega arith) (still j jn mj)

      -- g leaves in turn p and enters in turn q, and no column above it moves
      no_two : (g p q : ℕ) → p < t → q < t → col p (r p) ≡ g → e q ≡ g
          → ((i : ℕ) → i < n → Moves i → i ≤ g) → ⊥
      no_two g p q pt qt leaves enters top =
          let sp = run.state p (omega arith) in let tp = run.turn p pt in let sq = run.state q (omega arith) in let tq = run.turn q qt in
          let d = direction_exists sp.table tp.column tp.unlisted in
          let some = good_term sp tp sq d.2 in
          ends p q pt qt d.2 some.0 some.1 some.2 g leaves enters top

      both : (g : ℕ) → Moves g → ((i : ℕ) → i < n → Moves i → i ≤ g) → ⊥
      both g (inl x) top = (let y = enters_too x.0 x.1 in
          no_two g x.0 y.0 x.1 y.1 x.2 (y.2 ∙ x.2) top)
      both g (inr x) top = (let y = leaves_too x.0 x.1 in
          no_two g y.0 x.0 y.1 x.1 (y.2 ∙ x.2) x.2 top)

    -- no run of at least one turn comes back to the listed columns that it began with
    pub no_circle : 0 < t → ⊥
    no_circle turns =
        let top = greatest n Moves moves_or_not (e 0) (run.turn 0 turns).column (inr (0, turns, refl)) in
        let w = basic_exists (run.state t (omega arith)).table in
        both w.2 top.0 top.2 top.3
