-- The rows' right sides tell that the basic vector is feasible, and where no row bounds the entering column the aim has no bound.
use Rattle.std.proofs.Common.{◌≡◌, ℕ, suc, ◌+◌, ◌<◌, ◌≤◌, inl, inr, ℤ, pos, ◌+ℤ◌, ◌-ℤ◌, ◌*ℤ◌, neg_ℤ, ◌≤ℤ◌, ◌<ℤ◌, unsigned_abs, sym, ap, subst, ◌∙◌, arith}
use Rattle.std.proofs.{lemmas.Bool.{cases_eq}, lemmas.Int.{ints}}
use Rattle.gs_simplex.specs.{Rows.{IsRegular, IsAimRow}, Sums.{sum_to}}
use Rattle.gs_simplex.proofs.Ring.{ring, linear, times_zero, zero_times, times_nonneg, times_pos, cancel_zero, cancel_pos, cancel_nonneg, times_neg}
use Rattle.gs_simplex.proofs.{Sums.{sum_same, sum_zero, sum_add, sum_scale}, Rows.{sum_mix}, Circle.{IsDirection, direction_exists}}
use Rattle.gs_simplex.proofs.{Solutions.{dot, IsKilled, IsBasic, find_col, row_at_basic, basic_exists, aim_at_two}, Turns.{IsState}}
use lib.IntN.{*ℤ_comm}

module _ {m n : ℕ} {A : ℕ → ℕ → ℤ} {aim a : ℕ → ℤ} where
  module _ {RowIn ColIn : ℕ → Type 0} {s t : ℤ} {y z b : ℕ → ℤ} where
    -- two aim's rows of one list are proportional
    pub aim_proportional : IsRegular m A RowIn ColIn → ((j : ℕ) → ColIn j → j < n) → IsAimRow m n A RowIn ColIn aim s y a
        → IsAimRow m n A RowIn ColIn aim t z b → (j : ℕ) → j ≤ suc n → b (suc n) *ℤ a j ≡ a (suc n) *ℤ b j
    aim_proportional reg inside f g =
        let M : ℤ = b (suc n) in let N : ℤ = a (suc n) in
        let st : pos 0 <ℤ (s *ℤ t) = times_pos s t f.positive g.positive in
        let at : (j : ℕ) → j < n → sum_to m (λ i. ((M *ℤ t) *ℤ y i -ℤ (N *ℤ s) *ℤ z i) *ℤ A i j) ≡ (s *ℤ t) *ℤ (N *ℤ b j -ℤ M *ℤ a j) = λ j jn.
        (let p : s *ℤ (N *ℤ aim j -ℤ a j) ≡ sum_to m (λ i. y i *ℤ A i j) = f.each j jn in
        let q : t *ℤ (M *ℤ aim j -ℤ b j) ≡ sum_to m (λ i. z i *ℤ A i j) = g.each j jn in
        sum_mix m (M *ℤ t) (N *ℤ s) y z (λ i. A i j) ∙ rw (← p, ← q) (simp ring (omega (arith, linear)))) in
        let w : (i : ℕ) → i < m → (M *ℤ t) *ℤ y i -ℤ (N *ℤ s) *ℤ z i ≡ pos 0 = reg.only (λ i. (M *ℤ t) *ℤ y i -ℤ (N *ℤ s) *ℤ z i)
        (λ i im out. let c : y i ≡ pos 0 = f.others i im out in let d : z i ≡ pos 0 = g.others i im out in rw (c, d) (simp ring (omega (arith, linear))))
        (λ j cj. let c : a j ≡ pos 0 = f.zeros j cj in let d : b j ≡ pos 0 = g.zeros j cj in
        at j (inside j cj) ∙ rw (c, d) (simp ring (omega (arith, linear)))) in
        let none : (j : ℕ) → sum_to m (λ i. ((M *ℤ t) *ℤ y i -ℤ (N *ℤ s) *ℤ z i) *ℤ A i j) ≡ pos 0 =
        λ j. sum_zero m (λ i. ((M *ℤ t) *ℤ y i -ℤ (N *ℤ s) *ℤ z i) *ℤ A i j) (λ i im. ap (λ x. x *ℤ A i j) (w i im) ∙ zero_times (A i j)) in
        λ j jn. elim (cases_eq j (suc n)) [
          | inl e ↦ (let P : ℕ → Type 0 = λ k. M *ℤ a k ≡ N *ℤ b k in subst P (sym e) (*ℤ_comm M N))
          | inr ne ↦ elim (cases_eq j n) [
            | inl e ↦ (let p : s *ℤ a n ≡ sum_to m (λ i. y i *ℤ A i n) = f.side in let q : t *ℤ b n ≡ sum_to m (λ i. z i *ℤ A i n) = g.side in
                let k : (M *ℤ t) *ℤ (s *ℤ a n) -ℤ (N *ℤ s) *ℤ (t *ℤ b n) ≡ pos 0 =
                ap (λ x. (M *ℤ t) *ℤ x -ℤ (N *ℤ s) *ℤ (t *ℤ b n)) p ∙ ap (λ x. (M *ℤ t) *ℤ sum_to m (λ i. y i *ℤ A i n) -ℤ (N *ℤ s) *ℤ x) q
                ∙ sym (sum_mix m (M *ℤ t) (N *ℤ s) y z (λ i. A i n)) ∙ none n in
                let l : (s *ℤ t) *ℤ (M *ℤ a n -ℤ N *ℤ b n) ≡ (M *ℤ t) *ℤ (s *ℤ a n) -ℤ (N *ℤ s) *ℤ (t *ℤ b n) = simp ring in
                let o : M *ℤ a n -ℤ N *ℤ b n ≡ pos 0 = cancel_zero (s *ℤ t) (M *ℤ a n -ℤ N *ℤ b n) st (l ∙ k) in
                let P : ℕ → Type 0 = λ k. M *ℤ a k ≡ N *ℤ b k in subst P (sym e) (omega (arith, linear)))
            | inr d ↦ (let o : N *ℤ b j -ℤ M *ℤ a j ≡ pos 0 = cancel_zero (s *ℤ t) (N *ℤ b j -ℤ M *ℤ a j) st (sym (at j (omega arith)) ∙ none j) in
                omega (arith, linear))
          ]
        ]

  module _ {Free : ℕ → Type 0} {col : ℕ → ℕ} {R : ℕ → ℕ → ℤ} {D : ℤ} {v : ℕ → ℤ} where
    -- first law: at the end of the path the basic vector solves the program and is not negative
    pub end_feasible : IsState m n A aim Free col R a → IsBasic m n A col D v → (j : ℕ) → j < n → (Free j → ⊥) → pos 0 ≤ℤ v j
    end_feasible st w j jn bound = elim (find_col m col j) [
      | inr none ↦ (let z : v j ≡ pos 0 = w.outside j jn none in omega (arith, linear))
      | inl c ↦ (let fr : Free (col c.0) → ⊥ = λ x. bound (let P : ℕ → Type 0 = λ k. Free k in subst P c.2 x) in
          let Dp : pos 0 <ℤ D = w.positive in
          let p : pos 0 ≤ℤ (D *ℤ R c.0 n) = times_nonneg D (R c.0 n) (omega (arith, linear)) (st.feasible c.0 c.1 fr) in
          let q : R c.0 (col c.0) *ℤ v (col c.0) ≡ D *ℤ R c.0 n = row_at_basic st.table w c.0 c.1 in
          let k : pos 0 ≤ℤ v (col c.0) = cancel_nonneg (R c.0 (col c.0)) (v (col c.0)) (st.table.row c.0 c.1).2.own (omega (arith, linear)) in
          let P : ℕ → Type 0 = λ x. pos 0 ≤ℤ v x in subst P c.2 k)
    ]

-- third law: no row bounds the entering column, so the aim has no bound
pub record IsUnboundedAt (m n : ℕ) (Free : ℕ → Type 0) (col : ℕ → ℕ) (R : ℕ → ℕ → ℤ) (a : ℕ → ℤ) (e : ℕ) : Type 0 where
  pub column : e < n
  pub unlisted : (i : ℕ) → i < m → col i ≡ e → ⊥
  pub rises : pos 0 <ℤ a e
  pub none : (i : ℕ) → i < m → (Free (col i) → ⊥) → R i e ≤ℤ pos 0

-- v over D is a feasible solution
pub record IsFeasible (m n : ℕ) (A : ℕ → ℕ → ℤ) (Free : ℕ → Type 0) (D : ℤ) (v : ℕ → ℤ) : Type 0 where
  pub positive : pos 0 <ℤ D
  pub side : v n ≡ neg_ℤ D
  pub killed : IsKilled m n A v
  pub nonnegative : (j : ℕ) → j < n → (Free j → ⊥) → pos 0 ≤ℤ v j

sum_linear : (n : ℕ) (c : ℤ) (f v u : ℕ → ℤ) → sum_to n (λ j. f j *ℤ (v j +ℤ c *ℤ u j)) ≡ sum_to n (λ j. f j *ℤ v j) +ℤ c *ℤ sum_to n (λ j. f j *ℤ u j)
sum_linear n c f v u =
    sum_same n (λ j. f j *ℤ (v j +ℤ c *ℤ u j)) (λ j. f j *ℤ v j +ℤ c *ℤ (f j *ℤ u j)) (λ j h. simp ring)
    ∙ sum_add n (λ j. f j *ℤ v j) (λ j. c *ℤ (f j *ℤ u j)) ∙ ap (λ t. sum_to n (λ j. f j *ℤ v j) +ℤ t) (sum_scale n c (λ j. f j *ℤ u j))

-- w + c x > b for some natural c, where x > 0
climb : (w b x : ℤ) → pos 0 <ℤ x → (c : ℕ) × (b <ℤ (w +ℤ pos c *ℤ x))
climb w b x h =
    let c : ℕ = unsigned_abs (b -ℤ w) + 1 in
    let y : pos 0 ≤ℤ (pos c *ℤ (x -ℤ pos 1)) = times_nonneg (pos c) (x -ℤ pos 1) (omega (arith, ints)) (omega (arith, linear, ints)) in
    let e : pos c *ℤ (x -ℤ pos 1) ≡ pos c *ℤ x -ℤ pos c = simp ring in
    let l : b ≤ℤ (w +ℤ pos (unsigned_abs (b -ℤ w))) = omega (arith, ints) in
    let k : pos c ≡ pos (unsigned_abs (b -ℤ w)) +ℤ pos 1 = omega (arith, ints) in
    (c, omega (arith, linear, ints))

both_zero : (c x p q : ℤ) → x ≡ p +ℤ c *ℤ q → p ≡ pos 0 → q ≡ pos 0 → x ≡ pos 0
both_zero c x p q e f g = let h : c *ℤ q ≡ pos 0 = ap (λ t. c *ℤ t) g ∙ times_zero c in omega (arith, linear)

-- signs of sums and of equal numbers
above_sum : (x y z : ℤ) → x ≡ y +ℤ z → z ≡ pos 0 → pos 0 <ℤ y → pos 0 <ℤ x
above_sum x y z e f h = omega (arith, linear)

both_up : (x y : ℤ) → pos 0 ≤ℤ x → pos 0 ≤ℤ y → pos 0 ≤ℤ (x +ℤ y)
both_up x y h k = omega (arith, linear)

and_zero : (x y z : ℤ) → x ≡ y → z ≡ pos 0 → x +ℤ z ≡ y
and_zero x y z e f = omega (arith, linear)

same_up : (x y : ℤ) → x ≡ y → pos 0 ≤ℤ y → pos 0 ≤ℤ x
same_up x y e h = omega (arith, linear)

above_up : (x : ℤ) → pos 0 <ℤ x → pos 0 ≤ℤ x
above_up x h = omega (arith, linear)

turned_up : (x : ℤ) → x ≤ℤ pos 0 → pos 0 ≤ℤ neg_ℤ x
turned_up x h = omega (arith, linear)

pos_up : (n : ℕ) → pos 0 ≤ℤ pos n
pos_up n = omega (arith, ints)

module _ {m n : ℕ} {A : ℕ → ℕ → ℤ} {aim a : ℕ → ℤ} {Free : ℕ → Type 0} {col : ℕ → ℕ} {R : ℕ → ℕ → ℤ} where
  module _ {D : ℤ} {v : ℕ → ℤ} {e : ℕ} {C : ℤ} {u : ℕ → ℤ} where
    unbounded_from : IsState m n A aim Free col R a → IsUnboundedAt m n Free col R a e → IsBasic m n A col D v → IsDirection m n A col R e C u → (N : ℤ)
        → (w : ℕ → ℤ) × (IsFeasible m n A Free D w) × ((N *ℤ D) <ℤ sum_to n (λ j. aim j *ℤ w j))
    unbounded_from st un vb d N =
        let X : ℤ = sum_to n (λ j. aim j *ℤ u j) in
        let Cp : pos 0 <ℤ C = d.positive in
        let ue : u e ≡ C = d.rises in
        let side0 : u n ≡ neg_ℤ (pos 0) = d.side in
        let f : a (suc n) *ℤ X ≡ a e *ℤ u e +ℤ pos 0 *ℤ a n = aim_at_two col (pos 0) e st.aim_row.2 d.killed side0 un.column d.outside in
        let rise : pos 0 <ℤ (a e *ℤ u e) = times_pos (a e) (u e) un.rises (subst (λ t. pos 0 <ℤ t) (sym ue) Cp) in
        let Xp : pos 0 <ℤ X = cancel_pos (a (suc n)) X st.aim_row.2.multiple (above_sum (a (suc n) *ℤ X) (a e *ℤ u e) (pos 0 *ℤ a n) f (zero_times (a n)) rise) in
        let h = climb (sum_to n (λ j. aim j *ℤ v j)) (N *ℤ D) X Xp in
        let c : ℤ = pos h.0 in
        let c0 : pos 0 ≤ℤ c = pos_up h.0 in
        let up_u : (j : ℕ) → j < n → (Free j → ⊥) → pos 0 ≤ℤ u j = λ j jn bound. elim (cases_eq j e) [
          | inl s ↦ same_up (u j) C (ap u s ∙ ue) (above_up C Cp)
          | inr ne ↦ elim (find_col m col j) [
            | inr none ↦ same_up (u j) (pos 0) (d.outside j jn none ne) (pos_up 0)
            | inl k ↦ (let fr : Free (col k.0) → ⊥ = λ x. bound (let P : ℕ → Type 0 = λ z. Free z in subst P k.2 x) in
                let r : R k.0 e ≤ℤ pos 0 = un.none k.0 k.1 fr in
                let p : pos 0 ≤ℤ (C *ℤ neg_ℤ (R k.0 e)) = times_nonneg C (neg_ℤ (R k.0 e)) (above_up C Cp) (turned_up (R k.0 e) r) in
                let p2 : C *ℤ neg_ℤ (R k.0 e) ≡ neg_ℤ (C *ℤ R k.0 e) = times_neg C (R k.0 e) in
                let an : R k.0 (col k.0) *ℤ u (col k.0) ≡ neg_ℤ (C *ℤ R k.0 e) = d.answers k.0 k.1 in
                let q : pos 0 ≤ℤ u (col k.0) = cancel_nonneg (R k.0 (col k.0)) (u (col k.0)) (st.table.row k.0 k.1).2.own
                (same_up (R k.0 (col k.0) *ℤ u (col k.0)) (C *ℤ neg_ℤ (R k.0 e)) (an ∙ sym p2) p) in
                let P : ℕ → Type 0 = λ x. pos 0 ≤ℤ u x in subst P k.2 q)
          ]
        ] in (
          λ j. v j +ℤ c *ℤ u j,
          record {
            positive = vb.positive;
            side = and_zero (v n) (neg_ℤ D) (c *ℤ u n) vb.side (ap (λ t. c *ℤ t) d.side ∙ times_zero c);
            killed = record {
              row = λ i im. (let p : dot (suc n) (A i) v ≡ pos 0 = vb.killed.row i im in let q : dot (suc n) (A i) u ≡ pos 0 = d.killed.row i im in
                  both_zero c (dot (suc n) (A i) (λ j. v j +ℤ c *ℤ u j)) (dot (suc n) (A i) v) (dot (suc n) (A i) u) (sum_linear (suc n) c (A i) v u) p q);
            };
            nonnegative = λ j jn bound. both_up (v j) (c *ℤ u j) (end_feasible st vb j jn bound) (times_nonneg c (u j) c0 (up_u j jn bound));
          },
          (let p : (N *ℤ D) <ℤ (sum_to n (λ j. aim j *ℤ v j) +ℤ c *ℤ X) = h.1 in let q = sum_linear n c aim v u in rw q p),
        )

  pub no_bound : {e : ℕ} → IsState m n A aim Free col R a → IsUnboundedAt m n Free col R a e → (N : ℤ)
      → (D : ℤ) × (v : ℕ → ℤ) × (IsFeasible m n A Free D v) × ((N *ℤ D) <ℤ sum_to n (λ j. aim j *ℤ v j))
  no_bound st un N =
      let w = basic_exists st.table in
      let d = direction_exists st.table un.column un.unlisted in
      let z = unbounded_from st un w.2 d.2 N in (w.0, z.0, z.1, z.2)
