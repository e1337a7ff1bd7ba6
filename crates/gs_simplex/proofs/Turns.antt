-- What a pivot keeps: the next table is feasible, the aim's value does not fall, and where it stays, what the next basis gives here.
use Rattle.std.proofs.Common.{◌≡◌, ◌≢◌, ℕ, suc, ◌<◌, ◌≤◌, inl, inr, ℤ, pos, ◌+ℤ◌, ◌-ℤ◌, ◌*ℤ◌, neg_ℤ, ◌≤ℤ◌, ◌<ℤ◌, sym, ap, subst, ◌∙◌, arith}
use Rattle.std.proofs.lemmas.Bool.{cases_eq}
use Rattle.gs_simplex.specs.{Rows.{IsAimRow}, Sums.{sum_to}}
use Rattle.gs_simplex.proofs.Ring.{ring, linear, sign_of, times_zero, times_sum, times_nonneg, times_pos, cancel_pos, cancel_nonneg, times_left}
use Rattle.gs_simplex.proofs.Solutions.{AllRows, InCols, IsTable, IsBasic, row_at_two, row_at_basic, basic_exists, aim_at_two, aim_at_basic}
use lib.IntN.{*ℤ_comm}

pub record IsState (m n : ℕ) (A : ℕ → ℕ → ℤ) (aim : ℕ → ℤ) (Free : ℕ → Type 0) (col : ℕ → ℕ) (R : ℕ → ℕ → ℤ) (a : ℕ → ℤ) : Type 0 where
  pub table : IsTable m n A col R
  pub aim_row : (s : ℤ) × (y : ℕ → ℤ) × IsAimRow m n A (AllRows m) (InCols m col) aim s y a
  pub feasible : (i : ℕ) → i < m → (Free (col i) → ⊥) → pos 0 ≤ℤ R i n
  pub free_in : (j : ℕ) → j < n → Free j → InCols m col j

pub record IsPivot (m n : ℕ) (Free : ℕ → Type 0) (col : ℕ → ℕ) (R : ℕ → ℕ → ℤ) (a : ℕ → ℤ) (next : ℕ → ℕ) (e r : ℕ) : Type 0 where
  pub column : e < n
  pub unlisted : (i : ℕ) → i < m → col i ≡ e → ⊥
  pub rises : pos 0 <ℤ a e
  pub least : (j : ℕ) → j < e → ((i : ℕ) → i < m → col i ≡ j → ⊥) → a j ≤ℤ pos 0
  pub row : r < m
  pub not_free : Free (col r) → ⊥
  pub pivot : pos 0 <ℤ R r e
  pub ratio : (i : ℕ) → i < m → (Free (col i) → ⊥) → pos 0 <ℤ R i e → (R r n *ℤ R i e) ≤ℤ (R i n *ℤ R r e)
  pub tie : (i : ℕ) → i < m → (Free (col i) → ⊥) → pos 0 <ℤ R i e → R r n *ℤ R i e ≡ R i n *ℤ R r e → col r ≤ col i
  pub entered : next r ≡ e
  pub kept : (i : ℕ) → i < m → i ≢ r → next i ≡ col i

module _ {m n : ℕ} {Free : ℕ → Type 0} {col : ℕ → ℕ} {R : ℕ → ℕ → ℤ} {a : ℕ → ℤ} {next : ℕ → ℕ} {e r : ℕ} where
  -- what is listed after a turn
  pub out_before : {j : ℕ} → IsPivot m n Free col R a next e r → ((i : ℕ) → i < m → col i ≡ j → ⊥) → j ≢ e → (i : ℕ) → i < m → next i ≡ j → ⊥
  out_before u none ne i im q = elim (cases_eq i r) [
    | inl same ↦ ne (sym q ∙ ap next same ∙ u.entered)
    | inr d ↦ none i im (sym (u.kept i im d) ∙ q)
  ]

  pub left_out : {A : ℕ → ℕ → ℤ} → IsTable m n A col R → IsPivot m n Free col R a next e r → (i : ℕ) → i < m → next i ≡ col r → ⊥
  left_out T u i im q = elim (cases_eq i r) [
    | inl same ↦ u.unlisted r u.row (sym q ∙ ap next same ∙ u.entered)
    | inr d ↦ d (T.apart i r im u.row (sym (u.kept i im d) ∙ q))
  ]

  module _ {A : ℕ → ℕ → ℤ} {D : ℤ} {v : ℕ → ℤ} where
    -- a basic vector of the next list, seen from this one
    pub next_row : IsTable m n A col R → IsPivot m n Free col R a next e r → IsBasic m n A next D v → (i : ℕ) → i < m
        → R i (col i) *ℤ v (col i) +ℤ R i e *ℤ v e ≡ D *ℤ R i n
    next_row T u b i im =
        row_at_two e D T b.killed b.side u.column u.unlisted (λ j jn none d. b.outside j jn (out_before u none d)) i im

    pub next_enter : IsTable m n A col R → IsPivot m n Free col R a next e r → IsBasic m n A next D v → R r e *ℤ v e ≡ D *ℤ R r n
    next_enter T u b =
        let f : R r (col r) *ℤ v (col r) +ℤ R r e *ℤ v e ≡ D *ℤ R r n = next_row T u b r u.row in
        let z : v (col r) ≡ pos 0 = b.outside (col r) (T.inside r u.row) (left_out T u) in
        let g : R r (col r) *ℤ v (col r) ≡ pos 0 = ap (λ t. R r (col r) *ℤ t) z ∙ times_zero (R r (col r)) in omega (arith, linear)

  -- the next table is feasible
  pub next_feasible : {A : ℕ → ℕ → ℤ} {aim : ℕ → ℤ} {S : ℕ → ℕ → ℤ} → IsState m n A aim Free col R a → IsPivot m n Free col R a next e r
      → IsTable m n A next S → (i : ℕ) → i < m → (Free (next i) → ⊥) → pos 0 ≤ℤ S i n
  next_feasible {S} st u T' i im bound =
      let b = basic_exists T' in
      let D = b.0 in let v = b.1 in
      let ve : R r e *ℤ v e ≡ D *ℤ R r n = next_enter st.table u b.2 in
      let rhs : pos 0 ≤ℤ R r n = st.feasible r u.row u.not_free in
      let Dp : pos 0 <ℤ D = b.2.positive in
      let D0 : pos 0 ≤ℤ D = omega (arith, linear) in
      let p0 : pos 0 ≤ℤ (D *ℤ R r n) = times_nonneg D (R r n) D0 rhs in
      let up_e : pos 0 ≤ℤ v e = cancel_nonneg (R r e) (v e) u.pivot (omega (arith, linear)) in
      let at_i : pos 0 ≤ℤ v (next i) = elim (cases_eq i r) [
        | inl same ↦ (let q : next i ≡ e = ap next same ∙ u.entered in let P : ℕ → Type 0 = λ j. pos 0 ≤ℤ v j in subst P (sym q) up_e)
        | inr d ↦ (let q : next i ≡ col i = u.kept i im d in let P : ℕ → Type 0 = λ j. pos 0 ≤ℤ v j in subst P (sym q)
            (let own : pos 0 <ℤ R i (col i) = (st.table.row i im).2.own in
            let f : R i (col i) *ℤ v (col i) +ℤ R i e *ℤ v e ≡ D *ℤ R i n = next_row st.table u b.2 i im in
            let fr : Free (col i) → ⊥ = λ x. bound (let Q : ℕ → Type 0 = λ j. Free j in subst Q (sym q) x) in
            let ri : pos 0 ≤ℤ R i n = st.feasible i im fr in
            elim (sign_of (neg_ℤ (R i e))) [
              | inl less ↦
                  (let g : (R r n *ℤ R i e) ≤ℤ (R i n *ℤ R r e) = u.ratio i im fr (omega (arith, linear)) in
                  let h : pos 0 ≤ℤ (D *ℤ (R i n *ℤ R r e -ℤ R r n *ℤ R i e)) = times_nonneg D (R i n *ℤ R r e -ℤ R r n *ℤ R i e) D0 (omega (arith, linear)) in
                  let k : (R r e *ℤ R i (col i)) *ℤ v (col i) ≡ D *ℤ (R i n *ℤ R r e -ℤ R r n *ℤ R i e) =
                  (let f1 : R r e *ℤ (R i (col i) *ℤ v (col i) +ℤ R i e *ℤ v e) ≡ R r e *ℤ (D *ℤ R i n) = ap (λ t. R r e *ℤ t) f in
                  let f2 : R i e *ℤ (R r e *ℤ v e) ≡ R i e *ℤ (D *ℤ R r n) = ap (λ t. R i e *ℤ t) ve in
                  let g1 : R r e *ℤ (R i (col i) *ℤ v (col i) +ℤ R i e *ℤ v e) ≡ (R r e *ℤ R i (col i)) *ℤ v (col i) +ℤ R i e *ℤ (R r e *ℤ v e) = simp ring in
                  let g2 : D *ℤ (R i n *ℤ R r e -ℤ R r n *ℤ R i e) ≡ R r e *ℤ (D *ℤ R i n) -ℤ R i e *ℤ (D *ℤ R r n) = simp ring in omega (arith, linear)) in
                  cancel_nonneg (R r e *ℤ R i (col i)) (v (col i)) (times_pos (R r e) (R i (col i)) u.pivot own) (omega (arith, linear)))
              | inr more ↦
                  (let g : pos 0 ≤ℤ (neg_ℤ (R i e) *ℤ v e) = times_nonneg (neg_ℤ (R i e)) (v e)
                  (elim more [ inl z ↦ omega (arith, linear) | inr x ↦ omega (arith, linear) ]) up_e in
                  let h : pos 0 ≤ℤ (D *ℤ R i n) = times_nonneg D (R i n) D0 ri in
                  let k : neg_ℤ (R i e) *ℤ v e ≡ neg_ℤ (R i e *ℤ v e) = simp ring in
                  cancel_nonneg (R i (col i)) (v (col i)) own (omega (arith, linear)))
            ]))
      ] in
      let own' : pos 0 <ℤ S i (next i) = (T'.row i im).2.own in
      let w : S i (next i) *ℤ v (next i) ≡ D *ℤ S i n = row_at_basic T' b.2 i im in
      let x : pos 0 ≤ℤ (S i (next i) *ℤ v (next i)) = times_nonneg (S i (next i)) (v (next i)) (omega (arith, linear)) at_i in
      cancel_nonneg D (S i n) Dp (omega (arith, linear))

  module _ {A : ℕ → ℕ → ℤ} {D : ℤ} {v aim : ℕ → ℤ} where
    -- the aim's value rises by a multiple of the entering column's value; b is the next aim's row
    pub aim_rise : {S : ℕ → ℕ → ℤ} {b : ℕ → ℤ} → IsState m n A aim Free col R a → IsPivot m n Free col R a next e r → IsState m n A aim Free next S b
        → IsBasic m n A next D v → D *ℤ (a (suc n) *ℤ b n -ℤ b (suc n) *ℤ a n) ≡ b (suc n) *ℤ (a e *ℤ v e)
    aim_rise {b} st u st' v_basic =
        let X : ℤ = sum_to n (λ j. aim j *ℤ v j) in
        let f : a (suc n) *ℤ X ≡ a e *ℤ v e +ℤ D *ℤ a n = aim_at_two col D e st.aim_row.2 v_basic.killed v_basic.side u.column
        (λ j jn none d. v_basic.outside j jn (out_before u none d)) in
        let g : b (suc n) *ℤ X ≡ D *ℤ b n = aim_at_basic st'.aim_row.2 v_basic in
        let f1 : b (suc n) *ℤ (a (suc n) *ℤ X) ≡ b (suc n) *ℤ (a e *ℤ v e +ℤ D *ℤ a n) = ap (λ t. b (suc n) *ℤ t) f in
        let g1 : a (suc n) *ℤ (b (suc n) *ℤ X) ≡ a (suc n) *ℤ (D *ℤ b n) = ap (λ t. a (suc n) *ℤ t) g in
        let h : b (suc n) *ℤ (a (suc n) *ℤ X) ≡ a (suc n) *ℤ (b (suc n) *ℤ X) = times_left (b (suc n)) (a (suc n)) X in
        let k1 : D *ℤ (a (suc n) *ℤ b n -ℤ b (suc n) *ℤ a n) ≡ a (suc n) *ℤ (D *ℤ b n) -ℤ b (suc n) *ℤ (D *ℤ a n) = simp ring in
        let k2 : b (suc n) *ℤ (a e *ℤ v e +ℤ D *ℤ a n) ≡ b (suc n) *ℤ (a e *ℤ v e) +ℤ b (suc n) *ℤ (D *ℤ a n) = times_sum (b (suc n)) (a e *ℤ v e) (D *ℤ a n) in
        omega (arith, linear)

    -- the value of the entering column is not negative
    pub enter_nonneg : IsState m n A aim Free col R a → IsPivot m n Free col R a next e r → IsBasic m n A next D v → pos 0 ≤ℤ v e
    enter_nonneg st u b =
        let ve : R r e *ℤ v e ≡ D *ℤ R r n = next_enter st.table u b in
        let Dp : pos 0 <ℤ D = b.positive in
        let p0 : pos 0 ≤ℤ (D *ℤ R r n) = times_nonneg D (R r n) (omega (arith, linear)) (st.feasible r u.row u.not_free) in
        cancel_nonneg (R r e) (v e) u.pivot (omega (arith, linear))

  -- the aim's value does not fall
  pub aim_not_falls : {A : ℕ → ℕ → ℤ} {aim : ℕ → ℤ} {S : ℕ → ℕ → ℤ} {b : ℕ → ℤ} → IsState m n A aim Free col R a → IsPivot m n Free col R a next e r
      → IsState m n A aim Free next S b → (a n *ℤ b (suc n)) ≤ℤ (b n *ℤ a (suc n))
  aim_not_falls {b} st u st' =
      let w = basic_exists st'.table in
      let D = w.0 in let v = w.1 in
      let f : D *ℤ (a (suc n) *ℤ b n -ℤ b (suc n) *ℤ a n) ≡ b (suc n) *ℤ (a e *ℤ v e) = aim_rise st u st' w.2 in
      let ve : pos 0 ≤ℤ v e = enter_nonneg st u w.2 in
      let rises : pos 0 <ℤ a e = u.rises in let mu : pos 0 <ℤ b (suc n) = st'.aim_row.2.multiple in
      let g : pos 0 ≤ℤ (b (suc n) *ℤ (a e *ℤ v e)) = times_nonneg (b (suc n)) (a e *ℤ v e) (omega (arith, linear))
      (times_nonneg (a e) (v e) (omega (arith, linear)) ve) in
      let h : pos 0 ≤ℤ (a (suc n) *ℤ b n -ℤ b (suc n) *ℤ a n) = cancel_nonneg D (a (suc n) *ℤ b n -ℤ b (suc n) *ℤ a n) w.2.positive (omega (arith, linear)) in
      omega (arith, linear, *ℤ_comm (a n) (b (suc n)), *ℤ_comm (b n) (a (suc n)))

  module _ {A : ℕ → ℕ → ℤ} {D : ℤ} {v aim : ℕ → ℤ} {S : ℕ → ℕ → ℤ} {b : ℕ → ℤ} where
    -- where it stays, the next list's basic vector is basic for this list too
    pub basic_back : IsState m n A aim Free col R a → IsPivot m n Free col R a next e r → IsState m n A aim Free next S b → IsBasic m n A next D v
        → (b n *ℤ a (suc n)) ≤ℤ (a n *ℤ b (suc n)) → IsBasic m n A col D v
    basic_back st u st' w stays =
        let f : D *ℤ (a (suc n) *ℤ b n -ℤ b (suc n) *ℤ a n) ≡ b (suc n) *ℤ (a e *ℤ v e) = aim_rise st u st' w in
        let ve : pos 0 ≤ℤ v e = enter_nonneg st u w in
        let rises : pos 0 <ℤ a e = u.rises in let mu : pos 0 <ℤ b (suc n) = st'.aim_row.2.multiple in
        let z : v e ≡ pos 0 = elim (sign_of (v e)) [
          | inl l ↦ absurd (omega (arith, linear))
          | inr x ↦ elim x [
            | inl q ↦ q
            | inr g ↦ (let p : pos 0 <ℤ (b (suc n) *ℤ (a e *ℤ v e)) = times_pos (b (suc n)) (a e *ℤ v e) mu (times_pos (a e) (v e) rises g) in
                let h : pos 0 <ℤ (a (suc n) *ℤ b n -ℤ b (suc n) *ℤ a n) = cancel_pos D (a (suc n) *ℤ b n -ℤ b (suc n) *ℤ a n) w.positive
                (omega (arith, linear)) in
                absurd (omega (arith, linear, *ℤ_comm (a n) (b (suc n)), *ℤ_comm (b n) (a (suc n)))))
          ]
        ] in
        record {
          killed = w.killed;
          side = w.side;
          positive = w.positive;
          outside = λ j jn none. elim (cases_eq j e) [
            | inl q ↦ ap v q ∙ z
            | inr d ↦ w.outside j jn (out_before u none d)
          ];
        }
