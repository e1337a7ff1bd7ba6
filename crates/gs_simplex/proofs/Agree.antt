-- Two paths of one opening have the same lists and the same rows as far as both go.
use Rattle.std.proofs.Common.{◌≡◌, ℕ, zero, suc, ◌+◌, ◌<◌, ◌≤◌, ◌⊎◌, inl, inr, length, slice_set, ℤ, pos, ◌*ℤ◌, ◌≤ℤ◌, ◌<ℤ◌, sym, ap, subst, ◌∙◌, arith}
use Rattle.std.proofs.lemmas.Bool.{cases_order, cases_lt}
use Rattle.gs_simplex.specs.{declared.program.Program.{Program}, Program.{Listing, IsListed, RowListed, IsRowsOf, IsOpening}}
use Rattle.gs_simplex.specs.Path.{Enters, Leaves, IsPivot, States, IsPath}
use Rattle.gs_simplex.proofs.{Ring.{linear}, Steps.{IsList, rows_same}, Pivots.{IsOnce}, Bases.{IsFull}, Opening.{path_trail}}

-- two tables that agree where the path looks
pub record Agree (p : Program) (R S : ℕ → ℕ → ℤ) (a b : ℕ → ℤ) : Type 0 where
  pub rows : (i j : ℕ) → i < p.rows → j ≤ p.cols → R i j ≡ S i j
  pub aim : (j : ℕ) → j ≤ p.cols + 1 → a j ≡ b j

module _ {p : Program} {l : Listing} where
  module _ {R S : ℕ → ℕ → ℤ} {a b : ℕ → ℤ} {e : ℕ} where
    pub enters_same : {f : ℕ} → Agree p R S a b → Enters p l a e → Enters p l b f → e ≡ f
    enters_same {f} ag u w = elim (cases_order e f) [
      | inl s ↦ s
      | inr x ↦ elim x [
        | inl less ↦ (let y : b e ≤ℤ pos 0 = w.least e less u.unlisted in let z : a e ≡ b e = ag.aim e (omega (arith, u.column)) in
            let r : pos 0 <ℤ a e = u.rises in absurd (omega (arith, linear)))
        | inr more ↦ (let y : a f ≤ℤ pos 0 = u.least f more w.unlisted in let z : a f ≡ b f = ag.aim f (omega (arith, w.column)) in
            let r : pos 0 <ℤ b f = w.rises in absurd (omega (arith, linear)))
      ]
    ]

    pub leaves_same : {c d r s : ℕ} → IsList p l → e < p.cols → Agree p R S a b → Leaves p l R e r c → Leaves p l S e s d → (r ≡ s) × (c ≡ d)
    leaves_same {c} {d} {r} {s} il en ag u w =
        let rm : r < p.rows = il.row_inside r c u.listed in let sm : s < p.rows = il.row_inside s d w.listed in
        let re : R r e ≡ S r e = ag.rows r e rm (omega arith) in let se : R s e ≡ S s e = ag.rows s e sm (omega arith) in
        let rn : R r p.cols ≡ S r p.cols = ag.rows r p.cols rm (omega arith) in let sn : R s p.cols ≡ S s p.cols = ag.rows s p.cols sm (omega arith) in
        let up : pos 0 <ℤ R r e = u.pivot in let wp : pos 0 <ℤ S s e = w.pivot in
        let x : (R r p.cols *ℤ R s e) ≤ℤ (R s p.cols *ℤ R r e) = u.ratio s d w.listed w.not_free (omega (arith, linear)) in
        let y : (S s p.cols *ℤ S r e) ≤ℤ (S r p.cols *ℤ S s e) = w.ratio r c u.listed u.not_free (omega (arith, linear)) in
        let k1 : S s p.cols *ℤ S r e ≡ R s p.cols *ℤ R r e = ap (λ t. t *ℤ S r e) (sym sn) ∙ ap (λ t. R s p.cols *ℤ t) (sym re) in
        let k2 : S r p.cols *ℤ S s e ≡ R r p.cols *ℤ R s e = ap (λ t. t *ℤ S s e) (sym rn) ∙ ap (λ t. R r p.cols *ℤ t) (sym se) in
        let tied : R r p.cols *ℤ R s e ≡ R s p.cols *ℤ R r e = omega (arith, linear) in
        let cd : c ≤ d = u.tie s d w.listed w.not_free (omega (arith, linear)) tied in
        let dc : d ≤ c = w.tie r c u.listed u.not_free (omega (arith, linear)) (k1 ∙ sym tied ∙ sym k2) in
        let e2 : c ≡ d = omega arith in
        (il.one_row r s d (let P : ℕ → Type 0 = λ t. IsListed l r t in subst P e2 u.listed) w.listed, e2)

    module _ {f c d : ℕ} {n1 n2 : Listing} where
      pub turn_same : IsList p l → IsOnce l → Agree p R S a b → IsPivot p l R a n1 e c → IsPivot p l S b n2 f d → n1 ≡ n2
      turn_same il once ag u w =
          let ef : e ≡ f = enters_same ag u.enters w.enters in
          let w4 : Leaves p l S e w.place.1 d = (let P : ℕ → Type 0 = λ t. Leaves p l S t w.place.1 d in subst P (sym ef) w.place.4) in
          let rs = leaves_same il u.enters.column ag u.place.4 w4 in
          let q : u.place.0 ≡ w.place.0 = once.place u.place.0 w.place.0 u.place.2 w.place.2 (ap (λ (t : ℕ × ℕ). t.0) u.place.3 ∙ ap (λ t. t + 1) rs.0
          ∙ sym (ap (λ (t : ℕ × ℕ). t.0) w.place.3)) in
          u.place.5 ∙ ap (λ t. slice_set l t (u.place.1 + 1, e + 1)) q ∙ ap (λ t. slice_set l w.place.0 (t + 1, e + 1)) rs.0
          ∙ ap (λ t. slice_set l w.place.0 (w.place.1 + 1, t + 1)) ef ∙ sym w.place.5

  -- a row is listed or not
  row_or_not : IsFull p l → (i : ℕ) → (RowListed l i) ⊎ (RowListed l i → ⊥)
  row_or_not f i = elim (cases_lt i p.rows) [ inl h ↦ inl (f.all i h) | inr h ↦ inr (λ x. absurd (omega (arith, f.is_list.row_inside i x.0 x.1))) ]

  pub rows_agree : {R S : ℕ → ℕ → ℤ} {a b : ℕ → ℤ} → IsFull p l → IsRowsOf p l R a → IsRowsOf p l S b → Agree p R S a b
  rows_agree f u w =
      let z = rows_same f.is_list f.regular (λ i. row_or_not f i) u w in record { rows = z.0; aim = z.1 }

module _ {p : Program} {o : Listing} {t t' : ℕ} {steps steps' : States} where
  -- two paths of one opening have the same lists as far as both go
  pub lists_same : IsOpening p o → IsPath p o t steps → IsPath p o t' steps' → (d : ℕ) → length o + d ≤ t → length o + d ≤ t'
      → steps.lists (length o + d) ≡ steps'.lists (length o + d)
  lists_same u w w' zero h h' =
      let k : length o + 0 ≤ length o = omega arith in
      w.opens (length o + 0) h k ∙ sym (w'.opens (length o + 0) h' k)
  lists_same u w w' (suc d) h h' =
      let k = length o + d in
      let s : steps.lists k ≡ steps'.lists k = lists_same u w w' d (omega arith) (omega arith) in
      let f = (path_trail u w d (omega arith)).0 in
      let P : Listing → Type 0 = λ x. IsRowsOf p x (steps'.rows k) (steps'.aim k) in
      let r' : IsRowsOf p (steps.lists k) (steps'.rows k) (steps'.aim k) = subst P (sym s) (w'.rows k (omega arith)) in
      let ag = rows_agree f (w.rows k (omega arith)) r' in
      let Q : Listing → Type 0 = λ x. IsPivot p x (steps'.rows k) (steps'.aim k) (steps'.lists (suc k)) (steps'.entering k) (steps'.leaving k) in
      let t' = subst Q (sym s) (w'.pivots k (omega arith) (omega arith)) in
      let n : steps.lists (suc k) ≡ steps'.lists (suc k) = turn_same f.is_list f.once ag (w.pivots k (omega arith) (omega arith)) t' in
      let q : suc k ≡ length o + suc d = omega arith in let T : ℕ → Type 0 = λ x. steps.lists x ≡ steps'.lists x in subst T q n

  -- and the same rows
  pub paths_agree : IsOpening p o → IsPath p o t steps → IsPath p o t' steps' → (d : ℕ) → length o + d ≤ t → length o + d ≤ t'
      → Agree p (steps.rows (length o + d)) (steps'.rows (length o + d)) (steps.aim (length o + d)) (steps'.aim (length o + d))
  paths_agree u w w' d h h' =
      let k = length o + d in
      let s = lists_same u w w' d h h' in
      let P : Listing → Type 0 = λ x. IsRowsOf p x (steps'.rows k) (steps'.aim k) in
      rows_agree (path_trail u w d h).0 (w.rows k h) (subst P (sym s) (w'.rows k h'))
