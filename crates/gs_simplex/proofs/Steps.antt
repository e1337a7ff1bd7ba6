-- The rows are determined by the list, and an opening step gives a list again, with its rows.
use Rattle.std.proofs.Common.{◌≡◌, ◌≢◌, ℕ, suc, ◌+◌, ◌<◌, ◌≤◌, ◌⊎◌, inl, inr, [], ◌∷◌, ◌++◌, ℤ, pos, ◌*ℤ◌, neg_ℤ, ◌<ℤ◌, sym, subst, ◌∙◌, arith}
use Rattle.std.proofs.lemmas.Bool.{cases_eq}
use Rattle.gs_simplex.specs.{declared.program.Program.{Program}, Elimination.{IsEliminated}}
use Rattle.gs_simplex.specs.Program.{Listing, IsListed, RowListed, ColListed, IsRowsOf, CanTake, IsRegularList}
use Rattle.gs_simplex.proofs.{Ring.{linear, times_pos}, Rows.{regular_take, listed_proportional, unlisted_proportional}}
use Rattle.gs_simplex.proofs.{Pivot.{pivot_self_unlisted, pivot_self_negated, primitive_same}, RowLaws.{aim_proportional}}
use Rattle.gs_simplex.proofs.Lists.{IsChange, rows_after, listed_renamed, listed_push, listed_push_old, listed_push_cases}

-- different rows, different columns, all in range
pub record IsList (p : Program) (l : Listing) : Type 0 where
  pub row_inside : (i j : ℕ) → IsListed l i j → i < p.rows
  pub column_inside : (i j : ℕ) → IsListed l i j → j < p.cols
  pub one_column : (i j k : ℕ) → IsListed l i j → IsListed l i k → j ≡ k
  pub one_row : (i k j : ℕ) → IsListed l i j → IsListed l k j → i ≡ k

-- a list with one row changed is a list again
pub change_is_list : {p : Program} {l next : Listing} {r c : ℕ} → IsList p l → IsChange p l next r c → IsList p next
change_is_list {l} {next} {r} {c} il ch =
    let old : (i j : ℕ) → IsListed next i j → j ≢ c → IsListed l i j = λ i j h ne.
    ch.old i j h (λ s. ne (ch.one_column j (let P : ℕ → Type 0 = λ x. IsListed next x j in subst P s h))) in
    record {
      row_inside = ch.row_inside;
      column_inside = λ i j h. ch.inside j (i, h);
      one_column = λ i j k h g. elim (cases_eq i r) [
        | inl e ↦ (let P : ℕ → ℕ → Type 0 = λ y x. IsListed next x y in ch.one_column j (subst (P j) e h) ∙ sym (ch.one_column k (subst (P k) e g)))
        | inr ne ↦ il.one_column i j k (ch.old i j h ne) (ch.old i k g ne)
      ];
      one_row = λ i k j h g. elim (cases_eq j c) [
        | inl e ↦ (let P : ℕ → ℕ → Type 0 = λ x y. IsListed next x y in ch.one_row i (subst (P i) e h) ∙ sym (ch.one_row k (subst (P k) e g)))
        | inr ne ↦ il.one_row i k j (old i j h ne) (old k j g ne)
      ];
    }

module _ {p : Program} {l : Listing} where
  -- ---- the rows are determined by the list
  pub rows_same : {R : ℕ → ℕ → ℤ} {a b : ℕ → ℤ} {S : ℕ → ℕ → ℤ} → IsList p l → IsRegularList p l → ((i : ℕ) → (RowListed l i) ⊎ (RowListed l i → ⊥))
      → IsRowsOf p l R a → IsRowsOf p l S b → ((i j : ℕ) → i < p.rows → j ≤ p.cols → R i j ≡ S i j) × ((j : ℕ) → j ≤ p.cols + 1 → a j ≡ b j)
  rows_same {R} {a} {b} {S} il reg dec u w = (
    λ i j im jn. elim (dec i) [
      | inl h ↦ (let f = u.listed i h.0 h.1 in let g = w.listed i h.0 h.1 in
          primitive_same (S i h.0) (R i h.0) g.2.own f.2.own
          (listed_proportional reg (λ k c. il.column_inside c.0 k c.1) (il.column_inside i h.0 h.1) f.2 g.2) (u.primitive i im) (w.primitive i im) j jn)
      | inr out ↦ (let f = u.unlisted i im out in let g = w.unlisted i im out in
          primitive_same (g.1 i *ℤ f.0) (f.1 i *ℤ g.0) (times_pos (g.1 i) f.0 g.2.own f.2.combination.positive)
          (times_pos (f.1 i) g.0 f.2.own g.2.combination.positive)
          (unlisted_proportional reg (λ k c. il.column_inside c.0 k c.1) out f.2 g.2) (u.primitive i im) (w.primitive i im) j jn)
    ],
    λ j jn. (let f = u.aim_row in let g = w.aim_row in
        primitive_same (b (suc p.cols)) (a (suc p.cols)) g.2.multiple f.2.multiple
        (λ k kn. aim_proportional reg (λ k c. il.column_inside c.0 k c.1) f.2 g.2 k (omega arith)) u.primitive_aim w.primitive_aim j jn),
  )

  module _ {r c : ℕ} where
    -- ---- an opening step
    pub take_changes : IsList p l → CanTake p l r c → IsChange p l (l ++ (r + 1, c + 1) ∷ []) r c
    take_changes il t = record {
      row = t.row;
      column = t.column;
      inside = λ j h. elim (listed_push_cases l r c h.0 j h.1) [ inl o ↦ il.column_inside h.0 j o | inr e ↦ omega (arith, e.1, t.column) ];
      row_inside = λ i j h. elim (listed_push_cases l r c i j h) [ inl o ↦ il.row_inside i j o | inr e ↦ omega (arith, e.0, t.row) ];
      old = λ i j h ne. elim (listed_push_cases l r c i j h) [ inl o ↦ o | inr e ↦ absurd (ne e.0) ];
      columns = λ j h ne. elim (listed_push_cases l r c h.0 j h.1) [ inl o ↦ (h.0, o) | inr e ↦ absurd (ne e.1) ];
      rows = λ i out h. out (h.0, listed_push_old l r c i h.0 h.1);
      here = listed_push l r c;
      one_column = λ j h. elim (listed_push_cases l r c r j h) [ inl o ↦ absurd (t.row_free (j, o)) | inr e ↦ e.1 ];
      one_row = λ i h. elim (listed_push_cases l r c i c h) [ inl o ↦ absurd (t.column_free (i, o)) | inr e ↦ e.0 ];
    }

    pub take_is_list : IsList p l → CanTake p l r c → IsList p (l ++ (r + 1, c + 1) ∷ [])
    take_is_list il t = change_is_list il (take_changes il t)

    pub take_is_regular : IsList p l → IsRegularList p l → CanTake p l r c → IsRegularList p (l ++ (r + 1, c + 1) ∷ [])
    take_is_regular il reg t =
        let f = t.found in let next = l ++ (r + 1, c + 1) ∷ [] in
        regular_take {ColIn' = ColListed next} {RowIn' = RowListed next} c reg f.3 t.row t.column f.4
        (λ i out ne h. elim (listed_push_cases l r c i h.0 h.1) [ inl o ↦ out (h.0, o) | inr e ↦ ne e.0 ])
        (λ j h. ((h.0, listed_push_old l r c h.0 j h.1), il.column_inside h.0 j h.1)) (r, listed_push l r c)

    -- the rows after an opening step
    pub take_rows : {R : ℕ → ℕ → ℤ} {a b : ℕ → ℤ} {Q : ℕ → ℕ → ℤ} → IsList p l → CanTake p l r c → IsRowsOf p l R a → IsEliminated p R a r c Q b
        → IsRowsOf p (l ++ (r + 1, c + 1) ∷ []) Q b
    take_rows {R} {Q} il t u el =
        let next = l ++ (r + 1, c + 1) ∷ [] in
        let ch = take_changes il t in
        let w = u.unlisted r t.row t.row_free in
        let off : (i : ℕ) → (RowListed next i → ⊥) → (RowListed l i → ⊥) × (i ≢ r) =
        λ i out. (ch.rows i out, λ e. out (c, (let P : ℕ → Type 0 = λ x. IsListed next x c in subst P (sym e) ch.here))) in
        elim el.self [
          | inl same ↦ (let o : pos 0 <ℤ R r c = (let e : Q r c ≡ R r c = same c (omega (arith, t.column)) in let h : pos 0 <ℤ Q r c = el.own in
              omega (arith, linear)) in
              let m = pivot_self_unlisted w.2 o off ch.columns in
              rows_after u ch el (listed_renamed m (λ j h. ch.inside j h) t.column same))
          | inr turned ↦ (let o : R r c <ℤ pos 0 = (let e : Q r c ≡ neg_ℤ (R r c) = turned c (omega (arith, t.column)) in let h : pos 0 <ℤ Q r c = el.own in
              omega (arith, linear)) in
              let m = pivot_self_negated w.2 o off ch.columns in
              rows_after u ch el (listed_renamed m (λ j h. ch.inside j h) t.column turned))
        ]
