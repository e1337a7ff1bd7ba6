-- What holds of a table's rows holds of the rows that they are multiples of.
use Rattle.std.proofs.Common.{◌≡◌, ◌≢◌, ℕ, suc, ◌+◌, ◌<◌, ◌≤◌, ℤ, pos, ◌*ℤ◌, ◌<ℤ◌, ◌≤ℤ◌, refl, sym, ap, subst, ◌∙◌, arith}
use Rattle.gs_simplex.specs.{declared.program.Program.{Program}, Rows.{IsNarrow}, Program.{Listing, IsPairList, IsRowsOf}}
use Rattle.gs_simplex.specs.{Path.{Enters, NoneEnters, Leaves, NoneLeaves, AllNarrow}, Table.{table_aim, IsTable, IsKept, IsTableOf}}
use Rattle.gs_simplex.proofs.{PairLists.{pair_list_is_list}, Tables.{flipped_abs}}
use Rattle.gs_simplex.proofs.Multiples.{multiple_of_equal, down_narrow, down_pos, down_nonpos, down_zero, up_pos, up_zero, down_ratio, up_tie}

-- the rows of a table themselves
pub kept_self : (p : Program) (l : Listing) (grid : ℕ → ℕ → ℤ) → IsRowsOf p l (grid) (table_aim p grid) → IsTableOf p l grid
kept_self p l grid u = record {
  rows_of = (
    grid,
    table_aim p grid,
    u,
    record {
      rows_kept = λ i h. multiple_of_equal (p.cols + 1) (grid i) (grid i) (λ j jn. refl);
      aim_kept = multiple_of_equal (p.cols + 2) (table_aim p grid) (table_aim p grid) (λ j jn. refl);
    },
  );
}

module _ {p : Program} {grid : ℕ → ℕ → ℤ} {R : ℕ → ℕ → ℤ} {a : ℕ → ℤ} (kept : IsKept p R a grid) where
  pub narrow_kept : IsTable p grid → AllNarrow p R a
  narrow_kept u = (
    λ i j im jn.
        (let m = (kept.rows_kept i im).by in down_narrow m.0 (grid i j) (R i j) m.1 (m.2 j (omega arith)) (u.narrow i j (omega arith) (omega arith))),
    λ j jn.
        (let m = kept.aim_kept.by in let h : IsNarrow (grid p.rows j) = u.narrow p.rows j (omega arith) jn in
        down_narrow m.0 (table_aim p grid j) (a j) m.1 (m.2 j (omega arith)) (omega (arith, h, flipped_abs p.cols (grid p.rows) j))),
  )

  pub aim_zero_kept : (j : ℕ) → j ≤ p.cols → a j ≡ pos 0 → table_aim p grid j ≡ pos 0
  aim_zero_kept j jn z = let m = kept.aim_kept.by in up_zero m.0 (table_aim p grid j) (a j) (m.2 j (omega arith)) z

  pub nonzero_kept : (i j : ℕ) → i < p.rows → j ≤ p.cols → R i j ≢ pos 0 → grid i j ≢ pos 0
  nonzero_kept i j im jn ne z = let m = (kept.rows_kept i im).by in
      ne (down_zero m.0 (grid i j) (R i j) m.1 (m.2 j (omega arith)) z)

  pub row_pos_kept : (i j : ℕ) → i < p.rows → j ≤ p.cols → pos 0 <ℤ R i j → pos 0 <ℤ grid i j
  row_pos_kept i j im jn h = let m = (kept.rows_kept i im).by in up_pos m.0 (grid i j) (R i j) m.1 (m.2 j (omega arith)) h

  pub multiple_kept : pos 0 <ℤ a (suc p.cols) → pos 0 <ℤ table_aim p grid (p.cols + 1)
  multiple_kept h =
      let m = kept.aim_kept.by in let e : suc p.cols ≡ p.cols + 1 = omega arith in
      let P : ℕ → Type 0 = λ k. pos 0 <ℤ a k in
      up_pos m.0 (table_aim p grid (p.cols + 1)) (a (p.cols + 1)) m.1 (m.2 (p.cols + 1) (omega arith)) (subst P e h)

  -- ---- Bland's choice
  pub enters_kept : {l : Listing} {e : ℕ} → Enters p l (table_aim p grid) e → Enters p l a e
  enters_kept {e = e} u = let m = kept.aim_kept.by in let c : e < p.cols = u.column in record {
    column = u.column;
    unlisted = u.unlisted;
    rises = down_pos m.0 (table_aim p grid e) (a e) m.1 (m.2 e (omega arith)) u.rises;
    least = λ j je out. down_nonpos m.0 (table_aim p grid j) (a j) m.1 (m.2 j (omega arith)) (u.least j je out);
  }

  pub none_enters_kept : (l : Listing) → NoneEnters p l (table_aim p grid) → NoneEnters p l a
  none_enters_kept l u j jn out = let m = kept.aim_kept.by in down_nonpos m.0 (table_aim p grid j) (a j) m.1 (m.2 j (omega arith)) (u j jn out)

  pub leaves_kept : {l : Listing} {e r c : ℕ} → IsPairList p l → e < p.cols → Leaves p l (grid) e r c → Leaves p l R e r c
  leaves_kept {e = e} {r} {c} pairs en u =
      let il = pair_list_is_list pairs in
      let rm : r < p.rows = il.row_inside r c u.listed in
      let k = (kept.rows_kept r rm).by in
      record {
        listed = u.listed;
        not_free = u.not_free;
        pivot = down_pos k.0 (grid r e) (R r e) k.1 (k.2 e (omega arith)) u.pivot;
        ratio = λ i j h free up.
            let im : i < p.rows = il.row_inside i j h in
            let m = (kept.rows_kept i im).by in
            let le = u.ratio i j h free (row_pos_kept i e im (omega arith) up) in
            let A : ℤ → Type 0 = λ t. (t *ℤ grid i e) ≤ℤ (grid i p.cols *ℤ grid r e) in
            let B : ℤ → Type 0 = λ t. ((k.0 *ℤ R r p.cols) *ℤ t) ≤ℤ (grid i p.cols *ℤ grid r e) in
            let C : ℤ → Type 0 = λ t. ((k.0 *ℤ R r p.cols) *ℤ (m.0 *ℤ R i e)) ≤ℤ (t *ℤ grid r e) in
            let D : ℤ → Type 0 = λ t. ((k.0 *ℤ R r p.cols) *ℤ (m.0 *ℤ R i e)) ≤ℤ ((m.0 *ℤ R i p.cols) *ℤ t) in
            down_ratio k.0 m.0 (R r p.cols) (R r e) (R i p.cols) (R i e) k.1 m.1
            (subst D (k.2 e (omega arith)) (subst C (m.2 p.cols (omega arith)) (subst B (m.2 e (omega arith)) (subst A (k.2 p.cols (omega arith)) le))));
        tie = λ i j h free up same.
            let im : i < p.rows = il.row_inside i j h in
            let m = (kept.rows_kept i im).by in
            u.tie i j h free (row_pos_kept i e im (omega arith) up)
            (ap (λ t. t *ℤ grid i e) (k.2 p.cols (omega arith)) ∙ ap (λ t. (k.0 *ℤ R r p.cols) *ℤ t) (m.2 e (omega arith))
            ∙ up_tie k.0 m.0 (R r p.cols) (R r e) (R i p.cols) (R i e) same
            ∙ ap (λ t. t *ℤ (k.0 *ℤ R r e)) (sym (m.2 p.cols (omega arith))) ∙ ap (λ t. grid i p.cols *ℤ t) (sym (k.2 e (omega arith))));
      }

  pub none_leaves_kept : {l : Listing} {e : ℕ} → IsPairList p l → e < p.cols → NoneLeaves p l (grid) e → NoneLeaves p l R e
  none_leaves_kept {e = e} pairs en u i j h free =
      let im : i < p.rows = (pair_list_is_list pairs).row_inside i j h in
      let m = (kept.rows_kept i im).by in
      down_nonpos m.0 (grid i e) (R i e) m.1 (m.2 e (omega arith)) (u i j h free)
