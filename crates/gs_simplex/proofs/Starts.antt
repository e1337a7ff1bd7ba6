-- The program's rows, each divided, are the table that a path starts from.
use Rattle.std.proofs.Common.{◌≡◌, inl, inr, ℕ, suc, ◌+◌, ◌-◌, ◌*◌, ◌<◌, ◌≤◌, ◌^◌, List, [], length, slice_index, ℤ, pos, neg_ℤ, refl, sym, ap, subst}
use Rattle.std.proofs.{Common.{◌∙◌, arith}, lemmas.Bool.{cases_lt}}
use Rattle.gs_simplex.specs.{declared.program.Program.{Program}, Rows.{IsNarrow, IsPrimitive}, Program.{IsRowsOf}}
use Rattle.gs_simplex.specs.{Numbers.{cell, AreNarrowNumbers, AreTops, IsDivided}, Table.{table_aim, HasRoom, IsTable, IsTableOf}}
use Rattle.gs_simplex.specs.{State.{raw, AreRaw, IsStart}, declared.table.Table.{Table}, Columns.{place_in, in_columns, AreStands, IsCovered}}
use Rattle.gs_simplex.proofs.{Exists.{empty_rows_from}, Ring.{cancel_zero}, Places.{row_inside, divided_same}, Relisting.{laid_by}}
use Rattle.gs_simplex.proofs.Tables.{flipped_at, flipped_other, primitive_shorter}
use Rattle.gs_simplex.proofs.{Standing.{looked_along, looked_divided}, Slots.{raw_row, raw_zero, raw_aim, raw_last, raw_multiple}, Kept.{kept_self}}

-- a bound above every narrow number
pub wide_tops : (count w : ℕ) (xs : List ℤ) (tops : List ℕ) → length xs ≡ count * w → AreNarrowNumbers xs
    → ((i : ℕ) → i < count → slice_index tops i ≡ 2 ^ 62) → AreTops count w xs tops
wide_tops count w xs tops long narrow e i h j jw =
    let n : IsNarrow (cell xs w i j) = narrow (i * w + j) (omega (arith, long, row_inside count w i j h jw)) in
    omega (arith, n, e i h)

-- the table that the divided rows are
module _ (p : Program) (w : ℕ) (s : ℕ → ℕ) (old new : List ℤ) (some : 1 < w) (u : AreRaw p w s old) (long : length new ≡ length old)
    (divided : (i : ℕ) → i < p.rows → IsDivided w (cell old w i) (cell new w i)) (last : (k : ℕ) → k < w → cell new w p.rows k ≡ cell old w p.rows k)
    (narrow : AreNarrowNumbers new) where
  abbrev pub grid : ℕ → ℕ → ℤ
  grid i = in_columns p.rows w s i (cell new w i)

  pub covered_new : (i : ℕ) → i < p.rows + 1 → IsCovered p.rows w (p.cols + 2) s i (cell new w i)
  covered_new i h k kw = elim ((u.rows i h).covered k kw) [
    | inr x ↦ inr x
    | inl z ↦ elim (cases_lt i p.rows) [
      | inl l ↦ (let g = (divided i l).multiple.by in inl (cancel_zero g.0 (cell new w i k) g.1 (sym (g.2 k kw) ∙ z)))
      | inr m ↦ (let e : i ≡ p.rows = omega arith in
          inl (ap (λ x. cell new w x k) e ∙ last k kw ∙ ap (λ x. cell old w x k) (sym e) ∙ z))
    ]
  ]

  row_divided : (i : ℕ) → i < p.rows → IsDivided (p.cols + 2) (raw p i) (grid i)
  row_divided i h = divided_same (p.cols + 2) (in_columns p.rows w s i (cell old w i)) (raw p i) (grid i) (grid i) (omega arith)
      (λ j jn. (u.rows i (omega arith)).each j jn) (λ j jn. refl)
      (looked_divided w (p.cols + 2) (λ j. place_in p.rows w (s j) i) (cell old w i) (cell new w i) (omega arith) (omega arith) (covered_new i (omega arith))
      (divided i h))

  aim_same : (j : ℕ) → j < p.cols + 2 → grid p.rows j ≡ raw p p.rows j
  aim_same j h = looked_along w (p.cols + 2) (λ j. place_in p.rows w (s j) p.rows) (λ x y. x ≡ y) (cell new w p.rows) (cell old w p.rows) refl last j
      ∙ (u.rows p.rows (omega arith)).each j h

  end_zero : (i : ℕ) → i < p.rows → grid i (p.cols + 1) ≡ pos 0
  end_zero i h = let g = (row_divided i h).multiple.by in cancel_zero g.0 (grid i (p.cols + 1)) g.1 (sym (g.2 (p.cols + 1) (omega arith)) ∙ raw_zero p i h)

  pub start_table : IsTable p grid
  start_table = record {
    zero = end_zero;
    narrow = λ i j im jn. looked_along w (p.cols + 2) (λ j. place_in p.rows w (s j) i) (λ x y. IsNarrow x) (cell new w i) (cell new w i) (omega arith)
        (λ k kw. narrow (i * w + k) (omega (arith, long, u.long, row_inside (p.rows + 1) w i k (omega arith) kw))) j;
  }

  pub start_rows : IsRowsOf p [] grid (table_aim p grid)
  start_rows = empty_rows_from (λ i h. let g = (row_divided i h).multiple.by in (
    g.0,
    g.1,
    λ j jn. sym (raw_row p i j h jn) ∙ g.2 j (omega arith),
    primitive_shorter p.cols (grid i) (end_zero i h) (let e : p.cols + 2 - 1 ≡ p.cols + 1 = omega arith in let P : ℕ
        → Type 0 = λ k. IsPrimitive k (grid i) in subst P e (row_divided i h).primitive),
  )) (λ j h. flipped_other p.cols (grid p.rows) j (λ e. omega arith) ∙ aim_same j (omega arith) ∙ raw_aim p p.rows j refl h)
      (flipped_at p.cols (grid p.rows) ∙ ap neg_ℤ (aim_same p.cols (omega arith) ∙ raw_last p p.rows refl))
      (flipped_other p.cols (grid p.rows) (suc p.cols) (λ e. omega arith)
      ∙ ap (grid p.rows) (let q : suc p.cols ≡ p.cols + 1 = omega arith in q) ∙ aim_same (p.cols + 1) (omega arith)
      ∙ raw_multiple p p.rows (p.cols + 1) refl refl)

-- a table with these lists
pub start_of : (p : Program) (t : Table) (w : ℕ) (list : List ℕ) (old new : List ℤ) → 1 < w → p.rows + w ≤ 2 ^ 32 → HasRoom w t.room
    → t.numbers.items ≡ new → t.stands.items ≡ list → length list ≡ p.cols + 2 → AreStands p.rows w (p.cols + 2) (slice_index list)
    → length t.live.items ≡ p.cols + 4 → length t.tops.items ≡ p.rows + 1 → ((i : ℕ) → i < p.rows + 1 → slice_index t.tops.items i ≡ 2 ^ 62)
    → AreRaw p w (slice_index list) old → length new ≡ length old → ((i : ℕ) → i < p.rows → IsDivided w (cell old w i) (cell new w i))
    → ((k : ℕ) → k < w → cell new w p.rows k ≡ cell old w p.rows k) → AreNarrowNumbers new → IsStart p t
start_of p t w list old new some few room en es sl stands ll tl tops u long divided last narrow =
    let s = slice_index list in
    let table = start_table p w s old new some u long divided last narrow in
    let rows = kept_self p [] (grid p w s old new some u long divided last narrow)
    (start_rows p w s old new some u long divided last narrow) in
    let N : List ℤ → Type 0 = λ x. AreNarrowNumbers x in let S : List ℕ → Type 0 = λ x. AreStands p.rows w (p.cols + 2) (slice_index x) in
    let C : List ℕ → Type 0 = λ x. (i : ℕ) → i < p.rows + 1 → IsCovered p.rows w (p.cols + 2) (slice_index x) i (cell new w i) in
    let D : List ℤ → Type 0 = λ y. (i : ℕ) → i < p.rows + 1 → IsCovered p.rows w (p.cols + 2) (slice_index t.stands.items) i (cell y w i) in
    let T : List ℤ → Type 0 = λ x. AreTops (p.rows + 1) w x t.tops.items in
    let G : ℕ → List ℕ → List ℤ → ℕ → ℕ → ℤ = λ x y z i. in_columns p.rows x (slice_index y) i (cell z x i) in
    let P : (ℕ → ℕ → ℤ) → Type 0 = λ g. IsTable p g × IsTableOf p [] g in
    let P1 : List ℕ → Type 0 = λ y. P (G w y new) in let P2 : List ℤ → Type 0 = λ z. P (G w t.stands.items z) in
    let P3 : ℕ → Type 0 = λ x. P (G x t.stands.items t.numbers.items) in
    let f = subst P3 (sym room.lead) (subst P2 (sym en) (subst P1 (sym es) (table, rows))) in
    record {
      laid = laid_by (record {
        some = some;
        few = few;
        room = room;
        long = ap length en ∙ long ∙ u.long;
        narrow = subst N (sym en) narrow;
        stands_long = ap (λ (x : List ℕ). length x) es ∙ sl;
        stands = subst S (sym es) stands;
        covered = subst D (sym en) (subst C (sym es) (covered_new p w s old new some u long divided last narrow));
        live_long = ll;
        tops_long = tl;
        tops = subst T (sym en) (wide_tops (p.rows + 1) w new t.tops.items (long ∙ u.long) narrow tops);
      });
      table = f.0;
      rows = f.1;
    }
