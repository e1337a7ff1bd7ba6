use Rattle.std.proofs.Common.{◌≡◌, inl, inr, ℕ, ◌+◌, ◌<◌, List, slice_index, slice_index_or, ℤ, pos, neg_ℤ, ◌*ℤ◌, ◌<ℤ◌, refl, sym, ap, subst, ◌∙◌, arith}
use Rattle.std.specs.List.{HoldsAt}
use Rattle.gs_frac.specs.declared.value.Fraction.{Fraction}
use Rattle.gs_simplex.specs.{declared.program.Program.{Program}, Program.{Listing, IsPairList, IsRowsOf}, Table.{grid_of, table_aim, IsKept, IsTableOf}}
use Rattle.gs_simplex.specs.{Values.{IsRowIndex, IsColumnValue, CanValue}, Answer.{IsBestAt}}
use Rattle.gs_simplex.proofs.{PairLists.{pair_list_is_list, column_decided}, Ring.{times_neg}, Multiples.{down_fraction}, Kept.{row_pos_kept, multiple_kept}}
use Rattle.gs_simplex.proofs.best.best.Goals as goal

module _ (p : Program) (l : Listing) (grid : ℕ → ℕ → ℤ) (rows rows' : List ℕ) (pairs : IsPairList p l) (held : IsTableOf p l grid)
    (index : IsRowIndex p l rows') (same : rows ≡ rows') where
  abbrev R : ℕ → ℕ → ℤ
  R = held.rows_of.0

  abbrev a : ℕ → ℤ
  a = held.rows_of.1

  u : IsRowsOf p l R a
  u = held.rows_of.2

  kept : IsKept p R a grid
  kept = held.rows_of.3

  index_at : IsRowIndex p l rows
  index_at = let P : List ℕ → Type 0 = λ x. IsRowIndex p l x in subst P (sym same) index

  can_value : (j : ℕ) → j < p.cols → CanValue p (grid) (slice_index rows j) j
  can_value j h = record {
    inside = λ i e. elim (column_decided pairs j) [
      | inl c ↦ (let s : c.0 ≡ i = (let q : c.0 + 1 ≡ i + 1 = sym (index_at.listed c.0 j c.1) ∙ e in omega arith) in
          let P : ℕ → Type 0 = λ k. (k < p.rows) × (pos 0 <ℤ grid k j) in
          let m = (pair_list_is_list pairs).row_inside c.0 j c.1 in
          subst P s (m, row_pos_kept kept c.0 j m (omega arith) (u.listed c.0 j c.1).2.own))
      | inr none ↦ absurd (let q : slice_index rows j ≡ 0 = index_at.unlisted j none in omega arith)
    ];
  }

  neg_times_at : (k y b : ℤ) → y ≡ k *ℤ b → neg_ℤ y ≡ k *ℤ neg_ℤ b
  neg_times_at k y b e = ap neg_ℤ e ∙ sym (times_neg k b)

  pub best_at : (value price : List Fraction) → ((j : ℕ) → j < p.cols → HoldsAt (IsColumnValue p (grid) (slice_index rows j) j) value j)
      → ((j : ℕ) → j < p.cols → HoldsAt (λ f. f.num *ℤ table_aim p grid (p.cols + 1) ≡ neg_ℤ (table_aim p grid j) *ℤ f.den) price j) → IsBestAt p l R a
      value price
  best_at value price v w = record {
    rows_of = u;
    listed = λ i j h d. (let f = slice_index_or value j d in
        let jm : j < p.cols = (pair_list_is_list pairs).column_inside i j h in
        let m = (kept.rows_kept i ((pair_list_is_list pairs).row_inside i j h)).by in
        down_fraction m.0 f.num f.den (grid i j) (grid i p.cols) (R i j) (R i p.cols) m.1 (m.2 j (omega arith)) (m.2 p.cols (omega arith))
        ((v j jm d).listed i (index_at.listed i j h)));
    unlisted = λ j h out d. (v j h d).unlisted (index_at.unlisted j out);
    prices = λ j jn d. (let f = slice_index_or price j d in let m = kept.aim_kept.by in
        down_fraction m.0 f.num f.den (table_aim p grid (p.cols + 1)) (neg_ℤ (table_aim p grid j)) (a (p.cols + 1)) (neg_ℤ (a j)) m.1
        (m.2 (p.cols + 1) (omega arith))
        (neg_times_at m.0 (table_aim p grid j) (a j) (m.2 j (omega arith))) (w j jn d));
  }

-- the index of the list that is equal
index_of : (p : Program) (l l' : Listing) (rows : List ℕ) → l' ≡ l → IsRowIndex p l' rows → IsRowIndex p l rows
index_of p l l' rows e u = let P : Listing → Type 0 = λ x. IsRowIndex p x rows in subst P e u

pub values-requires-clause-rows : goal.values-requires-clause-rows
values-requires-clause-rows c =
    let p = c.args.p.now in let grid = grid_of p c.args.table.now in let l = c.args.basis.items in
    can_value p l grid c.deref-2.result.now c.in_ok-rows.rows.items c.requires.pairs c.requires.rows
    (index_of p l c.deref.result.now c.in_ok-rows.rows.items c.deref.ensures.value c.in_ok-rows.ensures) c.deref-2.ensures.value

pub returns : goal.returns
returns c =
    let p = c.args.p.now in let grid = grid_of p c.args.table.now in let l = c.args.basis.items in
    record {
      pivots_are = refl;
      basis_is = refl;
      values = c.in_ok-value.ensures.long;
      prices = c.in_ok-price.ensures.long;
      best = (
        c.requires.rows.rows_of.0,
        c.requires.rows.rows_of.1,
        best_at p l grid c.deref-2.result.now c.in_ok-rows.rows.items c.requires.pairs c.requires.rows
            (index_of p l c.deref.result.now c.in_ok-rows.rows.items c.deref.ensures.value c.in_ok-rows.ensures) c.deref-2.ensures.value
            c.in_ok-value.value.items c.in_ok-price.price.items c.in_ok-value.ensures.values c.in_ok-price.ensures.prices,
      );
    }

pub prices-requires : goal.prices-requires
prices-requires c = record {
  table = grind arith;
  multiple = let p = c.args.p.now in let grid = grid_of p c.args.table.now in
      let w = c.requires.rows.rows_of in multiple_kept w.3 w.2.aim_row.2.multiple;
}
