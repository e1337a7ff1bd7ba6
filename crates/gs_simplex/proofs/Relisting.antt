-- A table before and after a pivot: from rows by places to its numbers by row and column.
use Rattle.std.proofs.Common.{◌≡◌, ◌≢◌, ℕ, ◌+◌, ◌*◌, ◌<◌, ◌≤◌, ◌^◌, List, length, take, slice_index, vec_len, ℤ, pos, refl, sym, ap, subst, ◌∙◌, arith}
use Rattle.gs_simplex.specs.{declared.program.Program.{Program}, declared.table.Table.{Table}, Rows.{IsNarrow}}
use Rattle.gs_simplex.specs.Numbers.{cell, AreNarrowNumbers, AllAtMost, AreTops}
use Rattle.gs_simplex.specs.Columns.{place_in, in_columns, AreStands, IsCovered, AreStandsAfter, AreLivePlaces, IsLive, IsPivotDone, IsPivotWide}
use Rattle.gs_simplex.specs.{Columns.{IsTimes, IsFirstWideOf, HasWideColumn}, Table.{grid_of, HasRoom, IsTable, IsHeld, IsTableAfter, IsWideAfter}}
use Rattle.gs_simplex.proofs.{Places.{row_inside}, Standing.{IsCleared}, Tables.{table_after, wide_after_list}}
use Rattle.gs_simplex.proofs.Standing.{number_inside, number_none, not_spare, place_within, stands_after, support_row, pivot_columns, wide_column, wide_cleared}

-- how a table with rows of this width stands in memory
pub record IsLaidBy (p : Program) (t : Table) (w : ℕ) : Type 0 where
  pub some : 1 < w
  pub few : p.rows + w ≤ 2 ^ 32
  pub room : HasRoom w t.room
  pub long : length t.numbers.items ≡ (p.rows + 1) * w
  pub narrow : AreNarrowNumbers t.numbers.items
  pub stands_long : length t.stands.items ≡ p.cols + 2
  pub stands : AreStands p.rows w (p.cols + 2) (slice_index t.stands.items)
  pub covered : (i : ℕ) → i < p.rows + 1 → IsCovered p.rows w (p.cols + 2) (slice_index t.stands.items) i (cell t.numbers.items w i)
  pub live_long : length t.live.items ≡ p.cols + 4
  pub tops_long : length t.tops.items ≡ p.rows + 1
  pub tops : AreTops (p.rows + 1) w t.numbers.items t.tops.items

pub laid_by : {p : Program} {t : Table} {w : ℕ} → IsLaidBy p t w → IsHeld p t
laid_by {p} {t} {w} u =
    let P : ℕ → Type 0 = λ x. IsLaidBy p t x in let v = subst P (sym u.room.lead) u in
    record {
      some = v.some;
      few = v.few;
      room = v.room;
      long = v.long;
      narrow = v.narrow;
      stands_long = v.stands_long;
      stands = v.stands;
      covered = v.covered;
      live_long = v.live_long;
      tops_long = v.tops_long;
      tops = v.tops;
    }

module _ {p : Program} {t : Table} (u : IsHeld p t) (r c : ℕ) (rm : r < p.rows) (cn : c < p.cols) (nonzero : grid_of p t r c ≢ pos 0) where
  abbrev width : ℕ
  width = vec_len t.room.lead

  abbrev xs : List ℤ
  xs = t.numbers.items

  abbrev s : ℕ → ℕ
  s = slice_index t.stands.items

  abbrev q : ℕ
  q = place_in p.rows width (s c) r

  -- column c has a place in row r
  not_none : q ≢ width
  not_none e = nonzero (number_none width (cell xs width r) q (omega (arith, e)))

  within : q < width
  within = omega (arith, place_within u.some u.stands r c (omega arith), not_none)

  pub place_inside : q + 1 < width
  place_inside = omega (arith, within, not_spare u.some u.stands r c (omega arith))

  pub nonzero_at : cell xs width r q ≢ pos 0
  nonzero_at z = nonzero (number_inside width (cell xs width r) q within ∙ z)

  -- ---- the columns stand as they do after the pivot
  module _ (list : List ℕ) (moves : AreStandsAfter (length t.stands.items) s (slice_index list) r c) where
    af : AreStandsAfter (p.cols + 2) s (slice_index list) r c
    af = let P : ℕ → Type 0 = λ n. AreStandsAfter n s (slice_index list) r c in subst P u.stands_long moves

    pub stands_next : AreStands p.rows width (p.cols + 2) (slice_index list)
    stands_next = stands_after p.rows width (p.cols + 2) s (slice_index list) r c q u.some rm (omega arith) u.stands af refl within

    pub live_next : (live : List ℕ) (found : ℕ) → AreLivePlaces p.rows width (p.cols + 2) (slice_index list) live found
        → IsLive (take found live) xs (p.rows + 1) width r q
    live_next live found a lead led i im ne mid fr =
        support_row p.rows width (p.cols + 2) s (slice_index list) r c q u.some rm (omega arith) u.stands af refl within (cell xs width) u.covered lead led
        live found a i ne im mid fr

    -- ---- no number is wide
    module _ (new : Table) (same : new.stands.items ≡ list) (room : HasRoom width new.room) (long : length new.numbers.items ≡ length xs)
        (live : length new.live.items ≡ length t.live.items) (tops_long : length new.tops.items ≡ length t.tops.items)
        (done : IsPivotDone xs new.numbers.items (p.rows + 1) width r q) (tops : AreTops (p.rows + 1) width new.numbers.items new.tops.items) where
      both : (IsCleared (grid_of p t) (λ i. in_columns p.rows width (slice_index list) i (cell new.numbers.items width i)) (p.rows + 1) (p.cols + 2) r c)
          × ((i : ℕ) → i < p.rows + 1 → IsCovered p.rows width (p.cols + 2) (slice_index list) i (cell new.numbers.items width i))
      both = let d = done.lead in
          pivot_columns p.rows width (p.cols + 2) s (slice_index list) r c q u.some rm (omega arith) u.stands af refl within (cell xs width) u.covered d.0 d.1
          (cell new.numbers.items width) d.2 d.3
          (λ i k im kw. done.narrow (i * width + k) (omega (arith, long, u.long, row_inside (p.rows + 1) width i k im kw)))

      stands_long : length list ≡ p.cols + 2 → length new.stands.items ≡ p.cols + 2
      stands_long e = ap length same ∙ e

      pub laid_next : length list ≡ p.cols + 2 → IsHeld p new
      laid_next e =
          let S : List ℕ → Type 0 = λ x. AreStands p.rows width (p.cols + 2) (slice_index x) in
          let C : List ℕ → Type 0 = λ x. (i : ℕ) → i < p.rows + 1 → IsCovered p.rows width (p.cols + 2) (slice_index x) i (cell new.numbers.items width i) in
          laid_by (record {
            some = u.some;
            few = u.few;
            room = room;
            long = long ∙ u.long;
            narrow = done.narrow;
            stands_long = stands_long e;
            stands = subst S (sym same) stands_next;
            covered = subst C (sym same) both.1;
            live_long = live ∙ u.live_long;
            tops_long = tops_long ∙ u.tops_long;
            tops = tops;
          })

      pub table_next : IsTable p (grid_of p t) → IsTableAfter p (grid_of p t) (grid_of p new) r c
      table_next table =
          let S : List ℕ → Type 0 = λ x. IsCleared (grid_of p t) (λ i. in_columns p.rows width (slice_index x) i (cell new.numbers.items width i)) (p.rows + 1)
          (p.cols + 2) r c in
          let W : ℕ → Type 0 = λ x. IsCleared (grid_of p t) (λ i. in_columns p.rows x (slice_index new.stands.items) i (cell new.numbers.items x i))
          (p.rows + 1)
          (p.cols + 2) r c in
          table_after p (grid_of p t) (grid_of p new) r c rm cn table nonzero (subst W (sym room.lead) (subst S (sym same) both.0))

    -- ---- row i has a wide number
    module _ (mixed : List ℤ) (i by : ℕ) (wide : IsPivotWide xs mixed (p.rows + 1) width r q i by) (long : length mixed ≡ width) where
      pub mixed_within : AllAtMost mixed (2 ^ 125)
      mixed_within = wide.lead.2.here.2.within

      pub by_some : 0 < by
      by_some = wide.lead.2.here.2.some

      pub by_small : by ≤ 2 ^ 125
      by_small = wide.lead.2.here.2.small

      new : ℕ → ℤ
      new = wide.lead.2.here.2.row.0

      abbrev times : Type 0
      times = IsTimes by mixed wide.lead.2.here.2.row.0

      pub is_times : times
      is_times k h = wide.lead.2.here.2.row.2 k (omega (arith, h, long))

      pub has_wide : length list ≡ p.cols + 2 → HasWideColumn p.rows list i by mixed
      has_wide e =
          let l = wide.lead in let h = l.2.here in let x = h.2.row in
          let f = wide_column p.rows width (p.cols + 2) s (slice_index list) r c q u.some rm (omega arith) u.stands af refl within (cell xs width) u.covered l.0
          l.1 i by mixed l.2.apart l.2.inside h.0 x.0 h.1 x.1 x.3.0 x.3.1 x.3.2 in
          let W : ℕ → Type 0 = λ v. IsNarrow (in_columns p.rows v (slice_index list) i x.0 f.0) → ⊥ in
          record { found = (x.0, is_times, (f.0, omega (arith, f.1, e), subst W (sym long) f.2)) }

      pub wide_next : IsTable p (grid_of p t) → length list ≡ p.cols + 2 → (j : ℕ) (z : ℤ)
          → ((row : ℕ → ℤ) → IsTimes by mixed row → IsFirstWideOf (length list) (in_columns p.rows (length mixed) (slice_index list) i row) j z)
          → IsWideAfter p (grid_of p t) r c i j z
      wide_next table e j z first =
          let l = wide.lead in let h = l.2.here in let x = h.2.row in
          let N : ℕ → Type 0 = λ v. IsFirstWideOf v (in_columns p.rows (length mixed) (slice_index list) i x.0) j z in
          let W : ℕ → Type 0 = λ v. IsFirstWideOf (p.cols + 2) (in_columns p.rows v (slice_index list) i x.0) j z in
          let f = subst W long (subst N e (first x.0 is_times)) in
          wide_after_list p (grid_of p t) _ r c i j z rm cn table nonzero
          (wide_cleared p.rows width (p.cols + 2) s (slice_index list) r c q u.some rm (omega arith) u.stands af refl within (cell xs width) u.covered l.0 l.1
          i by mixed l.2.apart l.2.inside h.0 x.0 h.1 x.1 j z f l.2.before)
