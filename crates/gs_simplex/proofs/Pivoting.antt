-- A pivot on rows by places: from the row that is taken to the rows that are cleared, and the lead's number put at its own place.
use Rattle.std.proofs.Common.{◌≡◌, ◌≢◌, ℕ, ◌+◌, ◌-◌, ◌*◌, ◌<◌, ◌≤◌, ◌⊎◌, inl, inr, List, length, slice_index, ℤ, pos, ◌*ℤ◌, neg_ℤ, ◌<ℤ◌, ◌≤ℤ◌, unsigned_abs}
use Rattle.std.proofs.{Common.{refl, sym, ap, subst, ◌∙◌, arith}, lemmas.Bool.{cases_eq}, lemmas.Int.{ints}, lemmas.List.Edits.{Swapped}}
use Rattle.gs_simplex.specs.{Rows.{IsNarrow}, Numbers.{at, cell, AreNarrowNumbers, IsAtMost, AreTops}}
use Rattle.gs_simplex.specs.Columns.{IsSwapped, IsRowCleared, IsRowLed, IsLiveRow, IsLive, AreRowsCleared, AreRowsClearedTo, IsPivotDone, IsPivotWide}
use Rattle.gs_simplex.proofs.{Ring.{times_zero}, Places.{at_most_same, row_apart, lead_by}, Standing.{slot_freed_same, row_cleared_same}}

-- the lead's number at the spare place is above 0 where the number that was moved there is other than 0
pub led_own : (f lead : ℕ → ℤ) (q b w : ℕ) → b < w → IsRowLed f lead q b w → f q ≢ pos 0 → pos 0 <ℤ lead b
led_own f lead q b w bw u ne =
    let m = u.row in let d = lead_by m.0 lead b w m.2 in let h : pos 0 ≤ℤ lead b = m.2.own in
    let nz : lead b ≢ pos 0 = λ z. ne (sym m.1.spare ∙ (let e : d.0 *ℤ lead b ≡ pos 0 = ap (λ t. d.0 *ℤ t) z ∙ times_zero d.0 in
    elim d.2 [ inl s ↦ s b bw ∙ e | inr s ↦ s b bw ∙ ap neg_ℤ e ])) in
    omega (arith, ints)

-- `mid` has row r taken to the lead, and the other rows of `old`
module _ (old mid lead : List ℤ) (count w r q : ℕ) (rc : r < count) (qw : q + 1 < w) (taken : IsRowLed (cell old w r) (at lead) q (w - 1) w)
    (others : (k : ℕ) → (k < r * w) ⊎ (r * w + w ≤ k) → at mid k ≡ at old k) (same : (j : ℕ) → j < w → at lead j ≡ cell mid w r j) where
  kept_row : (i : ℕ) → i ≢ r → (j : ℕ) → j < w → cell mid w i j ≡ cell old w i j
  kept_row i ne j h = others (i * w + j) (row_apart w i r j h ne)

  pub live_rows : (live : List ℕ) → IsLive live old count w r q → (i : ℕ) → i < count → i ≢ r → IsLiveRow live q (w - 1) w (cell mid w i) (at lead)
  live_rows live u i im ne row f = u (at lead) taken i im ne row (slot_freed_same q (w - 1) w (cell mid w i) (cell old w i) (omega arith) (omega arith)
      (λ k l. kept_row i ne k l) row f)

  pub tops_rows : (tops : List ℕ) → AreTops count w old tops → (i : ℕ) → i < count → i ≢ r → IsAtMost w (cell mid w i) (slice_index tops i)
  tops_rows tops u i im ne = at_most_same w (slice_index tops i) (cell old w i) (cell mid w i) (λ j l. sym (kept_row i ne j l)) (u i im)

  cleared_old : (i : ℕ) (new : ℕ → ℤ) → i ≢ r → IsRowCleared (at lead) q (w - 1) w (cell mid w i) new → IsRowCleared (at lead) q (w - 1) w (cell old w i) new
  cleared_old i new ne u = row_cleared_same q (w - 1) w (cell mid w i) (cell old w i) (omega arith) (omega arith) (λ k l. kept_row i ne k l) (at lead) new new
      (λ k l. refl) u

  pub pivot_wide : (mixed : List ℤ) (i by : ℕ) → AreRowsClearedTo mid mixed count w r q (w - 1) (at lead) i by → IsPivotWide old mixed count w r q i by
  pivot_wide mixed i by u = record {
    lead = (
      at lead,
      taken,
      record {
        inside = u.inside;
        apart = u.apart;
        here = (let h = u.here in (
          h.0,
          slot_freed_same q (w - 1) w (cell mid w i) (cell old w i) (omega arith) (omega arith) (λ k l. kept_row i u.apart k l) h.0 h.1,
          h.2,
        ));
        before = λ h l ne. (let b = u.before h l ne in (b.0, cleared_old h b.0 ne b.1, b.2));
      },
    );
  }

  -- the lead's number was put at its own place
  module _ (new last : List ℤ) (long : length new ≡ count * w) (lasts : length last ≡ length new) (u : AreRowsCleared mid new count w r q (w - 1) (at lead))
      (sw : Swapped (at new) (at last) (r * w) (r * w + w - 1)) where
    last_other : (i : ℕ) → i ≢ r → (j : ℕ) → j < w → cell last w i j ≡ cell new w i j
    last_other i ne j h = elim (row_apart w i r j h ne) [
      | inl l ↦ sw.2 (i * w + j) (λ e. omega arith) (λ e. omega arith)
      | inr m ↦ sw.2 (i * w + j) (λ e. omega arith) (λ e. omega arith)
    ]

    lead_at : (j : ℕ) → j < w → at new (r * w + j) ≡ at lead j
    lead_at j h = u.kept j h ∙ sym (same j h)

    spare_at : at new (r * w + w - 1) ≡ at lead (w - 1)
    spare_at = ap (at new) (let e : r * w + w - 1 ≡ r * w + (w - 1) = omega arith in e) ∙ lead_at (w - 1) (omega arith)

    own_at : at new (r * w) ≡ at lead 0
    own_at = ap (at new) (let e : r * w ≡ r * w + 0 = omega arith in e) ∙ lead_at 0 (omega arith)

    put : IsSwapped 0 (w - 1) w (at lead) (cell last w r)
    put = record {
      first = ap (at last) (let e : r * w + 0 ≡ r * w = omega arith in e) ∙ sw.0 ∙ spare_at;
      second = ap (at last) (let e : r * w + (w - 1) ≡ r * w + w - 1 = omega arith in e) ∙ sw.1 ∙ own_at;
      others = λ k l n0 nb. sw.2 (r * w + k) (λ e. n0 (omega arith)) (λ e. nb (omega arith)) ∙ lead_at k l;
    }

    inside_row : r * w + w ≤ length new
    inside_row = omega (arith, long, Rattle.gs_simplex.proofs.Places.row_ends count w r rc)

    pub last_narrow : AreNarrowNumbers last
    last_narrow k h =
        let N : ℤ → Type 0 = λ t. IsNarrow t in let K : ℕ → Type 0 = λ t. IsNarrow (at last t) in
        elim (cases_eq k (r * w)) [
          | inl e ↦ subst K (sym e) (subst N (sym sw.0) (u.narrow (r * w + w - 1) (omega (arith, inside_row))))
          | inr n0 ↦ elim (cases_eq k (r * w + w - 1)) [
            | inl e ↦ subst K (sym e) (subst N (sym sw.1) (u.narrow (r * w) (omega (arith, inside_row))))
            | inr nb ↦ subst N (sym (sw.2 k n0 nb)) (u.narrow k (omega (arith, lasts)))
          ]
        ]

    pub pivot_done : IsPivotDone old last count w r q
    pivot_done = record {
      lead = (
        at lead,
        taken,
        put,
        λ i im ne. row_cleared_same q (w - 1) w (cell old w i) (cell old w i) (omega arith) (omega arith) (λ k l. refl) (at lead) (cell new w i)
            (cell last w i)
            (λ k l. sym (last_other i ne k l)) (cleared_old i (cell new w i) ne (u.others i im ne)),
      );
      narrow = last_narrow;
    }

    pub last_tops : (tops : List ℕ) → AreTops count w new tops → AreTops count w last tops
    last_tops tops h i im j jw = elim (cases_eq i r) [
      | inl e ↦
          (let P : ℕ → Type 0 = λ t. unsigned_abs (cell last w t j) ≤ slice_index tops t in let Q : ℤ → Type 0 = λ t. unsigned_abs t ≤ slice_index tops r in
          let Z : ℕ → Type 0 = λ t. unsigned_abs (cell last w r t) ≤ slice_index tops r in
          let at_row : (k : ℕ) → k < w → unsigned_abs (at lead k) ≤ slice_index tops r = λ k l. subst Q (lead_at k l) (h r rc k l) in
          subst P (sym e) (elim (cases_eq j 0) [
            | inl z ↦ subst Z (sym z) (subst Q (sym put.first) (at_row (w - 1) (omega arith)))
            | inr n0 ↦ elim (cases_eq j (w - 1)) [
              | inl z ↦ subst Z (sym z) (subst Q (sym put.second) (at_row 0 (omega arith)))
              | inr nb ↦ subst Q (sym (put.others j jw n0 nb)) (at_row j jw)
            ]
          ]))
      | inr ne ↦ (let Q : ℤ → Type 0 = λ t. unsigned_abs t ≤ slice_index tops i in subst Q (sym (last_other i ne j jw)) (h i im j jw))
    ]
