-- Rows that are 0 outside some places.
use Rattle.std.proofs.Common.{◌≡◌, ◌≢◌, ℕ, ◌+◌, ◌<◌, ◌≤◌, ◌⊎◌, inl, inr, List, length, slice_index, slice_set, ℤ, pos, ◌-ℤ◌, ◌*ℤ◌, sym, ap, subst, ◌∙◌, arith}
use Rattle.std.proofs.{Common.{get_or-set_other, get_or-set_same}, lemmas.Bool.{cases_lt}}
use Rattle.gs_simplex.specs.{Numbers.{at, IsDivided}, Support.{IsSupport, IsChange}}
use Rattle.gs_simplex.proofs.{Ring.{linear, one_times, times_zero, cancel_zero}, Solutions.{find_col}}

-- columns below `below` in rising order; in each other column below `below` the row is 0
pub record AreFilled (row : ℕ → ℤ) (filled : List ℕ) (count below : ℕ) : Type 0 where
  pub few : count ≤ below
  pub under : (k : ℕ) → k < count → slice_index filled k < below
  pub rises : (k h : ℕ) → k < h → h < count → slice_index filled k < slice_index filled h
  pub all : (j : ℕ) → j < below → ((k : ℕ) → k < count → slice_index filled k ≢ j) → row j ≡ pos 0

-- a column at one of the places, or at none
pub place_or_none : (places : List ℕ) (found j : ℕ) → ((k : ℕ) × (k < found) × (slice_index places k ≡ j)) ⊎ ((k : ℕ) → k < found → slice_index places k ≢ j)
place_or_none places found j = elim (find_col found (λ k. slice_index places k) j) [ inl f ↦ inl (f.0, f.1, f.2) | inr none ↦ inr none ]

-- what holds at the places and of 0 elsewhere holds everywhere
pub everywhere : (Q : ℕ → ℤ → Type 0) (places : List ℕ) (found width : ℕ) (row lead : ℕ → ℤ) → IsSupport places found width row lead
    → ((k : ℕ) → k < found → Q (slice_index places k) (row (slice_index places k))) → ((j : ℕ) → Q j (pos 0)) → (j : ℕ) → j < width → Q j (row j)
everywhere Q places found width row lead u here zero j h = elim (place_or_none places found j) [
  | inl f ↦ (let P : ℕ → Type 0 = λ t. Q t (row t) in subst P f.2 (here f.0 f.1))
  | inr none ↦ (let P : ℤ → Type 0 = λ t. Q j t in subst P (sym (u.outside j h none).0) (zero j))
]

pub support_row : (places : List ℕ) (found width : ℕ) (row lead : ℕ → ℤ) → IsSupport places found width row lead → IsSupport places found width row row
support_row places found width row lead u = record {
  few = u.few;
  inside = u.inside;
  differ = u.differ;
  outside = λ j h none. (let z = (u.outside j h none).0 in (z, z));
}

-- a row divided is 0 where it was
pub support_divided : (places : List ℕ) (found width : ℕ) (row new : ℕ → ℤ) → IsSupport places found width row row → IsDivided width row new
    → IsSupport places found width new new
support_divided places found width row new u d = record {
  few = u.few;
  inside = u.inside;
  differ = u.differ;
  outside = λ j h none. (let g = d.multiple.by in
      let z : new j ≡ pos 0 = cancel_zero g.0 (new j) g.1 (sym (g.2 j h) ∙ (u.outside j h none).0) in (z, z));
}

both_zero : (own far x y : ℤ) → x ≡ pos 0 → y ≡ pos 0 → own *ℤ x -ℤ far *ℤ y ≡ pos 0
both_zero own far x y e f =
    let a : own *ℤ x ≡ pos 0 = ap (λ t. own *ℤ t) e ∙ times_zero own in let b : far *ℤ y ≡ pos 0 = ap (λ t. far *ℤ t) f ∙ times_zero far in
    omega (arith, linear)

-- the products of a row and a lead are 0 where both are
pub support_mixed : (places : List ℕ) (found width : ℕ) (row lead mid : ℕ → ℤ) (own far : ℤ) → IsSupport places found width row lead
    → ((j : ℕ) → j < width → mid j ≡ own *ℤ row j -ℤ far *ℤ lead j) → IsSupport places found width mid mid
support_mixed places found width row lead mid own far u is = record {
  few = u.few;
  inside = u.inside;
  differ = u.differ;
  outside = λ j h none. (let z : mid j ≡ pos 0 = is j h ∙ both_zero own far (row j) (lead j) (u.outside j h none).0 (u.outside j h none).1 in (z, z));
}

-- own times a row less far times a lead changes nothing where both are 0, and where own is 1 and the lead is 0
pub change_of_row : (places : List ℕ) (found width : ℕ) (row lead : ℕ → ℤ) (own far : ℤ) → IsSupport places found width row lead
    → IsChange places found width row lead own far
change_of_row places found width row lead own far u = record {
  few = u.few;
  inside = u.inside;
  differ = u.differ;
  outside = λ j h none. both_zero own far (row j) (lead j) (u.outside j h none).0 (u.outside j h none).1 ∙ sym (u.outside j h none).0;
}

one_less_none : (own far x y : ℤ) → own ≡ pos 1 → y ≡ pos 0 → own *ℤ x -ℤ far *ℤ y ≡ x
one_less_none own far x y e f =
    let a : own *ℤ x ≡ x = ap (λ t. t *ℤ x) e ∙ one_times x in let b : far *ℤ y ≡ pos 0 = ap (λ t. far *ℤ t) f ∙ times_zero far in omega (arith, linear)

pub change_of_lead : (places : List ℕ) (found width : ℕ) (row lead : ℕ → ℤ) (own far : ℤ) → own ≡ pos 1 → IsSupport places found width lead lead
    → IsChange places found width row lead own far
change_of_lead places found width row lead own far e u = record {
  few = u.few;
  inside = u.inside;
  differ = u.differ;
  outside = λ j h none. one_less_none own far (row j) (lead j) e (u.outside j h none).1;
}

-- the first `found` places are different columns
pub record AreColumns (places : List ℕ) (found width : ℕ) : Type 0 where
  pub inside : (k : ℕ) → k < found → slice_index places k < width
  pub differ : (k h : ℕ) → k < found → h < found → slice_index places k ≡ slice_index places h → k ≡ h

pub columns_of : (places : List ℕ) (found width : ℕ) (row lead : ℕ → ℤ) → IsSupport places found width row lead → AreColumns places found width
columns_of places found width row lead u = record { inside = u.inside; differ = u.differ }

pub columns_changed : (places : List ℕ) (found width : ℕ) (row lead : ℕ → ℤ) (own far : ℤ) → IsChange places found width row lead own far
    → AreColumns places found width
columns_changed places found width row lead own far u = record { inside = u.inside; differ = u.differ }

-- ---- one place after the other is written
module _ (places : List ℕ) (found k width : ℕ) (old now : List ℤ) (z : ℤ) (u : AreColumns places found width) (kf : k < found) (long : length now ≡ width)
    (left : (j : ℕ) → ((h : ℕ) → h < k → slice_index places h ≢ j) → at now j ≡ at old j) where
  pub inside_now : slice_index places k < length now
  inside_now = omega (arith, u.inside k kf, long)

  pub written : at (slice_set now (slice_index places k) z) (slice_index places k) ≡ z
  written = get_or-set_same now (slice_index places k) z (pos 0) inside_now

  pub unwritten : (h : ℕ) → h < k → at (slice_set now (slice_index places k) z) (slice_index places h) ≡ at now (slice_index places h)
  unwritten h hk = get_or-set_other now (slice_index places k) (slice_index places h) z (pos 0) (λ e. let q : h ≡ k = u.differ h k (omega arith) kf e in
      omega arith)

  pub still_old : at now (slice_index places k) ≡ at old (slice_index places k)
  still_old = left (slice_index places k) (λ h hk e. let q : h ≡ k = u.differ h k (omega arith) kf e in omega arith)

  pub left_more : (j : ℕ) → ((h : ℕ) → h < k + 1 → slice_index places h ≢ j) → at (slice_set now (slice_index places k) z) j ≡ at old j
  left_more j none = get_or-set_other now (slice_index places k) j z (pos 0) (λ e. none k (omega arith) (sym e)) ∙ left j (λ h hk. none h (omega arith))

  -- what holds at the places so far
  pub done_more : (Q : ℕ → ℤ → Type 0) → ((h : ℕ) → h < k → Q (slice_index places h) (at now (slice_index places h))) → Q (slice_index places k) z
      → (h : ℕ) → h < k + 1 → Q (slice_index places h) (at (slice_set now (slice_index places k) z) (slice_index places h))
  done_more Q done here h hk = elim (cases_lt h k) [
    | inl less ↦ (let P : ℤ → Type 0 = λ t. Q (slice_index places h) t in subst P (sym (unwritten h less)) (done h less))
    | inr more ↦
        (let e : k ≡ h = omega arith in let P : ℤ → Type 0 = λ t. Q (slice_index places k) t in
        let R : ℕ → Type 0 = λ t. Q (slice_index places t) (at (slice_set now (slice_index places k) z) (slice_index places t)) in
        subst R e (subst P (sym written) here))
  ]

-- all places written
pub all_written : (Q : ℕ → ℤ → Type 0) (places : List ℕ) (found width : ℕ) (now : List ℤ)
    → ((k : ℕ) → k < found → Q (slice_index places k) (at now (slice_index places k)))
    → ((j : ℕ) → j < width → ((h : ℕ) → h < found → slice_index places h ≢ j) → Q j (at now j)) → (j : ℕ) → j < width → Q j (at now j)
all_written Q places found width now here none j h = elim (place_or_none places found j) [
  | inl f ↦ (let P : ℕ → Type 0 = λ t. Q t (at now t) in subst P f.2 (here f.0 f.1))
  | inr out ↦ none j h out
]
