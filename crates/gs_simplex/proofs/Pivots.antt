-- The list after a turn, with one pair changed: what is listed there, its rows after the elimination, and that it stays regular.
use Rattle.std.proofs.Common.{◌≡◌, ◌≢◌, ℕ, ◌+◌, ◌<◌, ◌≤◌, ◌⊎◌, inl, inr, length, slice_index_or, slice_set, ℤ, pos, ◌<ℤ◌, refl, sym, ap, subst, ◌∙◌, arith}
use Rattle.std.proofs.{Common.{get_or-set_other, get_or-set_same}, lemmas.Bool.{cases_eq}, lemmas.List.{length-set, get_or_default}}
use Rattle.gs_simplex.specs.{declared.program.Program.{Program}, Elimination.{IsEliminated}, Program.{Listing, IsListed, ColListed, IsRowsOf, IsRegularList}}
use Rattle.gs_simplex.proofs.{Ring.{linear}, Rows.{regular_swap}, Pivot.{pivot_self_listed}, Lists.{IsChange, rows_after, listed_renamed}}
use Rattle.gs_simplex.proofs.Steps.{IsList, change_is_list}

-- no row is named at two places
pub record IsOnce (l : Listing) : Type 0 where
  pub place : (q k : ℕ) → q < length l → k < length l → (slice_index_or l q (0, 0)).0 ≡ (slice_index_or l k (0, 0)).0 → q ≡ k

-- the default of a place inside a list does not matter
pub any_default : (l : Listing) (k : ℕ) (x y : ℕ × ℕ) → k < length l → slice_index_or l k x ≡ slice_index_or l k y
any_default l k x y h = get_or_default l k x y h

not_both : (x : ℤ) → pos 0 <ℤ x → x ≡ pos 0 → ⊥
not_both x p e = omega (arith, linear)

-- ---- the list of a turn
-- a list of different rows and columns names row r with column c at place q
pub record IsPlace (p : Program) (l : Listing) (q r c : ℕ) : Type 0 where
  pub inside : q < length l
  pub pair : slice_index_or l q (0, 0) ≡ (r + 1, c + 1)
  pub is_list : IsList p l
  pub once : IsOnce l

module _ {p : Program} {l : Listing} {q r c : ℕ} (at : IsPlace p l q r c) (e : ℕ) where
  abbrev next : Listing
  next = slice_set l q (r + 1, e + 1)

  pub listed_set_here : IsListed next r e
  listed_set_here = (q, (let long = length-set l q (r + 1, e + 1) in omega (arith, long)), get_or-set_same l q (r + 1, e + 1) (r + 1, e + 1) at.inside)

  pub listed_before : IsListed l r c
  listed_before = (q, at.inside, any_default l q (r + 1, c + 1) (0, 0) at.inside ∙ at.pair)

  pub listed_set_old : (i j : ℕ) → IsListed l i j → i ≢ r → IsListed next i j
  listed_set_old i j h ne =
      let apart : h.0 ≢ q = λ s. ne (let f : (i + 1, j + 1) ≡ (r + 1, c + 1) =
      sym h.2 ∙ any_default l h.0 (i + 1, j + 1) (0, 0) h.1 ∙ ap (λ k. slice_index_or l k (0, 0)) s ∙ at.pair in
      let g : i + 1 ≡ r + 1 = ap (λ (w : ℕ × ℕ). w.0) f in omega arith) in
      (h.0, (let long = length-set l q (r + 1, e + 1) in omega (arith, long, h.1)), get_or-set_other l q h.0 (r + 1, e + 1) (i + 1, j + 1) apart ∙ h.2)

  pub listed_set_cases : (i j : ℕ) → IsListed next i j → ((i ≡ r) × (j ≡ e)) ⊎ ((IsListed l i j) × (i ≢ r))
  listed_set_cases i j h =
      let inside : h.0 < length l = (let long = length-set l q (r + 1, e + 1) in omega (arith, long, h.1)) in
      elim (cases_eq h.0 q) [
        | inl s ↦ (let f : (r + 1, e + 1) ≡ (i + 1, j + 1) = sym (get_or-set_same l q (r + 1, e + 1) (i + 1, j + 1) at.inside)
            ∙ ap (λ k. slice_index_or next k (i + 1, j + 1)) (sym s) ∙ h.2 in
            let g : r + 1 ≡ i + 1 = ap (λ (w : ℕ × ℕ). w.0) f in let g2 : e + 1 ≡ j + 1 = ap (λ (w : ℕ × ℕ). w.1) f in inl (omega arith, omega arith))
        | inr ne ↦ (let f : slice_index_or l h.0 (i + 1, j + 1) ≡ (i + 1, j + 1) = sym (get_or-set_other l q h.0 (r + 1, e + 1) (i + 1, j + 1) ne) ∙ h.2 in
            inr (
              (h.0, inside, f),
              λ s. ne (at.once.place h.0 q inside at.inside (ap (λ (w : ℕ × ℕ). w.0) (any_default l h.0 (0, 0) (i + 1, j + 1) inside ∙ f)
                  ∙ (let g : i + 1 ≡ r + 1 = omega arith in g) ∙ sym (ap (λ (w : ℕ × ℕ). w.0) at.pair))),
            ))
      ]

  pub turn_changes : e < p.cols → (ColListed l e → ⊥) → IsChange p l next r e
  turn_changes en out = record {
    row = at.is_list.row_inside r c listed_before;
    column = en;
    inside = λ j h. elim (listed_set_cases h.0 j h.1) [ inl w ↦ omega (arith, w.1) | inr w ↦ at.is_list.column_inside h.0 j w.0 ];
    row_inside = λ i j h. elim (listed_set_cases i j h)
        [ inl w ↦ omega (arith, w.0, at.is_list.row_inside r c listed_before) | inr w ↦ at.is_list.row_inside i j w.0 ];
    old = λ i j h ne. elim (listed_set_cases i j h) [ inl w ↦ absurd (ne w.0) | inr w ↦ w.0 ];
    columns = λ j h ne. elim (listed_set_cases h.0 j h.1) [ inl w ↦ absurd (ne w.1) | inr w ↦ (h.0, w.0) ];
    rows = λ i off h. elim (cases_eq i r) [
      | inl s ↦ off (e, (let P : ℕ → Type 0 = λ x. IsListed next x e in subst P (sym s) listed_set_here))
      | inr ne ↦ off (h.0, listed_set_old i h.0 h.1 ne)
    ];
    here = listed_set_here;
    one_column = λ j h. elim (listed_set_cases r j h) [ inl w ↦ w.1 | inr w ↦ absurd (w.1 refl) ];
    one_row = λ i h. elim (listed_set_cases i e h) [ inl w ↦ w.0 | inr w ↦ absurd (out (i, w.0)) ];
  }

  pub turn_is_list : e < p.cols → (ColListed l e → ⊥) → IsList p next
  turn_is_list en out = change_is_list at.is_list (turn_changes en out)

  -- each place keeps its row
  pub row_kept : (k : ℕ) → (slice_index_or next k (0, 0)).0 ≡ (slice_index_or l k (0, 0)).0
  row_kept k = elim (cases_eq k q) [
    | inl s ↦ (let P : ℕ → Type 0 = λ x. (slice_index_or next x (0, 0)).0 ≡ (slice_index_or l x (0, 0)).0 in
        subst P (sym s) (ap (λ (w : ℕ × ℕ). w.0) (get_or-set_same l q (r + 1, e + 1) (0, 0) at.inside) ∙ sym (ap (λ (w : ℕ × ℕ). w.0) at.pair)))
    | inr ne ↦ ap (λ (w : ℕ × ℕ). w.0) (get_or-set_other l q k (r + 1, e + 1) (0, 0) ne)
  ]

  pub turn_is_once : IsOnce next
  turn_is_once = record {
    place = λ x y xl yl s. (let long = length-set l q (r + 1, e + 1) in
        at.once.place x y (omega (arith, long)) (omega (arith, long)) (sym (row_kept x) ∙ s ∙ row_kept y));
  }

  -- the rows after a turn
  pub turn_rows : {R Q : ℕ → ℕ → ℤ} {a b : ℕ → ℤ} → e < p.cols → (ColListed l e → ⊥) → pos 0 <ℤ R r e → IsRowsOf p l R a → IsEliminated p R a r e Q b
      → ((j : ℕ) → j ≤ p.cols → Q r j ≡ R r j) → IsRowsOf p next Q b
  turn_rows {R} {Q} en out up u el same =
      let ch = turn_changes en out in
      let w = u.listed r c listed_before in
      let m = pivot_self_listed {ColIn' = ColListed next} w.2 up (λ j h ne. elim (listed_set_cases h.0 j h.1) [
        | inl x ↦ absurd (ne x.1)
        | inr x ↦ (
          (h.0, x.0),
          λ s. x.1 (at.is_list.one_row h.0 r c (let P : ℕ → Type 0 = λ k. IsListed l h.0 k in subst P s x.0) listed_before),
        )
      ]) in
      let v = listed_renamed m (λ j h. ch.inside j h) en same in
      rows_after u ch el (record {
        combination =
            v.combination;
        own = v.own;
        others = λ i im off. v.others i im (ch.rows i off);
        zeros = v.zeros;
      })

  pub turn_is_regular : {R : ℕ → ℕ → ℤ} {a : ℕ → ℤ} → e < p.cols → (ColListed l e → ⊥) → pos 0 <ℤ R r e → IsRowsOf p l R a → IsRegularList p l
      → IsRegularList p next
  turn_is_regular {R} en out up u reg =
      let w = u.listed r c listed_before in
      let g = regular_swap e reg w.2 (at.is_list.column_inside r c listed_before) en (λ z. not_both (R r e) up z) (λ j h ne. (
        (h.0, listed_set_old h.0 j h.1 (λ s. ne (at.is_list.one_column r j c (let P : ℕ → Type 0 = λ k. IsListed l k j in subst P s h.1) listed_before))),
        at.is_list.column_inside h.0 j h.1,
      )) (r, listed_set_here) in
      record {
        only = λ z off on. g.only z (λ i im no_row. off i im (λ h. elim (listed_set_cases i h.0 h.1) [
          | inl x ↦ no_row (c, (let P : ℕ → Type 0 = λ k. IsListed l k c in subst P (sym x.0) listed_before))
          | inr x ↦ no_row (h.0, x.0)
        ])) on;
      }
