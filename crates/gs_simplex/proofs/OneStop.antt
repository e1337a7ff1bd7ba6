-- The path of a program from an opening stops in one way only.
use Rattle.std.proofs.Common.{◌≡◌, ℕ, ◌+◌, ◌-◌, ◌<◌, ◌≤◌, ◌⊎◌, inl, inr, length, ℤ, pos, ◌≤ℤ◌, ◌<ℤ◌, refl, sym, ap, subst, ◌∙◌, arith}
use Rattle.std.proofs.lemmas.Bool.{cases_order, cases_lt}
use Rattle.gs_simplex.specs.{declared.program.Program.{Program}, Rows.{IsNarrow}, Program.{Listing, IsRowsOf, IsOpening}, Path.{Stops, PathStops}}
use Rattle.gs_simplex.specs.Path.{Enters, Leaves, States, IsPath, NoneEnters, NoneLeaves, AllNarrow, IsFirstWide, PathStop, ends, wide, pivots, unbounded}
use Rattle.gs_simplex.proofs.{Ring.{linear}, Steps.{rows_same}, Bases.{IsFull}, Opening.{opened, trail_at}, PairLists.{row_decided, opened_pair_list}}
use Rattle.gs_simplex.proofs.Agree.{Agree, enters_same, lists_same, paths_agree}

-- two paths from one opening have the same lists and rows, as far as both go
module _ {p : Program} {o : Listing} {t t' : ℕ} {steps steps' : States} (u : IsOpening p o) (w : IsPath p o t steps) (w' : IsPath p o t' steps') where
  same_lists : (k : ℕ) → k ≤ t → k ≤ t' → steps.lists k ≡ steps'.lists k
  same_lists k h h' = elim (cases_lt k (length o)) [
    | inl less ↦ w.opens k h (omega arith) ∙ sym (w'.opens k h' (omega arith))
    | inr more ↦ (let q : length o + (k - length o) ≡ k = omega arith in let P : ℕ → Type 0 = λ x. steps.lists x ≡ steps'.lists x in
        subst P q (lists_same u w w' (k - length o) (omega arith) (omega arith)))
  ]

  agree_at : (k : ℕ) → k ≤ t → k ≤ t' → Agree p (steps.rows k) (steps'.rows k) (steps.aim k) (steps'.aim k)
  agree_at k h h' = elim (cases_lt k (length o)) [
    | inl less ↦
        (let f = opened o u.taken k (omega arith) in
        let P : Listing → Type 0 = λ x. IsRowsOf p x (steps.rows k) (steps.aim k) in
        let Q : Listing → Type 0 = λ x. IsRowsOf p x (steps'.rows k) (steps'.aim k) in
        let z = rows_same f.is_list f.regular (row_decided (opened_pair_list f))
        (subst P (w.opens k h (omega arith)) (w.rows k h)) (subst Q (w'.opens k h' (omega arith)) (w'.rows k h')) in
        record { rows = z.0; aim = z.1 })
    | inr more ↦ (let q : length o + (k - length o) ≡ k = omega arith in
        let P : ℕ → Type 0 = λ x. Agree p (steps.rows x) (steps'.rows x) (steps.aim x) (steps'.aim x) in
        subst P q (paths_agree u w w' (k - length o) (omega arith) (omega arith)))
  ]

narrow_same : (x y : ℤ) → x ≡ y → IsNarrow x → IsNarrow y
narrow_same x y e h = let P : ℤ → Type 0 = λ z. IsNarrow z in subst P e h

module _ {p : Program} {R R' : ℕ → ℕ → ℤ} {a a' : ℕ → ℤ} where
  module _ {i j : ℕ} {z : ℤ} where
    -- a first wide number is not in a table of narrow ones that agrees
    wide_not_narrow : Agree p R R' a a' → IsFirstWide p R a i j z → AllNarrow p R' a' → ⊥
    wide_not_narrow ag w n = elim w.here [
      | inl h ↦ w.wide (narrow_same (R' i j) z (sym (ag.rows i j h.0 h.1) ∙ h.2) (n.0 i j h.0 h.1))
      | inr h ↦ w.wide (narrow_same (a' j) z (sym (ag.aim j h.1) ∙ h.2) (n.1 j h.1))
    ]

    -- of two first wide numbers none stands before the other
    wide_order : {k l : ℕ} {y : ℤ} → Agree p R R' a a' → IsFirstWide p R a i j z → IsFirstWide p R' a' k l y → ((i < k) ⊎ ((i ≡ k) × (j < l))) → ⊥
    wide_order ag w v s = elim w.here [
      | inl h ↦ w.wide (narrow_same (R' i j) z (sym (ag.rows i j h.0 h.1) ∙ h.2) (v.before i j h.0 h.1 s))
      | inr h ↦ elim s [
        | inl less ↦ absurd (omega (arith, h.0, v.row))
        | inr q ↦ w.wide (narrow_same (a' j) z (sym (ag.aim j h.1) ∙ h.2) (v.before_aim j q.1 (omega (arith, h.0, q.0))))
      ]
    ]

  agree_back : Agree p R R' a a' → Agree p R' R a' a
  agree_back ag = record { rows = λ i j h k. sym (ag.rows i j h k); aim = λ j h. sym (ag.aim j h) }

module _ {p : Program} {R R' : ℕ → ℕ → ℤ} {a a' : ℕ → ℤ} where
  module _ {i j : ℕ} {z : ℤ} {k l : ℕ} {y : ℤ} where
    wide_same : Agree p R R' a a' → IsFirstWide p R a i j z → IsFirstWide p R' a' k l y → (i ≡ k) × (j ≡ l) × (z ≡ y)
    wide_same ag w v =
        let ik : i ≡ k = elim (cases_order i k) [
          | inl s ↦ s
          | inr x ↦ elim x [
            | inl less ↦ absurd (wide_order ag w v (inl less))
            | inr more ↦ absurd (wide_order (agree_back ag) v w (inl more))
          ]
        ] in
        let jl : j ≡ l = elim (cases_order j l) [
          | inl s ↦ s
          | inr x ↦ elim x [
            | inl less ↦ absurd (wide_order ag w v (inr (ik, less)))
            | inr more ↦ absurd (wide_order (agree_back ag) v w (inr (sym ik, more)))
          ]
        ] in (
          ik,
          jl,
          elim w.here [
            | inl h ↦ elim v.here [
              | inl g ↦ sym h.2 ∙ ag.rows i j h.0 h.1 ∙ ap (λ x. R' x j) ik ∙ ap (λ x. R' k x) jl ∙ g.2
              | inr g ↦ absurd (omega (arith, h.0, g.0))
            ]
            | inr h ↦ elim v.here [
              | inl g ↦ absurd (omega (arith, h.0, g.0))
              | inr g ↦ sym h.2 ∙ ag.aim j h.1 ∙ ap a' jl ∙ g.2
            ]
          ],
        )

  module _ {l : Listing} {f : ℕ} where
    none_enters : Agree p R R' a a' → NoneEnters p l a → Enters p l a' f → ⊥
    none_enters ag n en = let x : a f ≤ℤ pos 0 = n f en.column en.unlisted in let y : a f ≡ a' f = ag.aim f (omega (arith, en.column)) in
        let z : pos 0 <ℤ a' f = en.rises in omega (arith, linear)

    none_leaves : {g r d : ℕ} → IsFull p l → Agree p R R' a a' → Enters p l a f → NoneLeaves p l R f → Enters p l a' g → Leaves p l R' g r d → ⊥
    none_leaves {g} {r} {d} full ag en n en' lv =
        let s : f ≡ g = enters_same ag en en' in
        let rm : r < p.rows = full.is_list.row_inside r d lv.listed in
        let x : R r f ≤ℤ pos 0 = n r d lv.listed lv.not_free in
        let y : R r g ≡ R' r g = ag.rows r g rm (omega (arith, en'.column)) in
        let q : R r f ≡ R r g = ap (λ k. R r k) s in
        let z : pos 0 <ℤ R' r g = lv.pivot in omega (arith, linear)

-- two paths at the last step of the first
module _ {p : Program} {o : Listing} {t t' : ℕ} {steps steps' : States} (u : IsOpening p o) (w : IsPath p o t steps) (w' : IsPath p o t' steps')
    (h : t ≤ t') where
  there : {e : ℕ} → Enters p (steps'.lists t) (steps'.aim t) e → Enters p (steps.lists t) (steps'.aim t) e
  there {e} en = let P : Listing → Type 0 = λ y. Enters p y (steps'.aim t) e in subst P (sym (same_lists u w w' t (omega arith) h)) en

  agree_last : Agree p (steps.rows t) (steps'.rows t) (steps.aim t) (steps'.aim t)
  agree_last = agree_at u w w' t (omega arith) h

  -- where no column enters in the one, none enters in the other
  not_enters : {e : ℕ} → NoneEnters p (steps.lists t) (steps.aim t) → Enters p (steps'.lists t) (steps'.aim t) e → ⊥
  not_enters none en = none_enters agree_last none (there en)

  -- a number that is wide in the one is wide in the other
  not_narrow : {i j : ℕ} {z : ℤ} → IsFirstWide p (steps.rows t) (steps.aim t) i j z → AllNarrow p (steps'.rows t) (steps'.aim t) → ⊥
  not_narrow first narrow = wide_not_narrow agree_last first narrow

  -- where no row leaves in the one, none leaves in the other
  not_leaves : {e f r c : ℕ} → length o ≤ t → Enters p (steps.lists t) (steps.aim t) e → NoneLeaves p (steps.lists t) (steps.rows t) e
      → Enters p (steps'.lists t) (steps'.aim t) f → Leaves p (steps'.lists t) (steps'.rows t) f r c → ⊥
  not_leaves {f} {r} {c} whole en none en' lv =
      let Q : Listing → Type 0 = λ y. Leaves p y (steps'.rows t) f r c in
      none_leaves (trail_at u w t whole (omega arith)).0 agree_last en none (there en') (subst Q (sym (same_lists u w w' t (omega arith) h)) lv)

stops_path : {p : Program} {o : Listing} {t : ℕ} {steps : States} (limit : ℕ) (x : PathStop) → Stops p o limit t steps x
    → (IsPath p o t steps) × (t ≤ length o + limit)
stops_path limit (ends n l) s = (s.0.path, s.0.within)
stops_path limit (wide k i j z) s = (s.0, s.2)
stops_path limit pivots s = (s.0.path, s.0.within)
stops_path limit (unbounded col) s = (s.0.path, s.0.within)

module _ {p : Program} {o : Listing} {t' : ℕ} {steps' : States} (u : IsOpening p o) (limit t : ℕ) (steps : States) where
  -- a path that stops is not the front of a longer one
  beyond : (x : PathStop) → Stops p o limit t steps x → IsPath p o t' steps' → t < t' → t' ≤ length o + limit → ⊥
  beyond (ends n l) s w' tt h = not_enters u s.0.path w' (omega arith) s.1 (w'.pivots t s.0.whole tt).enters
  beyond (wide k i j z) s w' tt h = not_narrow u s.0 w' (omega arith) s.4.4 (w'.narrow t s.1 tt)
  beyond pivots s w' tt h = let q : t ≡ length o + limit = s.1 in omega arith
  beyond (unbounded col) s w' tt h =
      let v = w'.pivots t s.0.whole tt in not_leaves u s.0.path w' (omega arith) s.0.whole s.1.2 s.1.3 v.enters v.place.4

module _ {p : Program} {o : Listing} (u : IsOpening p o) (limit t : ℕ) (steps steps' : States) where
  one_step : (x y : PathStop) → Stops p o limit t steps x → Stops p o limit t steps' y → x ≡ y
  one_step (ends n l) (ends n' l') s s' =
      let q : n ≡ n' = omega (arith, s.2, s'.2) in let r : l ≡ l' = s.3 ∙ same_lists u s.0.path s'.0.path t (omega arith) (omega arith) ∙ sym s'.3 in
      ap (λ k. ends k l) q ∙ ap (λ k. ends n' k) r
  one_step (ends n l) (wide k i j z) s s' = absurd (not_narrow u s'.0 s.0.path (omega arith) s'.4.4 (s.0.narrow s'.1))
  one_step (ends n l) pivots s s' = absurd (not_enters u s.0.path s'.0.path (omega arith) s.1 s'.2.3)
  one_step (ends n l) (unbounded k) s s' = absurd (not_enters u s.0.path s'.0.path (omega arith) s.1 s'.1.2)
  one_step (wide k i j z) (wide k' i' j' z') s s' =
      let w = wide_same (agree_at u s.0 s'.0 t (omega arith) (omega arith)) s.4.4 s'.4.4 in
      let kk : k ≡ k' = s.3 ∙ sym s'.3 in let ii : i ≡ i' = s.4.2 ∙ ap (λ x. x + 1) w.0 ∙ sym s'.4.2 in
      let jj : j ≡ j' = s.4.3 ∙ ap (λ x. x + 1) w.1 ∙ sym s'.4.3 in
      ap (λ x. wide x i j z) kk ∙ ap (λ x. wide k' x j z) ii ∙ ap (λ x. wide k' i' x z) jj ∙ ap (λ x. wide k' i' j' x) w.2
  one_step (wide k i j z) (ends n l) s s' = absurd (not_narrow u s.0 s'.0.path (omega arith) s.4.4 (s'.0.narrow s.1))
  one_step (wide k i j z) pivots s s' = absurd (not_narrow u s.0 s'.0.path (omega arith) s.4.4 (s'.0.narrow s.1))
  one_step (wide k i j z) (unbounded m) s s' = absurd (not_narrow u s.0 s'.0.path (omega arith) s.4.4 (s'.0.narrow s.1))
  one_step pivots pivots s s' = refl
  one_step pivots (ends n l) s s' = absurd (not_enters u s'.0.path s.0.path (omega arith) s'.1 s.2.3)
  one_step pivots (wide k i j z) s s' = absurd (not_narrow u s'.0 s.0.path (omega arith) s'.4.4 (s.0.narrow s'.1))
  one_step pivots (unbounded k) s s' = absurd (not_leaves u s'.0.path s.0.path (omega arith) s'.0.whole s'.1.2 s'.1.3 s.2.3 s.2.4)
  one_step (unbounded k) (unbounded k') s s' =
      let w = agree_at u s.0.path s'.0.path t (omega arith) (omega arith) in
      let q : s.1.0 ≡ s'.1.0 = enters_same w s.1.2 (there u s.0.path s'.0.path (omega arith) s'.1.2) in
      ap unbounded (s.1.1 ∙ ap (λ x. x + 1) q ∙ sym s'.1.1)
  one_step (unbounded k) (ends n l) s s' = absurd (not_enters u s'.0.path s.0.path (omega arith) s'.1 s.1.2)
  one_step (unbounded m) (wide k i j z) s s' = absurd (not_narrow u s'.0 s.0.path (omega arith) s'.4.4 (s.0.narrow s'.1))
  one_step (unbounded k) pivots s s' = absurd (not_leaves u s.0.path s'.0.path (omega arith) s.0.whole s.1.2 s.1.3 s'.2.3 s'.2.4)

-- the path of a program from an opening stops in one way only
pub stops_agree : (p : Program) (o : Listing) (limit : ℕ) (x y : PathStop) → IsOpening p o → PathStops p o limit x → PathStops p o limit y → x ≡ y
stops_agree p o limit x y u f g =
    let s = f.stops in let s' = g.stops in
    let v = stops_path limit x s.2 in let v' = stops_path limit y s'.2 in
    elim (cases_order s.0 s'.0) [
      | inl q ↦ (let P : ℕ → Type 0 = λ k. Stops p o limit k s.1 x in one_step u limit s'.0 s.1 s'.1 x y (subst P q s.2) s'.2)
      | inr z ↦ elim z [
        | inl less ↦ absurd (beyond u limit s.0 s.1 x s.2 v'.0 less v'.1)
        | inr more ↦ absurd (beyond u limit s'.0 s'.1 y s'.2 v.0 more v.1)
      ]
    ]
