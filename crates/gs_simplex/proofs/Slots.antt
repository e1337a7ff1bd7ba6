-- Where columns stand at the start: noted as the only row with a number other than 0, then given slots, and the rows set by places.
use Rattle.std.proofs.Common.{◌≡◌, ◌≢◌, ℕ, ◌+◌, ◌-◌, ◌*◌, ◌<◌, ◌≤◌, ◌^◌, inl, inr, List, ◌++◌, length, slice_index, slice_set, ℤ, pos, refl, sym, ap}
use Rattle.std.proofs.Common.{◌⊎◌, ◌∷◌, [], slice_index_or, subst, ◌∙◌, arith, below_more, get_or-set_other, get_or-set_same}
use Rattle.std.proofs.{lemmas.Bool.{cases_eq, cases_lt}, lemmas.List.{length-append, length_push, get_or_append_left, get_or-append_right, get_or_push}}
use Rattle.gs_simplex.specs.{declared.program.Program.{Program}, Rows.{IsNarrow}, Program.{number, aim_of, rows_of, IsShaped}, State.{raw, AreOnly, IsRawRow}}
use Rattle.gs_simplex.specs.{Numbers.{at, cell, AreNarrowNumbers}, Columns.{place_in, at_place, in_columns, AreStands, AreSlots, IsNoted, IsSetRow}}
use Rattle.gs_simplex.proofs.{Places.{row_inside}, Standing.{placed, same_place, number_inside, number_none}}

-- ---- the program's rows
module _ (p : Program) where
  pub raw_row : (i j : ℕ) → i < p.rows → j ≤ p.cols → raw p i j ≡ number p i j
  raw_row i j h l = grind (arith, Rattle.std.proofs.lemmas.Bool.Decides.nat_tests)

  pub raw_zero : (i : ℕ) → i < p.rows → raw p i (p.cols + 1) ≡ pos 0
  raw_zero i h = grind (arith, Rattle.std.proofs.lemmas.Bool.Decides.nat_tests)

  pub raw_aim : (i j : ℕ) → i ≡ p.rows → j < p.cols → raw p i j ≡ aim_of p j
  raw_aim i j e h = grind (arith, Rattle.std.proofs.lemmas.Bool.Decides.nat_tests)

  pub raw_last : (i : ℕ) → i ≡ p.rows → raw p i p.cols ≡ pos 0
  raw_last i e = grind (arith, Rattle.std.proofs.lemmas.Bool.Decides.nat_tests)

  pub raw_multiple : (i j : ℕ) → i ≡ p.rows → j ≡ p.cols + 1 → raw p i j ≡ pos 1
  raw_multiple i j e f = grind (arith, Rattle.std.proofs.lemmas.Bool.Decides.nat_tests)

  pub raw_narrow : IsShaped p → (i j : ℕ) → i ≤ p.rows → j < p.cols + 2 → IsNarrow (raw p i j)
  raw_narrow s i j im jn =
      let N : ℤ → Type 0 = λ t. IsNarrow t in let zero : IsNarrow (pos 0) = omega arith in let one : IsNarrow (pos 1) = omega arith in
      elim (cases_lt i p.rows) [
        | inl l ↦ elim (cases_eq j (p.cols + 1)) [
          | inl e ↦ (let P : ℕ → Type 0 = λ t. IsNarrow (raw p i t) in subst P (sym e) (subst N (sym (raw_zero i l)) zero))
          | inr ne ↦ subst N (sym (raw_row i j l (omega arith))) (s.narrow i j l (omega arith))
        ]
        | inr g ↦ (let e : i ≡ p.rows = omega arith in elim (cases_lt j p.cols) [
          | inl l ↦ subst N (sym (raw_aim i j e l)) (s.narrow_aim j l)
          | inr m ↦ elim (cases_eq j p.cols) [
            | inl f ↦ (let P : ℕ → Type 0 = λ t. IsNarrow (raw p i t) in subst P (sym f) (subst N (sym (raw_last i e)) zero))
            | inr ne ↦ subst N (sym (raw_multiple i j e (omega arith))) one
          ]
        ])
      ]

  -- a row with its right side and 0
  pub raw_of_row : (i : ℕ) (row ys : List ℤ) → IsShaped p → i < p.rows → row ≡ slice_index_or (rows_of p) i [] → ys ≡ row ++ pos 0 ∷ [] → IsRawRow p i ys
  raw_of_row i row ys s h is e =
      let wide : length row ≡ p.cols + 1 = ap (λ (t : List ℤ). length t) is ∙ s.row i h in
      record {
        long = omega (arith, ap (λ (t : List ℤ). length t) e, length_push row (pos 0), wide);
        each = λ j l. elim (cases_eq j (p.cols + 1)) [
          | inr ne ↦ (let k : j < p.cols + 1 = omega (arith, l, ne) in
              ap (λ t. at t j) e ∙ get_or_append_left row (pos 0 ∷ []) (pos 0) j (omega (arith, wide, k)) ∙ ap (λ t. at t j) is
              ∙ sym (raw_row i j h (omega (arith, k))))
          | inl q ↦ ap (λ t. at t j) e ∙ get_or_push row (pos 0) (pos 0) j (wide ∙ sym q) ∙ sym (raw_zero i h) ∙ ap (raw p i) (sym q)
        ];
      }

  -- the aim with 0 and 1
  pub raw_of_aim : (i : ℕ) (aim mid ys : List ℤ) → IsShaped p → i ≡ p.rows → aim ≡ p.parts.aim → mid ≡ aim ++ pos 0 ∷ [] → ys ≡ mid ++ pos 1 ∷ [] → IsRawRow p i ys
  raw_of_aim i aim mid ys s h is d e =
      let wide : length aim ≡ p.cols = ap (λ (t : List ℤ). length t) is ∙ s.aim in
      let middle : length mid ≡ p.cols + 1 = ap (λ (t : List ℤ). length t) d ∙ length_push aim (pos 0) ∙ ap (λ n. n + 1) wide in
      record {
        long = omega (arith, ap (λ (t : List ℤ). length t) e, length_push mid (pos 1), middle);
        each = λ j l. elim (cases_eq j (p.cols + 1)) [
          | inl q ↦ ap (λ t. at t j) e ∙ get_or_push mid (pos 1) (pos 0) j (middle ∙ sym q) ∙ sym (raw_multiple i j h q)
          | inr ne ↦ (let left = ap (λ t. at t j) e ∙ get_or_append_left mid (pos 1 ∷ []) (pos 0) j (omega (arith, middle, l, ne)) in
              elim (cases_eq j p.cols) [
                | inl q ↦ left ∙ ap (λ t. at t j) d ∙ get_or_push aim (pos 0) (pos 0) j (wide ∙ sym q)
                    ∙ sym (raw_last i h) ∙ ap (raw p i) (sym q)
                | inr n ↦ (let k : j < p.cols = omega (arith, l, ne, n) in
                    left ∙ ap (λ t. at t j) d ∙ get_or_append_left aim (pos 0 ∷ []) (pos 0) j (omega (arith, wide, k)) ∙ ap (λ t. at t j) is
                    ∙ sym (raw_aim i j h k))
              ])
        ];
      }

  -- one more row is noted
  pub only_more : (i : ℕ) (old new : ℕ → ℕ) → i < p.rows + 1 → p.rows < 2 ^ 31 → AreOnly p i old
      → ((j : ℕ) → j < p.cols + 2 → IsNoted i (raw p i j) (old j) (new j)) → AreOnly p (i + 1) new
  only_more i old new im small u noted h j hi jn = elim (cases_lt h i) [
    | inl l ↦ elim (noted j jn) [
      | inl a ↦ elim (u h j l jn) [ inl x ↦ inl (a.1 ∙ x) | inr y ↦ elim y [ inl x ↦ inr (inl (a.1 ∙ x)) | inr x ↦ inr (inr x) ] ]
      | inr b ↦ elim b [
        | inl a ↦ elim (u h j l jn) [
          | inl x ↦ absurd (omega (arith, a.0, x, l, im, small))
          | inr y ↦ elim y [ inl x ↦ absurd (omega (arith, a.0, x)) | inr x ↦ inr (inr x) ]
        ]
        | inr a ↦ inr (inl a)
      ]
    ]
    | inr m ↦ (let e : i ≡ h = omega (arith, m, hi) in elim (noted j jn) [
      | inl a ↦ inr (inr (ap (λ t. raw p t j) (sym e) ∙ a.0))
      | inr b ↦ elim b [ inl a ↦ inl (a.1 ∙ e) | inr a ↦ inr (inl a) ]
    ])
  ]

-- ---- slots are given
pub record AreSlotsSoFar (rows count : ℕ) (owns : List ℕ) (old new : List ℕ) (place : ℕ) : Type 0 where
  pub slots : AreSlots rows count owns (slice_index old) (slice_index new) place
  pub left : (k : ℕ) → count ≤ k → slice_index new k ≡ slice_index old k

-- a column that is a row's own stays
pub slots_own : {rows count : ℕ} {owns old new : List ℕ} {place : ℕ} → AreSlotsSoFar rows count owns old new place → slice_index new count ≤ rows
    → slice_index owns (slice_index new count) ≡ count → AreSlotsSoFar rows (count + 1) owns old new place
slots_own {rows} {count} {owns} {old} {new} {place} u low own =
    let s = slice_index new in
    record {
      slots = record {
        each = below_more (λ j. ((s j ≡ slice_index old j) × (s j ≤ rows) × (slice_index owns (s j) ≡ j)) ⊎ ((rows < s j) × (s j < rows + place))) count
            u.slots.each (inl (u.left count (omega arith), low, own));
        differ = λ j h jn hn above e. elim (cases_eq j count) [
          | inl is ↦ absurd (omega (arith, ap s is, low, above))
          | inr ne ↦ elim (cases_eq h count) [
            | inl is ↦ absurd (omega (arith, ap s is, e, low, above))
            | inr nh ↦ u.slots.differ j h (omega (arith, jn, ne)) (omega (arith, hn, nh)) above e
          ]
        ];
        some = u.slots.some;
        few = omega (arith, u.slots.few);
      };
      left = λ k h. u.left k (omega (arith, h));
    }

-- another column gets the next slot
pub slots_more : {rows count : ℕ} {owns old new : List ℕ} {place : ℕ} → AreSlotsSoFar rows count owns old new place → count < length new
    → AreSlotsSoFar rows (count + 1) owns old (slice_set new count (rows + place)) (place + 1)
slots_more {rows} {count} {owns} {old} {new} {place} u inside =
    let s = slice_index new in let t = slice_index (slice_set new count (rows + place)) in
    let some : 0 < place = u.slots.some in
    let same : (k : ℕ) → k ≢ count → t k ≡ s k = λ k ne. get_or-set_other new count k (rows + place) 0 ne in
    let here : t count ≡ rows + place = get_or-set_same new count (rows + place) 0 inside in
    let before : (h : ℕ) → h < count → s h < rows + place = λ h l. elim (u.slots.each h l) [ inl a ↦ omega (arith, a.1, some) | inr b ↦ b.1 ] in
    record {
      slots = record {
        each = below_more (λ j. ((t j ≡ slice_index old j) × (t j ≤ rows) × (slice_index owns (t j) ≡ j)) ⊎ ((rows < t j) × (t j < rows + (place + 1)))) count
            (λ j l. let e = same j (λ q. omega (arith, l, q)) in
            elim (u.slots.each j l) [
              | inl a ↦ inl (e ∙ a.0, omega (arith, e, a.1), ap (slice_index owns) e ∙ a.2)
              | inr b ↦ inr (omega (arith, e, b.0), omega (arith, e, b.1))
            ])
            (inr (omega (arith, here, some), omega (arith, here)));
        differ = λ j h jn hn above e. elim (cases_eq j count) [
          | inl is ↦ elim (cases_eq h count) [
            | inl also ↦ is ∙ sym also
            | inr nh ↦ (let l : h < count = omega (arith, hn, nh) in absurd (omega (arith, ap t is, here, e, same h nh, before h l)))
          ]
          | inr ne ↦ (let l : j < count = omega (arith, jn, ne) in
              elim (cases_eq h count) [
                | inl is ↦ absurd (omega (arith, ap t is, here, e, same j ne, before j l))
                | inr nh ↦ u.slots.differ j h l (omega (arith, hn, nh)) (omega (arith, same j ne, above)) (sym (same j ne) ∙ e ∙ same h nh)
              ])
        ];
        some = omega arith;
        few = omega (arith, u.slots.few);
      };
      left = λ k h. same k (λ q. omega (arith, h, q)) ∙ u.left k (omega (arith, h));
    }

-- columns with slots, and those that are rows' own, stand apart
pub stands_given : (rows n : ℕ) (owns : List ℕ) (old s : ℕ → ℕ) (place : ℕ) → AreSlots rows n owns old s place → AreStands rows (place + 1) n s
stands_given rows n owns old s place u = record {
  inside = λ j h. elim (u.each j h) [ inl a ↦ omega (arith, a.1, u.some) | inr b ↦ omega (arith, b.1) ];
  differ = λ j h jn hn e. elim (u.each j jn) [
    | inl a ↦ elim (u.each h hn) [
      | inl b ↦ sym a.2 ∙ ap (λ t. slice_index owns t) e ∙ b.2
      | inr d ↦ absurd (omega (arith, a.1, d.0, e))
    ]
    | inr a ↦ u.differ j h jn hn a.0 e
  ];
}

-- a column that has no place in a row is 0 there
pub zero_apart : (p : Program) (owns : List ℕ) (old s : ℕ → ℕ) (place : ℕ) → p.rows < 2 ^ 31 → AreOnly p (p.rows + 1) old
    → AreSlots p.rows (p.cols + 2) owns old s place
    → (i j : ℕ) → i ≤ p.rows → j < p.cols + 2 → place_in p.rows (place + 1) (s j) i ≡ place + 1 → raw p i j ≡ pos 0
zero_apart p owns old s place small only u i j im jn e = elim (u.each j jn) [
  | inl a ↦ elim (placed p.rows (place + 1) (s j) i).place [
    | inl x ↦ absurd (omega (arith, x.0, a.1))
    | inr y ↦ elim y [
      | inl x ↦ absurd (omega (arith, x.2, e))
      | inr x ↦ elim (only i j (omega arith) jn) [
        | inl z ↦ absurd (x.1 (a.0 ∙ z))
        | inr v ↦ elim v [ inl z ↦ absurd (omega (arith, a.0, a.1, z, small)) | inr z ↦ z ]
      ]
    ]
  ]
  | inr b ↦ absurd (elim (placed p.rows (place + 1) (s j) i).place [
    | inl x ↦ omega (arith, x.1, e, b.1)
    | inr y ↦ elim y [ inl x ↦ omega (arith, x.1, b.0) | inr x ↦ omega (arith, x.0, b.0) ]
  ])
]

-- ---- numbers at their places
-- a set row is narrow where its numbers are
pub set_narrow : (m w n : ℕ) (s : ℕ → ℕ) (i : ℕ) (numbers row : ℕ → ℤ) → IsSetRow m w n s i numbers row → ((j : ℕ) → j < n → IsNarrow (numbers j)) → (k : ℕ)
    → k < w → IsNarrow (row k)
set_narrow m w n s i numbers row u narrow k h =
    let N : ℤ → Type 0 = λ t. IsNarrow t in
    elim (u.covered k h) [
      | inl z ↦ subst N (sym z) (omega arith)
      | inr x ↦ subst N (sym (u.each x.0 x.1) ∙ ap (at_place w row) x.2 ∙ number_inside w row k h) (narrow x.0 x.1)
    ]

-- one more number is set
module _ (m n : ℕ) (s : ℕ → ℕ) (i j : ℕ) (numbers : ℕ → ℤ) (part : List ℤ) (k : ℕ) (is : k ≡ place_in m (length part) (s j) i)
    (u : IsSetRow m (length part) j s i numbers (at part)) where
  pub set_more : AreStands m (length part) n s → j < n → k < length part → IsSetRow m (length part) (j + 1) s i numbers (at (slice_set part k (numbers j)))
  set_more st jn kw =
      let w = length part in let new = slice_set part k (numbers j) in
      let other : (h : ℕ) → h ≢ k → at new h ≡ at part h = λ h ne. get_or-set_other part k h (numbers j) (pos 0) ne in
      let here : at new k ≡ numbers j = get_or-set_same part k (numbers j) (pos 0) kw in
      record {
        each = below_more (λ h. in_columns m w s i (at new) h ≡ numbers h) j
            (λ h l. elim (cases_lt (place_in m w (s h) i) w) [
              | inl hw ↦ number_inside w (at new) (place_in m w (s h) i) hw
                  ∙ other (place_in m w (s h) i) (λ e. omega (arith, same_place m w n s i st h j (omega (arith, l, jn)) jn (e ∙ is) hw, l))
                  ∙ sym (number_inside w (at part) (place_in m w (s h) i) hw) ∙ u.each h l
              | inr hw ↦ number_none w (at new) (place_in m w (s h) i) hw ∙ sym (number_none w (at part) (place_in m w (s h) i) hw) ∙ u.each h l
            ])
            (ap (at_place w (at new)) (sym is) ∙ number_inside w (at new) k kw ∙ here);
        covered = λ h hw. elim (cases_eq h k) [
          | inl e ↦ inr (j, omega arith, sym is ∙ sym e)
          | inr ne ↦ elim (u.covered h hw) [ inl z ↦ inl (other h ne ∙ z) | inr x ↦ inr (x.0, omega (arith, x.1), x.2) ]
        ];
      }

  pub set_none : length part ≤ k → numbers j ≡ pos 0 → IsSetRow m (length part) (j + 1) s i numbers (at part)
  set_none kw z =
      let w = length part in
      record {
        each = below_more (λ h. in_columns m w s i (at part) h ≡ numbers h) j u.each
            (ap (at_place w (at part)) (sym is) ∙ number_none w (at part) k kw ∙ sym z);
        covered = λ h hw. elim (u.covered h hw) [ inl z ↦ inl z | inr x ↦ inr (x.0, omega (arith, x.1), x.2) ];
      }

-- ---- one more row behind those before
module _ (xs part ys : List ℤ) (n w : ℕ) (is : ys ≡ xs ++ part) (long : length xs ≡ n * w) (wide : length part ≡ w) where
  pub rows_long : length ys ≡ (n + 1) * w
  rows_long = ap length is ∙ length-append xs part ∙ omega arith

  pub rows_old : (k : ℕ) → k < n * w → at ys k ≡ at xs k
  rows_old k h = ap (λ t. at t k) is ∙ get_or_append_left xs part (pos 0) k (omega arith)

  pub rows_new : (k : ℕ) → at ys (n * w + k) ≡ at part k
  rows_new k = ap (λ t. at t (n * w + k)) is ∙ get_or-append_right xs part (n * w) (n * w + k) (pos 0) long (omega arith)
      ∙ ap (at part) (let q : n * w + k - n * w ≡ k = omega arith in q)

-- the same row in a list and by itself
pub set_same : (m w n : ℕ) (s : ℕ → ℕ) (i : ℕ) (numbers numbers' row row' : ℕ → ℤ) → ((k : ℕ) → k < w → row k ≡ row' k)
    → ((j : ℕ) → j < n → numbers j ≡ numbers' j) → IsSetRow m w n s i numbers row → IsSetRow m w n s i numbers' row'
set_same m w n s i numbers numbers' row row' e en u = record {
  each = λ j h. Rattle.gs_simplex.proofs.Standing.looked_along w n (λ j. place_in m w (s j) i) (λ x y. y ≡ x) row row' refl (λ k l. sym (e k l)) j ∙ u.each j h
      ∙ en j h;
  covered = λ k h. elim (u.covered k h) [ inl z ↦ inl (sym (e k h) ∙ z) | inr x ↦ inr x ];
}

-- the rows so far, and one more
pub record AreRawSoFar (p : Program) (w count : ℕ) (s : ℕ → ℕ) (xs : List ℤ) : Type 0 where
  pub long : length xs ≡ count * w
  pub rows : (h : ℕ) → h < count → IsSetRow p.rows w (p.cols + 2) s h (raw p h) (cell xs w h)
  pub narrow : AreNarrowNumbers xs

pub raw_more : (p : Program) (w i : ℕ) (s : ℕ → ℕ) (xs part ys : List ℤ) → IsShaped p → i ≤ p.rows → AreRawSoFar p w i s xs → ys ≡ xs ++ part → length part ≡ w
    → IsSetRow p.rows w (p.cols + 2) s i (raw p i) (at part) → AreRawSoFar p w (i + 1) s ys
raw_more p w i s xs part ys shaped im u is wide here = record {
  long = rows_long xs part ys i w is u.long wide;
  rows = below_more (λ h. IsSetRow p.rows w (p.cols + 2) s h (raw p h) (cell ys w h)) i
      (λ h l. set_same p.rows w (p.cols + 2) s h (raw p h) (raw p h) (cell xs w h) (cell ys w h)
      (λ k kw. sym (rows_old xs part ys i w is u.long wide (h * w + k) (row_inside i w h k l kw))) (λ j jn. refl) (u.rows h l))
      (set_same p.rows w (p.cols + 2) s i (raw p i) (raw p i) (at part) (cell ys w i) (λ k kw. sym (rows_new xs part ys i w is u.long wide k)) (λ j
      jn. refl) here);
  narrow = λ k h.
      let N : ℤ → Type 0 = λ t. IsNarrow t in
      let narrow : (x : ℕ) → x < w → IsNarrow (at part x) =
      set_narrow p.rows w (p.cols + 2) s i (raw p i) (at part) here (λ j jn. raw_narrow p shaped i j im jn) in
      elim (cases_lt k (i * w)) [
        | inl l ↦ subst N (sym (rows_old xs part ys i w is u.long wide k l)) (u.narrow k (omega (arith, u.long)))
        | inr m ↦ (let x : ℕ = k - i * w in let q : i * w + (k - i * w) ≡ k = omega arith in
            let long : length ys ≡ (i + 1) * w = rows_long xs part ys i w is u.long wide in
            let xw : k - i * w < w = omega arith in
            let K : ℕ → Type 0 = λ t. IsNarrow (at ys t) in
            subst K q (subst N (sym (rows_new xs part ys i w is u.long wide (k - i * w))) (narrow (k - i * w) xw)))
      ];
}
