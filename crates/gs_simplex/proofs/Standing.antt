-- Rows by places and by columns: where the columns stand before and after a pivot, and what a row that is taken or cleared by places is by columns.
use Rattle.std.proofs.Common.{◌≡◌, ◌≢◌, ℕ, ◌+◌, ◌-◌, ◌<◌, ◌≤◌, ◌⊎◌, inl, inr, cond, nat_eq, List, length, take, slice_index, ℤ, pos, ◌-ℤ◌, ◌*ℤ◌, neg_ℤ, ◌≤ℤ◌}
use Rattle.std.proofs.Common.{◌^◌, unsigned_abs, refl, sym, ap, subst, ◌∙◌, arith}
use Rattle.std.proofs.{lemmas.Bool.{cases_eq, cases_lt, cases_order}, lemmas.Nat.Gcd.{dvd-zero}, lemmas.List.{length-take-le, get_or-take}}
use Prim.Native.Nat.{◌∣◌}
use Rattle.gs_simplex.specs.{Rows.{IsNarrow, IsPrimitive}, Support.{IsSupport}, Columns.{IsRowCleared, IsRowLed, IsFirstWideOf}}
use Rattle.gs_simplex.specs.Numbers.{cleared_by, IsMultiple, IsDivided, IsMixed, IsReduced, IsLeadOf}
use Rattle.gs_simplex.specs.Columns.{place_in, at_place, in_columns, AreStands, IsCovered, AreStandsAfter, AreLivePlaces, IsSwapped, IsSlotFreed, IsOwnFreed}
use Rattle.gs_simplex.proofs.{Ring.{linear, ring, times_zero, cancel_zero}, Places.{multiple_same, divided_same, lead_by}}

-- ---- what a pivot makes of all rows
-- z, in column j, is the first number of the reduced row that is not narrow
pub record IsReducedTo (lead : ℕ → ℤ) (c width : ℕ) (old : ℕ → ℤ) (j : ℕ) (z : ℤ) : Type 0 where
  pub inside : j < width
  pub size : unsigned_abs z ≤ 2 ^ 125
  pub wide : ¬ IsNarrow z
  pub row : (new : ℕ → ℤ) × (IsReduced lead c width old new) × (new j ≡ z) × ((k : ℕ) → k < j → IsNarrow (new k))

-- row r is taken as the lead, each other of `count` rows is mixed with it in column c, and all are narrow
pub record IsCleared (old new : ℕ → ℕ → ℤ) (count width r c : ℕ) : Type 0 where
  pub lead : IsLeadOf (old r) (new r) c width
  pub others : (i : ℕ) → i < count → i ≢ r → IsMixed (new r) c width (old i) (new i)
  pub narrow : (i j : ℕ) → i < count → j < width → IsNarrow (new i j)

-- Row r is taken as the lead, and z, in row i and column j, is the first number of the reduced rows that is not narrow. The rows before row i need only be
-- mixed.
pub record IsClearedTo (old : ℕ → ℕ → ℤ) (taken : ℕ → ℤ) (count width r c i j : ℕ) (z : ℤ) : Type 0 where
  pub lead : IsLeadOf (old r) taken c width
  pub narrow : (k : ℕ) → k < width → IsNarrow (taken k)
  pub inside : i < count
  pub apart : i ≢ r
  pub here : IsReducedTo taken c width (old i) j z
  pub before : (h : ℕ) → h < i → h ≢ r → (new : ℕ → ℤ) × (IsMixed taken c width (old h) new) × ((k : ℕ) → k < width → IsNarrow (new k))

-- ---- the place of a column, and the number there
pub place_slot : (m w s i : ℕ) → m < s → place_in m w s i ≡ s - m
place_slot m w s i h = grind (arith, Rattle.std.proofs.lemmas.Bool.Decides.nat_tests)

pub place_own : (m w s i : ℕ) → s ≤ m → s ≡ i → place_in m w s i ≡ 0
place_own m w s i h e = grind (arith, Rattle.std.proofs.lemmas.Bool.Decides.nat_tests)

pub place_none : (m w s i : ℕ) → s ≤ m → s ≢ i → place_in m w s i ≡ w
place_none m w s i h ne = grind (arith, Rattle.std.proofs.lemmas.Bool.Decides.nat_tests)

pub number_inside : (w : ℕ) (f : ℕ → ℤ) (k : ℕ) → k < w → at_place w f k ≡ f k
number_inside w f k h = grind (arith, Rattle.std.proofs.lemmas.Bool.Decides.nat_tests)

pub number_none : (w : ℕ) (f : ℕ → ℤ) (k : ℕ) → w ≤ k → at_place w f k ≡ pos 0
number_none w f k h = grind (arith, Rattle.std.proofs.lemmas.Bool.Decides.nat_tests)

-- a column has a slot, is the row's own, or has no place in the row
pub record IsPlaced (m w s i : ℕ) : Type 0 where
  pub place : ((m < s) × (place_in m w s i ≡ s - m)) ⊎ (((s ≡ i) × (s ≤ m) × (place_in m w s i ≡ 0)) ⊎ ((s ≤ m) × (s ≢ i) × (place_in m w s i ≡ w)))

pub placed : (m w s i : ℕ) → IsPlaced m w s i
placed m w s i = record {
  place = elim (cases_lt m s) [
    | inl h ↦ inl (h, place_slot m w s i h)
    | inr h ↦ elim (cases_eq s i) [ inl e ↦ inr (inl (e, h, place_own m w s i h e)) | inr ne ↦ inr (inr (h, ne, place_none m w s i h ne)) ]
  ];
}

-- ---- a row by columns, where column j has the place `at j`, and w is for none
module _ (w count : ℕ) (at : ℕ → ℕ) where
  abbrev pub looked : (ℕ → ℤ) → ℕ → ℤ
  looked f j = at_place w f (at j)

  pub looked_along : (P : ℤ → ℤ → Type 0) (f g : ℕ → ℤ) → P (pos 0) (pos 0) → ((k : ℕ) → k < w → P (f k) (g k)) → (j : ℕ) → P (looked f j) (looked g j)
  looked_along P f g z h j = elim (cases_lt (at j) w) [
    | inl l ↦ (let A : ℤ → Type 0 = λ t. P t (looked g j) in let B : ℤ → Type 0 = λ t. P (f (at j)) t in
        subst A (sym (number_inside w f (at j) l)) (subst B (sym (number_inside w g (at j) l)) (h (at j) l)))
    | inr m ↦ (let A : ℤ → Type 0 = λ t. P t (looked g j) in let B : ℤ → Type 0 = λ t. P (pos 0) t in
        subst A (sym (number_none w f (at j) m)) (subst B (sym (number_none w g (at j) m)) z))
  ]

  pub looked_multiple : (f g : ℕ → ℤ) → IsMultiple w f g → IsMultiple count (looked f) (looked g)
  looked_multiple f g u = let m = u.by in
      record { by = (m.0, m.1, λ j h. looked_along (λ x y. x ≡ m.0 *ℤ y) f g (sym (times_zero m.0)) m.2 j) }

  module _ (some : 0 < count) (wide : 0 < w) (f : ℕ → ℤ) (covered : (k : ℕ) → k < w → (f k ≡ pos 0) ⊎ ((j : ℕ) × (j < count) × (at j ≡ k))) where
    pub looked_primitive : IsPrimitive (w - 1) f → IsPrimitive (count - 1) (looked f)
    looked_primitive u = elim u.form [
      | inl z ↦ record { form = inl (λ j h. looked_along (λ x y. x ≡ pos 0) f f refl (λ k l. z k (omega arith)) j) }
      | inr d ↦ record {
        form = inr (λ e h. d e (λ k l. elim (covered k (omega arith)) [
          | inl z ↦ (let s : unsigned_abs (f k) ≡ 0 = ap unsigned_abs z in let P : ℕ → Type 0 = λ t. e ∣ t in subst P (sym s) (dvd-zero e))
          | inr c ↦ (let P : ℤ → Type 0 = λ t. e ∣ unsigned_abs t in
              subst P (ap (at_place w f) c.2 ∙ number_inside w f k (omega arith)) (h c.0 (omega (arith, c.1))))
        ]));
      }
    ]

  pub looked_divided : (f g : ℕ → ℤ) → 0 < count → 0 < w → ((k : ℕ) → k < w → (g k ≡ pos 0) ⊎ ((j : ℕ) × (j < count) × (at j ≡ k))) → IsDivided w f g
      → IsDivided count (looked f) (looked g)
  looked_divided f g some wide covered u =
      record { multiple = looked_multiple f g u.multiple; primitive = looked_primitive some wide g covered u.primitive }

  pub looked_neg : (f : ℕ → ℤ) (j : ℕ) → looked (λ k. neg_ℤ (f k)) j ≡ neg_ℤ (looked f j)
  looked_neg f j = looked_along (λ x y. x ≡ neg_ℤ y) (λ k. neg_ℤ (f k)) f refl (λ k l. refl) j

-- ---- rows that agree
module _ (q b w : ℕ) (f f' : ℕ → ℤ) (qw : q < w) (bw : b < w) (e : (k : ℕ) → k < w → f k ≡ f' k) where
  pub slot_freed_same : (g : ℕ → ℤ) → IsSlotFreed q b w f g → IsSlotFreed q b w f' g
  slot_freed_same g u = record {
    slot = λ up. record {
      first = (u.slot up).first ∙ e b bw;
      second = (u.slot up).second ∙ e q qw;
      others = λ k l nq nb. (u.slot up).others k l nq nb ∙ e k l;
    };
    none = λ z k l. u.none z k l ∙ e k l;
  }

  pub row_cleared_same : (lead g g' : ℕ → ℤ) → ((k : ℕ) → k < w → g k ≡ g' k) → IsRowCleared lead q b w f g → IsRowCleared lead q b w f' g'
  row_cleared_same lead g g' eg u = let m = u.row in record {
    row = (
      m.0,
      slot_freed_same m.0 m.1,
      multiple_same w (cleared_by lead b m.0) (cleared_by lead b m.0) g g' (λ k l. refl) eg m.2,
    );
  }

-- ---- places of columns that stand apart
module _ {m w n : ℕ} {s : ℕ → ℕ} (some : 1 < w) (st : AreStands m w n s) where
  pub not_spare : (i j : ℕ) → j < n → place_in m w (s j) i ≢ w - 1
  not_spare i j h e = elim (placed m w (s j) i).place [
    | inl a ↦ absurd (omega (arith, st.inside j h, a.0, a.1))
    | inr x ↦ elim x [ inl b ↦ absurd (omega (arith, b.2)) | inr c ↦ absurd (omega (arith, c.2)) ]
  ]

  pub place_within : (i j : ℕ) → j < n → place_in m w (s j) i ≤ w
  place_within i j h = elim (placed m w (s j) i).place [
    | inl a ↦ omega (arith, st.inside j h, a.0, a.1)
    | inr x ↦ elim x [ inl b ↦ omega (arith, b.2) | inr c ↦ omega (arith, c.2) ]
  ]

  pub spare_zero : (i : ℕ) (f : ℕ → ℤ) → IsCovered m w n s i f → f (w - 1) ≡ pos 0
  spare_zero i f u = elim (u (w - 1) (omega arith)) [ inl z ↦ z | inr c ↦ absurd (not_spare i c.0 c.1 c.2) ]

-- a place above 0 is a slot
pub slot_at : (m w s i k : ℕ) → place_in m w s i ≡ k → 0 < k → k < w → (m < s) × (s ≡ m + k)
slot_at m w s i k e h l = elim (placed m w s i).place [
  | inl a ↦ (a.0, omega (arith, a.0, a.1))
  | inr x ↦ elim x [ inl b ↦ absurd (omega (arith, b.2)) | inr c ↦ absurd (omega (arith, c.2)) ]
]

-- place 0 is the own column's
pub own_at : (m w s i : ℕ) → 1 < w → place_in m w s i ≡ 0 → s ≡ i
own_at m w s i h e = elim (placed m w s i).place [
  | inl a ↦ absurd (omega (arith, a.0, a.1))
  | inr x ↦ elim x [ inl b ↦ b.0 | inr c ↦ absurd (omega (arith, c.2)) ]
]

-- a column with no place before w has none
pub place_past : (m w n : ℕ) (s : ℕ → ℕ) (i : ℕ) → AreStands m w n s → (j : ℕ) → j < n → w ≤ place_in m w (s j) i → place_in m w (s j) i ≡ w
place_past m w n s i st j jn h = elim (placed m w (s j) i).place [
  | inl a ↦ absurd (omega (arith, st.inside j jn, a.0, a.1, h))
  | inr x ↦ elim x [ inl b ↦ omega (arith, b.2, h) | inr d ↦ d.2 ]
]

-- two columns have no place in common
pub same_place : (m w n : ℕ) (s : ℕ → ℕ) (i : ℕ) → AreStands m w n s → (h j : ℕ) → h < n → j < n → place_in m w (s h) i ≡ place_in m w (s j) i
    → place_in m w (s h) i < w → h ≡ j
same_place m w n s i st h j hn jn e hw = st.differ h j hn jn (elim (placed m w (s h) i).place [
  | inl a ↦ elim (placed m w (s j) i).place [
    | inl b ↦ omega (arith, a.0, a.1, b.0, b.1, e)
    | inr y ↦ elim y [ inl b ↦ absurd (omega (arith, a.0, a.1, b.2, e)) | inr b ↦ absurd (omega (arith, hw, b.2, e)) ]
  ]
  | inr x ↦ elim x [
    | inl a ↦ elim (placed m w (s j) i).place [
      | inl b ↦ absurd (omega (arith, a.2, b.0, b.1, e))
      | inr y ↦ elim y [ inl b ↦ a.0 ∙ sym b.0 | inr b ↦ absurd (omega (arith, hw, b.2, e)) ]
    ]
    | inr a ↦ absurd (omega (arith, hw, a.2))
  ]
])

-- ---- row r is listed with column c, whose place in it is q
module _ (m w n : ℕ) (s s' : ℕ → ℕ) (r c q : ℕ) (some : 1 < w) (rm : r < m) (cn : c < n) (st : AreStands m w n s) (af : AreStandsAfter n s s' r c)
    (here : place_in m w (s c) r ≡ q) (qw : q < w) where
  -- column c has slot q, or it is the own column of row r
  c_stands : ((m < s c) × (s c ≡ m + q) × (0 < q)) ⊎ ((s c ≡ r) × (q ≡ 0))
  c_stands = elim (placed m w (s c) r).place [
    | inl a ↦ inl (a.0, omega (arith, a.0, a.1), omega (arith, a.0, a.1))
    | inr x ↦ elim x [ inl b ↦ inr (b.0, omega (arith, b.2)) | inr d ↦ absurd (omega (arith, d.2)) ]
  ]

  -- a column is c, or it was the own column of row r, or it stands where it stood
  stands_now : (j : ℕ) → j < n → (j ≡ c) ⊎ (((j ≢ c) × (s j ≡ r) × (s' j ≡ s c) × (m < s c)) ⊎ ((j ≢ c) × (s j ≢ r) × (s' j ≡ s j)))
  stands_now j h = elim (cases_eq j c) [
    | inl e ↦ inl e
    | inr ne ↦ elim (cases_eq (s j) r) [
      | inl f ↦ elim c_stands [
        | inl a ↦ inr (inl (ne, f, af.taken j h ne f, a.0))
        | inr b ↦ absurd (ne (st.differ j c h cn (f ∙ sym b.0)))
      ]
      | inr nf ↦ inr (inr (ne, nf, af.kept j h ne nf))
    ]
  ]

  pub stands_after : AreStands m w n s'
  stands_after = record {
    inside = λ j h. elim (stands_now j h) [
      | inl e ↦ (let P : ℕ → Type 0 = λ t. s' t + 1 < m + w in subst P (sym e) (omega (arith, af.own)))
      | inr x ↦ elim x [ inl a ↦ omega (arith, a.2, st.inside c cn) | inr b ↦ omega (arith, b.2, st.inside j h) ]
    ];
    differ = λ j h jn hn e. elim (stands_now j jn) [
      | inl ej ↦ elim (stands_now h hn) [
        | inl eh ↦ ej ∙ sym eh
        | inr y ↦ (let f : s' j ≡ r = ap s' ej ∙ af.own in elim y [
          | inl a ↦ absurd (omega (arith, a.2, a.3, f, e, rm))
          | inr b ↦ absurd (b.1 (sym b.2 ∙ sym e ∙ f))
        ])
      ]
      | inr x ↦ elim (stands_now h hn) [
        | inl eh ↦ (let f : s' h ≡ r = ap s' eh ∙ af.own in elim x [
          | inl a ↦ absurd (omega (arith, a.2, a.3, f, e, rm))
          | inr b ↦ absurd (b.1 (sym b.2 ∙ e ∙ f))
        ])
        | inr y ↦ elim x [
          | inl a ↦ elim y [
            | inl a2 ↦ st.differ j h jn hn (a.1 ∙ sym a2.1)
            | inr b2 ↦ absurd (b2.0 (st.differ h c hn cn (sym b2.2 ∙ sym e ∙ a.2)))
          ]
          | inr b ↦ elim y [
            | inl a2 ↦ absurd (b.0 (st.differ j c jn cn (sym b.2 ∙ e ∙ a2.2)))
            | inr b2 ↦ st.differ j h jn hn (sym b.2 ∙ e ∙ b2.2)
          ]
        ]
      ]
    ];
  }

  -- the place of a column of row i in the pivot: column c has the spare one
  abbrev pub moved : ℕ → ℕ → ℕ
  moved i j = cond (nat_eq j c) (w - 1) (place_in m w (s' j) i)

  moved_here : (i j : ℕ) → j ≡ c → moved i j ≡ w - 1
  moved_here i j e = grind (arith, Rattle.std.proofs.lemmas.Bool.Decides.nat_tests)

  moved_other : (i j : ℕ) → j ≢ c → moved i j ≡ place_in m w (s' j) i
  moved_other i j ne = grind (arith, Rattle.std.proofs.lemmas.Bool.Decides.nat_tests)

  abbrev pub seen : ℕ → (ℕ → ℤ) → ℕ → ℤ
  seen i f j = at_place w f (moved i j)

  seen_here : (i : ℕ) (f : ℕ → ℤ) (j : ℕ) → j ≡ c → seen i f j ≡ f (w - 1)
  seen_here i f j e = ap (at_place w f) (moved_here i j e) ∙ number_inside w f (w - 1) (omega arith)

  seen_other : (i : ℕ) (f : ℕ → ℤ) (j : ℕ) → j ≢ c → seen i f j ≡ in_columns m w s' i f j
  seen_other i f j ne = ap (at_place w f) (moved_other i j ne)

  -- the number at a place that did not change
  kept_number : (f g : ℕ → ℤ) (k : ℕ) → (k < w → g k ≡ f k) → at_place w g k ≡ at_place w f k
  kept_number f g k h = elim (cases_lt k w) [
    | inl l ↦ number_inside w g k l ∙ h l ∙ sym (number_inside w f k l)
    | inr x ↦ number_none w g k x ∙ sym (number_none w f k x)
  ]

  at_slot : (f : ℕ → ℤ) (i j : ℕ) → m < s c → s' j ≡ s c → in_columns m w s' i f j ≡ f q
  at_slot f i j h e = elim c_stands [
    | inl a ↦ (let p : place_in m w (s' j) i ≡ q = place_slot m w (s' j) i (omega (arith, e)) ∙ (let z : s' j - m ≡ q = omega (arith, e, a.1) in z) in
        ap (at_place w f) p ∙ number_inside w f q qw)
    | inr b ↦ absurd (omega (arith, b.0, h, rm))
  ]

  -- ---- a row i other than r, whose number at slot q went to the spare place
  module _ (i : ℕ) (ir : i ≢ r) (f g : ℕ → ℤ) (fr : IsSlotFreed q (w - 1) w f g) (cov : IsCovered m w n s i f) where
    f_spare : f (w - 1) ≡ pos 0
    f_spare = spare_zero some st i f cov

    column_c : in_columns m w s i f c ≡ g (w - 1)
    column_c = elim c_stands [
      | inl a ↦ (let p : place_in m w (s c) i ≡ q = place_slot m w (s c) i a.0 ∙ (let z : s c - m ≡ q = omega (arith, a.1) in z) in
          ap (at_place w f) p ∙ number_inside w f q qw ∙ sym (fr.slot a.2).second)
      | inr b ↦ (let p : place_in m w (s c) i ≡ w = place_none m w (s c) i (omega (arith, b.0, rm)) (λ e. ir (sym e ∙ b.0)) in
          ap (at_place w f) p ∙ number_none w f w (omega arith) ∙ sym f_spare ∙ sym (fr.none b.1 (w - 1) (omega arith)))
    ]

    g_kept : (j : ℕ) → j < n → j ≢ c → at_place w g (place_in m w (s j) i) ≡ at_place w f (place_in m w (s j) i)
    g_kept j h ne = kept_number f g (place_in m w (s j) i) (λ l. elim (cases_lt 0 q) [
      | inl up ↦ (fr.slot up).others (place_in m w (s j) i) l
          (λ e. ne (st.differ j c h cn (let a = slot_at m w (s j) i q e up qw in let z = slot_at m w (s c) r q here up qw in a.1 ∙ sym z.1)))
          (not_spare some st i j h)
      | inr low ↦ fr.none (omega arith) (place_in m w (s j) i) l
    ])

    pub freed_columns : (j : ℕ) → j < n → in_columns m w s i f j ≡ seen i g j
    freed_columns j h = elim (stands_now j h) [
      | inl e ↦ (let P : ℕ → Type 0 = λ t. in_columns m w s i f t ≡ g (w - 1) in subst P (sym e) column_c) ∙ sym (seen_here i g j e)
      | inr x ↦ elim x [
        | inl a ↦ (let up : 0 < q = elim c_stands [ inl z ↦ z.2 | inr z ↦ absurd (omega (arith, z.0, a.3, rm)) ] in
            ap (at_place w f) (place_none m w (s j) i (omega (arith, a.1, rm)) (λ e. ir (sym e ∙ a.1))) ∙ number_none w f w (omega arith)
            ∙ sym f_spare ∙ sym (fr.slot up).first ∙ sym (at_slot g i j a.3 a.2) ∙ sym (seen_other i g j a.0))
        | inr b ↦ sym (g_kept j h b.0) ∙ ap (λ t. at_place w g (place_in m w t i)) (sym b.2) ∙ sym (seen_other i g j b.0)
      ]
    ]

    -- a place of the freed row has a column or 0
    still : (k : ℕ) → k < w → k ≢ q ⊎ (q ≡ 0) → (j : ℕ) → j < n → place_in m w (s j) i ≡ k → (j : ℕ) × (j < n) × (moved i j ≡ k)
    still k h apart j jn e = elim (stands_now j jn) [
      | inl ej ↦ absurd (elim c_stands [
        | inl a ↦ elim apart [
          | inl ne ↦ ne (sym e ∙ ap (λ t. place_in m w (s t) i) ej ∙ place_slot m w (s c) i a.0 ∙ (let z : s c - m ≡ q = omega (arith, a.1) in z))
          | inr z ↦ omega (arith, a.2, z)
        ]
        | inr b ↦ (let p : place_in m w (s j) i ≡ w = ap (λ t. place_in m w (s t) i) ej
            ∙ place_none m w (s c) i (omega (arith, b.0, rm)) (λ z. ir (sym z ∙ b.0)) in omega (arith, p, e, h))
      ])
      | inr x ↦ elim x [
        | inl a ↦ absurd (let p : place_in m w (s j) i ≡ w = place_none m w (s j) i (omega (arith, a.1, rm)) (λ z. ir (sym z ∙ a.1)) in omega (arith, p, e, h))
        | inr b ↦ (j, jn, moved_other i j b.0 ∙ ap (λ t. place_in m w t i) b.2 ∙ e)
      ]
    ]

    pub freed_covered : (k : ℕ) → k < w → (g k ≡ pos 0) ⊎ ((j : ℕ) × (j < n) × (moved i j ≡ k))
    freed_covered k h = elim (cases_eq k (w - 1)) [
      | inl e ↦ inr (c, cn, moved_here i c refl ∙ sym e)
      | inr nb ↦ elim (cases_lt 0 q) [
        | inl up ↦ elim (cases_eq k q) [
          | inl e ↦ inl (ap g e ∙ (fr.slot up).first ∙ f_spare)
          | inr nq ↦ elim (cov k h) [
            | inl z ↦ inl ((fr.slot up).others k h nq nb ∙ z)
            | inr x ↦ inr (still k h (inl nq) x.0 x.1 x.2)
          ]
        ]
        | inr low ↦ elim (cov k h) [
          | inl z ↦ inl (fr.none (omega arith) k h ∙ z)
          | inr x ↦ inr (still k h (inr (let z : q ≡ 0 = omega arith in z)) x.0 x.1 x.2)
        ]
      ]
    ]

  -- ---- row r, whose number at place q went to the spare place, and its own number to place q
  module _ (f g : ℕ → ℤ) (fr : IsOwnFreed q (w - 1) w f g) (cov : IsCovered m w n s r f) where
    r_spare : f (w - 1) ≡ pos 0
    r_spare = spare_zero some st r f cov

    pub own_zero : g 0 ≡ pos 0
    own_zero = fr.own ∙ r_spare

    -- columns that are not the own one's and not c's
    r_kept : (j : ℕ) → j < n → j ≢ c → s j ≢ r → at_place w g (place_in m w (s j) r) ≡ at_place w f (place_in m w (s j) r)
    r_kept j h ne nr =
        let k = place_in m w (s j) r in
        let up : k < w → 0 < k = λ l. elim (cases_lt 0 k) [ inl u ↦ u | inr low ↦ absurd (nr (own_at m w (s j) r some (let z : k ≡ 0 = omega arith in z))) ] in
        kept_number f g k (λ l. fr.others k l (up l)
        (λ e. ne (st.differ j c h cn (let a = slot_at m w (s j) r q e (omega (arith, up l, e)) qw in
        let z = slot_at m w (s c) r q here (omega (arith, up l, e)) qw in a.1 ∙ sym z.1)))
        (not_spare some st r j h))

    pub led_columns : (j : ℕ) → j < n → in_columns m w s r f j ≡ seen r g j
    led_columns j h = elim (stands_now j h) [
      | inl e ↦ (let P : ℕ → Type 0 = λ t. in_columns m w s r f t ≡ g (w - 1) in
          subst P (sym e) (ap (at_place w f) here ∙ number_inside w f q qw ∙ sym fr.spare)) ∙ sym (seen_here r g j e)
      | inr x ↦ elim x [
        | inl a ↦ (let up : 0 < q = elim c_stands [ inl z ↦ z.2 | inr z ↦ absurd (omega (arith, z.0, a.3, rm)) ] in
            ap (at_place w f) (place_own m w (s j) r (omega (arith, a.1, rm)) a.1) ∙ number_inside w f 0 (omega arith)
            ∙ sym (fr.slot up) ∙ sym (at_slot g r j a.3 a.2) ∙ sym (seen_other r g j a.0))
        | inr b ↦ sym (r_kept j h b.0 b.1) ∙ ap (λ t. at_place w g (place_in m w t r)) (sym b.2) ∙ sym (seen_other r g j b.0)
      ]
    ]

    pub led_covered : (k : ℕ) → k < w → (g k ≡ pos 0) ⊎ ((j : ℕ) × (j < n) × (moved r j ≡ k))
    led_covered k h = elim (cases_eq k (w - 1)) [
      | inl e ↦ inr (c, cn, moved_here r c refl ∙ sym e)
      | inr nb ↦ elim (cases_lt 0 k) [
        | inr low ↦ inl (ap g (let z : k ≡ 0 = omega arith in z) ∙ own_zero)
        | inl up ↦ elim (cases_eq k q) [
          | inl e ↦ elim (cov 0 (omega arith)) [
            | inl z ↦ inl (ap g e ∙ fr.slot (omega (arith, e)) ∙ z)
            | inr x ↦ elim (stands_now x.0 x.1) [
              | inl ej ↦ absurd (let p : place_in m w (s x.0) r ≡ q = ap (λ t. place_in m w (s t) r) ej ∙ here in omega (arith, p, x.2, e))
              | inr y ↦ elim y [
                | inl a ↦ inr (
                  x.0,
                  x.1,
                  moved_other r x.0 a.0 ∙ ap (λ t. place_in m w t r) a.2 ∙ here ∙ sym e,
                )
                | inr b ↦ absurd (b.1 (own_at m w (s x.0) r some x.2))
              ]
            ]
          ]
          | inr nq ↦ elim (cov k h) [
            | inl z ↦ inl (fr.others k h up nq nb ∙ z)
            | inr x ↦ elim (stands_now x.0 x.1) [
              | inl ej ↦ absurd (nq (sym x.2 ∙ ap (λ t. place_in m w (s t) r) ej ∙ here))
              | inr y ↦ elim y [
                | inl a ↦ absurd (let p : place_in m w (s x.0) r ≡ 0 = place_own m w (s x.0) r (omega (arith, a.1, rm)) a.1 in omega (arith, p, x.2))
                | inr b ↦ inr (x.0, x.1, moved_other r x.0 b.0 ∙ ap (λ t. place_in m w t r) b.2 ∙ x.2)
              ]
            ]
          ]
        ]
      ]
    ]

  -- ---- the lead, by columns L, and a row that is mixed with it
  module _ (lead L : ℕ → ℤ) (zero : lead 0 ≡ pos 0) (covered : (k : ℕ) → k < w → (lead k ≡ pos 0) ⊎ ((j : ℕ) × (j < n) × (moved r j ≡ k)))
      (is : (j : ℕ) → j < n → L j ≡ seen r lead j) where
    lead_c : L c ≡ lead (w - 1)
    lead_c = is c cn ∙ seen_here r lead c refl

    -- another column is not the own one of row r
    not_r : (j : ℕ) → j < n → j ≢ c → s' j ≢ r
    not_r j h ne e = ne (stands_after.differ j c h cn (e ∙ sym af.own))

    module _ (i : ℕ) (ir : i ≢ r) (t g new : ℕ → ℤ) (at : (j : ℕ) → j < n → t j ≡ seen i g j) (u : IsMixed lead (w - 1) w g new) where
      mixed_value : (j : ℕ) (x y z : ℤ) → seen i g j ≡ x → seen r lead j ≡ y → in_columns m w s' i new j ≡ z
          → lead (w - 1) *ℤ x -ℤ g (w - 1) *ℤ y ≡ u.by.0 *ℤ z
          → lead (w - 1) *ℤ seen i g j -ℤ g (w - 1) *ℤ seen r lead j ≡ u.by.0 *ℤ in_columns m w s' i new j
      mixed_value j x y z ex ey ez e = ap (λ a. lead (w - 1) *ℤ a -ℤ g (w - 1) *ℤ seen r lead j) ex ∙ ap (λ a. lead (w - 1) *ℤ x -ℤ g (w - 1) *ℤ a) ey ∙ e
          ∙ ap (λ a. u.by.0 *ℤ a) (sym ez)

      mixed_zero : (a b k : ℤ) → a *ℤ pos 0 -ℤ b *ℤ pos 0 ≡ k *ℤ pos 0
      mixed_zero a b k = omega (arith, linear, times_zero a, times_zero b, times_zero k)

      none_there : (h : ℕ) (f : ℕ → ℤ) (j : ℕ) → s' j ≤ m → s' j ≢ h → in_columns m w s' h f j ≡ pos 0
      none_there h f j le ne = ap (at_place w f) (place_none m w (s' j) h le ne) ∙ number_none w f w (omega arith)

      own_there : (h : ℕ) (f : ℕ → ℤ) (j : ℕ) → s' j ≤ m → s' j ≡ h → in_columns m w s' h f j ≡ f 0
      own_there h f j le e = ap (at_place w f) (place_own m w (s' j) h le e) ∙ number_inside w f 0 (omega arith)

      slot_there : (h : ℕ) (f : ℕ → ℤ) (j : ℕ) → j < n → m < s' j → in_columns m w s' h f j ≡ f (s' j - m)
      slot_there h f j jn up = ap (at_place w f) (place_slot m w (s' j) h up) ∙ number_inside w f (s' j - m) (omega (arith, stands_after.inside j jn))

      mixed_at : (j : ℕ) → j < n → lead (w - 1) *ℤ seen i g j -ℤ g (w - 1) *ℤ seen r lead j ≡ u.by.0 *ℤ in_columns m w s' i new j
      mixed_at j h = elim (cases_eq j c) [
        | inl e ↦ (let le : s' j ≤ m = omega (arith, ap s' e, af.own, rm) in
            mixed_value j (g (w - 1)) (lead (w - 1)) (pos 0) (seen_here i g j e) (seen_here r lead j e)
            (none_there i new j le (λ z. ir (sym z ∙ ap s' e ∙ af.own)))
            (let z : lead (w - 1) *ℤ g (w - 1) -ℤ g (w - 1) *ℤ lead (w - 1) ≡ pos 0 = simp ring (omega (arith, linear)) in z ∙ sym (times_zero u.by.0)))
        | inr ne ↦ elim (placed m w (s' j) i).place [
          | inl a ↦ mixed_value j (g (s' j - m)) (lead (s' j - m)) (new (s' j - m)) (seen_other i g j ne ∙ slot_there i g j h a.0)
              (seen_other r lead j ne ∙ slot_there r lead j h a.0) (slot_there i new j h a.0)
              (u.by.2 (s' j - m) (omega (arith, stands_after.inside j h, a.0)))
          | inr x ↦ elim x [
            | inl b ↦ mixed_value j (g 0) (lead 0) (new 0) (seen_other i g j ne ∙ own_there i g j b.1 b.0)
                (seen_other r lead j ne ∙ none_there r lead j b.1 (not_r j h ne) ∙ sym zero) (own_there i new j b.1 b.0) (u.by.2 0 (omega arith))
            | inr d ↦ mixed_value j (pos 0) (pos 0) (pos 0) (seen_other i g j ne ∙ none_there i g j d.0 d.1)
                (seen_other r lead j ne ∙ none_there r lead j d.0 (not_r j h ne)) (none_there i new j d.0 d.1)
                (mixed_zero (lead (w - 1)) (g (w - 1)) u.by.0)
          ]
        ]
      ]

      pub mixed_columns : IsMixed L c n t (in_columns m w s' i new)
      mixed_columns = record {
        by = (
          u.by.0,
          u.by.1,
          λ j h. ap (λ a. a *ℤ t j -ℤ t c *ℤ L j) lead_c ∙ ap (λ a. lead (w - 1) *ℤ a -ℤ t c *ℤ L j) (at j h)
              ∙ ap (λ a. lead (w - 1) *ℤ seen i g j -ℤ a *ℤ L j) (at c cn ∙ seen_here i g c refl)
              ∙ ap (λ a. lead (w - 1) *ℤ seen i g j -ℤ g (w - 1) *ℤ a) (is j h) ∙ mixed_at j h,
        );
      }

      new_zero : (k : ℕ) → k < w → g k ≡ pos 0 → lead k ≡ pos 0 → new k ≡ pos 0
      new_zero k h a b = cancel_zero u.by.0 (new k) u.by.1 (sym (u.by.2 k h) ∙ ap (λ x. lead (w - 1) *ℤ x -ℤ g (w - 1) *ℤ lead k) a
          ∙ ap (λ x. lead (w - 1) *ℤ pos 0 -ℤ g (w - 1) *ℤ x) b ∙ mixed_zero (lead (w - 1)) (g (w - 1)) (pos 0))

      new_spare : new (w - 1) ≡ pos 0
      new_spare = cancel_zero u.by.0 (new (w - 1)) u.by.1 (sym (u.by.2 (w - 1) (omega arith))
          ∙ (let z : lead (w - 1) *ℤ g (w - 1) -ℤ g (w - 1) *ℤ lead (w - 1) ≡ pos 0 = simp ring (omega (arith, linear)) in z))

      -- a column of a place that is not the spare one
      other_place : (h k j : ℕ) → k ≢ w - 1 → moved h j ≡ k → (j ≢ c) × (place_in m w (s' j) h ≡ k)
      other_place h k j nb e = elim (cases_eq j c) [
        | inl s ↦ absurd (nb (sym e ∙ moved_here h j s))
        | inr ne ↦ (ne, sym (moved_other h j ne) ∙ e)
      ]

      pub mixed_covered : ((k : ℕ) → k < w → (g k ≡ pos 0) ⊎ ((j : ℕ) × (j < n) × (moved i j ≡ k))) → IsCovered m w n s' i new
      mixed_covered cov k h = elim (cases_eq k (w - 1)) [
        | inl e ↦ inl (ap new e ∙ new_spare)
        | inr nb ↦ elim (cov k h) [
          | inr x ↦ inr (x.0, x.1, (other_place i k x.0 nb x.2).1)
          | inl z ↦ elim (covered k h) [
            | inl y ↦ inl (new_zero k h z y)
            | inr y ↦ (let o = other_place r k y.0 nb y.2 in elim (placed m w (s' y.0) r).place [
              | inl a ↦ inr (y.0, y.1, place_slot m w (s' y.0) i a.0 ∙ sym a.1 ∙ o.1)
              | inr v ↦ elim v [
                | inl b ↦ absurd (not_r y.0 y.1 o.0 b.0)
                | inr d ↦ absurd (omega (arith, d.2, o.1, h))
              ]
            ])
          ]
        ]
      ]

      pub reduced_columns : 0 < n → ((k : ℕ) → k < w → (g k ≡ pos 0) ⊎ ((j : ℕ) × (j < n) × (moved i j ≡ k))) → IsPrimitive (w - 1) new
          → IsReduced L c n t (in_columns m w s' i new)
      reduced_columns nn cov prim = record {
        multiple = mixed_columns;
        primitive = looked_primitive w n (λ j. place_in m w (s' j) i) nn (omega arith) new (mixed_covered cov) prim;
      }

  -- ---- row r in the end: the lead with its number in column c at place 0
  module _ (lead h : ℕ → ℤ) (zero : lead 0 ≡ pos 0) (sw : IsSwapped 0 (w - 1) w lead h) where
    pub final_columns : (j : ℕ) → j < n → in_columns m w s' r h j ≡ seen r lead j
    final_columns j jn = elim (cases_eq j c) [
      | inl e ↦ ap (at_place w h) (place_own m w (s' j) r (omega (arith, ap s' e, af.own, rm)) (ap s' e ∙ af.own)) ∙ number_inside w h 0 (omega arith)
          ∙ sw.first ∙ sym (seen_here r lead j e)
      | inr ne ↦ kept_number lead h (place_in m w (s' j) r) (λ l. sw.others (place_in m w (s' j) r) l
          (λ e. ne (stands_after.differ j c jn cn (own_at m w (s' j) r some e ∙ sym af.own))) (not_spare some stands_after r j jn))
          ∙ sym (seen_other r lead j ne)
    ]

    pub final_covered : ((k : ℕ) → k < w → (lead k ≡ pos 0) ⊎ ((j : ℕ) × (j < n) × (moved r j ≡ k))) → IsCovered m w n s' r h
    final_covered cov k kw = elim (cases_eq k 0) [
      | inl e ↦ inr (c, cn, place_own m w (s' c) r (omega (arith, af.own, rm)) af.own ∙ sym e)
      | inr n0 ↦ elim (cases_eq k (w - 1)) [
        | inl e ↦ inl (ap h e ∙ sw.second ∙ zero)
        | inr nb ↦ elim (cov k kw) [
          | inl z ↦ inl (sw.others k kw n0 nb ∙ z)
          | inr x ↦ inr (
            x.0,
            x.1,
            elim (cases_eq x.0 c) [
              | inl e ↦ absurd (nb (sym x.2 ∙ moved_here r x.0 e))
              | inr ne ↦ sym (moved_other r x.0 ne) ∙ x.2
            ],
          )
        ]
      ]
    ]

  -- ---- all rows: F has row i by places, and `lead` is what row r is taken to
  module _ (F : ℕ → ℕ → ℤ) (covers : (i : ℕ) → i < m + 1 → IsCovered m w n s i (F i)) (lead : ℕ → ℤ) (u : IsRowLed (F r) lead q (w - 1) w) where
    -- the lead is 0 where the row is
    lead_zero : (k : ℕ) → k < w → u.row.0 k ≡ pos 0 → lead k ≡ pos 0
    lead_zero k h z = let d = lead_by u.row.0 lead (w - 1) w u.row.2 in cancel_zero d.0 (lead k) d.1 (elim d.2 [
      | inl a ↦ sym (a k h) ∙ z
      | inr a ↦ (let e = a k h in omega (arith, linear))
    ])

    pub lead_own_zero : lead 0 ≡ pos 0
    lead_own_zero = lead_zero 0 (omega arith) (own_zero (F r) u.row.0 u.row.1 (covers r (omega arith)))

    pub lead_covered : (k : ℕ) → k < w → (lead k ≡ pos 0) ⊎ ((j : ℕ) × (j < n) × (moved r j ≡ k))
    lead_covered k h = elim (led_covered (F r) u.row.0 u.row.1 (covers r (omega arith)) k h) [ inl z ↦ inl (lead_zero k h z) | inr x ↦ inr x ]

    pub lead_columns : (L : ℕ → ℤ) → ((j : ℕ) → j < n → L j ≡ seen r lead j) → IsLeadOf (in_columns m w s r (F r)) L c n
    lead_columns L is =
        let mid = u.row.0 in let v = u.row.2 in let t = in_columns m w s r (F r) in
        let at : (j : ℕ) → j < n → t j ≡ seen r mid j = led_columns (F r) mid u.row.1 (covers r (omega arith)) in
        let N : ℤ → Type 0 = λ x. pos 0 ≤ℤ x in
        let nn : 0 < n = omega arith in let ww : 0 < w = omega arith in
        record {
          own = subst N (sym (is c cn ∙ seen_here r lead c refl)) v.own;
          divided = elim v.divided [
            | inl d ↦ inl (divided_same n (seen r mid) t (seen r lead) L nn (λ j h. sym (at j h)) (λ j h. sym (is j h))
                (looked_divided w n (moved r) mid lead nn ww lead_covered d))
            | inr d ↦ inr (divided_same n (seen r (λ k. neg_ℤ (mid k))) (λ j. neg_ℤ (t j)) (seen r lead) L nn
                (λ j h. looked_neg w n (moved r) mid j ∙ ap neg_ℤ (sym (at j h))) (λ j h. sym (is j h))
                (looked_divided w n (moved r) (λ k. neg_ℤ (mid k)) lead nn ww lead_covered d))
          ];
        }

    module _ (L : ℕ → ℤ) (is : (j : ℕ) → j < n → L j ≡ seen r lead j) (i : ℕ) (ir : i ≢ r) (im : i < m + 1) where
      at_row : (mid : ℕ → ℤ) → IsSlotFreed q (w - 1) w (F i) mid → (j : ℕ) → j < n → in_columns m w s i (F i) j ≡ seen i mid j
      at_row mid fr = freed_columns i ir (F i) mid fr (covers i im)

      cov_row : (mid : ℕ → ℤ) → IsSlotFreed q (w - 1) w (F i) mid → (k : ℕ) → k < w → (mid k ≡ pos 0) ⊎ ((j : ℕ) × (j < n) × (moved i j ≡ k))
      cov_row mid fr = freed_covered i ir (F i) mid fr (covers i im)

      pub cleared_columns : (new : ℕ → ℤ) → IsRowCleared lead q (w - 1) w (F i) new
          → (IsMixed L c n (in_columns m w s i (F i)) (in_columns m w s' i new)) × IsCovered m w n s' i new
      cleared_columns new v = let x = v.row in (
        mixed_columns lead L lead_own_zero lead_covered is i ir (in_columns m w s i (F i)) x.0 new (at_row x.0 x.1) x.2,
        mixed_covered lead L lead_own_zero lead_covered is i ir (in_columns m w s i (F i)) x.0 new (at_row x.0 x.1) x.2 (cov_row x.0 x.1),
      )

      pub reduced_row : (mid new : ℕ → ℤ) → IsSlotFreed q (w - 1) w (F i) mid → IsReduced lead (w - 1) w mid new
          → (IsReduced L c n (in_columns m w s i (F i)) (in_columns m w s' i new)) × IsCovered m w n s' i new
      reduced_row mid new fr v = (
        reduced_columns lead L lead_own_zero lead_covered is i ir (in_columns m w s i (F i)) mid new (at_row mid fr) v.multiple (omega arith) (cov_row mid fr)
            v.primitive,
        mixed_covered lead L lead_own_zero lead_covered is i ir (in_columns m w s i (F i)) mid new (at_row mid fr) v.multiple (cov_row mid fr),
      )

    -- the places that have columns are all that matter
    pub support_row : (live : List ℕ) (found : ℕ) → AreLivePlaces m w n s' live found → (i : ℕ) → i ≢ r → i < m + 1 → (mid : ℕ → ℤ)
        → IsSlotFreed q (w - 1) w (F i) mid → IsSupport (take found live) (length (take found live)) w mid lead
    support_row live found a i ir im mid fr =
        let long : length (take found live) ≡ found = length-take-le found live a.few in
        let at : (k : ℕ) → k < found → slice_index (take found live) k ≡ slice_index live k = λ k h. get_or-take found live k 0 h in
        let there : (h k j : ℕ) → k < w → ((x : ℕ) → x < length (take found live) → slice_index (take found live) x ≢ k) → j < n → moved h j ≡ k
        → ⊥ = λ h k j kw none jn e. elim (cases_eq j c) [
          | inl z ↦ none 1 (omega (arith, long, a.some)) (at 1 a.some ∙ a.spare ∙ sym (moved_here h j z) ∙ e)
          | inr ne ↦ (let p : place_in m w (s' j) h ≡ k = sym (moved_other h j ne) ∙ e in elim (placed m w (s' j) h).place [
            | inl x ↦ (let y = a.all j jn x.0 in none y.0 (omega (arith, long, y.1)) (at y.0 y.1 ∙ y.2 ∙ sym x.1 ∙ p))
            | inr x ↦ elim x [
              | inl y ↦ none 0 (omega (arith, long, a.some)) (at 0 (omega (arith, a.some)) ∙ a.own ∙ sym y.2 ∙ p)
              | inr y ↦ omega (arith, y.2, p, kw)
            ]
          ])
        ] in
        record {
          few = omega arith;
          inside = λ k h. (let b : k < found = omega (arith, h, long) in omega (arith, at k b, a.inside k b));
          differ = λ k h kl hl e. (let kf : k < found = omega (arith, kl, long) in let hf : h < found = omega (arith, hl, long) in
              elim (cases_order k h) [
                | inl same ↦ same
                | inr x ↦ elim x [
                  | inl less ↦ absurd (a.differ k h less hf (sym (at k kf) ∙ e ∙ at h hf))
                  | inr more ↦ absurd (a.differ h k more kf (sym (at h hf) ∙ sym e ∙ at k kf))
                ]
              ]);
          outside = λ k kw none. (
            elim (freed_covered i ir (F i) mid fr (covers i im) k kw) [ inl z ↦ z | inr x ↦ absurd (there i k x.0 kw none x.1 x.2) ],
            elim (lead_covered k kw) [ inl z ↦ z | inr x ↦ absurd (there r k x.0 kw none x.1 x.2) ],
          );
        }

    -- the pivot by columns, where G has the rows after it
    pub pivot_columns : (G : ℕ → ℕ → ℤ) → IsSwapped 0 (w - 1) w lead (G r) → ((i : ℕ) → i < m + 1 → i ≢ r → IsRowCleared lead q (w - 1) w (F i) (G i))
        → ((i k : ℕ) → i < m + 1 → k < w → IsNarrow (G i k))
        → (IsCleared (λ i. in_columns m w s i (F i)) (λ i. in_columns m w s' i (G i)) (m + 1) n r c)
        × ((i : ℕ) → i < m + 1 → IsCovered m w n s' i (G i))
    pivot_columns G sw cleared narrow =
        let L = in_columns m w s' r (G r) in
        let is : (j : ℕ) → j < n → L j ≡ seen r lead j = final_columns lead (G r) lead_own_zero sw in (
          record {
            lead = lead_columns L is;
            others = λ i im ne. (cleared_columns L is i ne im (G i) (cleared i im ne)).0;
            narrow = λ i j im jn. looked_along w n (λ j. place_in m w (s' j) i) (λ x y. IsNarrow x) (G i) (G i) (omega arith) (λ k l. narrow i k im l) j;
          },
          λ i im. elim (cases_eq i r) [
            | inl e ↦ (let P : ℕ → Type 0 = λ t. IsCovered m w n s' t (G t) in subst P (sym e) (final_covered lead (G r) lead_own_zero sw lead_covered))
            | inr ne ↦ (cleared_columns L is i ne im (G i) (cleared i im ne)).1
          ],
        )

    -- row i is the first that has a wide number
    module _ (i by : ℕ) (mixed : List ℤ) (ir : i ≢ r) (im : i < m + 1) (mid new : ℕ → ℤ) (fr : IsSlotFreed q (w - 1) w (F i) mid)
        (red : IsReduced lead (w - 1) w mid new) where
      pub wide_column : (k : ℕ) → k < w → (IsNarrow (new k) → ⊥) → (j : ℕ) × (j < n) × (IsNarrow (in_columns m w s' i new j) → ⊥)
      wide_column k kw wide = elim ((reduced_row (seen r lead) (λ j h. refl) i ir im mid new fr red).1 k kw) [
        | inl z ↦ absurd (wide (let N : ℤ → Type 0 = λ t. IsNarrow t in subst N (sym z) (omega arith)))
        | inr x ↦ (
          x.0,
          x.1,
          λ h. wide (let N : ℤ → Type 0 = λ t. IsNarrow t in subst N (ap (at_place w new) x.2 ∙ number_inside w new k kw) h),
        )
      ]

      pub wide_cleared : (j : ℕ) (z : ℤ) → IsFirstWideOf n (in_columns m w s' i new) j z
          → ((h : ℕ) → h < i → h ≢ r → (g : ℕ → ℤ) × (IsRowCleared lead q (w - 1) w (F h) g) × ((k : ℕ) → k < w → IsNarrow (g k)))
          → IsClearedTo (λ i. in_columns m w s i (F i)) (seen r lead) (m + 1) n r c i j z
      wide_cleared j z f before = record {
        lead = lead_columns (seen r lead) (λ j h. refl);
        narrow = λ k l. looked_along w n (moved r) (λ x y. IsNarrow x) lead lead (omega arith) u.narrow k;
        inside = im;
        apart = ir;
        here = record {
          inside = f.inside;
          size = f.size;
          wide = f.wide;
          row = (in_columns m w s' i new, (reduced_row (seen r lead) (λ j h. refl) i ir im mid new fr red).0, f.here, f.before);
        };
        before = λ h l ne. (let b = before h l ne in (
          in_columns m w s' h b.0,
          (cleared_columns (seen r lead) (λ j h. refl) h ne (omega arith) b.0 b.1).0,
          λ k kl. looked_along w n (λ j. place_in m w (s' j) h) (λ x y. IsNarrow x) b.0 b.0 (omega arith) b.2 k,
        ));
      }
