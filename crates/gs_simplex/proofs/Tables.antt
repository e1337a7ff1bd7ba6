-- A pivot on a whole table: the table after it where all numbers are narrow, and else the first number that is not.
use Rattle.std.proofs.Common.{◌≡◌, ◌≢◌, ℕ, suc, ◌+◌, ◌-◌, ◌<◌, ◌≤◌, ◌^◌, ◌⊎◌, inl, inr, cond, nat_eq, ℤ, pos, ◌+ℤ◌, ◌-ℤ◌, ◌*ℤ◌, neg_ℤ, ◌≤ℤ◌}
use Rattle.std.proofs.Common.{◌<ℤ◌, unsigned_abs, refl, sym, ap, subst, ◌∙◌, arith}
use Rattle.std.proofs.{lemmas.Bool.{cases_eq, cases_lt}, lemmas.Int.{ints}, lemmas.Nat.Gcd.{dvd-zero}}
use Prim.Native.Nat.{◌∣◌}
use Rattle.gs_simplex.specs.{declared.program.Program.{Program}, Rows.{IsNarrow, IsPrimitive}, Elimination.{IsEliminated}, Path.{IsFirstWide}}
use Rattle.gs_simplex.specs.Numbers.{IsMultiple, IsReduced, IsMixed, IsLeadOf}
use Rattle.gs_simplex.specs.Table.{IsTable, IsKept, IsTableAfter, stated, IsWideAfter}
use Rattle.gs_simplex.proofs.{Ring.{linear, times_zero, times_neg, times_pos, cancel_zero}, Pivot.{primitive_same}, Exists.{elimination_exists}}
use Rattle.gs_simplex.proofs.{Primitive.{zero_abs}, Multiples.{multiple_of_same, multiple_of_equal, mixed_along, down_narrow, up_zero, same_turn}}
use Rattle.gs_simplex.proofs.{Places.{lead_by}, Standing.{IsCleared, IsClearedTo}}

-- ---- a row with 0 at its end
pub primitive_shorter : (last : ℕ) (f : ℕ → ℤ) → f (last + 1) ≡ pos 0 → IsPrimitive (last + 1) f → IsPrimitive last f
primitive_shorter last f z u = elim u.form [
  | inl zs ↦ record { form = inl (λ j h. zs j (omega arith)) }
  | inr d ↦ record {
    form = inr (λ k h. d k (λ j l. elim (cases_eq j (last + 1)) [
      | inl e ↦ (let s : unsigned_abs (f j) ≡ 0 = ap unsigned_abs (ap f e ∙ z) in let P : ℕ → Type 0 = λ t. k ∣ t in subst P (sym s) (dvd-zero k))
      | inr ne ↦ h j (omega arith)
    ]));
  }
]

-- ---- a row with the number at place n negated
abbrev pub flipped : ℕ → (ℕ → ℤ) → ℕ → ℤ
flipped n f j = cond (nat_eq j n) (neg_ℤ (f j)) (f j)

pub flipped_at : (n : ℕ) (f : ℕ → ℤ) → flipped n f n ≡ neg_ℤ (f n)
flipped_at n f = grind (arith, Rattle.std.proofs.lemmas.Bool.Decides.nat_tests)

pub flipped_other : (n : ℕ) (f : ℕ → ℤ) (j : ℕ) → j ≢ n → flipped n f j ≡ f j
flipped_other n f j ne = grind (arith, Rattle.std.proofs.lemmas.Bool.Decides.nat_tests)

pub flipped_abs : (n : ℕ) (f : ℕ → ℤ) (j : ℕ) → unsigned_abs (flipped n f j) ≡ unsigned_abs (f j)
flipped_abs n f j = elim (cases_eq j n) [
  | inl e ↦ (let P : ℕ → Type 0 = λ k. unsigned_abs (flipped n f k) ≡ unsigned_abs (f k) in
      subst P (sym e) (ap unsigned_abs (flipped_at n f) ∙ (let q : unsigned_abs (neg_ℤ (f n)) ≡ unsigned_abs (f n) = omega (arith, ints) in q)))
  | inr ne ↦ ap unsigned_abs (flipped_other n f j ne)
]

pub primitive_flipped : (n last : ℕ) (f g : ℕ → ℤ) → ((j : ℕ) → unsigned_abs (g j) ≡ unsigned_abs (f j)) → IsPrimitive last f → IsPrimitive last g
primitive_flipped n last f g e u = elim u.form [
  | inl z ↦ record { form = inl (λ j h. zero_abs (g j) (e j ∙ ap unsigned_abs (z j h))) }
  | inr d ↦ record { form = inr (λ k h. d k (λ j l. let P : ℕ → Type 0 = λ t. k ∣ t in subst P (e j) (h j l))) }
]

-- negated at a place on the other side
pub flipped_in : (n last : ℕ) (k : ℤ) (f g : ℕ → ℤ) → ((j : ℕ) → j ≤ last → flipped n f j ≡ k *ℤ g j) → (j : ℕ) → j ≤ last → f j ≡ k *ℤ flipped n g j
flipped_in n last k f g e j h = elim (cases_eq j n) [
  | inl s ↦
      (let a : flipped n f j ≡ neg_ℤ (f j) = (let P : ℕ → Type 0 = λ t. flipped n f t ≡ neg_ℤ (f t) in subst P (sym s) (flipped_at n f)) in
      let b : flipped n g j ≡ neg_ℤ (g j) = (let P : ℕ → Type 0 = λ t. flipped n g t ≡ neg_ℤ (g t) in subst P (sym s) (flipped_at n g)) in
      let c : flipped n f j ≡ k *ℤ g j = e j h in
      let d : f j ≡ neg_ℤ (k *ℤ g j) = omega (arith, linear) in
      d ∙ sym (times_neg k (g j)) ∙ ap (λ t. k *ℤ t) (sym b))
  | inr ne ↦ sym (flipped_other n f j ne) ∙ e j h ∙ ap (λ t. k *ℤ t) (sym (flipped_other n g j ne))
]

pub flipped_out : (n last : ℕ) (g k : ℤ) (f q : ℕ → ℤ) → ((j : ℕ) → j ≤ last → g *ℤ f j ≡ k *ℤ flipped n q j) → (j : ℕ) → j ≤ last
    → g *ℤ flipped n f j ≡ k *ℤ q j
flipped_out n last g k f q e j h = elim (cases_eq j n) [
  | inl s ↦
      (let a : flipped n f j ≡ neg_ℤ (f j) = (let P : ℕ → Type 0 = λ t. flipped n f t ≡ neg_ℤ (f t) in subst P (sym s) (flipped_at n f)) in
      let b : flipped n q j ≡ neg_ℤ (q j) = (let P : ℕ → Type 0 = λ t. flipped n q t ≡ neg_ℤ (q t) in subst P (sym s) (flipped_at n q)) in
      let c : g *ℤ f j ≡ neg_ℤ (k *ℤ q j) = e j h ∙ ap (λ t. k *ℤ t) b ∙ times_neg k (q j) in
      let d : g *ℤ neg_ℤ (f j) ≡ neg_ℤ (g *ℤ f j) = times_neg g (f j) in
      ap (λ t. g *ℤ t) a ∙ omega (arith, linear))
  | inr ne ↦ ap (λ t. g *ℤ t) (flipped_other n f j ne) ∙ e j h ∙ ap (λ t. k *ℤ t) (flipped_other n q j ne)
]

-- ---- a pivot on the table, with its row r taken to the lead
module _ (p : Program) (old : ℕ → ℕ → ℤ) (lead : ℕ → ℤ) (r c : ℕ) (rows : r < p.rows) (cols : c < p.cols) (table : IsTable p old)
    (taken : IsLeadOf (old r) lead c (p.cols + 2)) (nonzero : old r c ≢ pos 0) where
  -- by what the row that is taken is divided, and whether it is negated
  by : (d : ℤ) × (pos 0 <ℤ d) × (((j : ℕ) → j < p.cols + 2 → old r j ≡ d *ℤ lead j)
      ⊎ ((j : ℕ) → j < p.cols + 2 → old r j ≡ neg_ℤ (d *ℤ lead j))) × IsPrimitive (p.cols + 2 - 1) lead
  by = lead_by (old r) lead c (p.cols + 2) taken

  -- the lead is 0 only where the row is, and where it is
  lead_zero : (j : ℕ) → j < p.cols + 2 → lead j ≡ pos 0 → old r j ≡ pos 0
  lead_zero j h z = let d = by in let e : d.0 *ℤ lead j ≡ pos 0 = ap (λ t. d.0 *ℤ t) z ∙ times_zero d.0 in
      elim d.2 [ inl s ↦ s j h ∙ e | inr s ↦ s j h ∙ ap neg_ℤ e ]

  zero_lead : (j : ℕ) → j < p.cols + 2 → old r j ≡ pos 0 → lead j ≡ pos 0
  zero_lead j h z = let d = by in cancel_zero d.0 (lead j) d.1 (elim d.2 [
    | inl s ↦ sym (s j h) ∙ z
    | inr s ↦ (let e = s j h in omega (arith, linear))
  ])

  own : pos 0 <ℤ lead c
  own = let h : pos 0 ≤ℤ lead c = taken.own in let ne : lead c ≢ pos 0 = λ z. nonzero (lead_zero c (omega arith) z) in omega (arith, ints)

  -- the lead has 0 at the further place
  lead_end : lead (p.cols + 1) ≡ pos 0
  lead_end = zero_lead (p.cols + 1) (omega arith) (table.zero r rows)

  lead_primitive : IsPrimitive p.cols lead
  lead_primitive = primitive_shorter p.cols lead lead_end
      (let s : p.cols + 2 - 1 ≡ p.cols + 1 = omega arith in let P : ℕ → Type 0 = λ k. IsPrimitive k lead in subst P s by.3)

  reduced_primitive : (old new : ℕ → ℤ) → IsReduced lead c (p.cols + 2) old new → IsPrimitive (p.cols + 1) new
  reduced_primitive o new u = let s : p.cols + 2 - 1 ≡ p.cols + 1 = omega arith in let P : ℕ → Type 0 = λ k. IsPrimitive k new in subst P s u.primitive

  -- a program row keeps 0 at the further place
  mixed_end : (i : ℕ) (new : ℕ → ℤ) → i < p.rows → IsMixed lead c (p.cols + 2) (old i) new → new (p.cols + 1) ≡ pos 0
  mixed_end i new h u =
      let g = u.by in
      let e : lead c *ℤ old i (p.cols + 1) -ℤ old i c *ℤ lead (p.cols + 1) ≡ g.0 *ℤ new (p.cols + 1) =
      g.2 (p.cols + 1) (omega arith) in
      let a : lead c *ℤ old i (p.cols + 1) ≡ pos 0 = ap (λ t. lead c *ℤ t) (table.zero i h) ∙ times_zero (lead c) in
      let b : old i c *ℤ lead (p.cols + 1) ≡ pos 0 = ap (λ t. old i c *ℤ t) lead_end
      ∙ times_zero (old i c) in
      cancel_zero g.0 (new (p.cols + 1)) g.1 (omega (arith, linear))

  reduced_end : (i : ℕ) (new : ℕ → ℤ) → i < p.rows → IsReduced lead c (p.cols + 2) (old i) new → new (p.cols + 1) ≡ pos 0
  reduced_end i new h u = mixed_end i new h u.multiple

  reduced_row_primitive : (i : ℕ) (new : ℕ → ℤ) → i < p.rows → IsReduced lead c (p.cols + 2) (old i) new → IsPrimitive p.cols new
  reduced_row_primitive i new h u = primitive_shorter p.cols new (reduced_end i new h u) (reduced_primitive (old i) new u)

  -- ---- the rows that follow those that the table keeps
  module _ (R : ℕ → ℕ → ℤ) (a : ℕ → ℤ) (kept : IsKept p R a old) (Q : ℕ → ℕ → ℤ) (b : ℕ → ℤ) (el : IsEliminated p R a r c Q b) where
    lead_is : (k : ℕ) → k ≤ p.cols → Q r k ≡ lead k
    lead_is k kn =
        let m = (kept.rows_kept r rows).by in let d = by in
        sym (primitive_same d.0 m.0 d.1 m.1
        (same_turn m.0 d.0 m.1 d.1 p.cols c (omega arith) (R r) (Q r) (old r) lead (λ j jn. m.2 j (omega arith)) el.own own el.self
        (elim d.2 [ inl s ↦ inl (λ j jn. s j (omega arith)) | inr s ↦ inr (λ j jn. s j (omega arith)) ])) lead_primitive (el.primitive r rows) k kn)

    -- what a row that is mixed is times, and what the row that follows is
    row_along : (h : ℕ) (new : ℕ → ℤ) (hm : h < p.rows) (ne : h ≢ r) (u : IsMixed lead c (p.cols + 2) (old h) new) → (k : ℕ) → k ≤ p.cols
        → u.by.0 *ℤ new k ≡ ((kept.rows_kept h hm).by.0 *ℤ (el.other h hm ne).0) *ℤ Q h k
    row_along h new hm ne u k kn =
        let o = el.other h hm ne in let m = (kept.rows_kept h hm).by in
        mixed_along (lead c) (old h k) (old h c) (lead k) m.0 (R h k) (R h c) u.by.0 (new k) o.0 (Q h k)
        (u.by.2 k (omega arith)) (m.2 k (omega arith)) (m.2 c (omega arith))
        (ap (λ t. t *ℤ R h k -ℤ R h c *ℤ lead k) (sym (lead_is c (omega arith))) ∙ ap (λ t. Q r c *ℤ R h k -ℤ R h c *ℤ t) (sym (lead_is k kn)) ∙ o.2 k kn)

    row_factor : (h : ℕ) (hm : h < p.rows) (ne : h ≢ r) → pos 0 <ℤ ((kept.rows_kept h hm).by.0 *ℤ (el.other h hm ne).0)
    row_factor h hm ne = times_pos _ _ (kept.rows_kept h hm).by.1 (el.other h hm ne).1

    row_multiple : (h : ℕ) (new : ℕ → ℤ) → h < p.rows → h ≢ r → IsMixed lead c (p.cols + 2) (old h) new → IsMultiple (p.cols + 1) new (Q h)
    row_multiple h new hm ne u = multiple_of_same p.cols u.by.0 ((kept.rows_kept h hm).by.0 *ℤ (el.other h hm ne).0) u.by.1 (row_factor h hm ne) new (Q h)
        (row_along h new hm ne u) (el.primitive h hm)

    row_is : (h : ℕ) (new : ℕ → ℤ) → h < p.rows → h ≢ r → IsReduced lead c (p.cols + 2) (old h) new → (k : ℕ) → k ≤ p.cols → Q h k ≡ new k
    row_is h new hm ne u k kn =
        let v = u.multiple in
        sym (primitive_same v.by.0 ((kept.rows_kept h hm).by.0 *ℤ (el.other h hm ne).0) v.by.1 (row_factor h hm ne)
        (row_along h new hm ne v) (reduced_row_primitive h new hm u) (el.primitive h hm) k kn)

    -- the aim's row with its last number negated, as the table has it
    aim_flat : (k : ℕ) → k ≤ p.cols + 1 → lead c *ℤ flipped p.cols a k -ℤ flipped p.cols a c *ℤ lead k ≡ el.aim_row.0 *ℤ flipped p.cols b k
    aim_flat k kn =
        let n = p.cols in let X = flipped p.cols a in let e = el.aim_row in
        let far : X c ≡ a c = flipped_other n a c (λ e. omega arith) in
        let le = lead_is c (omega arith) in
        let past : (k : ℕ) → k < n → lead c *ℤ X k -ℤ X c *ℤ lead k ≡ e.0 *ℤ flipped n b k = λ k l.
        ap (λ t. lead c *ℤ t -ℤ X c *ℤ lead k) (flipped_other n a k (λ e. omega arith)) ∙ ap (λ t. lead c *ℤ a k -ℤ t *ℤ lead k) far
        ∙ ap (λ t. t *ℤ a k -ℤ a c *ℤ lead k) (sym le) ∙ ap (λ t. Q r c *ℤ a k -ℤ a c *ℤ t) (sym (lead_is k (omega arith))) ∙ e.2 k l
        ∙ ap (λ t. e.0 *ℤ t) (sym (flipped_other n b k (λ e. omega arith))) in
        elim (cases_lt k n) [
          | inl l ↦ past k l
          | inr m ↦ elim (cases_eq k n) [
            | inl s ↦
                (let v : lead c *ℤ a n +ℤ a c *ℤ lead n ≡ e.0 *ℤ b n = ap (λ t. t *ℤ a n +ℤ a c *ℤ lead n) (sym le)
                ∙ ap (λ t. Q r c *ℤ a n +ℤ a c *ℤ t) (sym (lead_is n (omega arith))) ∙ e.3 in
                let w : lead c *ℤ neg_ℤ (a n) -ℤ a c *ℤ lead n ≡ e.0 *ℤ neg_ℤ (b n) = omega (arith, linear, times_neg e.0 (b n), times_neg (lead c) (a n)) in
                let P : ℕ → Type 0 = λ t. lead c *ℤ X t -ℤ X c *ℤ lead t ≡ e.0 *ℤ flipped n b t in
                subst P (sym s) (ap (λ t. lead c *ℤ t -ℤ X c *ℤ lead n) (flipped_at n a) ∙ ap (λ t. lead c *ℤ neg_ℤ (a n) -ℤ t *ℤ lead n) far ∙ w
                ∙ ap (λ t. e.0 *ℤ t) (sym (flipped_at n b))))
            | inr ne ↦
                (let s : suc n ≡ k = omega arith in
                let end : lead (suc n) ≡ pos 0 = ap lead (let q : suc n ≡ n + 1 = omega arith in q) ∙ lead_end in
                let z : X c *ℤ lead (suc n) ≡ pos 0 = ap (λ t. X c *ℤ t) end ∙ times_zero (X c) in
                let v : lead c *ℤ X (suc n) ≡ e.0 *ℤ flipped n b (suc n) = ap (λ t. lead c *ℤ t) (flipped_other n a (suc n) (λ e. omega arith))
                ∙ ap (λ t. t *ℤ a (suc n)) (sym le) ∙ e.4 ∙ ap (λ t. e.0 *ℤ t) (sym (flipped_other n b (suc n) (λ e. omega arith))) in
                let P : ℕ → Type 0 = λ t. lead c *ℤ X t -ℤ X c *ℤ lead t ≡ e.0 *ℤ flipped n b t in
                subst P s (omega (arith, linear)))
          ]
        ]

    aim_along : (new : ℕ → ℤ) → (u : IsMixed lead c (p.cols + 2) (old p.rows) new) → (k : ℕ) → k ≤ p.cols + 1
        → u.by.0 *ℤ new k ≡ (kept.aim_kept.by.0 *ℤ el.aim_row.0) *ℤ flipped p.cols b k
    aim_along new u k kn =
        let n = p.cols in let m = kept.aim_kept.by in let X = old p.rows in
        let x : (j : ℕ) → j ≤ n + 1 → X j ≡ m.0 *ℤ flipped n a j = flipped_in n (n + 1) m.0 X a (λ j jn. m.2 j (omega arith)) in
        mixed_along (lead c) (X k) (X c) (lead k) m.0 (flipped n a k) (flipped n a c) u.by.0 (new k) el.aim_row.0 (flipped n b k)
        (u.by.2 k (omega arith)) (x k kn) (x c (omega arith)) (aim_flat k kn)

    aim_factor : pos 0 <ℤ (kept.aim_kept.by.0 *ℤ el.aim_row.0)
    aim_factor = times_pos _ _ kept.aim_kept.by.1 el.aim_row.1

    aim_multiple : (new : ℕ → ℤ) → IsMixed lead c (p.cols + 2) (old p.rows) new → IsMultiple (p.cols + 2) (flipped p.cols new) b
    aim_multiple new u = let two : p.cols + 1 + 1 ≡ p.cols + 2 = omega arith in let W : ℕ → Type 0 = λ w. IsMultiple w (flipped p.cols new) b in
        subst W two (multiple_of_same (p.cols + 1) u.by.0 (kept.aim_kept.by.0 *ℤ el.aim_row.0) u.by.1 aim_factor (flipped p.cols new) b
        (flipped_out p.cols (p.cols + 1) u.by.0 (kept.aim_kept.by.0 *ℤ el.aim_row.0) new b (aim_along new u)) el.primitive_aim)

    aim_is : (new : ℕ → ℤ) → IsReduced lead c (p.cols + 2) (old p.rows) new → (k : ℕ) → k ≤ p.cols + 1 → flipped p.cols b k ≡ new k
    aim_is new u k kn =
        let v = u.multiple in
        sym (primitive_same v.by.0 (kept.aim_kept.by.0 *ℤ el.aim_row.0) v.by.1 aim_factor (aim_along new v)
        (reduced_primitive (old p.rows) new u)
        (primitive_flipped p.cols (p.cols + 1) b (flipped p.cols b) (λ k. flipped_abs p.cols b k) el.primitive_aim) k kn)

    -- ---- all rows narrow
    pub kept_after : (new : ℕ → ℕ → ℤ) → ((j : ℕ) → j < p.cols + 2 → new r j ≡ lead j)
        → ((i : ℕ) → i < p.rows + 1 → i ≢ r → IsMixed lead c (p.cols + 2) (old i) (new i)) → IsKept p Q b new
    kept_after new same others = record {
      rows_kept = λ i h. elim (cases_eq i r) [
        | inl e ↦ (let P : ℕ → Type 0 = λ k. IsMultiple (p.cols + 1) (new k) (Q k) in
            subst P (sym e) (multiple_of_equal (p.cols + 1) (new r) (Q r) (λ j jn. same j (omega arith) ∙ sym (lead_is j (omega arith)))))
        | inr ne ↦ row_multiple i (new i) h ne (others i (omega arith) ne)
      ];
      aim_kept = (let ne : p.rows ≢ r = λ e. omega arith in aim_multiple (new p.rows) (others p.rows (omega arith) ne));
    }

  -- ---- what follows exists
  next_exists : (R : ℕ → ℕ → ℤ) (a : ℕ → ℤ) → IsPrimitive p.cols (R r) → IsKept p R a old → (Q : ℕ → ℕ → ℤ) × (b : ℕ → ℤ) × IsEliminated p R a r c Q b
  next_exists R a prim kept = let m = (kept.rows_kept r rows).by in
      elimination_exists (λ z. nonzero (up_zero m.0 (old r c) (R r c) (m.2 c (omega arith)) z)) prim

  table_from : (new : ℕ → ℕ → ℤ) → ((j : ℕ) → j < p.cols + 2 → new r j ≡ lead j)
      → ((i : ℕ) → i < p.rows + 1 → i ≢ r → IsMixed lead c (p.cols + 2) (old i) (new i))
      → ((i j : ℕ) → i < p.rows + 1 → j < p.cols + 2 → IsNarrow (new i j)) → IsTableAfter p old new r c
  table_from new same others narrow = record {
    table = record {
      zero = λ i h. elim (cases_eq i r) [
        | inl e ↦ (let P : ℕ → Type 0 = λ k. new k (p.cols + 1) ≡ pos 0 in subst P (sym e) (same (p.cols + 1) (omega arith) ∙ lead_end))
        | inr ne ↦ mixed_end i (new i) h (others i (omega arith) ne)
      ];
      narrow = λ i j im jn. narrow i j (omega arith) (omega arith);
    };
    after = λ R a prim kept. (let x = next_exists R a prim kept in (x.0, x.1, x.2, kept_after R a kept x.0 x.1 x.2 new same others));
  }

  -- ---- some number not narrow
  module _ (i j : ℕ) (z : ℤ) (cleared : IsClearedTo old lead (p.rows + 1) (p.cols + 2) r c i j z)
      (R : ℕ → ℕ → ℤ) (a : ℕ → ℤ) (kept : IsKept p R a old) (Q : ℕ → ℕ → ℤ) (b : ℕ → ℤ) (el : IsEliminated p R a r c Q b) where
    narrow_is : (x y : ℤ) → unsigned_abs x ≡ unsigned_abs y → IsNarrow y → IsNarrow x
    narrow_is x y e h = omega (arith, h)

    here_row : IsReduced lead c (p.cols + 2) (old i) cleared.here.row.0
    here_row = cleared.here.row.1

    -- the number in a program row is not at the further place
    in_row : i < p.rows → j ≤ p.cols
    in_row im = elim (cases_eq j (p.cols + 1)) [
      | inl e ↦ absurd (let zero_there : z ≡ pos 0 = sym cleared.here.row.2 ∙ ap cleared.here.row.0 e ∙ reduced_end i cleared.here.row.0 im here_row in
          cleared.here.wide (let P : ℤ → Type 0 = λ t. IsNarrow t in subst P (sym zero_there) (let q : unsigned_abs (pos 0) < 2 ^ 62 = omega arith in q)))
      | inr ne ↦ (let h : j < p.cols + 2 = cleared.here.inside in omega arith)
    ]

    narrow_before : (h k : ℕ) → h < p.rows → k ≤ p.cols → (h < i) ⊎ ((h ≡ i) × (k < j)) → IsNarrow (Q h k)
    narrow_before h k hm kn s = elim (cases_eq h r) [
      | inl e ↦ (let P : ℕ → Type 0 = λ t. IsNarrow (Q t k) in let N : ℤ → Type 0 = λ t. IsNarrow t in
          subst P (sym e) (subst N (sym (lead_is R a kept Q b el k kn)) (cleared.narrow k (omega arith))))
      | inr ne ↦ elim s [
        | inl less ↦ (let v = cleared.before h less ne in let m = (row_multiple R a kept Q b el h v.0 hm ne v.1).by in
            down_narrow m.0 (v.0 k) (Q h k) m.1 (m.2 k (omega arith)) (v.2 k (omega arith)))
        | inr q ↦ (let P : ℕ → Type 0 = λ t. IsNarrow (Q t k) in let N : ℤ → Type 0 = λ t. IsNarrow t in
            let im : i < p.rows = omega (arith, q.0, hm) in
            subst P (sym q.0) (subst N (sym (row_is R a kept Q b el i cleared.here.row.0 im cleared.apart here_row k kn)) (cleared.here.row.3 k q.1)))
      ]
    ]

    stated_row : i < p.rows → stated p i j z ≡ z
    stated_row im = grind (arith, Rattle.std.proofs.lemmas.Bool.Decides.nat_tests)

    stated_side : i ≡ p.rows → j ≡ p.cols → stated p i j z ≡ neg_ℤ z
    stated_side e f = grind (arith, Rattle.std.proofs.lemmas.Bool.Decides.nat_tests)

    stated_aim : j ≢ p.cols → stated p i j z ≡ z
    stated_aim ne = grind (arith, Rattle.std.proofs.lemmas.Bool.Decides.nat_tests)

    stated_abs : unsigned_abs (stated p i j z) ≡ unsigned_abs z
    stated_abs = elim (cases_eq j p.cols) [
      | inl f ↦ elim (cases_eq i p.rows) [
        | inl e ↦ ap unsigned_abs (stated_side e f) ∙ (let q : unsigned_abs (neg_ℤ z) ≡ unsigned_abs z = omega (arith, ints) in q)
        | inr ne ↦ ap unsigned_abs (stated_row (let h : i < p.rows + 1 = cleared.inside in omega arith))
      ]
      | inr ne ↦ ap unsigned_abs (stated_aim ne)
    ]

    aim_row_here : (e : i ≡ p.rows) → IsReduced lead c (p.cols + 2) (old p.rows) cleared.here.row.0
    aim_row_here e = let P : ℕ → Type 0 = λ t. IsReduced lead c (p.cols + 2) (old t) cleared.here.row.0 in subst P e here_row

    aim_here : (e : i ≡ p.rows) → b j ≡ stated p i j z
    aim_here e =
        let h : j < p.cols + 2 = cleared.here.inside in
        let s : flipped p.cols b j ≡ z = aim_is R a kept Q b el cleared.here.row.0 (aim_row_here e) j (omega arith) ∙ cleared.here.row.2 in
        elim (cases_eq j p.cols) [
          | inl f ↦ (let g : flipped p.cols b j ≡ neg_ℤ (b j) = (let P : ℕ → Type 0 = λ t. flipped p.cols b t ≡ neg_ℤ (b t) in
              subst P (sym f) (flipped_at p.cols b)) in
              let q : b j ≡ neg_ℤ z = omega (arith, linear) in q ∙ sym (stated_side e f))
          | inr ne ↦ sym (flipped_other p.cols b j ne) ∙ s ∙ sym (stated_aim ne)
        ]

    pub wide_after : IsFirstWide p Q b i j (stated p i j z)
    wide_after = record {
      row = (let h : i < p.rows + 1 = cleared.inside in omega arith);
      here = elim (cases_lt i p.rows) [
        | inl im ↦ inl (
          im,
          in_row im,
          row_is R a kept Q b el i cleared.here.row.0 im cleared.apart here_row j (in_row im) ∙ cleared.here.row.2
              ∙ sym (stated_row im),
        )
        | inr m ↦ (let e : i ≡ p.rows = (let h : i < p.rows + 1 = cleared.inside in omega arith) in
            inr (e, (let h : j < p.cols + 2 = cleared.here.inside in omega arith), aim_here e))
      ];
      wide = λ n. cleared.here.wide (narrow_is z (stated p i j z) (sym stated_abs) n);
      before = narrow_before;
      before_aim = λ k kj e. narrow_is (b k) (flipped p.cols b k) (sym (flipped_abs p.cols b k))
          (let h : j < p.cols + 2 = cleared.here.inside in let P : ℤ → Type 0 = λ t. IsNarrow t in
          subst P (sym (aim_is R a kept Q b el cleared.here.row.0 (aim_row_here e) k (omega arith))) (cleared.here.row.3 k kj));
    }

  wide_from : (i j : ℕ) (z : ℤ) → IsClearedTo old lead (p.rows + 1) (p.cols + 2) r c i j z → IsWideAfter p old r c i j z
  wide_from i j z cleared = record {
    row = (let h : i < p.rows + 1 = cleared.inside in omega arith);
    column = (let h : j < p.cols + 2 = cleared.here.inside in omega arith);
    size = cleared.here.size;
    after = λ R a prim kept. (let x = next_exists R a prim kept in (x.0, x.1, x.2, wide_after i j z cleared R a kept x.0 x.1 x.2));
  }

pub table_after : (p : Program) (old new : ℕ → ℕ → ℤ) (r c : ℕ) → r < p.rows → c < p.cols → IsTable p old → old r c ≢ pos 0
    → IsCleared old new (p.rows + 1) (p.cols + 2) r c → IsTableAfter p old new r c
table_after p old new r c rows cols table nonzero u = table_from p old (new r) r c rows cols table u.lead nonzero new (λ j h. refl) u.others u.narrow

pub wide_after_list : (p : Program) (old : ℕ → ℕ → ℤ) (taken : ℕ → ℤ) (r c i j : ℕ) (z : ℤ) → r < p.rows → c < p.cols → IsTable p old → old r c ≢ pos 0
    → IsClearedTo old taken (p.rows + 1) (p.cols + 2) r c i j z → IsWideAfter p old r c i j z
wide_after_list p old taken r c i j z rows cols table nonzero u = wide_from p old taken r c rows cols table u.lead nonzero i j z u
