-- What a pivot computes exists, and so do the rows of every list whose pairs can be taken in turn.
use Rattle.std.proofs.Common.{◌≡◌, ◌≢◌, ℕ, zero, suc, ◌+◌, ◌<◌, ◌≤◌, ◌⊎◌, inl, inr, [], ◌∷◌, ◌++◌, length, slice_index_or, take, ℤ, pos, ◌+ℤ◌, ◌-ℤ◌, ◌*ℤ◌}
use Rattle.std.proofs.Common.{neg_ℤ, ◌<ℤ◌, unsigned_abs, refl, sym, ap, subst, ◌∙◌, arith}
use Rattle.std.proofs.{lemmas.Bool.{cases_eq, cases_lt}, lemmas.Int.{ints}, lemmas.List.{take_more}, Math.Nat.{eq-one_of_dvd-one}}
use Prim.Native.Nat.{◌∣◌}
use Rattle.gs_simplex.specs.{declared.program.Program.{Program}, Sums.{sum_to}, Rows.{IsUnlistedRow, IsPrimitive}, Elimination.{IsEliminated}}
use Rattle.gs_simplex.specs.Program.{number, aim_of, Listing, RowListed, ColListed, IsRowsOf, CanTake, IsTakenInTurn, IsRegularList}
use Rattle.gs_simplex.proofs.{Ring.{ring, linear, sign_of, times_zero, zero_times, times_pos, cancel_zero}, Sums.{sum_single, sum_zero}}
use Rattle.gs_simplex.proofs.{Pivot.{combination_divided}, Primitive.{primitive_exists}, Solutions.{only_at, only_at_same, only_at_other, program_row}}
use Rattle.gs_simplex.proofs.{Steps.{IsList, take_rows}, Rows.{unlisted_proportional}, Opening.{opened}}

neg_primitive : (n : ℕ) (R : ℕ → ℤ) → IsPrimitive n R → IsPrimitive n (λ j. neg_ℤ (R j))
neg_primitive n R u = elim u.form [
  | inl z ↦ record { form = inl (λ j jn. let e : R j ≡ pos 0 = z j jn in omega (arith, linear)) }
  | inr d ↦ record {
    form = inr (λ k h. d k (λ j jn. let e : unsigned_abs (neg_ℤ (R j)) ≡ unsigned_abs (R j) = omega (arith, ints) in let P : ℕ
        → Type 0 = λ t. k ∣ t in subst P e (h j jn)));
  }
]

-- the pivot row with a positive number in its column
abbrev turned : ℤ → (ℕ → ℤ) → ℕ → ℤ
turned x R j = elim (sign_of x) [ inl l ↦ neg_ℤ (R j) | inr g ↦ R j ]

turned_cases : (n c : ℕ) (R : ℕ → ℤ) → R c ≢ pos 0 → IsPrimitive n R → (pos 0 <ℤ turned (R c) R c) × (IsPrimitive n (turned (R c) R))
    × (((j : ℕ) → j ≤ n → turned (R c) R j ≡ R j) ⊎ ((j : ℕ) → j ≤ n → turned (R c) R j ≡ neg_ℤ (R j)))
turned_cases n c R ne u = elim (sign_of (R c)) as (λ q. let S : ℕ → ℤ = λ j. elim q as (λ w. ℤ) [ inl l ↦ neg_ℤ (R j) | inr g ↦ R j ] in
    (pos 0 <ℤ S c) × (IsPrimitive n S) × (((j : ℕ) → j ≤ n → S j ≡ R j) ⊎ ((j : ℕ) → j ≤ n → S j ≡ neg_ℤ (R j)))) [
      | inl l ↦ (omega (arith, linear), neg_primitive n R u, inr (λ j h. refl))
      | inr g ↦ (elim g [ inl z ↦ absurd (ne z) | inr h ↦ h ], u, inl (λ j h. refl))
    ]

module _ {p : Program} {R : ℕ → ℕ → ℤ} {a : ℕ → ℤ} where
  module _ {r c : ℕ} where
    eliminated : {Q : ℕ → ℕ → ℤ} {b lead : ℕ → ℤ} → ((j : ℕ) → Q r j ≡ lead j) → pos 0 <ℤ lead c
        → (((j : ℕ) → j ≤ p.cols → lead j ≡ R r j) ⊎ ((j : ℕ) → j ≤ p.cols → lead j ≡ neg_ℤ (R r j))) → ((i : ℕ) → IsPrimitive p.cols (Q i))
        → ((i : ℕ) → i ≢ r → (g : ℤ) × (pos 0 <ℤ g) × ((j : ℕ) → j ≤ p.cols → lead c *ℤ R i j -ℤ R i c *ℤ lead j ≡ g *ℤ Q i j)) → (h : ℤ) → pos 0 <ℤ h
        → IsPrimitive (p.cols + 1) b → ((j : ℕ) → j < p.cols → lead c *ℤ a j -ℤ a c *ℤ lead j ≡ h *ℤ b j)
        → lead c *ℤ a p.cols +ℤ a c *ℤ lead p.cols ≡ h *ℤ b p.cols → lead c *ℤ a (suc p.cols) ≡ h *ℤ b (suc p.cols) → IsEliminated p R a r c Q b
    eliminated {Q} {lead} at own self prim other h hp pa e1 e2 e3 = record {
      own = rw (at c) own;
      self = elim self [ inl s ↦ inl (λ j jn. at j ∙ s j jn) | inr s ↦ inr (λ j jn. at j ∙ s j jn) ];
      other = λ i im ne. (let o = other i ne in (
        o.0,
        o.1,
        λ j jn. ap (λ x. x *ℤ R i j -ℤ R i c *ℤ Q r j) (at c) ∙ ap (λ x. lead c *ℤ R i j -ℤ R i c *ℤ x) (at j)
            ∙ o.2 j jn,
      ));
      aim_row = (
        h,
        hp,
        λ j jn. ap (λ x. x *ℤ a j -ℤ a c *ℤ Q r j) (at c) ∙ ap (λ x. lead c *ℤ a j -ℤ a c *ℤ x) (at j) ∙ e1 j jn,
        ap (λ x. x *ℤ a p.cols +ℤ a c *ℤ Q r p.cols) (at c) ∙ ap (λ x. lead c *ℤ a p.cols +ℤ a c *ℤ x) (at p.cols) ∙ e2,
        ap (λ x. x *ℤ a (suc p.cols)) (at c) ∙ e3,
      );
      primitive = λ i im. prim i;
      primitive_aim = pa;
    }

    -- what a pivot computes exists, for every table whose rows are primitive
    pub elimination_exists : R r c ≢ pos 0 → IsPrimitive p.cols (R r) → (Q : ℕ → ℕ → ℤ) × (b : ℕ → ℤ) × IsEliminated p R a r c Q b
    elimination_exists ne u =
        let n = p.cols in
        let lead : ℕ → ℤ = turned (R r c) (R r) in
        let t = turned_cases n c (R r) ne u in
        let others : (i : ℕ) → (g : ℤ) × (Q : ℕ → ℤ) × (pos 0 <ℤ g) × ((j : ℕ) → j ≤ n → lead c *ℤ R i j -ℤ R i c *ℤ lead j ≡ g *ℤ Q j) × IsPrimitive n Q =
        λ i. primitive_exists n (λ j. lead c *ℤ R i j -ℤ R i c *ℤ lead j) in
        let mixed : (j : ℕ) → (j < n) ⊎ (n ≤ j) → (j ≡ n) ⊎ (j ≡ n → ⊥) → ℤ =
        λ j q s. elim q [ inl h ↦ lead c *ℤ a j -ℤ a c *ℤ lead j | inr h ↦ elim s [ inl e ↦ lead c *ℤ a j +ℤ a c *ℤ lead j | inr d ↦ lead c *ℤ a j ] ] in
        let whole : ℕ → ℤ = λ j. mixed j (cases_lt j n) (cases_eq j n) in
        let w = primitive_exists (n + 1) whole in
        let pick : (i : ℕ) → (i ≡ r) ⊎ (i ≡ r → ⊥) → ℕ → ℤ = λ i q. elim q [ inl e ↦ lead | inr d ↦ (others i).1 ] in
        let Q : ℕ → ℕ → ℤ = λ i. pick i (cases_eq i r) in
        let at_r : (j : ℕ) → Q r j ≡ lead j = λ j. elim (cases_eq r r) as (λ q. pick r q j ≡ lead j) [ inl e ↦ refl | inr d ↦ absurd (d refl) ] in (
          Q,
          w.1,
          eliminated at_r t.0 t.2 (λ i. elim (cases_eq i r) as (λ q. IsPrimitive n (pick i q)) [ inl e ↦ t.1 | inr d ↦ (others i).4 ])
              (λ i d. elim (cases_eq i r) as (λ q. (g : ℤ) × (pos 0 <ℤ g) × ((j : ℕ) → j ≤ n
              → lead c *ℤ R i j -ℤ R i c *ℤ lead j ≡ g *ℤ pick i q j)) [ inl e ↦ absurd (d e) | inr x ↦ ((others i).0, (others i).2, (others i).3) ])
              w.0 w.2 w.4
              (λ j h. (elim (cases_lt j n) as (λ q. lead c *ℤ a j -ℤ a c *ℤ lead j ≡ mixed j q (cases_eq j n)) [ inl x ↦ refl | inr x ↦ absurd (omega arith) ])
              ∙ w.3 j (omega arith)) ((elim (cases_lt n n) as (λ q. lead c *ℤ a n +ℤ a c *ℤ lead n ≡ mixed n q (cases_eq n n)) [
                | inl x ↦ absurd (omega arith)
                | inr x ↦ elim (cases_eq n n) as (λ s. lead c *ℤ a n +ℤ a c *ℤ lead n
                    ≡ mixed n (inr x) s) [ inl e ↦ refl | inr d ↦ absurd (d refl) ]
              ]) ∙ w.3 n (omega arith)) ((elim (cases_lt (suc n) n) as (λ q. lead c *ℤ a (suc n) ≡ mixed (suc n) q (cases_eq (suc n) n)) [
                | inl x ↦ absurd (omega arith)
                | inr x ↦ elim (cases_eq (suc n) n) as (λ s. lead c *ℤ a (suc n)
                    ≡ mixed (suc n) (inr x) s) [ inl e ↦ absurd (omega arith) | inr d ↦ refl ]
              ]) ∙ w.3 (suc n) (omega arith)),
        )

  -- the rows of the empty list, from rows that are the program's but for a common factor
  pub empty_rows_from : ((i : ℕ) → i < p.rows → (g : ℤ) × (pos 0 <ℤ g) × ((j : ℕ) → j ≤ p.cols → number p i j ≡ g *ℤ R i j) × IsPrimitive p.cols (R i))
      → ((j : ℕ) → j < p.cols → a j ≡ aim_of p j) → a p.cols ≡ pos 0 → a (suc p.cols) ≡ pos 1 → IsRowsOf p [] R a
  empty_rows_from w below last top =
      let n = p.cols in let m = p.rows in
      record {
        listed = λ i j h. absurd (omega (arith, h.1));
        unlisted = λ i im out. (let g = w i im in (
          pos 1 *ℤ g.0,
          only_at i,
          record {
            combination = combination_divided g.0 (program_row i im) g.1 g.2;
            own = (let e : only_at i i ≡ pos 1 = only_at_same i in omega (arith, linear));
            others = λ k km off ne. only_at_other i k ne;
            zeros = λ j h. absurd (omega (arith, h.1.1));
          },
        ));
        aim_row = (
          pos 1,
          λ i. pos 0,
          record {
            multiple = omega (arith, linear, top);
            positive = omega (arith, linear);
            each = λ j jn. (let e : a j ≡ aim_of p j = below j jn in let s : sum_to m (λ i. pos 0 *ℤ number p i j)
                ≡ pos 0 = sum_zero m (λ i. pos 0 *ℤ number p i j) (λ i h. zero_times (number p i j)) in
                let f : pos 1 *ℤ (a (suc n) *ℤ aim_of p j -ℤ a j) ≡ pos 1 *ℤ (pos 1 *ℤ aim_of p j -ℤ aim_of p j) =
                ap (λ x. pos 1 *ℤ (x *ℤ aim_of p j -ℤ a j)) top ∙ ap (λ x. pos 1 *ℤ (pos 1 *ℤ aim_of p j -ℤ x)) e in
                let g : pos 1 *ℤ (pos 1 *ℤ aim_of p j -ℤ aim_of p j) ≡ pos 0 = simp ring (omega (arith, linear)) in f ∙ g ∙ sym s);
            side = (let s : sum_to m (λ i. pos 0 *ℤ number p i n) ≡ pos 0 = sum_zero m (λ i. pos 0 *ℤ number p i n) (λ i h. zero_times (number p i n)) in
                ap (λ x. pos 1 *ℤ x) last ∙ times_zero (pos 1) ∙ sym s);
            others = λ i im off. refl;
            zeros = λ j h. absurd (omega (arith, h.1.1));
          },
        );
        primitive = λ i im. (w i im).3;
        primitive_aim = record {
          form = inr (λ d h. eq-one_of_dvd-one (let e : unsigned_abs (a (suc n)) ≡ 1 = ap unsigned_abs top in let P : ℕ
              → Type 0 = λ t. d ∣ t in subst P e (h (suc n) (omega arith))));
        };
      }

-- the rows of the empty list
pub empty_rows : {p : Program} → (R : ℕ → ℕ → ℤ) × (a : ℕ → ℤ) × IsRowsOf p [] R a
empty_rows {p} =
    let n = p.cols in
    let w : (i : ℕ) → (g : ℤ) × (Q : ℕ → ℤ) × (pos 0 <ℤ g) × ((j : ℕ) → j ≤ n → number p i j ≡ g *ℤ Q j) × IsPrimitive n Q =
    λ i. primitive_exists n (number p i) in
    let pick : (j : ℕ) → (j < n) ⊎ (n ≤ j) → (j ≡ n) ⊎ (j ≡ n → ⊥) → ℤ =
    λ j q s. elim q [ inl h ↦ aim_of p j | inr h ↦ elim s [ inl e ↦ pos 0 | inr d ↦ pos 1 ] ] in
    let a : ℕ → ℤ = λ j. pick j (cases_lt j n) (cases_eq j n) in
    let below : (j : ℕ) → j < n → a j ≡ aim_of p j = λ j h. elim (cases_lt j n) as (λ q. pick j q (cases_eq j n)
    ≡ aim_of p j) [ inl x ↦ refl | inr x ↦ absurd (omega arith) ] in
    let last : a n ≡ pos 0 = elim (cases_lt n n) as (λ q. pick n q (cases_eq n n)
    ≡ pos 0) [ inl x ↦ absurd (omega arith) | inr x ↦ elim (cases_eq n n) as (λ s. pick n (inr x) s ≡ pos 0) [ inl e ↦ refl | inr d ↦ absurd (d refl) ] ]
    in
    let top : a (suc n) ≡ pos 1 = elim (cases_lt (suc n) n) as (λ q. pick (suc n) q (cases_eq (suc n) n)
    ≡ pos 1) [
      | inl x ↦ absurd (omega arith)
      | inr x ↦ elim (cases_eq (suc n) n) as (λ s. pick (suc n) (inr x) s
          ≡ pos 1) [ inl e ↦ absurd (omega arith) | inr d ↦ refl ]
    ] in (
      λ i. (w i).1,
      a,
      empty_rows_from (λ i im. ((w i).0, (w i).2, (w i).3, (w i).4)) below last top,
    )

module _ {p : Program} {R : ℕ → ℕ → ℤ} {a : ℕ → ℤ} {r c : ℕ} where
  -- the row of the pair that can be taken is not 0 in its column, whichever row it is
  pub take_nonzero : {l : Listing} → IsList p l → IsRegularList p l → CanTake p l r c → IsRowsOf p l R a → R r c ≢ pos 0
  take_nonzero il reg t u z =
      let w = u.unlisted r t.row t.row_free in
      let f = t.found in
      let x = unlisted_proportional reg (λ j q. il.column_inside q.0 j q.1) t.row_free f.3 w.2 c (omega (arith, t.column)) in
      f.4 (cancel_zero (w.1 r *ℤ f.0) (f.2 c) (times_pos (w.1 r) f.0 w.2.own f.3.combination.positive) (x ∙ ap (λ y. (f.1 r *ℤ w.0) *ℤ y) z
      ∙ times_zero (f.1 r *ℤ w.0)))

  next_rows : (o : Listing) (k : ℕ) → k < length o → slice_index_or o k (0, 0) ≡ (r + 1, c + 1) → IsList p (take k o) → IsRegularList p (take k o)
      → CanTake p (take k o) r c → IsRowsOf p (take k o) R a → (Q : ℕ → ℕ → ℤ) × (b : ℕ → ℤ) × IsRowsOf p (take (suc k) o) Q b
  next_rows o k h at il reg t u =
      let ne : R r c ≢ pos 0 = take_nonzero il reg t u in
      let el = elimination_exists ne (u.primitive r t.row) in
      let e : take (suc k) o ≡ take k o ++ ((r + 1, c + 1) ∷ []) = ap (λ x. take x o) (let q : suc k ≡ k + 1 = omega arith in q) ∙ take_more o k (0, 0) h
      ∙ ap (λ x. take k o ++ (x ∷ [])) at in
      let P : Listing → Type 0 = λ x. IsRowsOf p x el.0 el.1 in
      (el.0, el.1, subst P (sym e) (take_rows il t u el.2))

-- a list that can be taken in turn has rows
pub rows_exist : {p : Program} (o : Listing) → IsTakenInTurn p o → (k : ℕ) → k ≤ length o → (R : ℕ → ℕ → ℤ) × (a : ℕ → ℤ) × IsRowsOf p (take k o) R a
rows_exist o taken zero h = empty_rows
rows_exist o taken (suc k) h =
    let w = rows_exist o taken k (omega arith) in
    let t = taken k (omega arith) in
    let x = opened o taken k (omega arith) in
    next_rows o k (omega arith) t.2 x.is_list x.regular t.3 w.2

module _ {p : Program} {R : ℕ → ℕ → ℤ} {a : ℕ → ℤ} {r c : ℕ} {l : Listing} where
  -- ---- two ways to see that a pair can be taken
  -- the row of the program is nonzero there, and the listed rows are 0 there
  pub take_below : IsRowsOf p l R a → r < p.rows → c < p.cols → (RowListed l r → ⊥) → (ColListed l c → ⊥)
      → ((i : ℕ) → i < p.rows → (RowListed l i) ⊎ (RowListed l i → ⊥)) → ((i : ℕ) → i < p.rows → RowListed l i → number p i c ≡ pos 0) → number p r c ≢ pos 0
      → CanTake p l r c
  take_below u rm cn rout cout dec zeros ne =
      let w = u.unlisted r rm rout in
      let e : w.0 *ℤ R r c ≡ w.1 r *ℤ number p r c = w.2.combination.each c (omega arith)
      ∙ sum_single p.rows (λ i. w.1 i *ℤ number p i c) r rm (λ i im d. elim (dec i im) [
        | inl h ↦ ap (λ x. w.1 i *ℤ x) (zeros i im h) ∙ times_zero (w.1 i)
        | inr off ↦ ap (λ x. x *ℤ number p i c) (w.2.others i im off d) ∙ zero_times (number p i c)
      ]) in
      record {
        row = rm;
        column = cn;
        row_free = rout;
        column_free = cout;
        found = (w.0, w.1, R r, w.2, λ z. ne (cancel_zero (w.1 r) (number p r c) w.2.own (sym e ∙ ap (λ x. w.0 *ℤ x) z ∙ times_zero w.0)));
      }

-- a row stays the row of its program row where the further columns are 0 in it
pub take_beside : {r : ℕ} {s : ℤ} {y R : ℕ → ℤ} (p : Program) (l more : Listing) → IsUnlistedRow p.rows p.cols (number p) (RowListed l) (ColListed l) r s y R
    → ((i : ℕ) → RowListed l i → RowListed more i) → ((j : ℕ) → ColListed more j → (ColListed l j) ⊎ (R j ≡ pos 0))
    → IsUnlistedRow p.rows p.cols (number p) (RowListed more) (ColListed more) r s y R
take_beside p l more u rows cols = record {
  combination = u.combination;
  own = u.own;
  others = λ i im off ne. u.others i im (λ h. off (rows i h)) ne;
  zeros = λ j h. elim (cols j h) [ inl x ↦ u.zeros j x | inr z ↦ z ];
}
