-- What each row is after a pivot, the pivot row, the others and the aim's, and that proportional primitive rows are one row.
use Rattle.std.proofs.Common.{◌≡◌, ◌≢◌, ℕ, zero, suc, ◌+◌, ◌-◌, ◌*◌, ◌<◌, ◌≤◌, inl, inr, ℤ, pos, negsuc, ◌+ℤ◌, ◌-ℤ◌, ◌*ℤ◌, neg_ℤ, ◌<ℤ◌, unsigned_abs, sym, ap}
use Rattle.std.proofs.{Common.{◌∙◌, arith}, lemmas.Bool.{cases_eq, cases_order}, lemmas.Int.{ints, unsigned_abs-mul}, Math.Nat.{dvd-mul_right}}
use Rattle.gs_simplex.specs.{Rows.{IsCombination, IsUnlistedRow, IsListedRow, IsAimRow, IsPrimitive}, Sums.{sum_to}}
use Prim.Native.Nat.{◌∣◌}
use Rattle.gs_simplex.proofs.{Ring.{ring, linear, one_times, times_zero, sum_times, times_pos, cancel, cancel_zero}, Sums.{sum_same, sum_scale}}
use Rattle.gs_simplex.proofs.Rows.{sum_mix, combination_mix}

module _ {n m : ℕ} {A : ℕ → ℕ → ℤ} {s : ℤ} {y : ℕ → ℤ} where
  module _ {R : ℕ → ℤ} {RowIn ColIn ColIn' : ℕ → Type 0} {c : ℕ} where
    module _ {RowIn' : ℕ → Type 0} {r : ℕ} where
      -- the pivot row as the row of its new pair: it was unlisted
      pub pivot_self_unlisted : IsUnlistedRow m n A RowIn ColIn r s y R → pos 0 <ℤ R c → ((i : ℕ) → (RowIn' i → ⊥) → (RowIn i → ⊥) × (i ≢ r))
          → ((j : ℕ) → ColIn' j → j ≢ c → ColIn j) → IsListedRow m n A RowIn' ColIn' c s y R
      pivot_self_unlisted u own rows cols = record {
        combination = u.combination;
        own = own;
        others = λ i im no. u.others i im (rows i no).0 (rows i no).1;
        zeros = λ j cj d. u.zeros j (cols j cj d);
      }

      -- the same where the number in the column is negative
      pub pivot_self_negated : IsUnlistedRow m n A RowIn ColIn r s y R → R c <ℤ pos 0 → ((i : ℕ) → (RowIn' i → ⊥) → (RowIn i → ⊥) × (i ≢ r))
          → ((j : ℕ) → ColIn' j → j ≢ c → ColIn j) → IsListedRow m n A RowIn' ColIn' c s (λ i. neg_ℤ (y i)) (λ j. neg_ℤ (R j))
      pivot_self_negated u own rows cols = record {
        combination = record {
          positive = u.combination.positive;
          each = λ j jn. let e : s *ℤ R j ≡ sum_to m (λ i. y i *ℤ A i j) = u.combination.each j jn in
              let k : sum_to m (λ i. neg_ℤ (y i) *ℤ A i j) ≡ neg_ℤ (pos 1) *ℤ sum_to m (λ i. y i *ℤ A i j) =
              sum_same m (λ i. neg_ℤ (y i) *ℤ A i j) (λ i. neg_ℤ (pos 1) *ℤ (y i *ℤ A i j)) (λ i h. simp ring)
              ∙ sum_scale m (neg_ℤ (pos 1)) (λ i. y i *ℤ A i j) in
              let q : s *ℤ neg_ℤ (R j) ≡ neg_ℤ (pos 1) *ℤ (s *ℤ R j) = simp ring in
              q ∙ ap (λ v. neg_ℤ (pos 1) *ℤ v) e ∙ sym k;
        };
        own = omega (arith, linear);
        others = λ i im no. let e : y i ≡ pos 0 = u.others i im (rows i no).0 (rows i no).1 in omega (arith, linear);
        zeros = λ j cj d. let e : R j ≡ pos 0 = u.zeros j (cols j cj d) in omega (arith, linear);
      }

    -- it was listed with column l
    pub pivot_self_listed : {l : ℕ} → IsListedRow m n A RowIn ColIn l s y R → pos 0 <ℤ R c → ((j : ℕ) → ColIn' j → j ≢ c → (ColIn j) × (j ≢ l))
        → IsListedRow m n A RowIn ColIn' c s y R
    pivot_self_listed u own cols = record {
      combination = u.combination;
      own = own;
      others = u.others;
      zeros = λ j cj d. u.zeros j (cols j cj d).0 (cols j cj d).1;
    }

    module _ {RowIn' : ℕ → Type 0} {S : ℕ → ℤ} {t : ℤ} {z : ℕ → ℤ} where
      -- another row, unlisted: S is the pivot row
      pub pivot_unlisted : {i : ℕ} → IsUnlistedRow m n A RowIn ColIn i s y R → IsListedRow m n A RowIn' ColIn' c t z S → i < m → (RowIn' i → ⊥)
          → ((k : ℕ) → (RowIn' k → ⊥) → RowIn k → ⊥) → ((j : ℕ) → ColIn' j → j ≢ c → ColIn j)
          → IsUnlistedRow m n A RowIn' ColIn' i (s *ℤ t) (λ k. (S c *ℤ t) *ℤ y k -ℤ (R c *ℤ s) *ℤ z k) (λ j. S c *ℤ R j -ℤ R c *ℤ S j)
      pivot_unlisted {i} u p im out rows cols = record {
        combination = combination_mix (S c) (R c) u.combination p.combination;
        own = let e : z i ≡ pos 0 = p.others i im out in let a : pos 0 <ℤ ((S c *ℤ t) *ℤ y i) = times_pos (S c *ℤ t) (y i)
            (times_pos (S c) t p.own p.combination.positive) u.own in
            rw e (omega (arith, linear, times_zero (R c *ℤ s)));
        others = λ k km off d. let e : z k ≡ pos 0 = p.others k km off in let f : y k ≡ pos 0 = u.others k km (rows k off) d in
            rw (e, f) (simp ring (omega (arith, linear)));
        zeros = λ j cj. elim (cases_eq j c) as (λ q. S c *ℤ R j -ℤ R c *ℤ S j ≡ pos 0) [
          | inl e ↦ (rw e (simp ring (omega (arith, linear))))
          | inr d ↦ (let a : R j ≡ pos 0 = u.zeros j (cols j cj d) in let b : S j ≡ pos 0 = p.zeros j cj d in rw (a, b) (simp ring (omega (arith, linear))))
        ];
      }

      -- another row, listed with column a
      pub pivot_listed : {a : ℕ} → IsListedRow m n A RowIn ColIn a s y R → IsListedRow m n A RowIn' ColIn' c t z S → a ≢ c → ColIn' a
          → ((k : ℕ) → (RowIn' k → ⊥) → RowIn k → ⊥) → ((j : ℕ) → ColIn' j → j ≢ c → ColIn j)
          → IsListedRow m n A RowIn' ColIn' a (s *ℤ t) (λ k. (S c *ℤ t) *ℤ y k -ℤ (R c *ℤ s) *ℤ z k) (λ j. S c *ℤ R j -ℤ R c *ℤ S j)
      pivot_listed {a} u p apart ina rows cols = record {
        combination = combination_mix (S c) (R c) u.combination p.combination;
        own = let e : S a ≡ pos 0 = p.zeros a ina apart in let g : pos 0 <ℤ (S c *ℤ R a) = times_pos (S c) (R a) p.own u.own in
            rw e (omega (arith, linear, times_zero (R c)));
        others = λ k km out. let e : z k ≡ pos 0 = p.others k km out in let f : y k ≡ pos 0 = u.others k km (rows k out) in
            rw (e, f) (simp ring (omega (arith, linear)));
        zeros = λ j cj d. elim (cases_eq j c) as (λ q. S c *ℤ R j -ℤ R c *ℤ S j ≡ pos 0) [
          | inl e ↦ (rw e (simp ring (omega (arith, linear))))
          | inr k ↦ (let f : R j ≡ pos 0 = u.zeros j (cols j cj k) d in let b : S j ≡ pos 0 = p.zeros j cj k in rw (f, b) (simp ring (omega (arith, linear))))
        ];
      }

  module _ {RowIn ColIn ColIn' : ℕ → Type 0} {c : ℕ} {RowIn' : ℕ → Type 0} {S : ℕ → ℤ} {t : ℤ} {z aim a b : ℕ → ℤ} where
    -- the aim's row
    pub pivot_aim : IsAimRow m n A RowIn ColIn aim s y a → IsListedRow m n A RowIn' ColIn' c t z S → ((k : ℕ) → (RowIn' k → ⊥) → RowIn k → ⊥)
        → ((j : ℕ) → ColIn' j → (j < n) × (j ≢ c → ColIn j)) → ((j : ℕ) → j < n → b j ≡ S c *ℤ a j -ℤ a c *ℤ S j) → b n ≡ S c *ℤ a n +ℤ a c *ℤ S n
        → b (suc n) ≡ S c *ℤ a (suc n) → IsAimRow m n A RowIn' ColIn' aim (s *ℤ t) (λ k. (S c *ℤ t) *ℤ y k -ℤ (neg_ℤ (a c) *ℤ s) *ℤ z k) b
    pivot_aim u p rows cols bj bn bm = record {
      multiple = rw bm (times_pos (S c) (a (suc n)) p.own u.multiple);
      positive = times_pos s t u.positive p.combination.positive;
      each = λ j jn.
          let e : s *ℤ (a (suc n) *ℤ aim j -ℤ a j) ≡ sum_to m (λ i. y i *ℤ A i j) = u.each j jn in
          let f : t *ℤ S j ≡ sum_to m (λ i. z i *ℤ A i j) = p.combination.each j (omega arith) in
          rw (bm, bj j jn, sum_mix m (S c *ℤ t) (neg_ℤ (a c) *ℤ s) y z (λ i. A i j), ← e, ← f) (simp ring (omega (arith, linear)));
      side =
          let e : s *ℤ a n ≡ sum_to m (λ i. y i *ℤ A i n) = u.side in
          let f : t *ℤ S n ≡ sum_to m (λ i. z i *ℤ A i n) = p.combination.each n (omega arith) in
          rw (bn, sum_mix m (S c *ℤ t) (neg_ℤ (a c) *ℤ s) y z (λ i. A i n), ← e, ← f) (simp ring (omega (arith, linear)));
      others = λ k km out. let e : z k ≡ pos 0 = p.others k km out in let f : y k ≡ pos 0 = u.others k km (rows k out) in
          rw (e, f) (simp ring (omega (arith, linear)));
      zeros = λ j cj. bj j (cols j cj).0 ∙ elim (cases_eq j c) as (λ q. S c *ℤ a j -ℤ a c *ℤ S j ≡ pos 0) [
        | inl e ↦ (rw e (simp ring (omega (arith, linear))))
        | inr k ↦ (let f : a j ≡ pos 0 = u.zeros j ((cols j cj).1 k) in let g : S j ≡ pos 0 = p.zeros j cj k in rw (f, g) (simp ring (omega (arith, linear))))
      ];
    }

  -- a row divided by a common factor
  pub combination_divided : {R Q : ℕ → ℤ} (g : ℤ) → IsCombination m n A s y R → pos 0 <ℤ g → ((j : ℕ) → j ≤ n → R j ≡ g *ℤ Q j)
      → IsCombination m n A (s *ℤ g) y Q
  combination_divided {Q} g u gp e = record {
    positive = times_pos s g u.positive gp;
    each = λ j jn. let q : (s *ℤ g) *ℤ Q j ≡ s *ℤ (g *ℤ Q j) = simp ring in q ∙ ap (λ v. s *ℤ v) (sym (e j jn)) ∙ u.each j jn;
  }

-- two rows are multiples of one
abbrev HasCommon : ℕ → (ℕ → ℤ) → (ℕ → ℤ) → Type 0
HasCommon n R S = (T : ℕ → ℤ) × (c : ℕ) × (d : ℕ) × (0 < c) × (0 < d) × ((j : ℕ) → j ≤ n → (R j ≡ pos d *ℤ T j) × (S j ≡ pos c *ℤ T j))

turned : (n : ℕ) (R S : ℕ → ℤ) → HasCommon n S R → HasCommon n R S
turned n R S w = (w.0, w.2, w.1, w.4, w.3, λ j jn. ((w.5 j jn).1, (w.5 j jn).0))

joined : (c d : ℕ) (r s t : ℤ) → r -ℤ s ≡ pos d *ℤ t → s ≡ pos c *ℤ t → r ≡ pos (d + c) *ℤ t
joined c d r s t f g = let l : pos (d + c) *ℤ t ≡ pos d *ℤ t +ℤ pos c *ℤ t = sum_times (pos d) (pos c) t in omega (arith, linear)

grown : (n : ℕ) (R S : ℕ → ℤ) → HasCommon n (λ j. R j -ℤ S j) S → HasCommon n R S
grown n R S w =
    (w.0, w.1, w.2 + w.1, w.3, omega (arith, w.4), λ j jn. (joined w.1 w.2 (R j) (S j) (w.0 j) (w.5 j jn).0 (w.5 j jn).1, (w.5 j jn).1))

lessened : (a b : ℕ) (r s : ℤ) → a ≤ b → pos a *ℤ r ≡ pos b *ℤ s → pos a *ℤ (r -ℤ s) ≡ pos (b - a) *ℤ s
lessened a b r s h e =
    let g : pos b ≡ pos a +ℤ pos (b - a) = omega (arith, ints) in
    let f : pos a *ℤ r ≡ (pos a +ℤ pos (b - a)) *ℤ s = e ∙ ap (λ v. v *ℤ s) g in
    let l : (pos a +ℤ pos (b - a)) *ℤ s ≡ pos a *ℤ s +ℤ pos (b - a) *ℤ s = sum_times (pos a) (pos (b - a)) s in
    let t : pos a *ℤ (r -ℤ s) ≡ pos a *ℤ r -ℤ pos a *ℤ s = simp ring in omega (arith, linear)

common_row : (k n : ℕ) (a b : ℕ) → a + b ≤ k → 0 < a → 0 < b → (R S : ℕ → ℤ) → ((j : ℕ) → j ≤ n → pos a *ℤ R j ≡ pos b *ℤ S j) → HasCommon n R S
common_row zero n a b h p q R S e = absurd (omega arith)
common_row (suc k) n a b h p q R S e = elim (cases_order a b) [
  | inl same ↦ (
    S,
    1,
    1,
    omega arith,
    omega arith,
    λ j jn. (
      cancel (pos a) (R j) (S j) (omega (arith, linear)) (e j jn ∙ ap (λ v. pos v *ℤ S j) (sym same)) ∙ sym (one_times (S j)),
      sym (one_times (S j)),
    ),
  )
  | inr apart ↦ elim apart [
    | inl less ↦
        grown n R S (common_row k n a (b - a) (omega arith) p (omega arith) (λ j. R j -ℤ S j) S (λ j jn. lessened a b (R j) (S j) (omega arith) (e j jn)))
    | inr more ↦
        turned n R S (grown n S R (turned n (λ j. S j -ℤ R j) R
        (common_row k n (a - b) b (omega arith) (omega arith) q R (λ j. S j -ℤ R j) (λ j jn. sym (lessened b a (S j) (R j) (omega arith) (sym (e j jn)))))))
  ]
]

divides_times : (c : ℕ) (t r : ℤ) → r ≡ pos c *ℤ t → c ∣ unsigned_abs r
divides_times c t r e = let f : unsigned_abs r ≡ c * unsigned_abs t = ap unsigned_abs e ∙ unsigned_abs-mul (pos c) t in
    rw f (dvd-mul_right c (unsigned_abs t))

-- proportional primitive rows are one row
pub primitive_same : {n : ℕ} {R S : ℕ → ℤ} (a b : ℤ) → pos 0 <ℤ a → pos 0 <ℤ b → ((j : ℕ) → j ≤ n → a *ℤ R j ≡ b *ℤ S j) → IsPrimitive n R → IsPrimitive n S
    → (j : ℕ) → j ≤ n → R j ≡ S j
primitive_same (negsuc a) b p q e f g = absurd (omega (arith, linear, ints))
primitive_same (pos a) (negsuc b) p q e f g = absurd (omega (arith, linear, ints))
primitive_same {n} {R} {S} (pos a) (pos b) p q e f g = λ j jn. elim f.form [
  | inl z ↦ (let u : R j ≡ pos 0 = z j jn in let v : pos b *ℤ S j ≡ pos 0 = sym (e j jn) ∙ ap (λ t. pos a *ℤ t) u ∙ times_zero (pos a) in
      u ∙ sym (cancel_zero (pos b) (S j) q v))
  | inr fd ↦ elim g.form [
    | inl z ↦ (let u : S j ≡ pos 0 = z j jn in let v : pos a *ℤ R j ≡ pos 0 = e j jn ∙ ap (λ t. pos b *ℤ t) u ∙ times_zero (pos b) in
        cancel_zero (pos a) (R j) p v ∙ sym u)
    | inr gd ↦ (let w = common_row (a + b) n a b (omega arith) (omega (arith, ints)) (omega (arith, ints)) R S e in
        let d : w.2 ≡ 1 = fd w.2 (λ i h. divides_times w.2 (w.0 i) (R i) (w.5 i h).0) in
        let c : w.1 ≡ 1 = gd w.1 (λ i h. divides_times w.1 (w.0 i) (S i) (w.5 i h).1) in
        (w.5 j jn).0 ∙ ap (λ t. pos t *ℤ w.0 j) (d ∙ sym c) ∙ sym (w.5 j jn).1)
  ]
]
