-- A table where every row is listed: what solves it solves the program, its basic solution exists, and what the aim is there.
use Rattle.std.proofs.Common.{◌≡◌, ◌≢◌, ℕ, zero, suc, ◌<◌, ◌≤◌, ◌⊎◌, inl, inr, ℤ, pos, ◌+ℤ◌, ◌-ℤ◌, ◌*ℤ◌, neg_ℤ, ◌<ℤ◌, refl, sym, ap, subst, ◌∙◌, arith}
use Rattle.std.proofs.lemmas.Bool.{cases_eq}
use Rattle.gs_simplex.specs.{Rows.{IsCombination, IsRegular, IsListedRow, IsAimRow}, Sums.{sum_to}}
use Rattle.gs_simplex.proofs.Ring.{ring, linear, times_zero, zero_times, times_pos, cancel_zero, one_times, times_times}
use Rattle.gs_simplex.proofs.{Sums.{sum_same, sum_zero, sum_scale, sum_swap, sum_single, cases_last}, Rows.{sum_mix, combination_mix}}
use lib.IntN.{*ℤ_comm}

-- row times vector, the right side included
abbrev pub dot : ℕ → (ℕ → ℤ) → (ℕ → ℤ) → ℤ
dot n R v = sum_to n (λ j. R j *ℤ v j)

-- each program row gives 0 at v, where v n is minus the denominator of a solution, or 0 for a direction
pub record IsKilled (m n : ℕ) (A : ℕ → ℕ → ℤ) (v : ℕ → ℤ) : Type 0 where
  pub row : (i : ℕ) → i < m → dot (suc n) (A i) v ≡ pos 0

module _ {m n : ℕ} {A : ℕ → ℕ → ℤ} where
  pub combination_dot : {s : ℤ} {y R : ℕ → ℤ} (v : ℕ → ℤ) → IsCombination m n A s y R → s *ℤ dot (suc n) R v ≡ sum_to m (λ i. y i *ℤ dot (suc n) (A i) v)
  combination_dot {s} {y} {R} v u =
      sym (sum_scale (suc n) s (λ j. R j *ℤ v j))
      ∙ sum_same (suc n) (λ j. s *ℤ (R j *ℤ v j)) (λ j. sum_to m (λ i. (y i *ℤ A i j) *ℤ v j))
      (λ j h. sym (times_times s (R j) (v j)) ∙ ap (λ t. t *ℤ v j) (u.each j (omega arith)) ∙ *ℤ_comm (sum_to m (λ i. y i *ℤ A i j)) (v j)
      ∙ sym (sum_scale m (v j) (λ i. y i *ℤ A i j))
      ∙ sum_same m (λ i. v j *ℤ (y i *ℤ A i j)) (λ i. (y i *ℤ A i j) *ℤ v j) (λ i k. *ℤ_comm (v j) (y i *ℤ A i j)))
      ∙ sum_swap (suc n) m (λ j i. (y i *ℤ A i j) *ℤ v j)
      ∙ sum_same m (λ i. sum_to (suc n) (λ j. (y i *ℤ A i j) *ℤ v j)) (λ i. y i *ℤ dot (suc n) (A i) v)
      (λ i h. sum_same (suc n) (λ j. (y i *ℤ A i j) *ℤ v j) (λ j. y i *ℤ (A i j *ℤ v j)) (λ j k. times_times (y i) (A i j) (v j))
      ∙ sum_scale (suc n) (y i) (λ j. A i j *ℤ v j))

  pub killed_row : {v : ℕ → ℤ} {s : ℤ} {y R : ℕ → ℤ} → IsCombination m n A s y R → IsKilled m n A v → dot (suc n) R v ≡ pos 0
  killed_row {v} {s} {y} {R} u k =
      cancel_zero s (dot (suc n) R v) u.positive (combination_dot v u
      ∙ sum_zero m (λ i. y i *ℤ dot (suc n) (A i) v) (λ i h. ap (λ t. y i *ℤ t) (k.row i h) ∙ times_zero (y i)))

-- ---- a full list: row i is listed with column col i
abbrev pub AllRows : ℕ → ℕ → Type 0
AllRows m i = i < m

abbrev pub InCols : ℕ → (ℕ → ℕ) → ℕ → Type 0
InCols m col j = (i : ℕ) × (i < m) × (col i ≡ j)

pub record IsTable (m n : ℕ) (A : ℕ → ℕ → ℤ) (col : ℕ → ℕ) (R : ℕ → ℕ → ℤ) : Type 0 where
  pub row : (i : ℕ) → i < m → (s : ℤ) × (y : ℕ → ℤ) × IsListedRow m n A (AllRows m) (InCols m col) (col i) s y (R i)
  pub regular : IsRegular m A (AllRows m) (InCols m col)
  pub apart : (i k : ℕ) → i < m → k < m → col i ≡ col k → i ≡ k
  pub inside : (i : ℕ) → i < m → col i < n

module _ {m n : ℕ} {A : ℕ → ℕ → ℤ} {col : ℕ → ℕ} {R : ℕ → ℕ → ℤ} where
  -- a vector that every row of the table kills is killed by every combination
  pub table_kills : (k : ℕ) (v : ℕ → ℤ) → IsTable m n A col R → ((i : ℕ) → i < m → dot (suc n) (R i) v ≡ pos 0) → k ≤ m → (s : ℤ) (z B : ℕ → ℤ)
      → IsCombination m n A s z B → ((i : ℕ) → k ≤ i → i < m → B (col i) ≡ pos 0) → dot (suc n) B v ≡ pos 0
  table_kills zero v T kill km s z B u off =
      let w : (i : ℕ) → i < m → z i ≡ pos 0 = T.regular.only z (λ i h out. absurd (out h))
      (λ j cj. let jn : j ≤ n = omega (arith, T.inside cj.0 cj.1, cj.2) in
      sym (u.each j jn) ∙ ap (λ t. s *ℤ t) (ap B (sym cj.2) ∙ off cj.0 (omega arith) cj.1) ∙ times_zero s) in
      sum_zero (suc n) (λ j. B j *ℤ v j) (λ j h.
      let b : B j ≡ pos 0 = cancel_zero s (B j) u.positive (u.each j (omega arith)
      ∙ sum_zero m (λ i. z i *ℤ A i j) (λ i q. ap (λ t. t *ℤ A i j) (w i q) ∙ zero_times (A i j))) in
      ap (λ t. t *ℤ v j) b ∙ zero_times (v j))
  table_kills (suc k) v T kill km s z B u off =
      let km' : k < m = omega arith in
      let r = T.row k km' in
      let own : ℤ = R k (col k) in
      let b : ℤ = B (col k) in
      let M = combination_mix own b u r.2.combination in
      let rest : dot (suc n) (λ j. own *ℤ B j -ℤ b *ℤ R k j) v ≡ pos 0 =
      table_kills k v T kill (omega arith) (s *ℤ r.0) (λ i. (own *ℤ r.0) *ℤ z i -ℤ (b *ℤ s) *ℤ r.1 i) (λ j. own *ℤ B j -ℤ b *ℤ R k j) M
      (λ i ki im. elim (cases_eq i k) as (λ q. own *ℤ B (col i) -ℤ b *ℤ R k (col i) ≡ pos 0) [
        | inl e ↦ (rw e (simp ring (omega (arith, linear))))
        | inr d ↦ (let e : B (col i) ≡ pos 0 = off i (omega arith) im in
            let f : R k (col i) ≡ pos 0 = r.2.zeros (col i) (i, im, refl) (λ q. d (T.apart i k im km' q)) in
            rw (e, f) (simp ring (omega (arith, linear))))
      ]) in
      let split : dot (suc n) (λ j. own *ℤ B j -ℤ b *ℤ R k j) v ≡ own *ℤ dot (suc n) B v -ℤ b *ℤ dot (suc n) (R k) v = sum_mix (suc n) own b B (R k) v in
      let kk : dot (suc n) (R k) v ≡ pos 0 = kill k km' in
      let e : own *ℤ dot (suc n) B v ≡ pos 0 = (let f : own *ℤ dot (suc n) B v -ℤ b *ℤ pos 0 ≡ pos 0 =
      ap (λ t. own *ℤ dot (suc n) B v -ℤ b *ℤ t) (sym kk) ∙ sym split ∙ rest in omega (arith, linear, times_zero b)) in
      cancel_zero own (dot (suc n) B v) r.2.own e

abbrev pub only_at : ℕ → ℕ → ℤ
only_at i k = elim (cases_eq k i) [ inl e ↦ pos 1 | inr d ↦ pos 0 ]

pub only_at_same : (i : ℕ) → only_at i i ≡ pos 1
only_at_same i = elim (cases_eq i i) as (λ q. elim q as (λ w. ℤ) [ inl e ↦ pos 1 | inr d ↦ pos 0 ] ≡ pos 1) [ inl e ↦ refl | inr d ↦ absurd (d refl) ]

pub only_at_other : (i k : ℕ) → k ≢ i → only_at i k ≡ pos 0
only_at_other i k ne = elim (cases_eq k i) as (λ q. elim q as (λ w. ℤ) [ inl e ↦ pos 1 | inr d ↦ pos 0 ] ≡ pos 0) [ inl e ↦ absurd (ne e) | inr d ↦ refl ]

module _ {m n : ℕ} {A : ℕ → ℕ → ℤ} where
  pub program_row : (i : ℕ) → i < m → IsCombination m n A (pos 1) (only_at i) (A i)
  program_row i im = record {
    positive = omega (arith, linear);
    each = λ j jn. one_times (A i j) ∙ sym (sum_single m (λ k. only_at i k *ℤ A k j) i im (λ k km ne. ap (λ t. t *ℤ A k j) (only_at_other i k ne)
        ∙ zero_times (A k j)) ∙ ap (λ t. t *ℤ A i j) (only_at_same i) ∙ one_times (A i j));
  }

  -- so what solves the table solves the program
  pub table_solves : {v : ℕ → ℤ} {col : ℕ → ℕ} {R : ℕ → ℕ → ℤ} → IsTable m n A col R → ((i : ℕ) → i < m → dot (suc n) (R i) v ≡ pos 0) → IsKilled m n A v
  table_solves {v} T kill = record {
    row = λ i im. table_kills m v T kill (omega arith) (pos 1) (only_at i) (A i) (program_row i im) (λ k mk km. absurd (omega arith));
  }

-- the column is listed, with its row, or it is not
pub find_col : (m : ℕ) (col : ℕ → ℕ) (j : ℕ) → (InCols m col j) ⊎ ((i : ℕ) → i < m → col i ≡ j → ⊥)
find_col zero col j = inr (λ i h e. omega arith)
find_col (suc m) col j = elim (find_col m col j) [
  | inl f ↦ inl (f.0, omega (arith, f.1), f.2)
  | inr none ↦ elim (cases_eq (col m) j) [
    | inl e ↦ inl (m, omega arith, e)
    | inr d ↦ inr (λ i h e. elim (cases_last i m h) [ inl less ↦ none i less e | inr q ↦ d (ap col (sym q) ∙ e) ])
  ]
]

-- a vector with denominator D that solves the program and is 0 outside the listed columns
pub record IsBasic (m n : ℕ) (A : ℕ → ℕ → ℤ) (col : ℕ → ℕ) (D : ℤ) (v : ℕ → ℤ) : Type 0 where
  pub killed : IsKilled m n A v
  pub side : v n ≡ neg_ℤ D
  pub positive : pos 0 <ℤ D
  pub outside : (j : ℕ) → j < n → ((i : ℕ) → i < m → col i ≡ j → ⊥) → v j ≡ pos 0

pub sum_two : (n : ℕ) (f : ℕ → ℤ) (p q : ℕ) → p < n → q < n → p ≢ q → ((j : ℕ) → j < n → j ≢ p → j ≢ q → f j ≡ pos 0) → sum_to n f ≡ f p +ℤ f q
sum_two zero f p q pn qn ne e = absurd (omega arith)
sum_two (suc n) f p q pn qn ne e = elim (cases_eq p n) [
  | inl pe ↦ (let a : sum_to n f ≡ f q = sum_single n f q (omega arith) (λ j jn d. e j (omega arith) (λ (r : j ≡ p). omega arith) d) in
      let b : f n ≡ f p = ap f (sym pe) in omega (arith, linear))
  | inr pd ↦ elim (cases_eq q n) [
    | inl qe ↦ (let a : sum_to n f ≡ f p = sum_single n f p (omega arith) (λ j jn d. e j (omega arith) d (λ (r : j ≡ q). omega arith)) in
        let b : f n ≡ f q = ap f (sym qe) in omega (arith, linear))
    | inr qd ↦ (let a : sum_to n f ≡ f p +ℤ f q = sum_two n f p q (omega arith) (omega arith) ne (λ j jn d g. e j (omega arith) d g) in
        let b : f n ≡ pos 0 = e n (omega arith) (λ (r : n ≡ p). pd (sym r)) (λ (r : n ≡ q). qd (sym r)) in omega (arith, linear))
  ]
]

module _ {m n : ℕ} {A : ℕ → ℕ → ℤ} {v : ℕ → ℤ} {col : ℕ → ℕ} {R : ℕ → ℕ → ℤ} where
  -- a row times a vector that is 0 outside the listed columns, or outside them and one further column e
  pub row_sum : IsTable m n A col R → ((j : ℕ) → j < n → ((i : ℕ) → i < m → col i ≡ j → ⊥) → v j ≡ pos 0) → (i : ℕ) → i < m
      → sum_to n (λ j. R i j *ℤ v j) ≡ R i (col i) *ℤ v (col i)
  row_sum T off i im = sum_single n (λ j. R i j *ℤ v j) (col i) (T.inside i im)
      (λ j jn d. elim (find_col m col j) [
        | inl f ↦ (ap (λ t. t *ℤ v j) ((T.row i im).2.zeros j f d) ∙ zero_times (v j))
        | inr none ↦ (ap (λ t. R i j *ℤ t) (off j jn none) ∙ times_zero (R i j))
      ])

  pub row_sum_two : (e : ℕ) → IsTable m n A col R → e < n → ((i : ℕ) → i < m → col i ≡ e → ⊥)
      → ((j : ℕ) → j < n → ((i : ℕ) → i < m → col i ≡ j → ⊥) → j ≢ e → v j ≡ pos 0) → (i : ℕ) → i < m
      → sum_to n (λ j. R i j *ℤ v j) ≡ R i (col i) *ℤ v (col i) +ℤ R i e *ℤ v e
  row_sum_two e T en out off i im = sum_two n (λ j. R i j *ℤ v j) (col i) e (T.inside i im) en (λ q. out i im q)
      (λ j jn d g. elim (find_col m col j) [
        | inl f ↦ (ap (λ t. t *ℤ v j) ((T.row i im).2.zeros j f d) ∙ zero_times (v j))
        | inr none ↦ (ap (λ t. R i j *ℤ t) (off j jn none g) ∙ times_zero (R i j))
      ])

  -- a row at a killed vector of either kind
  pub row_at_two : (e : ℕ) (D : ℤ) → IsTable m n A col R → IsKilled m n A v → v n ≡ neg_ℤ D → e < n → ((i : ℕ) → i < m → col i ≡ e → ⊥)
      → ((j : ℕ) → j < n → ((i : ℕ) → i < m → col i ≡ j → ⊥) → j ≢ e → v j ≡ pos 0) → (i : ℕ) → i < m → R i (col i) *ℤ v (col i) +ℤ R i e *ℤ v e ≡ D *ℤ R i n
  row_at_two e D T k side en out off i im =
      let z : dot (suc n) (R i) v ≡ pos 0 = killed_row (T.row i im).2.combination k in
      let s = row_sum_two e T en out off i im in
      let b : R i n *ℤ v n ≡ neg_ℤ (D *ℤ R i n) = ap (λ t. R i n *ℤ t) side ∙ simp ring in
      omega (arith, linear, s)

  pub row_at_basic : {D : ℤ} → IsTable m n A col R → IsBasic m n A col D v → (i : ℕ) → i < m → R i (col i) *ℤ v (col i) ≡ D *ℤ R i n
  row_at_basic {D} T u i im =
      let z : dot (suc n) (R i) v ≡ pos 0 = killed_row (T.row i im).2.combination u.killed in
      let s = row_sum T u.outside i im in
      let b : R i n *ℤ v n ≡ neg_ℤ (D *ℤ R i n) = ap (λ t. R i n *ℤ t) u.side ∙ simp ring in
      omega (arith, linear, s)

-- f with the value d at n
pub placed : (n : ℕ) (d : ℤ) (f : ℕ → ℤ) → (x : ℕ → ℤ) × (x n ≡ d) × ((j : ℕ) → j ≢ n → x j ≡ f j)
placed n d f =
    let pick : (j : ℕ) → (j ≡ n) ⊎ (j ≡ n → ⊥) → ℤ = λ j q. elim q [ inl e ↦ d | inr ne ↦ f j ] in (
      λ j. pick j (cases_eq j n),
      elim (cases_eq n n) as (λ q. pick n q ≡ d) [ inl e ↦ refl | inr ne ↦ absurd (ne refl) ],
      λ j ne. elim (cases_eq j n) as (λ q. pick j q ≡ f j) [ inl e ↦ absurd (ne e) | inr x ↦ refl ],
    )

-- quotients over one denominator
pub common_values : (k : ℕ) (own rhs : ℕ → ℤ) → ((i : ℕ) → i < k → pos 0 <ℤ own i)
    → (D : ℤ) × (w : ℕ → ℤ) × (pos 0 <ℤ D) × ((i : ℕ) → i < k → own i *ℤ w i ≡ D *ℤ rhs i)
common_values zero own rhs p = (pos 1, rhs, omega (arith, linear), λ i h. absurd (omega arith))
common_values (suc k) own rhs p =
    let c = common_values k own rhs (λ i h. p i (omega arith)) in
    let pick : (i : ℕ) → (i ≡ k) ⊎ (i ≡ k → ⊥) → ℤ = λ i q. elim q [ inl e ↦ c.0 *ℤ rhs k | inr d ↦ own k *ℤ c.1 i ] in (
      c.0 *ℤ own k,
      λ i. pick i (cases_eq i k),
      times_pos c.0 (own k) c.2 (p k (omega arith)),
      λ i h. elim (cases_eq i k) as (λ q. own i *ℤ pick i q ≡ (c.0 *ℤ own k) *ℤ rhs i) [
        | inl e ↦ rw e (simp ring)
        | inr d ↦ (let f : own i *ℤ c.1 i ≡ c.0 *ℤ rhs i = c.3 i (omega arith) in
            let a : own i *ℤ (own k *ℤ c.1 i) ≡ own k *ℤ (own i *ℤ c.1 i) = simp ring in
            let b : (c.0 *ℤ own k) *ℤ rhs i ≡ own k *ℤ (c.0 *ℤ rhs i) = simp ring in a ∙ ap (λ t. own k *ℤ t) f ∙ sym b)
      ],
    )

module _ {m n : ℕ} {A : ℕ → ℕ → ℤ} where
  -- a vector with these values in the listed columns, 0 in the others, and d at the right side
  pub listed_vector : {col : ℕ → ℕ} {R : ℕ → ℕ → ℤ} → IsTable m n A col R → (w : ℕ → ℤ) (d : ℤ) → (v : ℕ → ℤ) × (v n ≡ d)
      × ((i : ℕ) → i < m → v (col i) ≡ w i) × ((j : ℕ) → j < n → ((i : ℕ) → i < m → col i ≡ j → ⊥) → v j ≡ pos 0)
  listed_vector {col} T w d =
      let pick : (j : ℕ) → (InCols m col j) ⊎ ((i : ℕ) → i < m → col i ≡ j → ⊥) → ℤ = λ j f. elim f [ inl g ↦ w g.0 | inr none ↦ pos 0 ] in
      let x = placed n d (λ j. pick j (find_col m col j)) in (
        x.0,
        x.1,
        λ i im. x.2 (col i) (λ (e : col i ≡ n). omega (arith, T.inside i im)) ∙ elim (find_col m col (col i)) as (λ f. pick (col i) f ≡ w i) [
          | inl g ↦ ap w (T.apart g.0 i g.1 im g.2)
          | inr none ↦ absurd (none i im refl)
        ],
        λ j jn none. x.2 j (λ (e : j ≡ n). omega arith)
            ∙ elim (find_col m col j) as (λ f. pick j f ≡ pos 0) [ inl g ↦ absurd (none g.0 g.1 g.2) | inr z ↦ refl ],
      )

  pub basic_exists : {col : ℕ → ℕ} {R : ℕ → ℕ → ℤ} → IsTable m n A col R → (D : ℤ) × (v : ℕ → ℤ) × IsBasic m n A col D v
  basic_exists {col} {R} T =
      let c = common_values m (λ i. R i (col i)) (λ i. R i n) (λ i h. (T.row i h).2.own) in
      let x = listed_vector T c.1 (neg_ℤ c.0) in let v : ℕ → ℤ = x.0 in (
        c.0,
        v,
        record {
          killed = table_solves T (λ i im.
              let s : sum_to n (λ j. R i j *ℤ v j) ≡ R i (col i) *ℤ v (col i) = row_sum T x.3 i im in
              let a : R i (col i) *ℤ v (col i) ≡ c.0 *ℤ R i n = ap (λ t. R i (col i) *ℤ t) (x.2 i im) ∙ c.3 i im in
              let b : R i n *ℤ v n ≡ neg_ℤ (c.0 *ℤ R i n) = ap (λ t. R i n *ℤ t) x.1 ∙ simp ring in
              omega (arith, linear));
          side = x.1;
          positive = c.2;
          outside = x.3;
        },
      )

  module _ {v : ℕ → ℤ} {s : ℤ} {y : ℕ → ℤ} {RowIn : ℕ → Type 0} {aim a : ℕ → ℤ} where
    -- ---- the aim
    pub aim_dot : {ColIn : ℕ → Type 0} → IsAimRow m n A RowIn ColIn aim s y a → IsKilled m n A v
        → a (suc n) *ℤ sum_to n (λ j. aim j *ℤ v j) ≡ sum_to n (λ j. a j *ℤ v j) -ℤ a n *ℤ v n
    aim_dot u k =
        let w = placed n (a n) (λ j. a (suc n) *ℤ aim j -ℤ a j) in
        let whole : ℕ → ℤ = w.0 in let at_side : whole n ≡ a n = w.1 in
        let below : (j : ℕ) → j < n → whole j ≡ a (suc n) *ℤ aim j -ℤ a j = λ j jn. w.2 j (λ (e : j ≡ n). omega arith) in
        let comb : IsCombination m n A s y whole = record {
          positive = u.positive;
          each = λ j jn. elim (cases_eq j n) [
            | inl e ↦ (let P : ℕ → Type 0 = λ k. s *ℤ whole k ≡ sum_to m (λ i. y i *ℤ A i k) in subst P (sym e) (ap (λ t. s *ℤ t) at_side ∙ u.side))
            | inr d ↦ (ap (λ t. s *ℤ t) (below j (omega arith)) ∙ u.each j (omega arith))
          ];
        } in
        let z : dot (suc n) whole v ≡ pos 0 = killed_row comb k in
        let e : sum_to n (λ j. whole j *ℤ v j) ≡ a (suc n) *ℤ sum_to n (λ j. aim j *ℤ v j) -ℤ pos 1 *ℤ sum_to n (λ j. a j *ℤ v j) =
        sum_same n (λ j. whole j *ℤ v j) (λ j. (a (suc n) *ℤ aim j -ℤ pos 1 *ℤ a j) *ℤ v j) (λ j jn. ap (λ t. t *ℤ v j) (below j jn ∙ simp ring))
        ∙ sum_mix n (a (suc n)) (pos 1) aim a v in
        let f : whole n *ℤ v n ≡ a n *ℤ v n = ap (λ t. t *ℤ v n) at_side in
        omega (arith, linear, one_times (sum_to n (λ j. a j *ℤ v j)))

    -- at a killed vector that is 0 outside the listed columns and one further column e
    pub aim_at_two : (col : ℕ → ℕ) (D : ℤ) (e : ℕ) → IsAimRow m n A RowIn (InCols m col) aim s y a → IsKilled m n A v → v n ≡ neg_ℤ D → e < n
        → ((j : ℕ) → j < n → ((i : ℕ) → i < m → col i ≡ j → ⊥) → j ≢ e → v j ≡ pos 0) → a (suc n) *ℤ sum_to n (λ j. aim j *ℤ v j) ≡ a e *ℤ v e +ℤ D *ℤ a n
    aim_at_two col D e u k side en off =
        let f : a (suc n) *ℤ sum_to n (λ j. aim j *ℤ v j) ≡ sum_to n (λ j. a j *ℤ v j) -ℤ a n *ℤ v n = aim_dot u k in
        let g : sum_to n (λ j. a j *ℤ v j) ≡ a e *ℤ v e = sum_single n (λ j. a j *ℤ v j) e en
        (λ j jn d. elim (find_col m col j) [
          | inl c ↦ (ap (λ t. t *ℤ v j) (u.zeros j c) ∙ zero_times (v j))
          | inr none ↦ (ap (λ t. a j *ℤ t) (off j jn none d) ∙ times_zero (a j))
        ]) in
        let h : a n *ℤ v n ≡ neg_ℤ (D *ℤ a n) = ap (λ t. a n *ℤ t) side ∙ simp ring in
        omega (arith, linear)

  module _ {v : ℕ → ℤ} {col : ℕ → ℕ} {s : ℤ} {y : ℕ → ℤ} {RowIn : ℕ → Type 0} {aim a : ℕ → ℤ} {D : ℤ} where
    pub aim_at_basic : IsAimRow m n A RowIn (InCols m col) aim s y a → IsBasic m n A col D v → a (suc n) *ℤ sum_to n (λ j. aim j *ℤ v j) ≡ D *ℤ a n
    aim_at_basic u b =
        let f : a (suc n) *ℤ sum_to n (λ j. aim j *ℤ v j) ≡ sum_to n (λ j. a j *ℤ v j) -ℤ a n *ℤ v n =
        aim_dot u b.killed in
        let g : sum_to n (λ j. a j *ℤ v j) ≡ pos 0 = sum_zero n (λ j. a j *ℤ v j)
        (λ j jn. elim (find_col m col j) [
          | inl c ↦ (ap (λ t. t *ℤ v j) (u.zeros j c) ∙ zero_times (v j))
          | inr none ↦ (ap (λ t. a j *ℤ t) (b.outside j jn none) ∙ times_zero (a j))
        ]) in
        let h : a n *ℤ v n ≡ neg_ℤ (D *ℤ a n) = ap (λ t. a n *ℤ t) b.side ∙ simp ring in
        omega (arith, linear)
