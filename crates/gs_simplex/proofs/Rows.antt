-- Rows mixed are combinations again, lists stay regular as columns enter and leave, and two rows of one place are proportional.
use Rattle.std.proofs.{Common.{◌≡◌, ◌≢◌, ℕ, zero, suc, ◌<◌, ◌≤◌, inl, inr, ℤ, pos, ◌+ℤ◌, ◌-ℤ◌, ◌*ℤ◌, sym, ap, ◌∙◌, arith}, lemmas.Bool.{cases_eq}}
use Rattle.gs_simplex.specs.{Rows.{IsCombination, IsRegular, IsUnlistedRow, IsListedRow}, Sums.{sum_to}}
use Rattle.gs_simplex.proofs.{Ring.{ring, linear, times_zero, zero_times, times_pos, cancel_zero, cancel_nonzero}, Sums.{sum_zero}}

-- sum of (a z - b y) A
pub sum_mix : (m : ℕ) (a b : ℤ) (z y g : ℕ → ℤ) → sum_to m (λ i. (a *ℤ z i -ℤ b *ℤ y i) *ℤ g i)
    ≡ a *ℤ sum_to m (λ i. z i *ℤ g i) -ℤ b *ℤ sum_to m (λ i. y i *ℤ g i)
sum_mix zero a b z y g = simp ring (omega (arith, linear))
sum_mix (suc m) a b z y g = ap (λ t. t +ℤ (a *ℤ z m -ℤ b *ℤ y m) *ℤ g m) (sum_mix m a b z y g) ∙ simp ring (omega (arith, linear))

module _ {m n : ℕ} {A : ℕ → ℕ → ℤ} {s : ℤ} {y R : ℕ → ℤ} where
  -- two rows mixed
  pub combination_mix : {t : ℤ} {z S : ℕ → ℤ} (p q : ℤ) → IsCombination m n A s y R → IsCombination m n A t z S
      → IsCombination m n A (s *ℤ t) (λ i. (p *ℤ t) *ℤ y i -ℤ (q *ℤ s) *ℤ z i) (λ j. p *ℤ R j -ℤ q *ℤ S j)
  combination_mix {t} {z} {S} p q f g = record {
    positive = times_pos s t f.positive g.positive;
    each = λ j h.
        let a : s *ℤ R j ≡ sum_to m (λ i. y i *ℤ A i j) = f.each j h in
        let b : t *ℤ S j ≡ sum_to m (λ i. z i *ℤ A i j) = g.each j h in
        let e : (s *ℤ t) *ℤ (p *ℤ R j -ℤ q *ℤ S j) ≡ (p *ℤ t) *ℤ (s *ℤ R j) -ℤ (q *ℤ s) *ℤ (t *ℤ S j) = simp ring in
        e ∙ ap (λ v. (p *ℤ t) *ℤ v -ℤ (q *ℤ s) *ℤ (t *ℤ S j)) a ∙ ap (λ v. (p *ℤ t) *ℤ sum_to m (λ i. y i *ℤ A i j) -ℤ (q *ℤ s) *ℤ v) b
        ∙ sym (sum_mix m (p *ℤ t) (q *ℤ s) y z (λ i. A i j));
  }

  module _ {RowIn ColIn : ℕ → Type 0} where
    -- a list whose next pair can be taken stays regular
    pub regular_take : {ColIn' : ℕ → Type 0} {r : ℕ} {RowIn' : ℕ → Type 0} (c : ℕ) → IsRegular m A RowIn ColIn → IsUnlistedRow m n A RowIn ColIn r s y R
        → r < m → c < n → R c ≢ pos 0 → ((i : ℕ) → (RowIn i → ⊥) → i ≢ r → RowIn' i → ⊥) → ((j : ℕ) → ColIn j → (ColIn' j) × (j < n)) → ColIn' c
        → IsRegular m A RowIn' ColIn'
    regular_take {r} c reg u rm cn ne rows cols at_c = record {
      only = λ z off on.
          let w : (i : ℕ) → i < m → y r *ℤ z i -ℤ z r *ℤ y i ≡ pos 0 = reg.only (λ i. y r *ℤ z i -ℤ z r *ℤ y i)
          (λ i im no. elim (cases_eq i r) [
            | inl e ↦ (rw e (simp ring (omega (arith, linear))))
            | inr d ↦ (let a : y i ≡ pos 0 = u.others i im no d in let b : z i ≡ pos 0 = off i im (rows i no d) in
                rw (a, b) (simp ring (omega (arith, linear))))
          ])
          (λ j cj. let a : s *ℤ R j ≡ sum_to m (λ i. y i *ℤ A i j) = u.combination.each j (omega (arith, (cols j cj).1)) in
          let b : R j ≡ pos 0 = u.zeros j cj in
          let d : sum_to m (λ i. z i *ℤ A i j) ≡ pos 0 = on j (cols j cj).0 in
          sum_mix m (y r) (z r) z y (λ i. A i j) ∙ rw (d, ← a, b) (simp ring (omega (arith, linear)))) in
          let at : y r *ℤ sum_to m (λ i. z i *ℤ A i c) -ℤ z r *ℤ sum_to m (λ i. y i *ℤ A i c) ≡ pos 0 =
          sym (sum_mix m (y r) (z r) z y (λ i. A i c)) ∙ sum_zero m (λ i. (y r *ℤ z i -ℤ z r *ℤ y i) *ℤ A i c) (λ i im. rw (w i im) (zero_times (A i c))) in
          let a : s *ℤ R c ≡ sum_to m (λ i. y i *ℤ A i c) = u.combination.each c (omega arith) in
          let d : sum_to m (λ i. z i *ℤ A i c) ≡ pos 0 = on c at_c in
          let f : s *ℤ (R c *ℤ z r) ≡ pos 0 = (let g : y r *ℤ pos 0 -ℤ z r *ℤ (s *ℤ R c) ≡ pos 0 = rw (d, ← a) at at in
          let k : z r *ℤ (s *ℤ R c) ≡ pos 0 = omega (arith, linear, times_zero (y r)) in let q : s *ℤ (R c *ℤ z r) ≡ z r *ℤ (s *ℤ R c) = simp ring in
          q ∙ k) in
          let zr : z r ≡ pos 0 = cancel_nonzero (R c) (z r) ne (cancel_zero s (R c *ℤ z r) u.combination.positive f) in
          λ i im. cancel_zero (y r) (z i) u.own (let k : y r *ℤ z i -ℤ z r *ℤ y i ≡ pos 0 = w i im in let l : y r *ℤ z i -ℤ pos 0 *ℤ y i ≡ pos 0 = rw zr at k in
          omega (arith, linear, zero_times (y i)));
    }

    -- a pivot of a listed row keeps the list regular: column l leaves, column c enters
    pub regular_swap : {ColIn' : ℕ → Type 0} {l : ℕ} (c : ℕ) → IsRegular m A RowIn ColIn → IsListedRow m n A RowIn ColIn l s y R → l < n → c < n → R c ≢ pos 0
        → ((j : ℕ) → ColIn j → j ≢ l → (ColIn' j) × (j < n)) → ColIn' c → IsRegular m A RowIn ColIn'
    regular_swap {l} c reg u ln cn ne cols at_c = record {
      only = λ z off on.
          let Z : ℕ → ℤ = λ j. sum_to m (λ i. z i *ℤ A i j) in
          let Y : ℕ → ℤ = λ j. sum_to m (λ i. y i *ℤ A i j) in
          let al : s *ℤ R l ≡ Y l = u.combination.each l (omega arith) in
          let ac : s *ℤ R c ≡ Y c = u.combination.each c (omega arith) in
          let w : (i : ℕ) → i < m → (s *ℤ R l) *ℤ z i -ℤ Z l *ℤ y i ≡ pos 0 = reg.only (λ i. (s *ℤ R l) *ℤ z i -ℤ Z l *ℤ y i)
          (λ i im no. let a : y i ≡ pos 0 = u.others i im no in let b : z i ≡ pos 0 = off i im no in rw (a, b) (simp ring (omega (arith, linear))))
          (λ j cj. sum_mix m (s *ℤ R l) (Z l) z y (λ i. A i j) ∙ elim (cases_eq j l) as (λ q. (s *ℤ R l) *ℤ Z j -ℤ Z l *ℤ Y j ≡ pos 0) [
            | inl e ↦ (rw (e, ← al) (simp ring (omega (arith, linear))))
            | inr d ↦ (let k = cols j cj d in let a : s *ℤ R j ≡ Y j = u.combination.each j (omega (arith, k.1)) in
                let b : R j ≡ pos 0 = u.zeros j cj d in let o : Z j ≡ pos 0 = on j k.0 in rw (o, ← a, b) (simp ring (omega (arith, linear))))
          ]) in
          let at : (s *ℤ R l) *ℤ Z c -ℤ Z l *ℤ Y c ≡ pos 0 =
          sym (sum_mix m (s *ℤ R l) (Z l) z y (λ i. A i c)) ∙ sum_zero m (λ i. ((s *ℤ R l) *ℤ z i -ℤ Z l *ℤ y i) *ℤ A i c)
          (λ i im. rw (w i im) (zero_times (A i c))) in
          let o : Z c ≡ pos 0 = on c at_c in
          let k : Z l *ℤ (s *ℤ R c) ≡ pos 0 = (let g : (s *ℤ R l) *ℤ pos 0 -ℤ Z l *ℤ (s *ℤ R c) ≡ pos 0 = rw (o, ← ac) at at in
          omega (arith, linear, times_zero (s *ℤ R l))) in
          let q : s *ℤ (R c *ℤ Z l) ≡ Z l *ℤ (s *ℤ R c) = simp ring in
          let zl : Z l ≡ pos 0 = cancel_nonzero (R c) (Z l) ne (cancel_zero s (R c *ℤ Z l) u.combination.positive (q ∙ k)) in
          λ i im. cancel_zero (s *ℤ R l) (z i) (times_pos s (R l) u.combination.positive u.own)
          (let b : (s *ℤ R l) *ℤ z i -ℤ Z l *ℤ y i ≡ pos 0 = w i im in let e : (s *ℤ R l) *ℤ z i -ℤ pos 0 *ℤ y i ≡ pos 0 = rw zl at b in
          omega (arith, linear, zero_times (y i)));
    }

    module _ {t : ℤ} {z S : ℕ → ℤ} where
      -- two rows of one listed pair are proportional
      pub listed_proportional : {c : ℕ} → IsRegular m A RowIn ColIn → ((j : ℕ) → ColIn j → j < n) → c < n → IsListedRow m n A RowIn ColIn c s y R
          → IsListedRow m n A RowIn ColIn c t z S → (j : ℕ) → j ≤ n → S c *ℤ R j ≡ R c *ℤ S j
      listed_proportional {c} reg inside cn f g j jn =
          let M = combination_mix (S c) (R c) f.combination g.combination in
          let w : (i : ℕ) → i < m → (S c *ℤ t) *ℤ y i -ℤ (R c *ℤ s) *ℤ z i ≡ pos 0 = reg.only (λ i. (S c *ℤ t) *ℤ y i -ℤ (R c *ℤ s) *ℤ z i)
          (λ i im no. let a : y i ≡ pos 0 = f.others i im no in let b : z i ≡ pos 0 = g.others i im no in rw (a, b) (simp ring (omega (arith, linear))))
          (λ k ck. sym (M.each k (omega (arith, inside k ck))) ∙ elim (cases_eq k c) as (λ q. (s *ℤ t) *ℤ (S c *ℤ R k -ℤ R c *ℤ S k) ≡ pos 0) [
            | inl e ↦ (rw e (simp ring (omega (arith, linear))))
            | inr d ↦ (let a : R k ≡ pos 0 = f.zeros k ck d in let b : S k ≡ pos 0 = g.zeros k ck d in rw (a, b) (simp ring (omega (arith, linear))))
          ]) in
          let e : (s *ℤ t) *ℤ (S c *ℤ R j -ℤ R c *ℤ S j) ≡ pos 0 = M.each j jn
          ∙ sum_zero m (λ i. ((S c *ℤ t) *ℤ y i -ℤ (R c *ℤ s) *ℤ z i) *ℤ A i j) (λ i im. rw (w i im) (zero_times (A i j))) in
          let o : S c *ℤ R j -ℤ R c *ℤ S j ≡ pos 0 = cancel_zero (s *ℤ t) (S c *ℤ R j -ℤ R c *ℤ S j) M.positive e in omega (arith, linear)

      -- two rows of one unlisted program row are proportional, with positive factors
      pub unlisted_proportional : {r : ℕ} → IsRegular m A RowIn ColIn → ((j : ℕ) → ColIn j → j < n) → (RowIn r → ⊥) → IsUnlistedRow m n A RowIn ColIn r s y R
          → IsUnlistedRow m n A RowIn ColIn r t z S → (j : ℕ) → j ≤ n → (z r *ℤ s) *ℤ R j ≡ (y r *ℤ t) *ℤ S j
      unlisted_proportional {r} reg inside out f g j jn =
          let w : (i : ℕ) → i < m → z r *ℤ y i -ℤ y r *ℤ z i ≡ pos 0 = reg.only (λ i. z r *ℤ y i -ℤ y r *ℤ z i)
          (λ i im no. elim (cases_eq i r) [
            | inl e ↦ (rw e (simp ring (omega (arith, linear))))
            | inr d ↦ (let a : y i ≡ pos 0 = f.others i im no d in let b : z i ≡ pos 0 = g.others i im no d in rw (a, b) (simp ring (omega (arith, linear))))
          ])
          (λ k ck. let kn : k ≤ n = omega (arith, inside k ck) in let a : s *ℤ R k ≡ sum_to m (λ i. y i *ℤ A i k) = f.combination.each k kn in
          let b : t *ℤ S k ≡ sum_to m (λ i. z i *ℤ A i k) = g.combination.each k kn in
          let a0 : R k ≡ pos 0 = f.zeros k ck in let b0 : S k ≡ pos 0 = g.zeros k ck in
          sum_mix m (z r) (y r) y z (λ i. A i k) ∙ rw (← a, ← b, a0, b0) (simp ring (omega (arith, linear)))) in
          let a : s *ℤ R j ≡ sum_to m (λ i. y i *ℤ A i j) = f.combination.each j jn in
          let b : t *ℤ S j ≡ sum_to m (λ i. z i *ℤ A i j) = g.combination.each j jn in
          let e : z r *ℤ sum_to m (λ i. y i *ℤ A i j) -ℤ y r *ℤ sum_to m (λ i. z i *ℤ A i j) ≡ pos 0 =
          sym (sum_mix m (z r) (y r) y z (λ i. A i j)) ∙ sum_zero m (λ i. (z r *ℤ y i -ℤ y r *ℤ z i) *ℤ A i j) (λ i im. rw (w i im) (zero_times (A i j))) in
          let o : z r *ℤ (s *ℤ R j) -ℤ y r *ℤ (t *ℤ S j) ≡ pos 0 = rw (a, b) e in
          let p : (z r *ℤ s) *ℤ R j ≡ z r *ℤ (s *ℤ R j) = simp ring in let q : (y r *ℤ t) *ℤ S j ≡ y r *ℤ (t *ℤ S j) = simp ring in omega (arith, linear)
