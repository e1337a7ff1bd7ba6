-- Rows times multipliers against columns times values, sums in blocks, and the prices that the multipliers of the aim's row give.
use Rattle.std.proofs.Common.{◌≡◌, ℕ, zero, suc, ◌+◌, ◌<◌, ℤ, pos, ◌+ℤ◌, ◌-ℤ◌, ◌*ℤ◌, neg_ℤ, ◌≤ℤ◌, sym, ap, ◌∙◌, arith}
use Rattle.gs_simplex.specs.{Sums.{sum_to}, Rows.{IsAimRow}}
use Rattle.gs_simplex.proofs.{Ring.{ring, linear, times_times}, Sums.{sum_same, sum_scale, sum_swap}}
use lib.IntN.{*ℤ_comm, +ℤ_assoc}

-- rows times multipliers against columns times values
pub pairing : (m n : ℕ) (A : ℕ → ℕ → ℤ) (y x : ℕ → ℤ) → sum_to m (λ i. y i *ℤ sum_to n (λ j. A i j *ℤ x j))
    ≡ sum_to n (λ j. sum_to m (λ i. y i *ℤ A i j) *ℤ x j)
pairing m n A y x =
    sum_same m (λ i. y i *ℤ sum_to n (λ j. A i j *ℤ x j)) (λ i. sum_to n (λ j. (y i *ℤ A i j) *ℤ x j))
    (λ i h. sym (sum_scale n (y i) (λ j. A i j *ℤ x j)) ∙ sum_same n (λ j. y i *ℤ (A i j *ℤ x j)) (λ j. (y i *ℤ A i j) *ℤ x j)
    (λ j k. sym (times_times (y i) (A i j) (x j))))
    ∙ sum_swap m n (λ i j. (y i *ℤ A i j) *ℤ x j)
    ∙ sum_same n (λ j. sum_to m (λ i. (y i *ℤ A i j) *ℤ x j)) (λ j. sum_to m (λ i. y i *ℤ A i j) *ℤ x j)
    (λ j h. sum_same m (λ i. (y i *ℤ A i j) *ℤ x j) (λ i. x j *ℤ (y i *ℤ A i j)) (λ i k. *ℤ_comm (y i *ℤ A i j) (x j)) ∙ sum_scale m (x j) (λ i. y i *ℤ A i j)
    ∙ *ℤ_comm (x j) (sum_to m (λ i. y i *ℤ A i j)))

-- blocks of columns or rows
pub sum_split : (p q : ℕ) (f : ℕ → ℤ) → sum_to (p + q) f ≡ sum_to p f +ℤ sum_to q (λ j. f (p + j))
sum_split p zero f = (let e : p + 0 ≡ p = omega arith in ap (λ t. sum_to t f) e) ∙ (let z : sum_to p f ≡ sum_to p f +ℤ pos 0 = omega (arith, linear) in z)
sum_split p (suc q) f =
    (let e : p + suc q ≡ suc (p + q) = omega arith in ap (λ t. sum_to t f) e) ∙ ap (λ t. t +ℤ f (p + q)) (sum_split p q f)
    ∙ +ℤ_assoc (sum_to p f) (sum_to q (λ j. f (p + j))) (f (p + q))

pub sum_monotone : (n : ℕ) (f g : ℕ → ℤ) → ((i : ℕ) → i < n → f i ≤ℤ g i) → sum_to n f ≤ℤ sum_to n g
sum_monotone zero f g e = omega (arith, linear)
sum_monotone (suc n) f g e = let a : sum_to n f ≤ℤ sum_to n g = sum_monotone n f g (λ i h. e i (omega arith)) in let b : f n ≤ℤ g n = e n (omega arith) in
    omega (arith, linear)

module _ {m n : ℕ} {A : ℕ → ℕ → ℤ} {RowIn ColIn : ℕ → Type 0} {aim : ℕ → ℤ} {s : ℤ} {y a : ℕ → ℤ} where
  -- SECOND LAW: the multipliers of the aim's row, over s times the multiple, give the prices and the aim's value.
  -- The price of column j is minus a j over the multiple; num over den is that fraction
  pub price_from_multipliers : (num den : ℤ) (j : ℕ) → IsAimRow m n A RowIn ColIn aim s y a → j < n → num *ℤ a (suc n) ≡ neg_ℤ (a j) *ℤ den
      → num *ℤ (s *ℤ a (suc n)) ≡ den *ℤ (sum_to m (λ i. y i *ℤ A i j) -ℤ (s *ℤ a (suc n)) *ℤ aim j)
  price_from_multipliers num den j u jn e =
      let f : s *ℤ (a (suc n) *ℤ aim j -ℤ a j) ≡ sum_to m (λ i. y i *ℤ A i j) = u.each j jn in
      let l : num *ℤ (s *ℤ a (suc n)) ≡ s *ℤ (num *ℤ a (suc n)) = simp ring in
      let r : den *ℤ (s *ℤ (a (suc n) *ℤ aim j -ℤ a j) -ℤ (s *ℤ a (suc n)) *ℤ aim j) ≡ s *ℤ (neg_ℤ (a j) *ℤ den) = simp ring (omega (arith, linear)) in
      l ∙ ap (λ t. s *ℤ t) e ∙ sym r ∙ ap (λ t. den *ℤ (t -ℤ (s *ℤ a (suc n)) *ℤ aim j)) f
