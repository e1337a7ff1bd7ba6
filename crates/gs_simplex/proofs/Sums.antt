-- Sums of whole numbers: term by term, added, multiplied, exchanged, with one term other than 0, and not negative.
use Rattle.std.proofs.Common.{◌≡◌, ◌≢◌, ℕ, zero, suc, ◌<◌, ◌⊎◌, inl, inr, ℤ, pos, ◌+ℤ◌, ◌*ℤ◌, ◌≤ℤ◌, refl, sym, ap, ◌∙◌, arith}
use Rattle.gs_simplex.specs.Sums.{sum_to}
use Rattle.gs_simplex.proofs.Ring.{linear, times_zero, times_sum}

pub sum_same : (n : ℕ) (f g : ℕ → ℤ) → ((i : ℕ) → i < n → f i ≡ g i) → sum_to n f ≡ sum_to n g
sum_same zero f g e = refl
sum_same (suc n) f g e = ap (λ t. t +ℤ f n) (sum_same n f g (λ i h. e i (omega arith))) ∙ ap (λ t. sum_to n g +ℤ t) (e n (omega arith))

pub sum_zero : (n : ℕ) (f : ℕ → ℤ) → ((i : ℕ) → i < n → f i ≡ pos 0) → sum_to n f ≡ pos 0
sum_zero zero f e = refl
sum_zero (suc n) f e = let a : sum_to n f ≡ pos 0 = sum_zero n f (λ i h. e i (omega arith)) in let b : f n ≡ pos 0 = e n (omega arith) in
    omega (arith, linear)

pub sum_add : (n : ℕ) (f g : ℕ → ℤ) → sum_to n (λ i. f i +ℤ g i) ≡ sum_to n f +ℤ sum_to n g
sum_add zero f g = refl
sum_add (suc n) f g = let a : sum_to n (λ i. f i +ℤ g i) ≡ sum_to n f +ℤ sum_to n g = sum_add n f g in omega (arith, linear)

pub sum_scale : (n : ℕ) (c : ℤ) (f : ℕ → ℤ) → sum_to n (λ i. c *ℤ f i) ≡ c *ℤ sum_to n f
sum_scale zero c f = sym (times_zero c)
sum_scale (suc n) c f = let a : sum_to n (λ i. c *ℤ f i) ≡ c *ℤ sum_to n f = sum_scale n c f in omega (arith, linear, times_sum c (sum_to n f) (f n))

pub sum_swap : (n m : ℕ) (f : ℕ → ℕ → ℤ) → sum_to n (λ i. sum_to m (λ j. f i j)) ≡ sum_to m (λ j. sum_to n (λ i. f i j))
sum_swap zero m f = sym (sum_zero m (λ j. pos 0) (λ j h. refl))
sum_swap (suc n) m f = ap (λ t. t +ℤ sum_to m (λ j. f n j)) (sum_swap n m f) ∙ sym (sum_add m (λ j. sum_to n (λ i. f i j)) (λ j. f n j))

pub cases_last : (i n : ℕ) → i < suc n → (i < n) ⊎ (i ≡ n)
cases_last i n h = grind arith

pub sum_single : (n : ℕ) (f : ℕ → ℤ) (k : ℕ) → k < n → ((i : ℕ) → i < n → i ≢ k → f i ≡ pos 0) → sum_to n f ≡ f k
sum_single zero f k h e = absurd (omega arith)
sum_single (suc n) f k h e = elim (cases_last k n h) [
  | inl l ↦ (let a : sum_to n f ≡ f k = sum_single n f k l (λ i p q. e i (omega arith) q) in
      let b : f n ≡ pos 0 = e n (omega arith) (λ (q : n ≡ k). omega arith) in omega (arith, linear))
  | inr q ↦ (let a : sum_to n f ≡ pos 0 = sum_zero n f (λ i p. e i (omega arith) (λ (r : i ≡ k). omega arith)) in let b : f n ≡ f k = ap f (sym q) in
      omega (arith, linear))
]

pub sum_nonneg : (n : ℕ) (f : ℕ → ℤ) → ((i : ℕ) → i < n → pos 0 ≤ℤ f i) → pos 0 ≤ℤ sum_to n f
sum_nonneg zero f e = omega (arith, linear)
sum_nonneg (suc n) f e = let a : pos 0 ≤ℤ sum_to n f = sum_nonneg n f (λ i h. e i (omega arith)) in let b : pos 0 ≤ℤ f n = e n (omega arith) in
    omega (arith, linear)
