-- Products of whole numbers: their normal form in sums, their signs, and factors cancelled.
use Rattle.std.proofs.Common.{◌≡◌, ◌≢◌, zero, suc, ◌*◌, ◌⊎◌, inl, inr, ℤ, pos, negsuc, ◌+ℤ◌, ◌-ℤ◌, ◌*ℤ◌, neg_ℤ, ◌≤ℤ◌, ◌<ℤ◌, refl, sym, ap, ◌∙◌, arith}
use Rattle.std.proofs.lemmas.Int.{ints}
use borrow.Author.Differences.{up, down, sum_is_lem, neg_is, product_is, same_in, same_out, lt_out, le_out, below_in, at_most_in, Apart-out}
use lib.IntN.{+ℤ_idl, +ℤ_idr, *ℤ_comm}

pub times_sum : (a b c : ℤ) → a *ℤ (b +ℤ c) ≡ a *ℤ b +ℤ a *ℤ c
times_sum a b c = omega (arith, ints, ap (λ n. up a * n) (sum_is_lem b c), ap (λ n. down a * n) (sum_is_lem b c))

pub sum_times : (a b c : ℤ) → (a +ℤ b) *ℤ c ≡ a *ℤ c +ℤ b *ℤ c
sum_times a b c = *ℤ_comm (a +ℤ b) c ∙ times_sum c a b ∙ omega (arith, ints)

pub times_times : (a b c : ℤ) → (a *ℤ b) *ℤ c ≡ a *ℤ (b *ℤ c)
times_times a b c =
    omega (
      arith,
      ints,
      ap (λ n. n * up c) (product_is a b).0,
      ap (λ n. n * up c) (product_is a b).1,
      ap (λ n. n * down c) (product_is a b).0,
      ap (λ n. n * down c) (product_is a b).1,
      ap (λ n. up a * n) (product_is b c).0,
      ap (λ n. up a * n) (product_is b c).1,
      ap (λ n. down a * n) (product_is b c).0,
      ap (λ n. down a * n) (product_is b c).1,
    )

pub times_neg : (a b : ℤ) → a *ℤ neg_ℤ b ≡ neg_ℤ (a *ℤ b)
times_neg a b = omega (
  arith,
  ints,
  ap (λ n. up a * n) (neg_is b).0,
  ap (λ n. up a * n) (neg_is b).1,
  ap (λ n. down a * n) (neg_is b).0,
  ap (λ n. down a * n) (neg_is b).1,
)

pub neg_times : (a b : ℤ) → neg_ℤ a *ℤ b ≡ neg_ℤ (a *ℤ b)
neg_times a b = *ℤ_comm (neg_ℤ a) b ∙ times_neg b a ∙ ap neg_ℤ (*ℤ_comm b a)

pub times_left : (a b c : ℤ) → a *ℤ (b *ℤ c) ≡ b *ℤ (a *ℤ c)
times_left a b c = sym (times_times a b c) ∙ ap (λ x. x *ℤ c) (*ℤ_comm a b) ∙ times_times b a c

pub times_zero : (a : ℤ) → a *ℤ pos 0 ≡ pos 0
times_zero a = omega (arith, ints)

pub zero_times : (a : ℤ) → pos 0 *ℤ a ≡ pos 0
zero_times a = omega (arith, ints)

pub times_one : (a : ℤ) → a *ℤ pos 1 ≡ a
times_one a = omega (arith, ints)

pub one_times : (a : ℤ) → pos 1 *ℤ a ≡ a
one_times a = omega (arith, ints)

-- the normal form: a sum of sorted products
pub ruleset ring = (
  times_sum,
  sum_times,
  times_neg,
  neg_times,
  times_times,
  *ℤ_comm,
  times_left,
  times_zero,
  zero_times,
  times_one,
  one_times,
  +ℤ_idl,
  +ℤ_idr,
)

-- sums, differences and order, with products as atoms
pub ruleset linear = (same_out, same_in, sum_is_lem, neg_is, lt_out, le_out, below_in, at_most_in, Apart-out)

-- order of products
pub times_pos : (a b : ℤ) → pos 0 <ℤ a → pos 0 <ℤ b → pos 0 <ℤ (a *ℤ b)
times_pos (pos (suc a)) (pos (suc b)) p q = omega (arith, ints)
times_pos (pos zero) b p q = absurd (omega (arith, ints))
times_pos (negsuc a) b p q = absurd (omega (arith, ints))
times_pos (pos (suc a)) (pos zero) p q = absurd (omega (arith, ints))
times_pos (pos (suc a)) (negsuc b) p q = absurd (omega (arith, ints))

pub times_nonneg : (a b : ℤ) → pos 0 ≤ℤ a → pos 0 ≤ℤ b → pos 0 ≤ℤ (a *ℤ b)
times_nonneg (pos a) (pos b) p q = omega (arith, ints)
times_nonneg (negsuc a) b p q = absurd (omega (arith, ints))
times_nonneg (pos a) (negsuc b) p q = absurd (omega (arith, ints))

-- one of three
pub sign_of : (a : ℤ) → (a <ℤ pos 0) ⊎ ((a ≡ pos 0) ⊎ (pos 0 <ℤ a))
sign_of (pos zero) = inr (inl refl)
sign_of (pos (suc n)) = inr (inr (omega (arith, ints)))
sign_of (negsuc n) = inl (omega (arith, ints))

-- a positive factor is cancelled
pub cancel_zero : (a x : ℤ) → pos 0 <ℤ a → a *ℤ x ≡ pos 0 → x ≡ pos 0
cancel_zero a x p e =
    elim (sign_of x) [
      | inl l ↦ (let h : pos 0 <ℤ (a *ℤ neg_ℤ x) = times_pos a (neg_ℤ x) p (omega (arith, linear)) in absurd (omega (arith, linear, times_neg a x)))
      | inr r ↦ elim r [ inl z ↦ z | inr g ↦ (let h : pos 0 <ℤ (a *ℤ x) = times_pos a x p g in absurd (omega (arith, linear))) ]
    ]

pub cancel : (a x y : ℤ) → pos 0 <ℤ a → a *ℤ x ≡ a *ℤ y → x ≡ y
cancel a x y p e = let z : x -ℤ y ≡ pos 0 = cancel_zero a (x -ℤ y) p (simp ring (omega (arith, linear))) in omega (arith, linear)

pub cancel_pos : (a x : ℤ) → pos 0 <ℤ a → pos 0 <ℤ (a *ℤ x) → pos 0 <ℤ x
cancel_pos a x p h =
    elim (sign_of x) [
      | inl l ↦ (let k : pos 0 <ℤ (a *ℤ neg_ℤ x) = times_pos a (neg_ℤ x) p (omega (arith, linear)) in absurd (omega (arith, linear, times_neg a x)))
      | inr r ↦ elim r [ inl z ↦ (let k : a *ℤ x ≡ pos 0 = ap (λ t. a *ℤ t) z ∙ times_zero a in absurd (omega (arith, linear))) | inr g ↦ g ]
    ]

pub cancel_nonneg : (a x : ℤ) → pos 0 <ℤ a → pos 0 ≤ℤ (a *ℤ x) → pos 0 ≤ℤ x
cancel_nonneg a x p h =
    elim (sign_of x) [
      | inl l ↦ (let k : pos 0 <ℤ (a *ℤ neg_ℤ x) = times_pos a (neg_ℤ x) p (omega (arith, linear)) in absurd (omega (arith, linear, times_neg a x)))
      | inr r ↦ elim r [ inl z ↦ omega (arith, linear) | inr g ↦ omega (arith, linear) ]
    ]

pub cancel_nonzero : (a x : ℤ) → a ≢ pos 0 → a *ℤ x ≡ pos 0 → x ≡ pos 0
cancel_nonzero a x ne e =
    elim (sign_of a) [
      | inl l ↦ cancel_zero (neg_ℤ a) x (omega (arith, linear)) (neg_times a x ∙ omega (arith, linear))
      | inr r ↦ elim r [ inl z ↦ absurd (ne z) | inr g ↦ cancel_zero a x g e ]
    ]
