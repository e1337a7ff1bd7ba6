-- What a place is paid fits 128 bits, so that the machine's numbers are the whole numbers meant.
use Rattle.std.proofs.Common.{◌≡◌, ◌*◌, ◌<◌, ◌≤◌, ◌^◌, ◌∙◌, ℕ, ℤ, pos, negsuc, ◌-ℤ◌, ◌*ℤ◌, neg_ℤ, unsigned_abs, to_z, of_z, ap, arith, subst, sym}
use Rattle.std.proofs.{lemmas.Int.{fits_signed_from_abs, ints, to_z-of_z, to_z_pos, unsigned_abs-mul}, lemmas.Nat.{mul-le}}
use Rattle.std.specs.Int.{w32, w128}
use mir.Val.{SFits}

-- ---- a fixed stake in each of n deals
stake_abs : (s : ℤ) → SFits w32 s → unsigned_abs s ≤ 2 ^ 31
stake_abs (pos n) h = omega (arith, h.sfits)
stake_abs (negsuc n) h = omega (arith, h.sfits)

pub stake_small : (s : ℤ) (n top : ℕ) → SFits w32 s → n ≤ top → unsigned_abs (s *ℤ pos n) ≤ 2 ^ 31 * top
stake_small s n top h l =
    let P : ℕ → Type 0 = λ x. x ≤ 2 ^ 31 * top in subst P (sym (unsigned_abs-mul s (pos n))) (mul-le (unsigned_abs s) n (2 ^ 31) top (stake_abs s h) l)

module _ (s r : ℤ) (n : ℕ) (h : SFits w32 s) (few : n < 2 ^ 90) (e : r ≡ to_z w32 (of_z w32 s)) where
  factors : to_z w128 (of_z w128 r) *ℤ to_z w128 n ≡ s *ℤ pos n
  factors =
      ap (λ t. to_z w128 (of_z w128 t) *ℤ to_z w128 n) (e ∙ to_z-of_z w32 s h)
      ∙ ap (λ t. t *ℤ to_z w128 n) (to_z-of_z w128 s (fits_signed_from_abs w128 s (omega (arith, stake_abs s h))))
      ∙ ap (λ t. s *ℤ t) (to_z_pos w128 n (omega (arith, few)))

  fits : SFits w128 (s *ℤ pos n)
  fits = fits_signed_from_abs w128 (s *ℤ pos n) (omega (arith, stake_small s n (2 ^ 90) h (omega (arith, few))))

  pub stake_fits : SFits w128 (to_z w128 (of_z w128 r) *ℤ to_z w128 n)
  stake_fits = let P : ℤ → Type 0 = λ t. SFits w128 t in subst P (sym factors) fits

  pub stake_is : to_z w128 (of_z w128 (to_z w128 (of_z w128 r) *ℤ to_z w128 n)) ≡ s *ℤ pos n
  stake_is = ap (λ t. to_z w128 (of_z w128 t)) factors ∙ to_z-of_z w128 (s *ℤ pos n) fits

-- ---- chips at a showdown
pub product_of_two : (a k : ℕ) → a < 2 ^ 16 → k < 2 ^ 90 → a * k ≤ 2 ^ 106
product_of_two a k h l = mul-le a k (2 ^ 16) (2 ^ 90) (omega (arith, h)) (omega (arith, l))

pub product_of_three : (a b k : ℕ) → a < 2 ^ 16 → b < 2 ^ 8 → k < 2 ^ 82 → a * b * k ≤ 2 ^ 106
product_of_three a b k h l m = mul-le (a * b) k (2 ^ 24) (2 ^ 82) (mul-le a b (2 ^ 16) (2 ^ 8) (omega (arith, h)) (omega (arith, l))) (omega (arith, m))

pub counts : (n : ℕ) → n ≤ 2 ^ 106 → to_z w128 n ≡ pos n
counts n h = to_z_pos w128 n (omega (arith, h))

pub counts_fit : (n : ℕ) → n ≤ 2 ^ 106 → SFits w128 (pos n)
counts_fit n h = fits_signed_from_abs w128 (pos n) (omega (arith, h))

-- and with the sign turned
negated : (n : ℕ) → pos 0 -ℤ pos n ≡ neg_ℤ (pos n)
negated n = omega (arith, ints)

pub loss_size : (n : ℕ) → unsigned_abs (neg_ℤ (pos n)) ≡ n
loss_size n = omega (arith, ints)

loss_kept : (n : ℕ) → n ≤ 2 ^ 106 → pos 0 -ℤ to_z w128 n ≡ neg_ℤ (pos n)
loss_kept n h = ap (λ t. pos 0 -ℤ t) (counts n h) ∙ negated n

turned_fits : (n : ℕ) → n ≤ 2 ^ 106 → SFits w128 (neg_ℤ (pos n))
turned_fits n h = fits_signed_from_abs w128 (neg_ℤ (pos n)) (omega (arith, h, loss_size n))

pub loss_fits : (n : ℕ) → n ≤ 2 ^ 106 → SFits w128 (pos 0 -ℤ to_z w128 n)
loss_fits n h = let P : ℤ → Type 0 = λ t. SFits w128 t in subst P (sym (loss_kept n h)) (turned_fits n h)

pub loss_is : (n : ℕ) → n ≤ 2 ^ 106 → to_z w128 (of_z w128 (pos 0 -ℤ to_z w128 n)) ≡ neg_ℤ (pos n)
loss_is n h = ap (λ t. to_z w128 (of_z w128 t)) (loss_kept n h) ∙ to_z-of_z w128 (neg_ℤ (pos n)) (turned_fits n h)
