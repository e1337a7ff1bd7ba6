-- Signed numbers that are added as the machine adds them.
use Rattle.std.proofs.{Common.{◌≡◌, ◌<◌, ◌^◌, ◌∙◌, ◌+ℤ◌, ℤ, ap, arith, subst, sym, to_z, of_z}, lemmas.Int.{fits_signed_from_abs, ints, to_z-of_z}}
use Rattle.std.specs.{Int.{w128}, Prelude.{unsigned_abs}}
use borrow.Author.Differences.{abs_is}
use mir.Val.{SFits}

-- the sum fits, and is the sum
pub record IsAdded (a b : ℤ) : Type 0 where
  pub fits : SFits w128 (to_z w128 (of_z w128 a) +ℤ to_z w128 (of_z w128 b))
  pub is : to_z w128 (of_z w128 (to_z w128 (of_z w128 a) +ℤ to_z w128 (of_z w128 b))) ≡ a +ℤ b

pub added : (a b : ℤ) → unsigned_abs a < 2 ^ 120 → unsigned_abs b < 2 ^ 122 → IsAdded a b
added a b la lb =
    let one : to_z w128 (of_z w128 a) ≡ a = to_z-of_z w128 a (fits_signed_from_abs w128 a (omega arith)) in
    let two : to_z w128 (of_z w128 b) ≡ b = to_z-of_z w128 b (fits_signed_from_abs w128 b (omega arith)) in
    let sum : to_z w128 (of_z w128 a) +ℤ to_z w128 (of_z w128 b) ≡ a +ℤ b = ap (λ z. z +ℤ to_z w128 (of_z w128 b)) one ∙ ap (λ z. a +ℤ z) two in
    let small : unsigned_abs (a +ℤ b) < 2 ^ 127 = omega (arith, ints, abs_is a, abs_is b, abs_is (a +ℤ b)) in
    let fits : SFits w128 (a +ℤ b) = fits_signed_from_abs w128 (a +ℤ b) small in
    record { fits = subst (SFits w128) (sym sum) fits; is = ap (λ z. to_z w128 (of_z w128 z)) sum ∙ to_z-of_z w128 (a +ℤ b) fits }
