-- A sign, a size, and products of them.
use Rattle.std.proofs.{Common.{◌≡◌, ℕ, zero, suc, ◌*◌, ◌/◌, ℤ, pos, negsuc, neg_ℤ, ◌*ℤ◌, refl, sym, ap, ◌∙◌, false, arith}, lemmas.Bool.{lt-leb}}
use Rattle.std.proofs.Math.Nat.{zero-mul}
use Rattle.std.specs.Prelude.{unsigned_abs, int_lt}
use Rattle.gs_frac.specs.Texts.{number_with_sign}
use Rattle.gs_frac.proofs.GcdLaws.{Reduced}

neg_times : (n d : ℕ) → neg_ℤ (pos n) *ℤ pos d ≡ neg_ℤ (pos (n * d))
neg_times zero d = ap (λ (k : ℕ). pos k) (zero-mul d) ∙ sym (ap (λ k. neg_ℤ (pos k)) (zero-mul d))
neg_times (suc n) d = refl

-- crosswise by sizes is crosswise
pub cross : (num : ℤ) (n d below : ℕ) → n * d ≡ unsigned_abs num * below → number_with_sign (int_lt num (pos 0)) n *ℤ pos d ≡ num *ℤ pos below
cross (pos m) n d below e =
    let f : int_lt (pos m) (pos 0) ≡ false = lt-leb (suc m) 0 (omega arith) in
    ap (λ b. number_with_sign b n *ℤ pos d) f ∙ ap (λ (k : ℕ). pos k) e
cross (negsuc m) n d below e = neg_times n d ∙ ap (λ k. neg_ℤ (pos k)) e

-- both parts divided by their greatest common divisor
pub crossed : (num den above under : ℤ) (n d g : ℕ) → n ≡ unsigned_abs num → den ≡ pos d → Reduced n d g → above ≡ number_with_sign (int_lt num (pos 0)) (n / g)
    → under ≡ pos (d / g) → above *ℤ den ≡ num *ℤ under
crossed num den above under n d g size below parts is_above is_under =
    let e : n / g * d ≡ unsigned_abs num * (d / g) = parts.cross ∙ ap (λ k. k * (d / g)) size in
    ap (λ z. above *ℤ z) below ∙ ap (λ z. z *ℤ pos d) is_above ∙ cross num (n / g) d (d / g) e ∙ ap (λ z. num *ℤ z) (sym is_under)
