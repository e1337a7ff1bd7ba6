-- A number of a path fits in 128 bits, and so it is the one that is told.
use Rattle.std.proofs.Common.{◌≡◌, ℕ, ℤ, FitsSigned, ap, sym, to_z, of_z, to_z-of_z}
use Rattle.std.specs.Int.{w128}
use Rattle.gs_reply.specs.{Refusals.{Overflows}, declared.refusals.Overflow.TheVariants.{AtStep}}

pub overflow_is : (step row col : ℕ) (number : ℤ) → FitsSigned w128 number
    → Overflows (AtStep step row col number) ≡ Overflows (AtStep step row col (to_z w128 (of_z w128 number)))
overflow_is step row col number fits = ap (λ (z : ℤ). Overflows (AtStep step row col z)) (sym (to_z-of_z {w = w128} {z = number} fits))
