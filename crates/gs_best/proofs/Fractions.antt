-- The lower part of a fraction.
use Rattle.std.proofs.{Common.{◌≡◌, ℕ, ◌+◌, ◌<◌, ◌≤◌, ◌&&◌, ◌*◌, sym, ap, ◌∙◌, arith}, lemmas.Bool.{and_parts, false≢true}, lemmas.Int.{ints}}
use Rattle.std.specs.Prelude.{ℤ, pos, ◌+ℤ◌, ◌-ℤ◌, ◌*ℤ◌, negsuc, unsigned_abs, IsTrue, nat_lt}
use borrow.Author.Differences.{abs_is, product_is}
use borrow.Author.Tests.{ltb-true}
use Rattle.gs_frac.specs.{declared.value.Fraction.{Fraction}, Texts.{is_fraction, limit}}
use Rattle.gs_best.specs.Judged.{IsOver, parts}

pub record IsBottom (den : ℤ) : Type 0 where
  pub some : 0 < unsigned_abs den
  pub is : den ≡ pos (unsigned_abs den)

pub bottom : (num den : ℤ) → IsTrue (is_fraction num den) → IsBottom den
bottom num (pos d) h =
    let p = and_parts (nat_lt 0 d && nat_lt d limit) _ h in
    let q = and_parts (nat_lt 0 d) (nat_lt d limit) p.0 in
    let e : unsigned_abs (pos d) ≡ d = omega (arith, ints, abs_is (pos d)) in
    record { some = (let s = ltb-true 0 d q.0 in omega arith); is = ap pos (sym e) }
bottom num (negsuc d) h = absurd (false≢true h)

-- the scale of a verdict
pub over_scale : (m n : ℕ) (scale z : ℤ) → scale ≡ pos m *ℤ z → z ≡ pos n → scale ≡ pos (m * n)
over_scale m n scale z e is = e ∙ ap (λ x. pos m *ℤ x) is ∙ omega (arith, ints, product_is (pos m) (pos n))

pub turned_sum : (a x p a' p' : ℤ) → a ≡ x → a' ≡ a → p' ≡ p → a' +ℤ p' ≡ x +ℤ p
turned_sum a x p a' p' e f g = omega (arith, ints)

pub abs_difference : (x y : ℤ) → unsigned_abs (x -ℤ y) ≤ unsigned_abs x + unsigned_abs y
abs_difference x y = omega (arith, ints, abs_is x, abs_is y, abs_is (x -ℤ y))

-- the same number over the same scale
pub over_turn : (num den num' den' : ℤ) (x : Fraction) → IsOver num den x → num ≡ num' → den ≡ den' → IsOver num' den' x
over_turn num den num' den' x h e f = record {
  positive = h.positive;
  value = ap (λ z. (parts x).0 *ℤ z) (sym f) ∙ h.value ∙ ap (λ z. pos (parts x).1 *ℤ z) e;
}
