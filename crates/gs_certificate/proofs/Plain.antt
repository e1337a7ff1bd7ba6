-- Plain bytes: digits, the minus sign and the bar, of which the texts of numbers are made.
use Rattle.std.proofs.Common.{◌≡◌, ℕ, suc, ◌<◌, ◌≤◌, ◌^◌, ◌&&◌, ◌==◌, List, [], ◌∷◌, ◌++◌, length, get_or, IsTrue, ℤ, pos, negsuc, decimal, refl, arith}
use Rattle.std.proofs.lemmas.Bool.{and_parts, ltb-true, false≢true}
use Rattle.std.specs.{Prelude.{nat_lt, unsigned_abs}, Fmt.{signed_decimal}}
use Rattle.json.specs.Print.{escape, escape_byte}
use Rattle.json.proofs.Printed.Strings.{escape_byte_plain}
use Rattle.gs_frac.specs.{Gcd.{gcd_of}, Texts.{fraction_text, is_fraction, limit}}
use Rattle.gs_frac.proofs.Numerals.{digit_in, digits_of_decimal}

abbrev pub Plain : List ℕ → Type 0
Plain [] = Unit {0}
Plain (x ∷ xs) = (45 ≤ x) × (x ≤ 57) × Plain xs

pub escaped : (xs : List ℕ) → Plain xs → escape xs ≡ xs
escaped [] h = refl
escaped (x ∷ xs) h =
    let one : escape_byte x ≡ x ∷ [] = escape_byte_plain x (λ e. omega (arith, h.0, h.1, e)) (λ e. omega (arith, h.0, h.1, e)) (omega (arith, h.0)) in
    let rest : escape xs ≡ xs = escaped xs h.2 in
    rw (one, rest) refl

joined : (xs ys : List ℕ) → Plain xs → Plain ys → Plain (xs ++ ys)
joined [] ys h k = k
joined (x ∷ xs) ys h k = (h.0, h.1, joined xs ys h.2 k)

from_digits : (xs : List ℕ) → ((i : ℕ) → i < length xs → (48 ≤ get_or xs i 0) × (get_or xs i 0 ≤ 57)) → Plain xs
from_digits [] h = tt
from_digits (x ∷ xs) h =
    let first = h 0 (omega arith) in
    (omega (arith, first.0), first.1, from_digits xs (λ i l. h (suc i) (omega arith)))

decimal_plain : (n : ℕ) → n < 2 ^ 128 → Plain (decimal n)
decimal_plain n few = from_digits (decimal n) (λ i l. digit_in (decimal n) i (digits_of_decimal n (omega arith)) l)

pub signed_plain : (z : ℤ) → unsigned_abs z < 2 ^ 127 → Plain (signed_decimal z)
signed_plain (pos n) h = decimal_plain n (omega arith)
signed_plain (negsuc n) h = (omega arith, omega arith, decimal_plain (suc n) (omega arith))

pub fraction_plain : (num den : ℤ) → IsTrue (is_fraction num den) → Plain (fraction_text num den)
unfolding limit
fraction_plain num (pos d) h =
    let a = and_parts (nat_lt 0 d && nat_lt d limit) (nat_lt (unsigned_abs num) limit && gcd_of (unsigned_abs num) d == 1) h in
    let b = and_parts (nat_lt 0 d) (nat_lt d limit) a.0 in
    let c = and_parts (nat_lt (unsigned_abs num) limit) (gcd_of (unsigned_abs num) d == 1) a.1 in
    let low = ltb-true d limit b.1 in
    joined (signed_decimal num) (47 ∷ decimal d) (signed_plain num (ltb-true (unsigned_abs num) limit c.0)) (
      omega arith,
      omega arith,
      decimal_plain d (omega arith),
    )
fraction_plain num (negsuc d) h = absurd (false≢true h)
