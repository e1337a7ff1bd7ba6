-- What is read as a fraction is one.
use Rattle.std.proofs.Common.{◌≡◌, ℕ, ◌^◌, ℤ, pos, List, Option, Some, None, Result, Ok, Err, Bool, true, false, ◌&&◌, ◌==◌, nat_lt, refl, subst}
use Rattle.std.proofs.lemmas.Bool.{and_parts, eqb-true, ltb-true}
use Rattle.std.specs.{Prelude.{IsTrue, if◌then◌else◌}, Str.Parse.{digits_value}}
use Rattle.gs_frac.specs.{declared.fault.FracFault.{FracFault}, declared.fault.FracFault.TheVariants.{NotFraction, TooWide, NotReduced}, Gcd.{gcd_of}}
use Rattle.gs_frac.specs.Texts.{fraction_between, fraction_from, fraction_of, is_fraction, is_numeral, limit, number_with_sign, reduced_fraction, sides, signed}
use Rattle.gs_frac.proofs.Made.{fraction_is}

abbrev IsGood : Result (ℤ × ℤ) FracFault → Type 0
IsGood (Ok p) = IsTrue (is_fraction p.0 p.1)
IsGood (Err why) = Unit {0}

good_reduced : (negative : Bool) (n d : ℕ) → IsGood (reduced_fraction negative n d)
unfolding limit
good_reduced negative n d = by (nat_lt n (2 ^ 127) && nat_lt d (2 ^ 127)) refl
  where
    low : (b : Bool) → (nat_lt 0 d && gcd_of n d == 1) ≡ b → nat_lt n (2 ^ 127) ≡ true → nat_lt d (2 ^ 127) ≡ true
        → IsGood (if b then Ok (number_with_sign negative n, pos d) else Err NotReduced)
    low false is few small = tt
    low true is few small =
        let p = and_parts (nat_lt 0 d) (gcd_of n d == 1) is in
        fraction_is negative n d (ltb-true n (2 ^ 127) few) (ltb-true d (2 ^ 127) small) (ltb-true 0 d p.0) (eqb-true (gcd_of n d) 1 p.1)

    by : (b : Bool) → (nat_lt n (2 ^ 127) && nat_lt d (2 ^ 127)) ≡ b
        → IsGood (if b then (if nat_lt 0 d && gcd_of n d == 1 then Ok (number_with_sign negative n, pos d) else Err NotReduced) else Err TooWide)
    by false is = tt
    by true is = let p = and_parts (nat_lt n (2 ^ 127)) (nat_lt d (2 ^ 127)) is in low (nat_lt 0 d && gcd_of n d == 1) refl p.0 p.1

good_between : (s : Bool × List ℕ) (right : List ℕ) → IsGood (fraction_between s right)
good_between s right = by (is_numeral s.1 && is_numeral right) (s.0 && digits_value 10 s.1 == 0)
  where
    by : (a b : Bool) → IsGood (if a then (if b then Err NotFraction else reduced_fraction s.0 (digits_value 10 s.1) (digits_value 10 right))
        else Err NotFraction)
    by false b = tt
    by true true = tt
    by true false = good_reduced s.0 (digits_value 10 s.1) (digits_value 10 right)

good_from : (o : Option (List ℕ × List ℕ)) → IsGood (fraction_from o)
good_from None = tt
good_from (Some p) = good_between (signed p.0) p.1

pub read_fraction : (words : List ℕ) (p : ℤ × ℤ) → fraction_of words ≡ Ok p → IsTrue (is_fraction p.0 p.1)
read_fraction words p e = subst IsGood e (good_from (sides words))
