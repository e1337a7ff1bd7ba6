-- The texts of fractions.
use Rattle.std.specs.Prelude.{ℕ, ◌^◌, ℤ, pos, negsuc, neg_ℤ, Bool, true, false, ◌&&◌, ◌==◌, nat_lt, if◌then◌else◌, List, [], ◌∷◌, ◌++◌, length, Option, Some}
use Rattle.std.specs.{Prelude.{None, Result, Ok, Err, codes, option_map, unsigned_abs}, Fmt.{signed_decimal}, Str.{all_ascii_digits}, Str.Parse.{digits_value}}
use Rattle.gs_frac.specs.{declared.fault.FracFault.{FracFault}, declared.fault.FracFault.TheVariants.{NotFraction, TooWide, NotReduced}, Gcd.{gcd_of}}

-- `num/den`
abbrev pub fraction_text : ℤ → ℤ → List ℕ
fraction_text num den = signed_decimal num ++ 47 ∷ signed_decimal den

-- a line of words, a space and a fraction
abbrev pub number_line : List ℕ → ℤ × ℤ → List ℕ
number_line words f = words ++ codes " " ++ fraction_text f.0 f.1 ++ codes "\n"

-- digits, at least one, without leading zeros
abbrev pub is_numeral : List ℕ → Bool
is_numeral [] = false
is_numeral (b ∷ bytes) = if b == 48 then length bytes == 0 else all_ascii_digits (b ∷ bytes)

-- the bytes before and after the first slash, if there is a slash
abbrev pub sides : List ℕ → Option (List ℕ × List ℕ)
sides [] = None
sides (b ∷ bytes) = if b == 47 then Some ([], bytes) else option_map (λ p. (b ∷ p.0, p.1)) (sides bytes)

-- whether the bytes begin with a minus sign, and the bytes without it
abbrev pub signed : List ℕ → Bool × List ℕ
signed [] = (false, [])
signed (b ∷ bytes) = if b == 45 then (true, bytes) else (false, b ∷ bytes)

-- a number from its sign and size
abbrev pub number_with_sign : Bool → ℕ → ℤ
number_with_sign negative n = if negative then neg_ℤ (pos n) else pos n

-- 2 to the 127th
unfoldable pub limit : ℕ
limit = 2 ^ 127

-- a reduced fraction: the denominator is above 0, both parts are below 2^127 in size, and their greatest common divisor is 1
abbrev pub is_fraction : ℤ → ℤ → Bool
is_fraction num (pos d) = (nat_lt 0 d && nat_lt d limit) && (nat_lt (unsigned_abs num) limit && gcd_of (unsigned_abs num) d == 1)
is_fraction num (negsuc d) = false

-- The fraction with this sign, numerator n and denominator d. It is too wide if a part is 2^127 or more. Else it is not reduced
-- if d is 0 or the greatest common divisor of the parts is not 1.
abbrev pub reduced_fraction : Bool → ℕ → ℕ → Result (ℤ × ℤ) FracFault
reduced_fraction negative n d =
    if nat_lt n limit && nat_lt d limit
    then (if nat_lt 0 d && gcd_of n d == 1 then Ok (number_with_sign negative n, pos d) else Err NotReduced)
    else Err TooWide

-- the fraction from the two sides of a slash: a numeral with an optional minus sign, but not `-0`, and a numeral
abbrev pub fraction_between : Bool × List ℕ → List ℕ → Result (ℤ × ℤ) FracFault
fraction_between s right =
    if is_numeral s.1 && is_numeral right
    then (if s.0 && digits_value 10 s.1 == 0 then Err NotFraction else reduced_fraction s.0 (digits_value 10 s.1) (digits_value 10 right))
    else Err NotFraction

-- the fraction from the two sides of a slash; without a slash it is not a fraction
abbrev pub fraction_from : Option (List ℕ × List ℕ) → Result (ℤ × ℤ) FracFault
fraction_from None = Err NotFraction
fraction_from (Some p) = fraction_between (signed p.0) p.1

-- the fraction that the bytes spell, or the first fault
abbrev pub fraction_of : List ℕ → Result (ℤ × ℤ) FracFault
fraction_of bytes = fraction_from (sides bytes)
