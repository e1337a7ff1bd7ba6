-- The parts of a certificate's text, as they are read straight. For private functions.
use Rattle.std.specs.{Prelude.{ℕ, ℤ, ◌≡◌, ◌<◌, ◌≤◌, ◌^◌, true, List, [], ◌∷◌, ◌++◌, codes, length, take}, Fmt.{signed_decimal}, Str.{all_ascii_digits}}
use Rattle.std.specs.Str.Parse.{digits_value}

-- the text of numbers, each followed by what stands between it and the next
abbrev pub opened : List ℤ → List ℕ
opened [] = []
opened (z ∷ zs) = signed_decimal z ++ (codes "\",\"" ++ opened zs)

-- the bytes are the text of numbers after the first quote of their array, then the array's end, and then `rest`
pub record StandsFor (bytes : List ℕ) (zs : List ℤ) (rest : List ℕ) : Type 0 where
  pub front : List ℤ
  pub last : ℤ
  pub numbers : zs ≡ front ++ last ∷ []
  pub text : bytes ≡ opened front ++ (signed_decimal last ++ (codes "\"]" ++ rest))

-- the bytes begin with this many digits, which represent this size, below 10^18
pub record AreDigits (bytes : List ℕ) (size count : ℕ) : Type 0 where
  pub within : count ≤ length bytes
  pub digits : all_ascii_digits (take count bytes) ≡ true
  pub value : size ≡ digits_value 10 (take count bytes)
  pub few : size < 10 ^ 18
