-- Digits whose number is too large.
use Rattle.std.proofs.Common.{◌≡◌, ℕ, ◌<◌, ◌≤◌, ◌⊎◌, sym, Err, ◌^◌, Bool, true, false, ◌&&◌, List, [], ◌∷◌, length, Some, None, Result, Ok, if◌then◌else◌, inl, inr, refl, arith}
use Rattle.std.proofs.lemmas.Str.Parse.{numerals_by_value, tells_all_ascii_digits, parse_gives}
use Rattle.std.proofs.{lemmas.Bool.{cases_eq, eq-eqb, ne_eqb, eqb-true, le-leb, lt-leb, false≢true}, lemmas.Bool.Decides.{leb_tells}, lemmas.List.{nil_from_length}}
use Rattle.std.specs.{Result.{result_ok}, Str.{all_ascii_digits}, Str.Parse.{digits_value, ParsesUnsigned}}
use Rattle.gs_frac.specs.Texts.{is_numeral}
use Rattle.gs_words.specs.Values.{number_in}

-- a numeral is digits, at least one
numeral_digits : (word : List ℕ) → is_numeral word ≡ true → (all_ascii_digits word ≡ true) × (0 < length word)
numeral_digits [] h = absurd (false≢true h)
numeral_digits (b ∷ bytes) h =
    elim (cases_eq b 48) [
      | inl e ↦ let none : bytes ≡ [] = nil_from_length bytes (eqb-true (length bytes) 0 (rw (eq-eqb b 48 e) at h)) in (rw (none, e) refl, omega arith)
      | inr ne ↦ (rw (ne_eqb b 48 ne) at h, omega arith)
    ]

refused : (a b : Bool) (n : ℕ) → (if a && (b && false) then Some n else None) ≡ None
refused true true n = refl
refused true false n = refl
refused false b n = refl

pub too_large : {E : Type 0} (word : List ℕ) (least most : ℕ) (r : Result ℕ E) → is_numeral word ≡ true → most < 2 ^ 32 → ParsesUnsigned 32 10 word r
    → result_ok r ≡ None → number_in least most word ≡ None
too_large word least most r numeral fits parsed none =
    let digits = numeral_digits word numeral in
    let own = numerals_by_value (λ ds. all_ascii_digits ds ≡ true) tells_all_ascii_digits in
    let large : most < digits_value 10 word =
    elim (leb_tells (digits_value 10 word) most) [
      | inl small ↦
          let read : r ≡ Ok (digits_value 10 word) = parse_gives own 32 word r parsed digits.0 digits.1 (omega (arith, small.1)) in
          let bad = rw read at none in cc
      | inr h ↦ h.1
    ] in
    rw (lt-leb (digits_value 10 word) most large) (refused (is_numeral word) _ _)

-- the number that is parsed of a numeral is the one that it writes
parsed : {E : Type 0} (word : List ℕ) (n : ℕ) (r : Result ℕ E) → is_numeral word ≡ true → ParsesUnsigned 32 10 word r → Some n ≡ result_ok r
    → digits_value 10 word ≡ n
parsed word n (Ok m) numeral h e = grind (arith, numeral_digits word numeral, h, e)
parsed word n (Err m) numeral h e = cc

-- it is in the range, or it is not
pub inside : {E : Type 0} (word : List ℕ) (least most n : ℕ) (r : Result ℕ E) → is_numeral word ≡ true → ParsesUnsigned 32 10 word r
    → Some n ≡ result_ok r → least ≤ n → n ≤ most → Some n ≡ number_in least most word
inside word least most n r numeral h e low high =
    rw (numeral, parsed word n r numeral h e, le-leb least n low, le-leb n most high) refl

pub outside : {E : Type 0} (word : List ℕ) (least most n : ℕ) (r : Result ℕ E) → is_numeral word ≡ true → ParsesUnsigned 32 10 word r
    → Some n ≡ result_ok r → ((least ≤ n) × (most < n)) ⊎ (n < least) → None ≡ number_in least most word
outside word least most n r numeral h e (inl p) = rw (parsed word n r numeral h e, lt-leb n most p.1) (sym (refused (is_numeral word) _ _))
outside word least most n r numeral h e (inr small) = rw (numeral, parsed word n r numeral h e, lt-leb least n small) refl
