-- What is read has its fraction's text, and a fraction's text is read.
use Rattle.std.proofs.Common.{◌≡◌, ℕ, zero, suc, ◌^◌, ◌<◌, ℤ, pos, negsuc, List, [], ◌∷◌, ◌++◌, Option, Some, None, Result, Ok, Err, Bool, true, false, eqb}
use Rattle.std.proofs.Common.{ltb, ◌&&◌, inl, inr, refl, sym, ap, subst, ◌∙◌, arith}
use Rattle.std.proofs.lemmas.Bool.{cases_Bool, cases_lt, and_parts, lt-ltb, le-ltb, ltb-true, ne_eqb, eqb-true, false≢true}
use Rattle.std.specs.{Prelude.{IsTrue, IfOk, option_map}, Fmt.{decimal, signed_decimal}, Str.{all_ascii_digits}, Str.Parse.{digits_value}}
use Rattle.std.specs.Char.{is_ascii_digit}
use Rattle.gs_frac.specs.{declared.value.Fraction.{Fraction}, declared.fault.FracFault.{FracFault}, Gcd.{gcd_of}, Texts.{fraction_from, fraction_of}}
use Rattle.gs_frac.specs.Texts.{fraction_text, is_numeral, sides, signed, limit, is_fraction, number_with_sign, reduced_fraction, fraction_between}
use Rattle.gs_frac.specs.Views.{Gives}
use Rattle.gs_frac.proofs.{Numerals.{decimal_of_value, numeral_of_decimal, digits_of_decimal, digit_in}, Made.{reduces}}

-- ---- what is read

abbrev pub HasText : List ℕ → Result (ℤ × ℤ) FracFault → Type 0
HasText text (Ok x) = text ≡ fraction_text x.0 x.1
HasText text (Err e) = Unit {0}

-- a sign in front
abbrev pub with_sign : Bool → List ℕ → List ℕ
with_sign true ds = 45 ∷ ds
with_sign false ds = ds

signed_text : (negative : Bool) (n : ℕ) → (negative && eqb n 0) ≡ false → signed_decimal (number_with_sign negative n) ≡ with_sign negative (decimal n)
signed_text false n h = refl
signed_text true zero h = absurd (false≢true (sym h))
signed_text true (suc n) h = refl

has_reduced : (negative : Bool) (ds right : List ℕ) → is_numeral ds ≡ true → is_numeral right ≡ true → (negative && eqb (digits_value 10 ds) 0) ≡ false
    → HasText (with_sign negative ds ++ 47 ∷ right) (reduced_fraction negative (digits_value 10 ds) (digits_value 10 right))
unfolding limit
has_reduced negative ds right ds_is right_is z =
    let n = digits_value 10 ds in
    let d = digits_value 10 right in
    elim (cases_lt n (2 ^ 127)) [
      | inr ge ↦ rw (le-ltb n (2 ^ 127) ge) tt
      | inl few ↦ elim (cases_lt d (2 ^ 127)) [
        | inr ge ↦ rw (lt-ltb n (2 ^ 127) few, le-ltb d (2 ^ 127) ge) tt
        | inl low ↦ elim (cases_Bool (ltb 0 d && eqb (gcd_of n d) 1)) [
          | inr fails ↦ rw (lt-ltb n (2 ^ 127) few, lt-ltb d (2 ^ 127) low, fails) tt
          | inl holds ↦
              let left : signed_decimal (number_with_sign negative n) ≡ with_sign negative ds =
              signed_text negative n z ∙ ap (with_sign negative) (decimal_of_value ds ds_is (omega arith)) in
              let text : with_sign negative ds ++ 47 ∷ right ≡ fraction_text (number_with_sign negative n) (pos d) =
              rw (left, decimal_of_value right right_is (omega arith)) refl in
              rw (lt-ltb n (2 ^ 127) few, lt-ltb d (2 ^ 127) low, holds) text
        ]
      ]
    ]

has_between : (negative : Bool) (ds right : List ℕ) → HasText (with_sign negative ds ++ 47 ∷ right) (fraction_between (negative, ds) right)
has_between negative ds right =
    elim (cases_Bool (is_numeral ds && is_numeral right)) [
      | inr fails ↦ rw fails tt
      | inl holds ↦
          let p = and_parts (is_numeral ds) (is_numeral right) holds in
          elim (cases_Bool (negative && eqb (digits_value 10 ds) 0)) [
            | inl z ↦ rw (holds, z) tt
            | inr z ↦
                let so : fraction_between (negative, ds) right ≡ reduced_fraction negative (digits_value 10 ds) (digits_value 10 right) =
                rw (holds, z) refl in
                subst (HasText (with_sign negative ds ++ 47 ∷ right)) (sym so) (has_reduced negative ds right p.0 p.1 z)
          ]
    ]

pub signed-is : (bytes : List ℕ) → bytes ≡ with_sign (signed bytes).0 (signed bytes).1
signed-is [] = refl
signed-is (b ∷ bytes) = elim (cases_Bool (eqb b 45)) [ inl e ↦ rw (e, eqb-true b 45 e) refl | inr e ↦ rw e refl ]

abbrev joined : Option (List ℕ × List ℕ) → List ℕ → Type 0
joined None text = Unit {0}
joined (Some p) text = text ≡ p.0 ++ 47 ∷ p.1

more_joined : (b : ℕ) (bytes : List ℕ) (o : Option (List ℕ × List ℕ)) → joined o bytes → joined (option_map (λ p. (b ∷ p.0, p.1)) o) (b ∷ bytes)
more_joined b bytes None h = tt
more_joined b bytes (Some p) h = ap (λ (x : List ℕ). b ∷ x) h

sides_join : (text : List ℕ) → joined (sides text) text
sides_join [] = tt
sides_join (b ∷ bytes) = elim (cases_Bool (eqb b 47)) [
  | inl e ↦ rw (e, eqb-true b 47 e) refl
  | inr e ↦ rw e
      (more_joined b bytes (sides bytes) (sides_join bytes))
]

has_from : (text : List ℕ) (o : Option (List ℕ × List ℕ)) → joined o text → HasText text (fraction_from o)
has_from text None h = tt
has_from text (Some p) h =
    let e : with_sign (signed p.0).0 (signed p.0).1 ++ 47 ∷ p.1 ≡ text = ap (λ (x : List ℕ). x ++ 47 ∷ p.1) (sym (signed-is p.0)) ∙ sym h in
    subst (λ (t : List ℕ). HasText t (fraction_from (Some p))) e (has_between (signed p.0).0 (signed p.0).1 p.1)

pub has_text : (text : List ℕ) → HasText text (fraction_of text)
has_text text = has_from text (sides text) (sides_join text)

-- ---- a fraction's text

sides_digits : (ds rest : List ℕ) → all_ascii_digits ds ≡ true → sides (ds ++ 47 ∷ rest) ≡ Some (ds, rest)
sides_digits [] rest h = refl
sides_digits (d ∷ ds) rest h =
    let p = and_parts (is_ascii_digit d) (all_ascii_digits ds) h in
    let r = digit_in (d ∷ ds) 0 h (omega arith) in
    let no : eqb d 47 ≡ false = ne_eqb d 47 (λ e. omega (arith, r.0)) in
    rw (no, sides_digits ds rest p.1) refl

pub signed-digits : (ds : List ℕ) → all_ascii_digits ds ≡ true → signed ds ≡ (false, ds)
signed-digits [] h = refl
signed-digits (d ∷ ds) h =
    let r = digit_in (d ∷ ds) 0 h (omega arith) in
    rw (ne_eqb d 45 (λ e. omega (arith, r.0))) refl

read_back : (negative : Bool) (n d : ℕ) → n < 2 ^ 127 → d < 2 ^ 127 → 0 < d → gcd_of n d ≡ 1 → (negative && eqb n 0) ≡ false
    → fraction_of (with_sign negative (decimal n) ++ 47 ∷ decimal d) ≡ Ok (number_with_sign negative n, pos d)
read_back negative n d few low some one z =
    let num = numeral_of_decimal n (omega arith) in
    let den = numeral_of_decimal d (omega arith) in
    let between : fraction_between (negative, decimal n) (decimal d) ≡ Ok (number_with_sign negative n, pos d) =
    rw (num.0, den.0, num.1, den.1, z) (reduces negative n d few low some one) in
    go negative (digits_of_decimal n (omega arith)) between
  where
    go : (negative : Bool) → all_ascii_digits (decimal n) ≡ true → fraction_between (negative, decimal n) (decimal d) ≡ Ok (number_with_sign negative n, pos d)
        → fraction_of (with_sign negative (decimal n) ++ 47 ∷ decimal d) ≡ Ok (number_with_sign negative n, pos d)
    go false digits h = rw (sides_digits, signed-digits) h
    go true digits h = let e = sides_digits (decimal n) (decimal d) digits in rw e h

pub reads_text : (num den : ℤ) → IsTrue (is_fraction num den) → fraction_of (fraction_text num den) ≡ Ok (num, den)
unfolding limit
reads_text (pos n) (pos d) h =
    let p = and_parts (ltb 0 d && ltb d (2 ^ 127)) _ h in
    let q = and_parts (ltb 0 d) (ltb d (2 ^ 127)) p.0 in
    let r = and_parts (ltb n (2 ^ 127)) (eqb (gcd_of n d) 1) p.1 in
    read_back false n d (ltb-true _ _ r.0) (ltb-true _ _ q.1) (ltb-true _ _ q.0) (eqb-true _ _ r.1) refl
reads_text (negsuc n) (pos d) h =
    let p = and_parts (ltb 0 d && ltb d (2 ^ 127)) _ h in
    let q = and_parts (ltb 0 d) (ltb d (2 ^ 127)) p.0 in
    let r = and_parts (ltb (suc n) (2 ^ 127)) (eqb (gcd_of (suc n) d) 1) p.1 in
    read_back true (suc n) d (ltb-true _ _ r.0) (ltb-true _ _ q.1) (ltb-true _ _ q.0) (eqb-true _ _ r.1) (ne_eqb (suc n) 0 (λ e. omega arith))
reads_text num (negsuc d) h = absurd (false≢true h)

-- ---- as the program says it

pub found : (r : Result Fraction FracFault) (text : List ℕ) → Gives r (fraction_of text) → IfOk r (λ f. text ≡ fraction_text f.num f.den)
found (Ok f) text h = subst (HasText text) h (has_text text)
found (Err e) text h = tt

pub only : (r : Result Fraction FracFault) (text : List ℕ) (num den : ℤ) → Gives r (fraction_of text) → IsTrue (is_fraction num den)
    → text ≡ fraction_text num den → Gives r (Ok (num, den))
only (Ok f) text num den h is e = sym (reads_text num den is) ∙ ap fraction_of (sym e) ∙ h
only (Err f) text num den h is e = sym (reads_text num den is) ∙ ap fraction_of (sym e) ∙ h
