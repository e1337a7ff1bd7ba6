-- The text of a certificate, part by part: plain texts stand as they are between their quotes.
use Rattle.std.proofs.Common.{◌≡◌, ◌≢◌, ℕ, zero, suc, ◌+◌, ◌-◌, ◌*◌, ◌<◌, ◌≤◌, ◌^◌, ◌&&◌, ◌==◌, Bool, true, false, List, [], ◌∷◌, ◌++◌, map, length, get_or}
use Rattle.std.proofs.Common.{take, drop, All, IsTrue, ℤ, decimal, Some, inl, inr, refl, sym, ap, ap₂, ◌∙◌, subst, append_assoc, arith}
use Rattle.std.proofs.{lemmas.Bool.{and_parts, cases_Bool, le-leb, ne_eqb, false≢true}, lemmas.Int.{fits_signed_from_abs, to_z-of_z}}
use Rattle.std.proofs.{lemmas.Fmt.{decimal_digit}, lemmas.Int.Digits.{digits_value_more}}
use Rattle.std.proofs.{lemmas.List.{get_or-take, length-take-le, take-append-drop, take_more}, lemmas.List.Elements.{All-head, All-tail}}
use Rattle.std.specs.{Prelude.{codes, unsigned_abs}, Fmt.{signed_decimal}, Char.{is_ascii_digit}, Str.{all_ascii_digits}, Str.Parse.{digits_value}}
use mir.Syntax.{w128}
use mir.Val.{of_z, to_z}
use Rattle.json.specs.Print.{escape, escape_byte, quoted}
use Rattle.serde_json.specs.{Written.{comma_if, compact_text, items_text}, View.{items_of}}
use Rattle.gs_frac.specs.Texts.{fraction_text, is_fraction, is_numeral, number_with_sign, signed}
use Rattle.gs_frac.proofs.{Numerals.{decimal_of_value, digit_value-is}, TextLaws.{with_sign, signed-is}}
use Rattle.gs_certificate.specs.{Reading.{number_in_text}, Straight.{AreDigits, StandsFor, opened}}
use Rattle.gs_certificate.specs.Texts.{Side, Stated, certificate_data, certificate_text, number_data, side_data}
use Rattle.gs_certificate.proofs.{Plain.{escaped, fraction_plain, signed_plain}, Small.{by_parts}}

-- ---- one number

signed_text : (negative : Bool) (n : ℕ) → (negative && n == 0) ≡ false → signed_decimal (number_with_sign negative n) ≡ with_sign negative (decimal n)
signed_text false n h = refl
signed_text true zero h = absurd (false≢true (sym h))
signed_text true (suc n) h = refl

-- what is read as a number is the number's text, and the number is small
pub number_is : (text : List ℕ) (z : ℤ) → number_in_text text ≡ Some z → (text ≡ signed_decimal z) × (unsigned_abs z < 2 ^ 90)
number_is text z h =
    let s = signed text in
    let n = digits_value 10 s.1 in
    let p = by_parts s z h in
    let digits : decimal n ≡ s.1 = decimal_of_value s.1 p.numeral (omega (arith, p.few)) in
    let same : signed_decimal z ≡ with_sign s.0 s.1 = ap signed_decimal p.is ∙ signed_text s.0 n p.no_minus_zero ∙ ap (with_sign s.0) digits in
    (signed-is text ∙ sym same, p.small)

-- digits without leading zeros
numeral_is : (ds : List ℕ) → all_ascii_digits ds ≡ true → 0 < length ds → (1 < length ds → get_or ds 0 0 ≢ 48) → is_numeral ds ≡ true
numeral_is [] all some first = absurd (omega arith)
numeral_is (d ∷ []) all some first = elim (cases_Bool (d == 48)) [ inl e ↦ rw e refl | inr e ↦ rw e all ]
numeral_is (d ∷ e ∷ ds) all some first = rw (ne_eqb d 48 (first (omega arith))) all

-- one digit more
all_pushed : (ds : List ℕ) (c : ℕ) → all_ascii_digits ds ≡ true → is_ascii_digit c ≡ true → all_ascii_digits (ds ++ c ∷ []) ≡ true
all_pushed [] c h k = rw k refl
all_pushed (d ∷ ds) c h k = let p = and_parts (is_ascii_digit d) (all_ascii_digits ds) h in rw p.0 (all_pushed ds c p.1 k)

pub all_more : (bs : List ℕ) (i : ℕ) → i < length bs → all_ascii_digits (take i bs) ≡ true → 48 ≤ get_or bs i 0 → get_or bs i 0 ≤ 57
    → all_ascii_digits (take (i + 1) bs) ≡ true
all_more bs i lt all low high =
    let digit : is_ascii_digit (get_or bs i 0) ≡ true = rw (le-leb 48 (get_or bs i 0) low, le-leb (get_or bs i 0) 57 high) refl in
    ap all_ascii_digits (take_more bs i 0 lt) ∙ all_pushed (take i bs) (get_or bs i 0) all digit

pub value_more : (bs : List ℕ) (i size : ℕ) → i < length bs → size ≡ digits_value 10 (take i bs) → 48 ≤ get_or bs i 0 → get_or bs i 0 ≤ 57
    → size * 10 + (get_or bs i 0 - 48) ≡ digits_value 10 (take (i + 1) bs)
value_more bs i size lt is low high = let d = digit_value-is (get_or bs i 0) low high in let m = digits_value_more 10 bs i lt in omega (arith, d, m, is)

-- a sign and few digits are the text of their number
pub narrow_is : (bytes digits : List ℕ) (negative : Bool) (size count : ℕ) → (negative, digits) ≡ signed bytes → AreDigits digits size count → 0 < count
    → (1 < count → get_or digits 0 0 ≢ 48)
    → (negative && size == 0) ≡ false → bytes ≡ signed_decimal (number_with_sign negative size) ++ drop count digits
narrow_is bytes digits negative size count parts h some first no_minus_zero =
    let ds : List ℕ = take count digits in
    let long : length ds ≡ count = length-take-le count digits h.within in
    let front : get_or ds 0 0 ≡ get_or digits 0 0 = get_or-take count digits 0 0 some in
    let numeral : is_numeral ds ≡ true = numeral_is ds h.digits (omega (arith, long, some))
    (λ more. subst (λ (x : ℕ). x ≢ 48) (sym front) (first (omega (arith, long, more)))) in
    let text : decimal size ≡ ds = ap decimal h.value ∙ decimal_of_value ds numeral (omega (arith, h.value, h.few)) in
    let shown : signed_decimal (number_with_sign negative size) ≡ with_sign negative ds = signed_text negative size no_minus_zero
    ∙ ap (with_sign negative) text in
    let split : with_sign negative digits ≡ with_sign negative ds ++ drop count digits =
    ap (with_sign negative) (sym (take-append-drop count digits)) ∙ before negative ds (drop count digits) in
    signed-is bytes ∙ ap (λ (p : Bool × List ℕ). with_sign p.0 p.1) (sym parts) ∙ split ∙ ap (λ (q : List ℕ). q ++ drop count digits) (sym shown)
  where
    before : (negative : Bool) (xs ys : List ℕ) → with_sign negative (xs ++ ys) ≡ with_sign negative xs ++ ys
    before true xs ys = refl
    before false xs ys = refl

-- the number that is handed on is the number that was read
pub kept : (z : ℤ) → unsigned_abs z < 2 ^ 90 → z ≡ to_z w128 (of_z w128 z)
kept z h = sym (to_z-of_z w128 z (fits_signed_from_abs w128 z (omega (arith, h))))

-- ---- the numbers of an array

abbrev Small : ℤ → Type 0
Small z = unsigned_abs z < 2 ^ 90

quoted_number : (z : ℤ) → Small z → quoted (signed_decimal z) ≡ 34 ∷ (signed_decimal z ++ 34 ∷ [])
quoted_number z h = ap (λ (xs : List ℕ). 34 ∷ (xs ++ 34 ∷ [])) (escaped (signed_decimal z) (signed_plain z (omega (arith, h))))

array_text : (later : Bool) (front : List ℤ) (last : ℤ) → All Small (front ++ last ∷ [])
    → items_text later (items_of (map number_data (front ++ last ∷ []))) ≡ comma_if later ++ (34 ∷ (opened front ++ (signed_decimal last ++ (34 ∷ 93 ∷ []))))
array_text later [] last h =
    let d = signed_decimal last in
    let one : quoted d ≡ 34 ∷ (d ++ 34 ∷ []) = quoted_number last (All-head Small last [] h) in
    ap (λ (q : List ℕ). comma_if later ++ (q ++ 93 ∷ [])) one ∙ ap (λ (q : List ℕ). comma_if later ++ (34 ∷ q)) (append_assoc d (34 ∷ []) (93 ∷ []))
array_text later (z ∷ zs) last h =
    let d = signed_decimal z in
    let tail : List ℕ = signed_decimal last ++ (34 ∷ 93 ∷ []) in
    let one : quoted d ≡ 34 ∷ (d ++ 34 ∷ []) = quoted_number z (All-head Small z (zs ++ last ∷ []) h) in
    let rest = array_text true zs last (All-tail Small z (zs ++ last ∷ []) h) in
    ap (λ (q : List ℕ). comma_if later ++ (q ++ items_text true (items_of (map number_data (zs ++ last ∷ []))))) one
    ∙ ap (λ (q : List ℕ). comma_if later ++ ((34 ∷ (d ++ 34 ∷ [])) ++ q)) rest
    ∙ ap (λ (q : List ℕ). comma_if later ++ (34 ∷ q)) (append_assoc d (34 ∷ []) (44 ∷ 34 ∷ (opened zs ++ tail))
    ∙ sym (append_assoc d (34 ∷ 44 ∷ 34 ∷ opened zs) tail))

opened_more : (zs : List ℤ) (z : ℤ) → opened (zs ++ z ∷ []) ≡ opened zs ++ (signed_decimal z ++ (34 ∷ 44 ∷ 34 ∷ []))
opened_more [] z = refl
opened_more (x ∷ zs) z =
    let d = signed_decimal x in
    ap (λ (q : List ℕ). d ++ (34 ∷ 44 ∷ 34 ∷ q)) (opened_more zs z) ∙ sym
    (append_assoc d (34 ∷ 44 ∷ 34 ∷ opened zs) (signed_decimal z ++ (34 ∷ 44 ∷ 34 ∷ [])))

-- one number more, behind which another stands
pub goes_on : (bytes left rest next : List ℕ) (zs : List ℤ) (z : ℤ) → bytes ≡ opened zs ++ left → left ≡ signed_decimal z ++ rest → rest ≡ 34 ∷ 44 ∷ 34 ∷ next
    → bytes ≡ opened (zs ++ z ∷ []) ++ next
goes_on bytes left rest next zs z e f g =
    let d = signed_decimal z in
    e
    ∙ ap (λ (q : List ℕ). opened zs ++ q) (f ∙ ap (λ (q : List ℕ). d ++ q) g ∙ sym (append_assoc d (34 ∷ 44 ∷ 34 ∷ []) next))
    ∙ sym (append_assoc (opened zs) (d ++ (34 ∷ 44 ∷ 34 ∷ [])) next)
    ∙ ap (λ (q : List ℕ). q ++ next) (sym (opened_more zs z))

-- the last number
pub ends : (bytes left rest next : List ℕ) (zs all : List ℤ) (z : ℤ) → bytes ≡ opened zs ++ left → left ≡ signed_decimal z ++ rest → rest ≡ 34 ∷ 93 ∷ next
    → all ≡ zs ++ z ∷ [] → StandsFor bytes all next
ends bytes left rest next zs all z e f g are = record {
  front = zs;
  last = z;
  numbers = are;
  text = e ∙ ap (λ (q : List ℕ). opened zs ++ q) (f ∙ ap (λ (q : List ℕ). signed_decimal z ++ q) g);
}

-- ---- a player's part

abbrev from_bound : List ℕ → List ℕ
from_bound rest = codes "{\"bound\":\"" ++ rest

abbrev from_values : List ℕ → List ℕ
from_values rest = codes "\",\"values\":[\"" ++ rest

regrouped : (f n rest : List ℕ) → from_bound (f ++ from_values (n ++ (125 ∷ rest)))
    ≡ from_bound ((f ++ 34 ∷ []) ++ (codes ",\"values\":[\"" ++ (n ++ 125 ∷ []))) ++ rest
regrouped f n rest = simp append_assoc

regrouped_array : (a b rest : List ℕ) → a ++ (b ++ (34 ∷ 93 ∷ rest)) ≡ (a ++ (b ++ (34 ∷ 93 ∷ []))) ++ rest
regrouped_array a b rest = simp append_assoc

side_is : (s : Side) (front : List ℤ) (last : ℤ) → IsTrue (is_fraction s.bound.0 s.bound.1) → s.values ≡ front ++ last ∷ [] → All Small s.values
    → compact_text (side_data s)
    ≡ from_bound ((fraction_text s.bound.0 s.bound.1 ++ 34 ∷ [])
    ++ (codes ",\"values\":[\"" ++ ((opened front ++ (signed_decimal last ++ (34 ∷ 93 ∷ []))) ++ 125 ∷ [])))
unfolding escape_byte
side_is s front last reduced are small =
    let text : List ℕ = fraction_text s.bound.0 s.bound.1 in
    let plain : escape text ≡ text = escaped text (fraction_plain s.bound.0 s.bound.1 reduced) in
    let items : items_text false (items_of (map number_data s.values)) ≡ 34 ∷ (opened front ++ (signed_decimal last ++ (34 ∷ 93 ∷ []))) =
    ap (λ (zs : List ℤ). items_text false (items_of (map number_data zs))) are ∙ array_text false front last (subst (All Small) are small) in
    ap₂ (λ (t i : List ℕ). from_bound ((t ++ 34 ∷ []) ++ (codes ",\"values\":[" ++ (i ++ 125 ∷ [])))) plain items

-- the bytes are a player's part and what stands behind it
pub side_stands : (s : Side) (bytes r1 r2 r3 r4 rest : List ℕ) → IsTrue (is_fraction s.bound.0 s.bound.1) → All Small s.values → bytes ≡ from_bound r1
    → r1 ≡ fraction_text s.bound.0 s.bound.1 ++ r2 → r2 ≡ from_values r3
    → StandsFor r3 s.values r4 → r4 ≡ 125 ∷ rest → bytes ≡ compact_text (side_data s) ++ rest
side_stands s bytes r1 r2 r3 r4 rest reduced small e1 e2 e3 h e4 =
    let f : List ℕ = fraction_text s.bound.0 s.bound.1 in
    let a : List ℕ = opened h.front in
    let b : List ℕ = signed_decimal h.last in
    let n : List ℕ = a ++ (b ++ (34 ∷ 93 ∷ [])) in
    let numbers : r3 ≡ n ++ (125 ∷ rest) = h.text ∙ regrouped_array a b r4 ∙ ap (λ (q : List ℕ). n ++ q) e4 in
    e1
    ∙ ap from_bound (e2 ∙ ap (λ (q : List ℕ). f ++ q) (e3 ∙ ap from_values numbers))
    ∙ regrouped f n rest
    ∙ ap (λ (q : List ℕ). q ++ rest) (sym (side_is s h.front h.last reduced h.numbers small))

-- ---- the whole

abbrev from_first : List ℕ → List ℕ
from_first rest = codes "{\"player1\":" ++ rest

abbrev from_second : List ℕ → List ℕ
from_second rest = codes ",\"player2\":" ++ rest

regrouped_whole : (c d : List ℕ) → from_first (c ++ from_second (d ++ codes ",\"version\":1}\n"))
    ≡ from_first (c ++ from_second (d ++ codes ",\"version\":1}")) ++ 10 ∷ []
regrouped_whole c d = simp append_assoc

whole_is : (s : Stated) → compact_text (certificate_data s) ≡ from_first (compact_text (side_data s.one)
    ++ from_second (compact_text (side_data s.two) ++ codes ",\"version\":1}"))
unfolding escape_byte
whole_is s =
    let one : decimal 1 ≡ 49 ∷ [] = decimal_digit 1 (omega arith) in
    ap (λ (n : List ℕ). from_first (compact_text (side_data s.one) ++ from_second (compact_text (side_data s.two)
    ++ (codes ",\"version\":" ++ (n ++ 125 ∷ []))))) one

-- the bytes are a certificate's text
pub stands : (s : Stated) (bytes r1 r2 r3 r4 r5 : List ℕ) → bytes ≡ from_first r1 → r1 ≡ compact_text (side_data s.one) ++ r2 → r2 ≡ from_second r3
    → r3 ≡ compact_text (side_data s.two) ++ r4
    → r4 ≡ codes ",\"version\":1}\n" ++ r5 → r5 ≡ [] → bytes ≡ certificate_text s
stands s bytes r1 r2 r3 r4 r5 e1 e2 e3 e4 e5 e6 =
    let c : List ℕ = compact_text (side_data s.one) in
    let d : List ℕ = compact_text (side_data s.two) in
    e1
    ∙ ap from_first (e2 ∙ ap (λ (q : List ℕ). c ++ q) (e3 ∙ ap from_second (e4
    ∙ ap (λ (q : List ℕ). d ++ q) (e5 ∙ ap (λ (q : List ℕ). codes ",\"version\":1}\n" ++ q) e6))))
    ∙ regrouped_whole c d
    ∙ ap (λ (q : List ℕ). q ++ 10 ∷ []) (sym (whole_is s))
