-- How long quoted texts and arrays of numbers are.
use Rattle.std.proofs.Common.{◌≡◌, ◌≢◌, ℕ, suc, ◌+◌, ◌*◌, ◌<◌, ◌≤◌, Bool, true, false, cond, List, [], ◌∷◌, ◌++◌, map, length, length-append, get_or, refl, ap, arith}
use Rattle.std.proofs.Common.{decimal}
use Rattle.std.specs.Prelude.{nat_lt}
use Rattle.json.specs.Print.{escape, escape_byte, escape_letter, quoted}
use Rattle.json.proofs.Printed.Strings.{escape_byte_plain}
use Rattle.serde_json.specs.{Data.{Data}, Written.{comma_if, compact_text, items_text}, View.{items_of}}
use Rattle.gs_file.specs.JsonForm.{whole}

-- ---- quoted texts

six : (a b : Bool) (x y p q : ℕ) → length (cond a (92 ∷ y ∷ []) (cond b (92 ∷ 117 ∷ 48 ∷ 48 ∷ p ∷ q ∷ []) (x ∷ []))) ≤ 6
six true b x y p q = omega arith
six false true x y p q = omega arith
six false false x y p q = omega arith

byte_length : (x : ℕ) → length (escape_byte x) ≤ 6
unfolding escape_byte
byte_length x = six (nat_lt 0 (escape_letter x)) (nat_lt x 32) x (escape_letter x) _ _

escape_length : (xs : List ℕ) → length (escape xs) ≤ 6 * length xs
escape_length [] = omega arith
escape_length (x ∷ xs) = omega (arith, length-append (escape_byte x) (escape xs), byte_length x, escape_length xs)

-- a quoted text has at most six bytes for each byte, and two more
pub quoted_length : (xs : List ℕ) → length (quoted xs) ≤ 6 * length xs + 2
quoted_length xs = omega (arith, length-append (escape xs) (34 ∷ []), escape_length xs)

-- no byte has an escape
abbrev pub IsBare : List ℕ → Type 0
IsBare [] = Unit {0}
IsBare (x ∷ xs) = (x ≢ 34) × (x ≢ 92) × (32 ≤ x) × IsBare xs

pub bare_more : (xs ys : List ℕ) → IsBare xs → IsBare ys → IsBare (xs ++ ys)
bare_more [] ys h k = k
bare_more (x ∷ xs) ys h k = (h.0, h.1, h.2, bare_more xs ys h.3 k)

escaped : (xs : List ℕ) → IsBare xs → escape xs ≡ xs
escaped [] h = refl
escaped (x ∷ xs) h =
    let one : escape_byte x ≡ x ∷ [] = escape_byte_plain x h.0 h.1 h.2 in
    rw (one, escaped xs h.3) refl

-- so it stands as it is
pub bare_length : (xs : List ℕ) → IsBare xs → length (quoted xs) ≡ length xs + 2
bare_length xs h = omega (arith, length-append (escape xs) (34 ∷ []), ap (λ (l : List ℕ). length l) (escaped xs h))

-- ---- arrays of numbers

pub comma_length : (later : Bool) → length (comma_if later) ≤ 1
comma_length true = omega arith
comma_length false = omega arith

-- one item more
pub item_length : (later : Bool) (d : Data) (rest : List ℕ) (m n : ℕ) → length (compact_text d) ≤ m → length rest ≤ n
    → length (comma_if later ++ (compact_text d ++ rest)) ≤ 1 + m + n
item_length later d rest m n h k =
    omega (arith, length-append (comma_if later) (compact_text d ++ rest), length-append (compact_text d) rest, comma_length later, h, k)

-- numbers of at most k digits
abbrev pub HaveDigits : ℕ → List ℕ → Type 0
HaveDigits k xs = (i : ℕ) → i < length xs → length (decimal (get_or xs i 0)) ≤ k

later_digits : (k x : ℕ) (xs : List ℕ) → HaveDigits k (x ∷ xs) → HaveDigits k xs
later_digits k x xs h i l = h (suc i) (omega arith)

pub six_digits : (later : Bool) (xs : List ℕ) → HaveDigits 6 xs → length (items_text later (items_of (map whole xs))) ≤ 1 + 7 * length xs
six_digits later [] h = omega arith
six_digits later (x ∷ xs) h =
    let rest = six_digits true xs (later_digits 6 x xs h) in
    let all = item_length later (whole x) (items_text true (items_of (map whole xs))) 6 (1 + 7 * length xs) (h 0 (omega arith)) rest in
    omega (arith, all)

pub eleven_digits : (later : Bool) (xs : List ℕ) → HaveDigits 11 xs → length (items_text later (items_of (map whole xs))) ≤ 1 + 12 * length xs
eleven_digits later [] h = omega arith
eleven_digits later (x ∷ xs) h =
    let rest = eleven_digits true xs (later_digits 11 x xs h) in
    let all = item_length later (whole x) (items_text true (items_of (map whole xs))) 11 (1 + 12 * length xs) (h 0 (omega arith)) rest in
    omega (arith, all)
