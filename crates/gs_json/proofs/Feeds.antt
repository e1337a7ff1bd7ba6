-- The line of a canonical value has no line feed but the last, so it is parted from what stands behind it.
use Rattle.std.proofs.Common.{◌≡◌, ℕ, zero, suc, ◌<◌, ◌≤◌, ◌^◌, Bool, true, false, ◌&&◌, ◌==◌, List, [], ◌∷◌, ◌++◌, inl, inr, refl, ap, ◌∙◌, arith}
use Rattle.std.proofs.Common.{append_assoc, decimal, length, get_or, if◌then◌else◌}
use Rattle.std.proofs.{lemmas.Bool.{and_parts, cases_Bool, cases_eq, cases_lt, ne_eqb}, lemmas.Fmt.{decimal_is_IsNumeral_wide}, lemmas.Str.Parse.{digit_at}}
use Rattle.json.specs.Token as Token
use Rattle.json.specs.Print.{escape_byte, escape, quoted, token_text}
use Rattle.json.proofs.Printed.Strings.{escape_byte_plain}
use Rattle.serde_json.specs.Data.{Num, unsigned, negative, float, Data, null, boolean, number, string, array, object, Items, no_items, item, Members}
use Rattle.serde_json.specs.{Data.{no_members, member}, Written.{compact_text, items_text, members_text, number_text, comma_if}}
use Rattle.gs_json.specs.{Canonical.{IsWholeNumber, IsCanonical, ItemsAreCanonical, MembersAreCanonical}, FirstLine.{first_line}, Lines.{line_text}}

-- the byte is no line feed, and none of the bytes is
abbrev is_other : ℕ → Bool
is_other x = if x == 10 then false else true

abbrev has_none : List ℕ → Bool
has_none [] = true
has_none (x ∷ xs) = is_other x && has_none xs

both : (xs ys : List ℕ) → has_none xs ≡ true → has_none ys ≡ true → has_none (xs ++ ys) ≡ true
both [] ys h k = k
both (x ∷ xs) ys h k = let p = and_parts (is_other x) (has_none xs) h in rw p.0 (both xs ys p.1 k)

differs : false ≡ true → ⊥
differs e = cc

-- such bytes stand in the first line
passes : (xs rest : List ℕ) → has_none xs ≡ true → first_line (xs ++ rest) ≡ (xs ++ (first_line rest).0, (first_line rest).1)
passes [] rest h = refl
passes (x ∷ xs) rest h =
    let p = and_parts (is_other x) (has_none xs) h in
    elim (cases_Bool (x == 10)) [
      | inl e ↦ absurd (differs (rw e at p.0))
      | inr e ↦ rw e (ap (λ (q : List ℕ × List ℕ). (x ∷ q.0, q.1)) (passes xs rest p.1))
    ]

-- ---- digits and escapes

no_digit : (x : ℕ) → 48 ≤ x → (x == 10) ≡ false
no_digit x h = ne_eqb x 10 (λ e. omega arith)

none_from : (xs : List ℕ) → ((i : ℕ) → i < length xs → 48 ≤ get_or xs i 0) → has_none xs ≡ true
none_from [] low = refl
none_from (x ∷ xs) low = rw (no_digit x (low 0 (omega arith))) (none_from xs (λ i l. low (suc i) (omega arith)))

-- the escapes of the bytes below n have none
escapes_below : ℕ → Bool
escapes_below zero = true
escapes_below (suc n) = has_none (escape_byte n) && escapes_below n

escape_below : (n : ℕ) → escapes_below n ≡ true → (x : ℕ) → x < n → has_none (escape_byte x) ≡ true
unfolding escapes_below
escape_below zero e x h = absurd (omega arith)
escape_below (suc n) e x h =
    let p = and_parts (has_none (escape_byte n)) (escapes_below n) e in
    elim (cases_eq x n) [ inl same ↦ rw same p.0 | inr other ↦ escape_below n p.1 x (omega arith) ]

all_below : escapes_below 128 ≡ true
unfolding escape_byte escapes_below
all_below = refl

one_escape : (x : ℕ) → has_none (escape_byte x) ≡ true
one_escape x = elim (cases_lt x 128) [
  | inl small ↦ escape_below 128 all_below x small
  | inr big ↦ rw (escape_byte_plain x (λ e. omega arith) (λ e. omega arith) (omega arith)) (rw (no_digit x (omega arith)) refl)
]

escapes : (s : List ℕ) → has_none (escape s) ≡ true
escapes [] = refl
escapes (x ∷ s) = both (escape_byte x) (escape s) (one_escape x) (escapes s)

quotes : (s : List ℕ) → has_none (quoted s) ≡ true
quotes s = both (escape s) (34 ∷ []) (escapes s) refl

digits : (n : ℕ) → n < 2 ^ 64 → has_none (decimal n) ≡ true
digits n h = none_from (decimal n) (λ i l. (digit_at (decimal n) i (decimal_is_IsNumeral_wide n (omega arith)).0.1 l).0)

-- ---- values

comma : (b : Bool) → has_none (comma_if b) ≡ true
comma true = refl
comma false = refl

words : (b : Bool) → has_none (token_text (Token.boolean b)) ≡ true
words true = refl
words false = refl

number_none : (n : Num) → IsWholeNumber n → has_none (number_text n) ≡ true
number_none (unsigned n) h = digits n h
number_none (negative z) h = absurd h
number_none (float x) h = absurd h

mutual
  value_none : (d : Data) → IsCanonical d → has_none (compact_text d) ≡ true
  value_none null h = refl
  value_none (boolean b) h = words b
  value_none (number n) h = number_none n h
  value_none (string s) h = quotes s
  value_none (array ds) h = items_none false ds h
  value_none (object ms) h = members_none false ms h.1

  items_none : (b : Bool) (ds : Items) → ItemsAreCanonical ds → has_none (items_text b ds) ≡ true
  items_none b no_items h = refl
  items_none b (item d ds) h = both (comma_if b) (compact_text d ++ items_text true ds) (comma b)
      (both (compact_text d) (items_text true ds) (value_none d h.0) (items_none true ds h.1))

  members_none : (b : Bool) (ms : Members) → MembersAreCanonical ms → has_none (members_text b ms) ≡ true
  members_none b no_members h = refl
  members_none b (member k d ms) h =
      let rest = both (compact_text d) (members_text true ms) (value_none d h.1) (members_none true ms h.2) in
      both (comma_if b) (quoted k ++ 58 ∷ (compact_text d ++ members_text true ms)) (comma b)
      (both (quoted k) (58 ∷ (compact_text d ++ members_text true ms)) (quotes k) rest)

-- the first line of a canonical value's line and what stands behind it
pub line_parted : (d : Data) (rest : List ℕ) → IsCanonical d → first_line (line_text d ++ rest) ≡ (line_text d, rest)
line_parted d rest h =
    ap first_line (append_assoc (compact_text d) (10 ∷ []) rest) ∙ passes (compact_text d) (10 ∷ rest) (value_none d h)
