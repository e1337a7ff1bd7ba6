-- What a word is to a parse: `--`, `--name`, `--name=value`, `-abc`, or none of these.
use Rattle.std.proofs.Common.{◌≡◌, ◌==◌, ◌++◌, ◌+◌, ◌<◌, ℕ, zero, suc, Bool, true, false, not, refl, sym, subst, List, [], ◌∷◌, Some, None, codes, ap, ◌∙◌, arith, inl, inr, take, drop, slice_index}
use Rattle.std.proofs.{lemmas.Bool.{cases_Bool, eqb-true}, lemmas.Str.{IsUtf8-from_ascii, encodes-chars}, Math.Utf8.{encodes}}
use Rattle.std.specs.{Prelude.{slice_get}, List.{prefix_len, before_first, after_first}, Str.{IsUtf8, bytes_eq, chars}}
use Rattle.clap.specs.Lexer.{has_byte, long_of, short_of}
use Rattle.gs_words.specs.Plain.{is_plain_value, joined_word, long_word}

-- ---- the first `=`

abbrev apart : ℕ → Bool
apart x = not (x == 61)

further : (x m : ℕ) (xs : List ℕ) → xs ≡ take m xs ++ 61 ∷ drop (m + 1) xs → x ∷ xs ≡ take (1 + m) (x ∷ xs) ++ 61 ∷ drop (1 + m + 1) (x ∷ xs)
further x m xs h =
    let e : 1 + m ≡ suc m = omega arith in
    let f : 1 + m + 1 ≡ suc (m + 1) = omega arith in
    rw (f, e) (ap (λ (l : List ℕ). x ∷ l) h)

-- a text with an `=` is what stands before the first and what stands after it
parted : (text : List ℕ) → has_byte 61 text ≡ true → text ≡ before_first (λ x. x == 61) text ++ 61 ∷ after_first (λ x. x == 61) text
parted [] h = cc
parted (x ∷ xs) h =
    elim (cases_Bool (x == 61)) [
      | inl t ↦ let e : x ≡ 61 = eqb-true x 61 t in rw e refl
      | inr f ↦ let rest : has_byte 61 xs ≡ true = rw f at h in rw f (further x (prefix_len apart xs) xs (parted xs rest))
    ]

taken_further : (x m : ℕ) (xs : List ℕ) → take m xs ≡ xs → take (1 + m) (x ∷ xs) ≡ x ∷ xs
taken_further x m xs h =
    let e : 1 + m ≡ suc m = omega arith in
    rw e (ap (λ (l : List ℕ). x ∷ l) h)

whole : (text : List ℕ) → has_byte 61 text ≡ false → before_first (λ x. x == 61) text ≡ text
whole [] h = refl
whole (x ∷ xs) h =
    elim (cases_Bool (x == 61)) [
      | inl t ↦ let bad = rw t at h in cc
      | inr f ↦ let rest : has_byte 61 xs ≡ false = rw f at h in rw f (taken_further x (prefix_len apart xs) xs (whole xs rest))
    ]

-- ---- what a word is

pub data Lexed (w : List ℕ) : Type 0 where
  ends : w ≡ codes "--" → Lexed w
  long : (n : List ℕ) → w ≡ long_word n → long_of w ≡ Some (n, None) → bytes_eq w (45 ∷ 45 ∷ []) ≡ false → Lexed w
  joins : (n v : List ℕ) → w ≡ joined_word n v → long_of w ≡ Some (n, Some v) → bytes_eq w (45 ∷ 45 ∷ []) ≡ false → Lexed w
  short : (x : ℕ) (xs : List ℕ) → w ≡ 45 ∷ x ∷ xs → short_of w ≡ Some (x ∷ xs) → long_of w ≡ None → bytes_eq w (45 ∷ 45 ∷ []) ≡ false → Lexed w
  word : is_plain_value w ≡ true → Lexed w

two : (bs : List ℕ) → Lexed (45 ∷ 45 ∷ bs)
two [] = ends refl
two (x ∷ xs) =
    elim (cases_Bool (has_byte 61 (x ∷ xs))) [
      | inl t ↦
          let name = before_first (λ y. y == 61) (x ∷ xs) in
          let value = after_first (λ y. y == 61) (x ∷ xs) in
          joins name value (ap long_word (parted (x ∷ xs) t)) (rw t refl) refl
      | inr f ↦ long (x ∷ xs) refl (rw (f, whole (x ∷ xs) f) refl) refl
    ]

one : (c : ℕ) (bs : List ℕ) → Lexed (45 ∷ c ∷ bs)
one c bs =
    elim (cases_Bool (c == 45)) [
      | inl t ↦ subst (λ (b : ℕ). Lexed (45 ∷ b ∷ bs)) (sym (eqb-true c 45 t)) (two bs)
      | inr f ↦ short c bs refl (rw f refl) (rw f refl) (rw f refl)
    ]

pub lexed : (w : List ℕ) → Lexed w
lexed [] = word refl
lexed (b ∷ []) = word refl
lexed (b ∷ c ∷ bs) =
    elim (cases_Bool (b == 45)) [
      | inl t ↦ subst (λ (a : ℕ). Lexed (a ∷ c ∷ bs)) (sym (eqb-true b 45 t)) (one c bs)
      | inr f ↦ word (rw f refl)
    ]

-- ---- the first character behind a hyphen

hyphen : (i : ℕ) → slice_index (45 ∷ []) i < 128
hyphen zero = omega arith
hyphen (suc i) = omega arith

no_more : (x : ℕ) (xs cs : List ℕ) → encodes (45 ∷ cs) ≡ 45 ∷ x ∷ xs → (y : ℕ) × (slice_get cs 0 ≡ Some y)
unfolding chars
no_more x xs [] e =
    let alone : encodes (45 ∷ []) ≡ 45 ∷ [] = encodes-chars (45 ∷ []) (IsUtf8-from_ascii (45 ∷ []) hyphen) in
    let bad : 45 ∷ [] ≡ 45 ∷ x ∷ xs = sym alone ∙ e in cc
no_more x xs (c ∷ cs) e = (c, refl)

pub first_char : (x : ℕ) (xs : List ℕ) → IsUtf8 (45 ∷ x ∷ xs) → (y : ℕ) × (slice_get (chars (x ∷ xs)) 0 ≡ Some y)
unfolding chars
first_char x xs u = no_more x xs (chars (x ∷ xs)) (encodes-chars (45 ∷ x ∷ xs) u)
