-- The text of a strategy, piece by piece.
use Rattle.std.proofs.Common.{◌≡◌, ◌<◌, ◌≤◌, ◌+◌, ℕ, zero, suc, nat_lt, Bool, true, false, List, [], ◌∷◌, ◌++◌, drop, get_or, length, append_assoc, ap, ◌∙◌, refl, sym}
use Rattle.std.proofs.{Common.{add-one, arith}, lemmas.Bool.{lt-ltb}, lemmas.List.{drop_all, drop_more}}
use Rattle.serde_json.specs.{Data.{Data, Items, item, no_items}, Written.{comma_if, compact_text, items_text}}

-- whether something stands before the place
abbrev pub is_later : ℕ → Bool
is_later zero = false
is_later (suc n) = true

-- the text with one more item, and the items that are left
pub one_more : (text all : List ℕ) (later : Bool) (d : Data) (ds : Items) → text ++ items_text later (item d ds) ≡ all
    → ((text ++ comma_if later) ++ compact_text d) ++ items_text true ds ≡ all
one_more text all later d ds h = regrouped text (comma_if later) (compact_text d) (items_text true ds) ∙ h
  where
    regrouped : (a b c r : List ℕ) → ((a ++ b) ++ c) ++ r ≡ a ++ (b ++ (c ++ r))
    regrouped a b c r = simp append_assoc

-- whether something stands before the place, as the program asks
not_first : (n : ℕ) → nat_lt 0 n ≡ is_later n
not_first zero = refl
not_first (suc n) = lt-ltb 0 (suc n) (omega arith)

next_later : (n : ℕ) → is_later (n + 1) ≡ true
next_later n = ap is_later (add-one n)

module _ {A : Type 0} (items : List A → Items) (xs : List A) (at : ℕ) (old all : List ℕ) (before : old ++ items_text (is_later at) (items (drop at xs)) ≡ all) where
  -- the item at the place is appended
  pub item_appended : (x : A) (d : Data) (comma text : List ℕ) → at < length xs → items (get_or xs at x ∷ drop (at + 1) xs) ≡ item d (items (drop (at + 1) xs))
      → comma ≡ old ++ comma_if (nat_lt 0 at) → text ≡ comma ++ compact_text d → text ++ items_text (is_later (at + 1)) (items (drop (at + 1) xs)) ≡ all
  item_appended x d comma text in_list one e f =
      let rest : Items = items (drop (at + 1) xs) in
      ap (λ later. text ++ items_text later rest) (next_later at)
      ∙ ap (λ (t : List ℕ). t ++ items_text true rest) (f ∙ ap (λ (t : List ℕ). t ++ compact_text d) (e ∙ ap (λ later. old ++ comma_if later) (not_first at)))
      ∙ one_more old all (is_later at) d rest (ap (λ ds. old ++ items_text (is_later at) ds) (sym (ap items (drop_more xs at x in_list) ∙ one)) ∙ before)

  -- all items are appended, and then the closing bracket
  pub array_ended : (text : List ℕ) → length xs ≤ at → items [] ≡ no_items → text ≡ old ++ 93 ∷ [] → text ≡ all
  array_ended text over none e = e ∙ ap (λ ds. old ++ items_text (is_later at) ds) (sym (ap items (drop_all at xs over) ∙ none)) ∙ before

-- the pieces of a plan
pub plan_pieces : (old i a j b w x y z : List ℕ) → w ≡ old ++ i → x ≡ w ++ a → y ≡ x ++ j → z ≡ y ++ b
    → z ++ 125 ∷ [] ≡ old ++ (i ++ (a ++ (j ++ (b ++ 125 ∷ []))))
plan_pieces old i a j b w x y z ew ex ey ez =
    ap (λ (t : List ℕ). t ++ 125 ∷ []) (ez ∙ ap (λ (t : List ℕ). t ++ b) (ey ∙ ap (λ (t : List ℕ). t ++ j) (ex ∙ ap (λ (t : List ℕ). t ++ a) ew)))
    ∙ regrouped
  where
    regrouped : ((((old ++ i) ++ a) ++ j) ++ b) ++ 125 ∷ [] ≡ old ++ (i ++ (a ++ (j ++ (b ++ 125 ∷ []))))
    regrouped = simp append_assoc

-- the eight pieces of a strategy behind their keys, and the end of its line, appended one by one
pub strategy_pieces : (i a j b k c l d m e n f o g p h : List ℕ) (t1 t2 t3 t4 t5 t6 t7 t8 t9 t10 t11 t12 t13 t14 t15 t16 t : List ℕ)
    → t1 ≡ i → t2 ≡ t1 ++ a → t3 ≡ t2 ++ j → t4 ≡ t3 ++ b → t5 ≡ t4 ++ k → t6 ≡ t5 ++ c → t7 ≡ t6 ++ l → t8 ≡ t7 ++ d → t9 ≡ t8 ++ m → t10 ≡ t9 ++ e
    → t11 ≡ t10 ++ n → t12 ≡ t11 ++ f → t13 ≡ t12 ++ o → t14 ≡ t13 ++ g → t15 ≡ t14 ++ p → t16 ≡ t15 ++ h → t ≡ t16 ++ 125 ∷ 10 ∷ []
    → t ≡ (i ++ (a ++ (j ++ (b ++ (k ++ (c ++ (l ++ (d ++ (m ++ (e ++ (n ++ (f ++ (o ++ (g ++ (p ++ (h ++ 125 ∷ [])))))))))))))))) ++ 10 ∷ []
strategy_pieces i a j b k c l d m e n f o g p h t1 t2 t3 t4 t5 t6 t7 t8 t9 t10 t11 t12 t13 t14 t15 t16 t
    e1 e2 e3 e4 e5 e6 e7 e8 e9 e10 e11 e12 e13 e14 e15 e16 last =
    last ∙ sym (append_assoc t16 (125 ∷ []) (10 ∷ [])) ∙ ap (λ (x : List ℕ). x ++ 10 ∷ []) (
    behind t15 h e16 (125 ∷ []) ∙ behind t14 p e15 _ ∙ behind t13 g e14 _ ∙ behind t12 o e13 _ ∙ behind t11 f e12 _ ∙ behind t10 n e11 _ ∙ behind t9 e e10 _ ∙ behind t8 m e9 _ ∙ behind t7 d e8 _
    ∙ behind t6 l e7 _ ∙ behind t5 c e6 _ ∙ behind t4 k e5 _ ∙ behind t3 b e4 _ ∙ behind t2 j e3 _ ∙ behind t1 a e2 _ ∙ ap (λ (x : List ℕ). x
    ++ (a ++ (j ++ (b ++ (k ++ (c ++ (l ++ (d ++ (m ++ (e ++ (n ++ (f ++ (o ++ (g ++ (p ++ (h ++ 125 ∷ [])))))))))))))))) e1)
  where
    behind : (old piece : List ℕ) {new : List ℕ} → new ≡ old ++ piece → (rest : List ℕ) → new ++ rest ≡ old ++ (piece ++ rest)
    behind old piece e rest = ap (λ (x : List ℕ). x ++ rest) e ∙ append_assoc old piece rest
