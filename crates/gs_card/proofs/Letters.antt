-- Letters that stand twice in a list, and the place of one.
use Rattle.std.proofs.Common.{◌≡◌, ℕ, suc, ◌+◌, ◌<◌, ◌==◌, ◌||◌, Bool, true, false, List, [], ◌∷◌, ◌++◌, length, take, drop, get_or, take-append-drop}
use Rattle.std.proofs.Common.{slice_index, Some, zero, arith, refl, ap, sym, ◌∙◌}
use Rattle.std.proofs.{lemmas.List.Folds.{list_any-append, list_any_at}, lemmas.List.{take_more}, lemmas.List.Sums.{position_or_len_is}}
use Rattle.std.proofs.{lemmas.Bool.{false≢true, or_parts, or_right, or_from, eq-eqb, ne_eqb, lt-ltb}, lemmas.Bool.Decides.{nat_tests}}
use Rattle.std.specs.{List.{list_any}, List.{position, position_or_len}}
use Rattle.gs_card.specs.Decks.{repeats}

or_regroup : (a b c d : Bool) → ((a || (b || false)) || (c || d)) ≡ ((a || c) || (b || d))
or_regroup true b c d = refl
or_regroup false true true d = refl
or_regroup false true false d = refl
or_regroup false false true d = refl
or_regroup false false false d = refl

same_flipped : (x y : ℕ) → (x == y) ≡ (y == x)
same_flipped x y = grind (arith, nat_tests)

-- one more letter at the end
pub repeats_push : (xs : List ℕ) (y : ℕ) → repeats (xs ++ y ∷ []) ≡ (repeats xs || list_any (λ x. x == y) xs)
repeats_push [] y = refl
repeats_push (x ∷ xs) y =
    ap (λ b. b || repeats (xs ++ y ∷ [])) (list_any-append (λ z. z == x) xs (y ∷ []))
    ∙ ap (λ b. (list_any (λ z. z == x) xs || (b || false)) || repeats (xs ++ y ∷ [])) (same_flipped y x)
    ∙ ap (λ b. (list_any (λ z. z == x) xs || ((x == y) || false)) || b) (repeats_push xs y)
    ∙ or_regroup (list_any (λ z. z == x) xs) (x == y) (repeats xs) (list_any (λ z. z == y) xs)

or_kept : (a b c d : Bool) → (b ≡ true → d ≡ true) → (a || b) ≡ true → ((a || c) || d) ≡ true
or_kept true b c d k h = refl
or_kept false b true d k h = refl
or_kept false b false d k h = k h

-- a letter that stands twice does so in a longer list
pub repeats_more : (xs ys : List ℕ) → repeats xs ≡ true → repeats (xs ++ ys) ≡ true
repeats_more [] ys h = absurd (cc)
repeats_more (x ∷ xs) ys h =
    ap (λ b. b || repeats (xs ++ ys)) (list_any-append (λ z. z == x) xs ys)
    ∙ or_kept (list_any (λ z. z == x) xs) (repeats xs) (list_any (λ z. z == x) ys) (repeats (xs ++ ys)) (repeats_more xs ys) h

-- where no letter stands twice, two places of one letter are one place
pub one_place : (xs : List ℕ) (i j : ℕ) → repeats xs ≡ false → i < length xs → j < length xs → slice_index xs i ≡ slice_index xs j → i ≡ j
one_place [] i j r hi hj e = absurd (omega arith)
one_place (x ∷ xs) zero zero r hi hj e = refl
one_place (x ∷ xs) (suc i) (suc j) r hi hj e =
    ap suc (one_place xs i j (or_parts _ _ r).1 (omega arith) (omega arith) e)
one_place (x ∷ xs) zero (suc j) r hi hj e =
    absurd (false≢true (sym (or_parts _ _ r).0 ∙ list_any_at (λ y. y == x) xs j 0 (omega arith) (eq-eqb _ _ (sym e))))
one_place (x ∷ xs) (suc i) zero r hi hj e =
    absurd (false≢true (sym (or_parts _ _ r).0 ∙ list_any_at (λ y. y == x) xs i 0 (omega arith) (eq-eqb _ _ e)))

-- the place of a letter, where none stands twice
pub position_here : (xs : List ℕ) (letter i : ℕ) → repeats xs ≡ false → i < length xs → slice_index xs i ≡ letter → position (λ x. x == letter) xs ≡ Some i
position_here xs letter i r h e =
    let before : (k : ℕ) → k < i → (get_or xs k 0 == letter) ≡ false = λ k l. ne_eqb _ _
    (λ (same : get_or xs k 0 ≡ letter). absurd (omega (arith, one_place xs k i r (omega arith) h (same ∙ sym e)))) in
    let here : position_or_len (λ x. x == letter) xs ≡ i = position_or_len_is (λ x. x == letter) xs i 0 (omega arith) before (λ _. eq-eqb _ _ e) in
    rw here (rw (lt-ltb i (length xs) h) refl)

-- the letter before place i stands a second time at i
pub repeats_found : (xs : List ℕ) (i d : ℕ) → i < length xs → list_any (λ x. x == get_or xs i d) (take i xs) ≡ true → repeats xs ≡ true
repeats_found xs i d h e =
    let more : take (i + 1) xs ≡ take i xs ++ get_or xs i d ∷ [] = take_more xs i d h in
    let front : repeats (take (i + 1) xs) ≡ true = ap repeats more ∙ repeats_push (take i xs) (get_or xs i d) ∙ or_right _ _ e in
    sym (ap repeats (take-append-drop (i + 1) xs)) ∙ repeats_more (take (i + 1) xs) (drop (i + 1) xs) front

-- the letter at place i stands there for the first time
pub repeats_next : (xs : List ℕ) (i d : ℕ) → i < length xs → repeats (take i xs) ≡ false → list_any (λ x. x == get_or xs i d) (take i xs) ≡ false
    → repeats (take (i + 1) xs) ≡ false
repeats_next xs i d h r e =
    ap repeats (take_more xs i d h) ∙ repeats_push (take i xs) (get_or xs i d) ∙ or_from _ _ r e
