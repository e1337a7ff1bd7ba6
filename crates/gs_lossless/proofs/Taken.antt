-- A place that a test takes, and the others that it takes.
use Rattle.std.proofs.Common.{◌≡◌, ◌+◌, ◌<◌, ◌≤◌, ◌∙◌, ℕ, zero, suc, Bool, true, false, cond, eqb, List, [], ◌∷◌, map, refl, sym, ap, subst, arith, ⊎_elim}
use Rattle.std.proofs.{lemmas.Bool.{cases_eq}, lemmas.List.Sorted.{IsPermutation-cons, IsPermutation-middle, IsPermutation-refl, IsPermutation-trans}}
use Rattle.std.specs.{Prelude.{◌&&◌, filter}, List.{range_with_len}, List.Sorted.{IsPermutation}}

-- a test but for one place
abbrev pub but : (ℕ → Bool) → ℕ → ℕ → Bool
but p i k = p k && cond (eqb k i) false true

not_before : (p : ℕ → Bool) (i a n : ℕ) → i < a → filter (but p i) (range_with_len a n) ≡ filter p (range_with_len a n)
not_before p i a zero l = refl
not_before p i a (suc n) l =
    let ne : a ≡ i → ⊥ = λ e. absurd (omega (arith, e)) in
    let t : eqb a i ≡ false = grind (arith, ne) in
    let rest : List ℕ = filter (but p i) (range_with_len (a + 1) n) in
    ap (λ c. cond (p a && cond c false true) (a ∷ rest) rest) t ∙ go (p a) ∙ ap (λ xs. cond (p a) (a ∷ xs) xs) (not_before p i (a + 1) n (omega arith))
  where
    go : (b : Bool) → cond (b && true) (a ∷ filter (but p i) (range_with_len (a + 1) n)) (filter (but p i) (range_with_len (a + 1) n))
        ≡ cond b (a ∷ filter (but p i) (range_with_len (a + 1) n)) (filter (but p i) (range_with_len (a + 1) n))
    go true = refl
    go false = refl

-- a place that a test takes, and the others that it takes
pub taken_out : (p : ℕ → Bool) (h : ℕ → ℕ) (i a n : ℕ) → p i ≡ true → a ≤ i → i < a + n
    → IsPermutation (map h (filter p (range_with_len a n))) (h i ∷ map h (filter (but p i) (range_with_len a n)))
taken_out p h i a zero e lo hi = absurd (omega arith)
taken_out p h i a (suc n) e lo hi = ⊎_elim
    (λ (same : a ≡ i).
    let at : p a ≡ true = ap p same ∙ e in
    let t : eqb a i ≡ true = grind (arith, same) in
    let xs : List ℕ = filter p (range_with_len (a + 1) n) in
    let ys : List ℕ = filter (but p i) (range_with_len (a + 1) n) in
    let rest : ys ≡ xs = not_before p i (a + 1) n (omega arith) in
    let all : cond (p a) (a ∷ xs) xs ≡ a ∷ xs = ap (λ b. cond b (a ∷ xs) xs) at in
    let others : cond (but p i a) (a ∷ ys) ys ≡ xs = ap (λ c. cond (p a && cond c false true) (a ∷ ys) ys) t ∙ none (p a) ys ∙ rest in
    let whole : h i ∷ map h xs ≡ map h (cond (p a) (a ∷ xs) xs) = ap (λ k. h k ∷ map h xs) (sym same) ∙ ap (map h) (sym all) in
    let P : List ℕ → Type 0 = λ l. IsPermutation l (h i ∷ map h (cond (but p i a) (a ∷ ys) ys)) in
    let Q : List ℕ → Type 0 = λ l. IsPermutation (h i ∷ map h xs) (h i ∷ map h l) in
    subst P whole (subst Q (sym others) (IsPermutation-refl (h i ∷ map h xs))))
    (λ (ne : a ≡ i → ⊥).
    let t : eqb a i ≡ false = grind (arith, ne) in
    let xs : List ℕ = filter p (range_with_len (a + 1) n) in
    let ys : List ℕ = filter (but p i) (range_with_len (a + 1) n) in
    let rest = taken_out p h i (a + 1) n e (omega (arith, ne)) (omega arith) in
    let P : Bool → Type 0 = λ c. IsPermutation (map h (cond (p a) (a ∷ xs) xs)) (h i ∷ map h (cond (p a && cond c false true) (a ∷ ys) ys)) in
    subst P (sym t) (more (p a) xs ys rest))
    (cases_eq a i)
  where
    none : (b : Bool) (ys : List ℕ) → cond (b && false) (a ∷ ys) ys ≡ ys
    none true ys = refl
    none false ys = refl

    more : (b : Bool) (xs ys : List ℕ) → IsPermutation (map h xs) (h i ∷ map h ys)
        → IsPermutation (map h (cond b (a ∷ xs) xs)) (h i ∷ map h (cond (b && true) (a ∷ ys) ys))
    more true xs ys r =
        IsPermutation-trans (h a ∷ map h xs) (h a ∷ h i ∷ map h ys) (h i ∷ h a ∷ map h ys) (IsPermutation-cons (h a) (map h xs) (h i ∷ map h ys) r)
        (IsPermutation-middle (h a ∷ []) (h i) (map h ys))
    more false xs ys r = r
