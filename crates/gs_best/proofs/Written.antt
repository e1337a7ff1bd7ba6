-- Rows written one number after another.
use Rattle.std.proofs.Common.{◌≡◌, ℕ, ◌+◌, ◌-◌, ◌<◌, ◌≤◌, List, [], ◌∷◌, ◌++◌, length, get_or, replicate, take, zero, suc, refl, sym, ap, ◌∙◌}
use Rattle.std.proofs.{Common.{arith, ⊎_elim}, Math.ListN.{set}, lemmas.Bool.{cases_eq}, lemmas.Grind.{get_or-set_at}}
use Rattle.std.proofs.lemmas.List.{get_or-append_right, get_or-set_other, length-replicate}
use Rattle.std.specs.Prelude.{ℤ, pos}

-- one more number
pub row_more : {A : Type 0} (F : ℕ → A) (row : List A) (i : ℕ) (v d : A) → i < length row → v ≡ F i → ((k : ℕ) → k < i → get_or row k d ≡ F k) → (k : ℕ)
    → k < i + 1 → get_or (set row i v) k d ≡ F k
row_more F row i v d l e h k lk = ⊎_elim
    (λ (same : k ≡ i). get_or-set_at row i k v d same l ∙ e ∙ ap F (sym same))
    (λ (other : k ≡ i → ⊥). get_or-set_other row i k v d other ∙ h k (omega arith))
    (cases_eq k i)

-- a number that stands already
pub row_keeps : {A : Type 0} (F : ℕ → A) (row : List A) (i : ℕ) (d : A) → get_or row i d ≡ F i → ((k : ℕ) → k < i → get_or row k d ≡ F k) → (k : ℕ)
    → k < i + 1 → get_or row k d ≡ F k
row_keeps F row i d e h k lk = ⊎_elim
    (λ (same : k ≡ i). ap (λ j. get_or row j d) same ∙ e ∙ ap F (sym same))
    (λ (other : k ≡ i → ⊥). h k (omega arith))
    (cases_eq k i)

-- the numbers behind are as they were
pub rest_more : {A : Type 0} (row old : List A) (i : ℕ) (v d : A) → ((k : ℕ) → i ≤ k → get_or row k d ≡ get_or old k d) → (k : ℕ) → i + 1 ≤ k
    → get_or (set row i v) k d ≡ get_or old k d
rest_more row old i v d h k lk = get_or-set_other row i k v d (λ e. omega arith) ∙ h k (omega arith)

-- a row by classes, which count from 1
pub by_class : {A : Type 0} (F : ℕ → A) (row : List A) (n : ℕ) (d : A) → ((k : ℕ) → k < n → get_or row k d ≡ F (k + 1)) → (c : ℕ) → 0 < c → c ≤ n
    → get_or row (c - 1) d ≡ F c
by_class F row n d h c some top = let e : c - 1 + 1 ≡ c = omega arith in h (c - 1) (omega arith) ∙ ap F e

-- what was written through a slice of a list
pub written : {A : Type 0} (n : ℕ) (xs ys : List A) → length xs ≡ n → take n (xs ++ ys) ≡ xs
written zero [] ys e = refl
written zero (x ∷ xs) ys e = absurd (omega arith)
written (suc n) [] ys e = absurd (omega arith)
written (suc n) (x ∷ xs) ys e = ap (λ l. x ∷ l) (written n xs ys (omega arith))

-- what a list holds behind n zeros
pub behind_all : (n : ℕ) (xs : List ℤ) (i k : ℕ) → i ≡ k + n → get_or (replicate n (pos 0) ++ xs) i (pos 0) ≡ get_or xs k (pos 0)
behind_all n xs i k e =
    let rest : i - n ≡ k = omega arith in
    get_or-append_right (replicate n (pos 0)) xs n i (pos 0) (length-replicate n (pos 0)) (omega arith) ∙ ap (λ j. get_or xs j (pos 0)) rest
