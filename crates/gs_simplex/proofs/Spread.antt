-- The numbers of a sparse row.
use Rattle.std.proofs.Common.{◌≡◌, ℕ, ◌+◌, ◌<◌, ◌≤◌, List, [], ◌∷◌, ◌++◌, length, get_or, take, replicate, Bool, ℤ, pos, refl, sym, ap, ◌∙◌}
use Rattle.std.proofs.lemmas.List.{append_assoc, take_all, take_more}
use Rattle.gs_simplex.specs.Parts.{PartLists, spread}

-- what is kept of one row behind another
spread_append : (xs ys : List (ℕ × ℤ)) → spread (xs ++ ys) ≡ spread xs ++ spread ys
spread_append [] ys = refl
spread_append (e ∷ xs) ys = ap (λ (t : List ℤ). replicate e.0 (pos 0) ++ e.1 ∷ t) (spread_append xs ys) ∙ simp append_assoc

-- one more number
pub kept_more : (xs : List (ℕ × ℤ)) (n : ℕ) (z : ℤ) → spread (xs ++ (n, z) ∷ []) ≡ (spread xs ++ replicate n (pos 0)) ++ z ∷ []
kept_more xs n z = spread_append xs ((n, z) ∷ []) ∙ simp append_assoc

-- the first numbers of a row, and then one more
pub written_more : {to new : List ℤ} {zeros : ℕ} {z : ℤ} (kept : List (ℕ × ℤ)) (i : ℕ) → i < length kept → (zeros, z) ≡ get_or kept i (0, pos 0)
    → to ≡ spread (take i kept) → new ≡ to ++ replicate zeros (pos 0) ++ z ∷ [] → new ≡ spread (take (i + 1) kept)
written_more {to} {new} {zeros} {z} kept i l is h n =
    let between = replicate zeros (pos 0) in let last : List ℤ = z ∷ [] in
    let next : take (i + 1) kept ≡ take i kept ++ (zeros, z) ∷ [] = take_more kept i (0, pos 0) l ∙ ap (λ x. take i kept ++ x ∷ []) (sym is) in
    n ∙ ap (λ t. (t ++ between) ++ last) h ∙ sym (kept_more (take i kept) zeros z) ∙ ap spread (sym next)

-- the zeros at the end
pub written_all : {to new now : List ℤ} (kept : List (ℕ × ℤ)) (i zeros : ℕ) → length kept ≤ i → to ≡ spread (take i kept)
    → new ≡ to ++ replicate zeros (pos 0) → spread kept ++ replicate zeros (pos 0) ≡ now → new ≡ now
written_all kept i zeros l h n is = n ∙ ap (λ t. t ++ replicate zeros (pos 0)) (h ∙ ap spread (take_all i kept l)) ∙ is

-- ---- the lists of a program
abbrev pub lists : List Bool → List (List ℤ) → List ℤ → PartLists
lists free numbers aim = record { free = free; numbers = numbers; aim = aim }

pub same_lists : {f g : List Bool} {xs ys : List (List ℤ)} {a b : List ℤ} → f ≡ g → xs ≡ ys → a ≡ b → lists f xs a ≡ lists g ys b
same_lists {g} {xs} {ys} {a} e d h = ap (λ (t : List Bool). lists t xs a) e ∙ ap (λ (t : List (List ℤ)). lists g t a) d ∙ ap (λ (t : List ℤ). lists g ys t) h
