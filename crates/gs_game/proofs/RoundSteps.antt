-- The rounds of a game, one at a time.
use Rattle.std.proofs.{Common.{◌≡◌, ℕ, ◌-◌, ◌≤◌, List, [], ◌∷◌, length, get_or, take, drop, ap, sym, arith}, lemmas.Grind.{common_steps}}

take_rest : {A : Type 0} (x : A) (xs : List A) → take (length (x ∷ xs) - 1) (drop 1 (x ∷ xs)) ≡ xs
take_rest x xs = grind (arith, common_steps)

-- a list with a first member, as a match on its first member and the rest has it
pub split_first : {A : Type 0} (x : A) (xs : List A) → 1 ≤ length xs → x ≡ get_or xs 0 x → xs ≡ x ∷ take (length xs - 1) (drop 1 xs)
split_first x [] h is = absurd (omega arith)
split_first x (y ∷ ys) h is = let e : x ≡ y = is in rw e (ap (λ (zs : List _). y ∷ zs) (sym (take_rest y ys)))

-- the same for numbers
pub split_number : (xs : List ℕ) → 1 ≤ length xs → xs ≡ get_or xs 0 0 ∷ take (length xs - 1) (drop 1 xs)
split_number [] h = absurd (omega arith)
split_number (x ∷ xs) h = ap (λ (zs : List ℕ). x ∷ zs) (sym (take_rest x xs))
