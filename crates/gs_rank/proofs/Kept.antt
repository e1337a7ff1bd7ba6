-- Lists that keep a number for each kind.
use Rattle.std.proofs.{Common.{◌≡◌, ℕ, ◌+◌, ◌<◌, ◌≤◌, ◌++◌, ◌∷◌, [], List, get_or, length, map, ap, sym, ◌∙◌, arith}, Math.Nat.{div-le_self}}
use Rattle.std.proofs.{lemmas.List.{length-map}, lemmas.List.FromFn.{get_or-map-range_with_len, length-range_with_len, map-range_with_len_more}}
use Rattle.std.specs.List.{range_with_len}
use Rattle.gs_model.specs.Outcome.{rank_of}
use Rattle.gs_card.specs.declared.faults.TheConstants.{MOST_KINDS}

-- as many as there are kinds
pub kept_long : (f : ℕ → ℕ) (n : ℕ) (xs : List ℕ) → xs ≡ map f (range_with_len 0 n) → length xs ≡ n
kept_long f n xs e = ap (λ (x : List ℕ). length x) e ∙ length-map (range_with_len 0 n) f ∙ length-range_with_len 0 n

-- the number of a kind
pub kept : (f : ℕ → ℕ) (n : ℕ) (xs : List ℕ) (k d : ℕ) → xs ≡ map f (range_with_len 0 n) → k < n → get_or xs k d ≡ f k
kept f n xs k d e l = ap (λ (x : List ℕ). get_or x k d) e ∙ get_or-map-range_with_len f 0 n k k d l (omega arith)

-- one more number
pub kept_more : (f : ℕ → ℕ) (i v : ℕ) (xs ys : List ℕ) → ys ≡ xs ++ v ∷ [] → xs ≡ map f (range_with_len 0 i) → v ≡ f i → ys ≡ map f (range_with_len 0 (i + 1))
kept_more f i v xs ys grown e is =
    grown ∙ ap (λ (x : List ℕ). x ++ v ∷ []) e ∙ ap (λ (w : ℕ). map f (range_with_len 0 i) ++ w ∷ []) is ∙ sym (map-range_with_len_more f 0 i i (omega arith))

-- ranks are small, since there are few kinds
pub rank_small : (suits kinds kind rank : ℕ) → kinds ≤ MOST_KINDS → kind < kinds → rank ≡ rank_of suits kind → rank < 64
rank_small suits kinds kind rank few l e = omega (arith, e, div-le_self kind suits)
