-- Lines put one behind another.
use Rattle.std.proofs.{Common.{◌≡◌, ℕ, ◌+◌, ◌++◌, [], List, sym, ap, ◌∙◌, arith}, lemmas.Grind.{flat_map-append}, lemmas.List.{append-nil}}
use Rattle.std.specs.List.{flat_map, range_with_len}
use Rattle.gs_model.proofs.Sparse.{range_append}

-- one more line
pub lines_more : (line : ℕ → List ℕ) (text new : List ℕ) (n : ℕ) → text ≡ flat_map line (range_with_len 0 n) → new ≡ text ++ line n
    → new ≡ flat_map line (range_with_len 0 (n + 1))
lines_more line text new n so is =
    let at : 0 + n ≡ n = omega arith in
    is ∙ ap (λ (t : List ℕ). t ++ line n) so
    ∙ ap (λ (t : List ℕ). flat_map line (range_with_len 0 n) ++ t) (sym (append-nil (line n)) ∙ ap (λ k. line k ++ []) (sym at))
    ∙ sym (ap (flat_map line) (range_append 0 n 1) ∙ flat_map-append line (range_with_len 0 n) (range_with_len (0 + n) 1))
