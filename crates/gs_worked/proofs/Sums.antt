-- Isomorphic hands of the last round have the same sum of outcomes, and hands with the same leaves are isomorphic.
use Rattle.std.proofs.Common.{◌≡◌, ℕ, ℤ, List, [], ◌∷◌, refl, sym, ap, ◌∙◌}
use Rattle.std.specs.List.{AllZip}
use Rattle.gs_model.specs.{Game.{Game}, Isomorphism.{IsomorphicFor}, Signals.{Signal}, Sums.{sum_z}, ViewTree.{leaves}}
use Rattle.gs_model.proofs.Total.{sum_z-IsPermutation}

zip_equal : {X : Type 0} (xs ys : List X) → AllZip (λ (x : X) (y : X). x ≡ y) xs ys → xs ≡ ys
zip_equal [] [] h = refl
zip_equal [] (y ∷ ys) h = absurd h
zip_equal (x ∷ xs) [] h = absurd h
zip_equal (x ∷ xs) (y ∷ ys) h = cc (h.0, zip_equal xs ys h.1)

pub leaf_sums : (g : Game) (s t : Signal) → IsomorphicFor g [] s t → sum_z (λ (x : ℕ × ℤ). x.1) (leaves g s) ≡ sum_z (λ (x : ℕ × ℤ). x.1) (leaves g t)
leaf_sums g s t m =
    sym (sum_z-IsPermutation (λ (x : ℕ × ℤ). x.1) (leaves g s) m.order m.permutes)
    ∙ ap (sum_z (λ (x : ℕ × ℤ). x.1)) (zip_equal m.order (leaves g t) m.related)
