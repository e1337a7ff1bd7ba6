-- A mixture, move by move.
use Rattle.std.proofs.Common.{◌≡◌, ℕ, ◌+◌, ◌<◌, ◌≤◌, List, [], ◌∷◌, ◌++◌, length, map, take, get_or, refl, sym, ap, ◌∙◌, subst, arith, inl, inr, length-append}
use Rattle.std.proofs.Common.{Some}
use Rattle.std.proofs.{lemmas.Bool.{cases_lt}, lemmas.List.{length-map, length-take-le, map-append, map_more, take_all}, lemmas.Option.{slice_get_within}}
use Rattle.std.specs.Prelude.{slice_get}
use Rattle.gs_frac.specs.declared.value.Fraction.{Fraction}
use Rattle.gs_game.specs.declared.positions.Arrow.{Arrow as StoredArrow}
use Rattle.gs_game.proofs.LineLaws.{get_right, get_within}
use Rattle.gs_model.specs.{Frame.{Frame, point}, Plans.{Plan}, Positions.{Arrow}}
use Rattle.gs_lift.specs.Mixtures.{IsMixture, IsShareOf}

-- what holds of each member by its place, and of one more behind them
pushed : {X : Type 0} (P : ℕ → X → Type 0) (xs : List X) (y : X) → ((m : ℕ) (p : X) → slice_get xs m ≡ Some p → P m p) → P (length xs) y → (m : ℕ) (p : X)
    → slice_get (xs ++ y ∷ []) m ≡ Some p → P m p
pushed {X} P xs y h here m p e =
    elim (cases_lt m (length xs)) [
      | inl lt ↦ h m p (sym (get_within xs (y ∷ []) m lt) ∙ e)
      | inr ge ↦
          let w = slice_get_within (xs ++ y ∷ []) m p e in
          let at : length xs ≡ m = omega (arith, w, length-append xs (y ∷ [])) in
          let zero_on : length xs + 0 ≡ m = omega (arith, at) in
          let same : Some y ≡ Some p = sym (get_right xs (y ∷ []) 0) ∙ ap (slice_get (xs ++ y ∷ [])) zero_on ∙ e in
          let it : y ≡ p = cc in
          subst (λ (x : X). P m x) it (subst (λ k. P k y) at here)
    ]

-- the mixture of the first n moves
pub record IsMixtureOf (f : Frame) (x : Plan) (q s : ℕ) (moves : List StoredArrow) (n : ℕ) (pairs : List (ℕ × Fraction)) : Type 0 where
  pub letters : map (λ (p : ℕ × Fraction). p.0) pairs ≡ map (λ (a : StoredArrow). a.letter) (take n moves)
  pub shares : (m : ℕ) (p : ℕ × Fraction) → slice_get pairs m ≡ Some p → IsShareOf f x q s m p.1

pub mixed_none : (f : Frame) (x : Plan) (q s : ℕ) (moves : List StoredArrow) (pairs : List (ℕ × Fraction)) → pairs ≡ [] → IsMixtureOf f x q s moves 0 pairs
mixed_none f x q s moves pairs e = subst (IsMixtureOf f x q s moves 0) (sym e) (record { letters = refl; shares = λ m p h. absurd (none m p h) })
  where
    none : (m : ℕ) (p : ℕ × Fraction) → slice_get {X = ℕ × Fraction} [] m ≡ Some p → ⊥
    none m p h = let l = slice_get_within [] m p h in omega (arith, l)

-- as many pairs as moves
pub mixed_long : (f : Frame) (x : Plan) (q s : ℕ) (moves : List StoredArrow) (n : ℕ) (pairs : List (ℕ × Fraction)) → n ≤ length moves
    → IsMixtureOf f x q s moves n pairs → length pairs ≡ n
mixed_long f x q s moves n pairs l h =
    sym (length-map pairs (λ (p : ℕ × Fraction). p.0))
    ∙ ap (λ (l : List ℕ). length l) h.letters
    ∙ length-map (take n moves) (λ (a : StoredArrow). a.letter)
    ∙ length-take-le n moves l

pub mixed_more : (f : Frame) (x : Plan) (q s : ℕ) (moves : List StoredArrow) (n : ℕ) (d : StoredArrow) (pairs next : List (ℕ × Fraction)) (share : Fraction)
    → n < length moves → next ≡ pairs ++ ((get_or moves n d).letter, share) ∷ []
    → IsMixtureOf f x q s moves n pairs → IsShareOf f x q s n share → IsMixtureOf f x q s moves (n + 1) next
mixed_more f x q s moves n d pairs next share l e h here =
    let y : ℕ × Fraction = ((get_or moves n d).letter, share) in
    let long = mixed_long f x q s moves n pairs (omega (arith, l)) h in
    subst (IsMixtureOf f x q s moves (n + 1)) (sym e)
    (record {
      letters = map-append (λ (p : ℕ × Fraction). p.0) pairs (y ∷ []) ∙ ap (λ (l : List ℕ). l ++ (get_or moves n d).letter ∷ []) h.letters
          ∙ sym (map_more (λ (a : StoredArrow). a.letter) moves n d l);
      shares = pushed (λ m (p : ℕ × Fraction). IsShareOf f x q s m p.1) pairs y h.shares (subst (λ k. IsShareOf f x q s k share) (sym long) here);
    })

pub mixed_all : (f : Frame) (x : Plan) (q s : ℕ) (moves : List StoredArrow) (n : ℕ) (pairs : List (ℕ × Fraction)) → length moves ≤ n
    → map (λ (a : StoredArrow). a.letter) moves ≡ map (λ (a : Arrow). a.letter) (point f q).moves
    → IsMixtureOf f x q s moves n pairs → IsMixture f x q s pairs
mixed_all f x q s moves n pairs l e h = record {
  letters = h.letters ∙ ap (λ (ms : List StoredArrow). map (λ (a : StoredArrow). a.letter) ms)
      (take_all n moves l) ∙ e;
  shares = h.shares;
}
