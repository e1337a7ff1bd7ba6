-- Kinds that are kept for rows of hands.
use Rattle.std.proofs.Common.{◌≡◌, ◌∙◌, ℕ, Bool, true, false, cond, List, [], ◌∷◌, ◌++◌, Some, get_or, length, refl, sym, subst, arith}
use Rattle.std.proofs.{lemmas.Bool.Decides.{Decides-eqb}, lemmas.List.{get_or_append_left, get_or_push, length_push}}
use Rattle.std.proofs.{lemmas.List.Sorted.{IsPermutation-sym, IsPermutation-trans}, lemmas.Slice.Eq.{slice_eq-Decides}}
use Rattle.std.specs.{Global.{Vec}, HashMap.{HashMap, get}, List.Sorted.{IsPermutation}, declared.hash.BuildHasherDefault.{BuildHasherDefault}}
use Rattle.std.specs.declared.hash.FoldHasher.{FoldHasher}
use Rattle.gs_lossless.specs.{Hands.{IsKindOf, KeepsKinds, row_eq}, declared.kinds.Kind.{Kind}}

rows_same : (row other : Vec ℕ) → row_eq row other ≡ true → row.items ≡ other.items
rows_same row other e = (slice_eq-Decides Decides-eqb row.items other.items (row_eq row other) refl).0 e

-- a kind has hands in any order
pub kind_moved : (kinds : List Kind) (kind : ℕ) (row hands : List ℕ) → IsKindOf kinds kind row → IsPermutation hands row → IsKindOf kinds kind hands
kind_moved kinds kind row hands k h = record {
  within = k.within;
  same = λ d.
      IsPermutation-trans (get_or kinds kind d).hands.items row hands (k.same d) (IsPermutation-sym hands row h);
}

module _ (kinds : List Kind) (last : Kind) where
  kind_later : (kind : ℕ) (row : List ℕ) → IsKindOf kinds kind row → IsKindOf (kinds ++ last ∷ []) kind row
  kind_later kind row k = record {
    within = omega (arith, k.within, length_push kinds last);
    same = λ d. subst (λ (x : Kind). IsPermutation x.hands.items row) (sym (get_or_append_left kinds (last ∷ []) d kind k.within)) (k.same d);
  }

  pub kind_last : (kind : ℕ) (row : List ℕ) → kind ≡ length kinds → IsPermutation last.hands.items row → IsKindOf (kinds ++ last ∷ []) kind row
  kind_last kind row e h = record {
    within = omega (arith, e, length_push kinds last);
    same = λ d. subst (λ (x : Kind). IsPermutation x.hands.items row) (sym (get_or_push kinds last d kind (sym e))) h;
  }

  -- one more kind, kept for its row
  pub kept_more : (old new : HashMap (Vec ℕ) ℕ (BuildHasherDefault FoldHasher)) (key : Vec ℕ) (kind : ℕ) → KeepsKinds kinds old → kind ≡ length kinds
      → IsPermutation last.hands.items key.items
      → ((q : Vec ℕ) → get row_eq new q ≡ cond (row_eq key q) (Some kind) (get row_eq old q)) → KeepsKinds (kinds ++ last ∷ []) new
  kept_more old new key kind kept e h step row k found = go (row_eq key row) refl (sym (step row) ∙ found)
    where
      go : (b : Bool) → row_eq key row ≡ b → cond b (Some kind) (get row_eq old row) ≡ Some k → IsKindOf (kinds ++ last ∷ []) k row.items
      go true same f =
          let is : kind ≡ k = cc in
          kind_last k row.items (sym is ∙ e) (subst (IsPermutation last.hands.items) (rows_same key row same) h)
      go false other f = kind_later k row.items (kept row k f)
