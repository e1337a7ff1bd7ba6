-- Signals that see the same deals have the same leaves.
use Rattle.std.proofs.Common.{◌≡◌, ◌↔◌, ◌/◌, ◌==◌, ◌<◌, ◌∙◌, ◌∷◌, [], ℕ, ℤ, List, length, map, refl, sym, ap, subst}
use Rattle.std.proofs.lemmas.List.Sorted.{All-permutation, IsPermutation-map, IsPermutation-sym, IsPermutation-trans}
use Rattle.std.specs.{Prelude.{unsigned_abs}, List.{filter}, List.Sorted.{IsPermutation}}
use Rattle.gs_lossless.specs.Alike.{AreAlike, seen, seen_by}
use Rattle.gs_model.specs.{Deals.{Deal, deals, path_weight}, Game.{Game, round_count}, Isomorphism.{IsomorphicFor}, Signals.{signal_at, signals}}
use Rattle.gs_model.specs.ViewTree.{leaves}
use Rattle.gs_model.proofs.{Bijections.{IsPermutation-from_Matched_members, Matched-from_IsPermutation_members}, Facing.{leaves_are_deals}, Order.{sorts_equal}}
use Rattle.gs_iso.specs.{Numbers.{IsLeafSignature}, Orders.{leaf_mark, leaf_of, mark_lt}}
use Rattle.gs_iso.proofs.Exact.{leaf_told, mark_order, mark_ranks}

-- a leaf whose outcome is not too large for marks
abbrev IsSmall : ℕ × ℤ → Type 0
IsSmall l = unsigned_abs l.1 < 256

-- the leaf that a deal is, from how it is seen
abbrev part : ℕ → ℕ × ℤ × ℕ → ℕ × ℤ
part path d = (d.2 / path, d.1)

parts_seen : (path : ℕ) (keys : List ℕ) (ds : List Deal) → map (leaf_of path) ds ≡ map (part path) (map (seen_by keys) ds)
parts_seen path keys [] = refl
parts_seen path keys (d ∷ ds) = ap (λ (l : List (ℕ × ℤ)). leaf_of path d ∷ l) (parts_seen path keys ds)

module _ (g : Game) (keys : List ℕ) where
  leaves_seen : (i : ℕ) → i < length (signals g (round_count g)) → leaves g (signal_at g (round_count g) i)
      ≡ map (part (path_weight g.copies (signal_at g (round_count g) i))) (seen g keys i)
  leaves_seen i l = (leaves_are_deals g i l).2 ∙ parts_seen (path_weight g.copies (signal_at g (round_count g) i)) keys
      (filter (λ (d : Deal). d.one == i) (deals g))

  -- a signature of a signal is one of each that is like it
  pub signature_like : (i j : ℕ) → i < length (signals g (round_count g)) → j < length (signals g (round_count g)) → AreAlike g keys i j → (a : List ℕ)
      → IsLeafSignature g j a → IsLeafSignature g i a
  signature_like i j li lj like a h =
      let mine = leaves g (signal_at g (round_count g) i) in
      let other = leaves g (signal_at g (round_count g) j) in
      let one = path_weight g.copies (signal_at g (round_count g) i) in
      let moved : IsPermutation (map (part one) (seen g keys i)) (map (part one) (seen g keys j)) =
      IsPermutation-map (part one) (seen g keys i) (seen g keys j) like.deals in
      let there : map (part one) (seen g keys j) ≡ other = ap (λ (p : ℕ). map (part p) (seen g keys j)) like.path ∙ sym (leaves_seen j lj) in
      let both : IsPermutation mine other =
      subst (λ (l : List (ℕ × ℤ)). IsPermutation l other) (sym (leaves_seen i li))
      (subst (λ (l : List (ℕ × ℤ)). IsPermutation (map (part one) (seen g keys i)) l) there moved) in
      record {
        signs = record {
          moved = IsPermutation-trans (map leaf_mark mine) (map leaf_mark other) a (IsPermutation-map leaf_mark mine other both) h.signs.moved;
          sorted = h.signs.sorted;
        };
        small = All-permutation IsSmall other mine (IsPermutation-sym mine other both) h.small;
      }

-- equal signatures are isomorphism
pub leaf_law : (g : Game) (i j : ℕ) (a b : List ℕ) → IsLeafSignature g i a → IsLeafSignature g j b
    → (a ≡ b) ↔ IsomorphicFor g [] (signal_at g (round_count g) i) (signal_at g (round_count g) j)
leaf_law g i j a b ha hb =
    let xs = leaves g (signal_at g (round_count g) i) in
    let ys = leaves g (signal_at g (round_count g) j) in
    let R = λ (x : ℕ × ℤ) (y : ℕ × ℤ). x ≡ y in
    let e = sorts_equal mark_lt mark_ranks mark_order.exact (map leaf_mark xs) a
    (map leaf_mark ys) b ha.signs.moved hb.signs.moved ha.signs.sorted hb.signs.sorted in (
      (λ q. Matched-from_IsPermutation_members R leaf_mark IsSmall IsSmall (λ x y p q k. leaf_told x y p q k) xs ys ha.small hb.small
          (IsPermutation-sym (map leaf_mark ys) (map leaf_mark xs) (e.0 q))),
      (λ q. e.1 (IsPermutation-sym (map leaf_mark xs) (map leaf_mark ys)
          (IsPermutation-from_Matched_members R leaf_mark IsSmall IsSmall (λ x y p q k. ap leaf_mark k) xs ys ha.small hb.small q))),
    )
