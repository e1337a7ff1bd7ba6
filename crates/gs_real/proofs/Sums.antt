-- Sums over lists in an ordered group: how they add, compare, exchange their order and regroup by a key. `Total` of `gs_model` is the same of whole numbers.
use Rattle.std.proofs.Common.{◌≡◌, ℕ, zero, suc, ◌+◌, ◌<◌, List, [], ◌∷◌, ◌++◌, get_or, map, set, length, refl, sym, ap, ◌∙◌, subst, arith, Bool, true, false, cond, ⊎_elim}
use Rattle.std.proofs.{Common.{eqb}, lemmas.List.Sums.{sum_by-cons}, lemmas.List.Elements.{All-head, All-tail}}
use Rattle.std.proofs.{lemmas.List.Sorted.{IsPermutation-keeps}, lemmas.List.{get_or-set_other, get_or-set_same, length-set}, lemmas.Bool.{cases_eq}}
use Rattle.std.proofs.lemmas.List.Edits.{swap_is}
use Rattle.std.specs.{Prelude.{ℤ, pos, ◌+ℤ◌, IsPermutation, Decides}, List.{count_by, All, flat_map}}
use Rattle.gs_model.specs.Sums.{sum_z}
use Rattle.gs_real.proofs.Group.{both, cancelled, crosswise, reflexive, scaled_add, scaled_nil, scaled_plus}
use Rattle.gs_real.specs.Numbers.{AtMost, OrderedGroup, scaled, sum_of}

module _ {A P : Type 0} (G : OrderedGroup A P) where
  open G use {nil, plus}

  module _ {X : Type 0} where
    pub append : (f : X → A) (xs ys : List X) → sum_of G f (xs ++ ys) ≡ plus (sum_of G f xs) (sum_of G f ys)
    append f [] ys = sym (G.neutral (sum_of G f ys))
    append f (x ∷ xs) ys = ap (plus (f x)) (append f xs ys) ∙ sym (G.associative (f x) (sum_of G f xs) (sum_of G f ys))

    pub added : (f g : X → A) (xs : List X) → sum_of G (λ x. plus (f x) (g x)) xs ≡ plus (sum_of G f xs) (sum_of G g xs)
    added f g [] = sym (G.neutral nil)
    added f g (x ∷ xs) = ap (plus (plus (f x) (g x))) (added f g xs) ∙ crosswise G (f x) (g x) (sum_of G f xs) (sum_of G g xs)

    nothing : (xs : List X) → sum_of G (λ x. nil) xs ≡ nil
    nothing [] = refl
    nothing (x ∷ xs) = G.neutral (sum_of G (λ x. nil) xs) ∙ nothing xs

    pub same : (f g : X → A) (h : (x : X) → f x ≡ g x) (xs : List X) → sum_of G f xs ≡ sum_of G g xs
    same f g h [] = refl
    same f g h (x ∷ xs) = ap (λ a. plus a (sum_of G f xs)) (h x) ∙ ap (plus (g x)) (same f g h xs)

    pub same_all : (f g : X → A) (xs : List X) → All (λ x. f x ≡ g x) xs → sum_of G f xs ≡ sum_of G g xs
    same_all f g [] h = refl
    same_all f g (x ∷ xs) h =
        ap (λ a. plus a (sum_of G f xs)) (All-head (λ x. f x ≡ g x) x xs h)
        ∙ ap (plus (g x)) (same_all f g xs (All-tail (λ x. f x ≡ g x) x xs h))

    pub at_most_all : (f g : X → A) (xs : List X) → All (λ x. AtMost G (f x) (g x)) xs → AtMost G (sum_of G f xs) (sum_of G g xs)
    at_most_all f g [] h = reflexive G nil
    at_most_all f g (x ∷ xs) h =
        both G (f x) (g x) (sum_of G f xs) (sum_of G g xs) (All-head (λ x. AtMost G (f x) (g x)) x xs h)
        (at_most_all f g xs (All-tail (λ x. AtMost G (f x) (g x)) x xs h))

    -- a multiple of a sum, and multiples of one number
    pub multiple : (z : ℤ) (f : X → A) (xs : List X) → sum_of G (λ x. scaled G z (f x)) xs ≡ scaled G z (sum_of G f xs)
    multiple z f [] = sym (scaled_nil G z)
    multiple z f (x ∷ xs) = ap (plus (scaled G z (f x))) (multiple z f xs) ∙ sym (scaled_plus G z (f x) (sum_of G f xs))

    pub multiples : (n : X → ℤ) (a : A) (xs : List X) → sum_of G (λ x. scaled G (n x) a) xs ≡ scaled G (sum_z n xs) a
    multiples n a [] = refl
    multiples n a (x ∷ xs) = ap (plus (scaled G (n x) a)) (multiples n a xs) ∙ sym (scaled_add G (n x) (sum_z n xs) a)

  pub mapped : {X Y : Type 0} (f : Y → A) (g : X → Y) (xs : List X) → sum_of G f (map g xs) ≡ sum_of G (λ x. f (g x)) xs
  mapped f g [] = refl
  mapped f g (x ∷ xs) = ap (plus (f (g x))) (mapped f g xs)

  pub flattened : {X Y : Type 0} (f : Y → A) (g : X → List Y) (xs : List X) → sum_of G f (flat_map g xs) ≡ sum_of G (λ x. sum_of G f (g x)) xs
  flattened f g [] = refl
  flattened f g (x ∷ xs) = append f (g x) (flat_map g xs) ∙ ap (plus (sum_of G f (g x))) (flattened f g xs)

  pub exchanged : {X Y : Type 0} (f : X → Y → A) (xs : List X) (ys : List Y)
      → sum_of G (λ x. sum_of G (λ y. f x y) ys) xs ≡ sum_of G (λ y. sum_of G (λ x. f x y) xs) ys
  exchanged f [] ys = sym (nothing ys)
  exchanged f (x ∷ xs) ys =
      ap (plus (sum_of G (λ y. f x y) ys)) (exchanged f xs ys) ∙ sym (added (f x) (λ y. sum_of G (λ x. f x y) xs) ys)

  -- ---- regrouping by a key

  module _ {K : Type 0} (p : K → Bool) (a : A) where
    pick_none : (ks : List K) → count_by p ks ≡ 0 → sum_of G (λ k. cond (p k) a nil) ks ≡ nil
    pick_none [] h = refl
    pick_none (k ∷ ks) h =
        elim (p k) as (λ b. cond b 1 0 + count_by p ks ≡ 0 → plus (cond b a nil) (sum_of G (λ k. cond (p k) a nil) ks) ≡ nil) [
          | true ↦ λ e. absurd (omega arith)
          | false ↦ λ e. G.neutral (sum_of G (λ k. cond (p k) a nil) ks) ∙ pick_none ks (omega arith)
        ] (sym (sum_by-cons (λ k. cond (p k) 1 0) k ks) ∙ h)

    pub pick_one : (ks : List K) → count_by p ks ≡ 1 → sum_of G (λ k. cond (p k) a nil) ks ≡ a
    pick_one [] h = absurd (omega arith)
    pick_one (k ∷ ks) h =
        elim (p k) as (λ b. cond b 1 0 + count_by p ks ≡ 1 → plus (cond b a nil) (sum_of G (λ k. cond (p k) a nil) ks) ≡ a) [
          | true ↦ λ e. ap (plus a) (pick_none ks (omega arith)) ∙ (G.commutative a nil ∙ G.neutral a)
          | false ↦ λ e. G.neutral (sum_of G (λ k. cond (p k) a nil) ks) ∙ pick_one ks (omega arith)
        ] (sym (sum_by-cons (λ k. cond (p k) 1 0) k ks) ∙ h)

  regrouped : {X K : Type 0} (is : X → K → Bool) (f : X → A) (ks : List K) (xs : List X) → All (λ x. count_by (is x) ks ≡ 1) xs
      → sum_of G f xs ≡ sum_of G (λ k. sum_of G (λ x. cond (is x k) (f x) nil) xs) ks
  regrouped is f ks xs once =
      same_all f (λ x. sum_of G (λ k. cond (is x k) (f x) nil) ks) xs (λ i d l. sym (pick_one (is (get_or xs i d)) (f (get_or xs i d)) ks (once i d l)))
      ∙ exchanged (λ x k. cond (is x k) (f x) nil) xs ks

  -- a number that hangs on the ancestor alone comes out of the sum over its descendants
  guard_out : (b : Bool) (z : ℤ) (n m : A) → (b ≡ true → n ≡ m) → cond b (scaled G z n) nil ≡ scaled G (cond b z (pos 0)) m
  guard_out true z n m e = ap (scaled G z) (e refl)
  guard_out false z n m e = refl

  pub by_ancestor : {S R : Type 0} (eq : R → R → Bool) (exact : (a b : R) → Decides (eq a b) (a ≡ b)) (anc : S → R) (g : R → A) (v : S → ℤ)
      (below : List S) (above : List R) → All (λ s. count_by (eq (anc s)) above ≡ 1) below
      → sum_of G (λ s. scaled G (v s) (g (anc s))) below ≡ sum_of G (λ r. scaled G (sum_z (λ s. cond (eq (anc s) r) (v s) (pos 0)) below) (g r)) above
  by_ancestor eq exact anc g v below above once =
      regrouped (λ s r. eq (anc s) r) (λ s. scaled G (v s) (g (anc s))) above below once
      ∙ same (λ r. sum_of G (λ s. cond (eq (anc s) r) (scaled G (v s) (g (anc s))) nil) below)
      (λ r. scaled G (sum_z (λ s. cond (eq (anc s) r) (v s) (pos 0)) below) (g r))
      (λ r. same (λ s. cond (eq (anc s) r) (scaled G (v s) (g (anc s))) nil) (λ s. scaled G (cond (eq (anc s) r) (v s) (pos 0)) (g r))
      (λ s. guard_out (eq (anc s) r) (v s) (g (anc s)) (g r) (λ e. ap g ((exact (anc s) r).0 e))) below
      ∙ multiples (λ s. cond (eq (anc s) r) (v s) (pos 0)) (g r) below) above

  -- ---- the order of a list

  turned : (a s b : A) → plus (plus a s) b ≡ plus (plus b s) a
  turned a s b = G.commutative (plus a s) b ∙ ap (plus b) (G.commutative a s) ∙ sym (G.associative b s a)

  first_of_some : {X : Type 0} (xs : List X) → 0 < length xs → X
  first_of_some [] h = absurd (omega arith)
  first_of_some (x ∷ xs) h = x

  module _ {X : Type 0} (f : X → A) where
    put : (xs : List X) (i : ℕ) (y d : X) → i < length xs → plus (sum_of G f (set xs i y)) (f (get_or xs i d)) ≡ plus (sum_of G f xs) (f y)
    put [] i y d l = absurd (omega arith)
    put (x ∷ xs) zero y d l = turned (f y) (sum_of G f xs) (f x)
    put (x ∷ xs) (suc i) y d l =
        G.associative (f x) (sum_of G f (set xs i y)) (f (get_or xs i d)) ∙ ap (plus (f x)) (put xs i y d (omega arith))
        ∙ sym (G.associative (f x) (sum_of G f xs) (f y))

    pub any_order : (xs ys : List X) → IsPermutation xs ys → sum_of G f ys ≡ sum_of G f xs
    any_order xs ys = IsPermutation-keeps xs (λ l. sum_of G f l ≡ sum_of G f xs) refl (λ l i j p q h.
        let d : X = first_of_some l (omega arith) in
        let w : List X = set l i (get_or l j d) in
        let long = length-set l i (get_or l j d) in
        let there : get_or w j d ≡ get_or l j d =
        ⊎_elim (λ e. ap (λ n. get_or w n d) e ∙ get_or-set_same l i (get_or l j d) d p) (λ n. get_or-set_other l i j (get_or l j d) d n) (cases_eq j i) in
        let first = put l i (get_or l j d) d p in
        let second = put w j (get_or l i d) d (omega arith) in
        let whole : plus (sum_of G f (set w j (get_or l i d))) (f (get_or l j d)) ≡ plus (sum_of G f l) (f (get_or l j d)) =
        ap (λ x. plus (sum_of G f (set w j (get_or l i d))) (f x)) (sym there) ∙ second ∙ first in
        ap (sum_of G f) (sym (swap_is l i j d p q))
        ∙ cancelled G (sum_of G f (set w j (get_or l i d))) (sum_of G f l) (f (get_or l j d)) whole ∙ h) ys

  -- ---- amounts down a betting tree

  module _ {T : Type 0} (amount : T → A) (next : T → List T) (start : T) (inner ends : List T)
      (tree : IsPermutation (start ∷ flat_map next inner) (inner ++ ends)) where
    -- every target but the start is reached by one arrow: what the start and all arrows hold, the points and the ends hold
    balance : plus (amount start) (sum_of G (λ t. sum_of G amount (next t)) inner) ≡ plus (sum_of G amount inner) (sum_of G amount ends)
    balance =
        ap (plus (amount start)) (sym (flattened amount next inner)) ∙ sym (any_order amount (start ∷ flat_map next inner) (inner ++ ends) tree)
        ∙ append amount inner ends

    -- what each point holds bounds what its arrows hold, so the start bounds the ends
    pub telescope : All (λ t. AtMost G (sum_of G amount (next t)) (amount t)) inner → AtMost G (sum_of G amount ends) (amount start)
    telescope local =
        let h = at_most_all (λ t. sum_of G amount (next t)) amount inner local in
        let N = sum_of G (λ t. sum_of G amount (next t)) inner in
        let I = sum_of G amount inner in
        let E = sum_of G amount ends in
        let more = G.place h.0 in
        -- the arrows and more are the points: so the start and the points are the points, the ends and more
        let one : plus (amount start) I ≡ plus (plus E more) I =
        ap (plus (amount start)) (sym h.1) ∙ sym (G.associative (amount start) N more) ∙ ap (λ a. plus a more) balance
        ∙ G.associative I E more ∙ G.commutative I (plus E more) in
        (h.0, sym (cancelled G (amount start) (plus E more) I one))
