-- A closed search gives a set with too few neighbours.
use Rattle.std.proofs.Common.{◌≡◌, ◌+◌, ◌<◌, ◌≤◌, ℕ, zero, suc, Bool, true, false, cond, eqb, Option, List, [], ◌∷◌, length, get_or, sym, ◌∙◌, ap, subst, arith}
use Rattle.std.proofs.{Common.{⊎_elim, count_by, IsPermutation, refl}, lemmas.List.Sums.{sum_by-cons}, lemmas.List.Elements.{All-from_get_or}}
use Rattle.std.proofs.{lemmas.Bool.{cases_lt, cases_eq, cases_Bool, eq-eqb, cond-true, cond-false}, lemmas.List.{get_or-map, length-map}}
use Rattle.std.proofs.lemmas.List.Sorted.{length_permutation, All-permutation, sum_by-IsPermutation, list_any-IsPermutation}
use Rattle.std.specs.{List.{range_with_len}, List.Sorted.{IsNonDecreasing}}
use Rattle.gs_model.specs.Matching.{Edges, AllDiffer, IsHall, has_edge, is_neighbour}
use Rattle.gs_model.proofs.Graph.{differ_once}
use Rattle.gs_match.specs.{declared.search.Visit.{Visit}, Adjacency.{AreNeighbours}, Search.{IsMatching, visit, is_reached, lefts, IsTree, HasClosed}}
use Rattle.gs_match.proofs.{SearchLaws.{held_not_last}, AdjacencyLaws.{stands, near_from_edge}}

-- two equal neighbours in a list are counted twice
counted_twice : (xs : List ℕ) (k : ℕ) → k + 1 < length xs → get_or xs k 0 ≡ get_or xs (k + 1) 0 → 2 ≤ count_by (eqb (get_or xs k 0)) xs
counted_twice [] k l e = absurd (omega arith)
counted_twice (x ∷ []) k l e = absurd (omega arith)
counted_twice (x ∷ y ∷ ys) zero l e =
    let a : count_by (eqb x) (x ∷ y ∷ ys) ≡ cond (eqb x x) 1 0 + count_by (eqb x) (y ∷ ys) = sum_by-cons (λ v. cond (eqb x v) 1 0) x (y ∷ ys) in
    let b : count_by (eqb x) (y ∷ ys) ≡ cond (eqb x y) 1 0 + count_by (eqb x) ys = sum_by-cons (λ v. cond (eqb x v) 1 0) y ys in
    let p : cond {A = ℕ} (eqb x x) 1 0 ≡ 1 = cond-true (eqb x x) 1 0 (eq-eqb x x refl) in
    let q : cond {A = ℕ} (eqb x y) 1 0 ≡ 1 = cond-true (eqb x y) 1 0 (eq-eqb x y e) in
    omega arith
counted_twice (x ∷ y ∷ ys) (suc k) l e =
    let s : suc k + 1 ≡ suc (k + 1) = omega arith in
    let r = counted_twice (y ∷ ys) k (omega arith) (e ∙ ap (λ j. get_or (x ∷ y ∷ ys) j 0) s) in
    let v = get_or (y ∷ ys) k 0 in
    let a : count_by (eqb v) (x ∷ y ∷ ys) ≡ cond (eqb v x) 1 0 + count_by (eqb v) (y ∷ ys) = sum_by-cons (λ u. cond (eqb v u) 1 0) x (y ∷ ys) in
    omega arith

-- if each number that passes is marked, no more pass than are marked
counted_within : (p : ℕ → Bool) (bs : List Bool) (a : ℕ) → ((b : ℕ) → b < length bs → p (a + b) ≡ true → get_or bs b false ≡ true)
    → count_by p (range_with_len a (length bs)) ≤ count_by (λ x. x) bs
counted_within p [] a h = omega arith
counted_within p (x ∷ bs) a h =
    let r = counted_within p bs (a + 1) (λ b l e. let s : a + 1 + b ≡ a + (b + 1) = omega arith in let t : suc b ≡ b + 1 = omega arith in
    ap (λ k. get_or (x ∷ bs) k false) t ∙ h (b + 1) (omega arith) (ap p (sym s) ∙ e)) in
    let u : count_by p (range_with_len a (length (x ∷ bs))) ≡ cond (p a) 1 0 + count_by p (range_with_len (a + 1) (length bs)) =
    sum_by-cons (λ k. cond (p k) 1 0) a (range_with_len (a + 1) (length bs)) in
    let v : count_by (λ x. x) (x ∷ bs) ≡ cond x 1 0 + count_by (λ x. x) bs = sum_by-cons (λ (k : Bool). cond k 1 0) x bs in
    ⊎_elim
    (λ e.
    let z : a ≡ a + 0 = omega arith in
    let m : x ≡ true = h 0 (omega arith) (ap p (sym z) ∙ e) in
    let one : cond {A = ℕ} x 1 0 ≡ 1 = cond-true x 1 0 m in
    let also : cond {A = ℕ} (p a) 1 0 ≡ 1 = cond-true (p a) 1 0 e in
    omega arith)
    (λ e. let none : cond {A = ℕ} (p a) 1 0 ≡ 0 = cond-false (p a) 1 0 e in omega arith)
    (cases_Bool (p a))

module _ (g : Edges) (adjacent : List (List ℕ)) (holders : List (Option ℕ)) (root : ℕ) (visits : List Visit) (set : List ℕ)
    (n : AreNeighbours g adjacent) (wide : length holders ≡ g.right) (root_in : root < g.left) (m : IsMatching adjacent holders root)
    (found : HasClosed adjacent holders root visits) (same : IsPermutation (lefts visits) set) (sorted : IsNonDecreasing set) where
  tree : IsTree adjacent holders visits (found.1).reached
  tree = (found.1).tree

  long : length (lefts visits) ≡ length visits
  long = length-map visits (λ (v : Visit). v.left)

  left_at : (k : ℕ) → k < length visits → get_or (lefts visits) k 0 ≡ (visit visits k).left
  left_at k l = get_or-map (λ (v : Visit). v.left) visits k (record { left = 0; right = 0; from = 0 }) 0 l

  left_in : (k : ℕ) → k < length visits → (visit visits k).left < g.left
  left_in k l = ⊎_elim
      (λ some. let link = tree.linked k some l in let b = m.below (visit visits k).right (visit visits k).left
      (held_not_last holders (visit visits k).right (visit visits k).left link.held) link.held in omega arith)
      (λ first. let z : k ≡ 0 = omega arith in let e : (visit visits k).left ≡ root = ap (λ j. (visit visits j).left) z ∙ found.0 in omega arith)
      (cases_lt 0 k)

  differ : AllDiffer (lefts visits)
  differ i j lt l e = tree.differ i j lt (let q = long in omega arith) (sym (left_at i (let q = long in omega arith)) ∙ e
      ∙ left_at j (let q = long in omega arith))

  reached_neighbour : (b : ℕ) → is_neighbour g set b ≡ true → is_reached (found.1).reached b ≡ true
  reached_neighbour b h =
      let s = stands (λ a. has_edge g a b) (lefts visits) (list_any-IsPermutation (λ a. has_edge g a b) (lefts visits) set same ∙ h) in
      let w = s.within in
      let q = long in
      let at : s.at < length visits = omega arith in
      let edge : has_edge g (visit visits s.at).left b ≡ true = ap (λ a. has_edge g a b) (sym (left_at s.at at)) ∙ s.here in
      (found.1).explored s.at b at (near_from_edge g adjacent n (visit visits s.at).left b (left_in s.at at) edge)

  pub hall_from : IsHall g set
  hall_from =
      let q = long in
      let size : length set ≡ length visits = length_permutation (lefts visits) set same ∙ long in record {
        ascending = λ k l.
            let le = sorted k (k + 1) 0 (omega arith) l in ⊎_elim
            (λ (e : get_or set k 0 ≡ get_or set (k + 1) 0).
            let two = counted_twice set k l e in
            let one = differ_once (lefts visits) differ (get_or set k 0) in
            let perm : count_by (eqb (get_or set k 0)) set ≡ count_by (eqb (get_or set k 0)) (lefts visits) =
            sum_by-IsPermutation (λ v. cond (eqb (get_or set k 0) v) 1 0) (lefts visits) set same in
            absurd (omega arith))
            (λ ne. omega arith)
            (cases_eq (get_or set k 0) (get_or set (k + 1) 0));
        in_range = All-permutation (λ a. a < g.left) (lefts visits) set same
            (All-from_get_or (λ a. a < g.left) (lefts visits) 0 (λ k l. subst (λ a. a < g.left) (sym (left_at k (omega arith))) (left_in k (omega arith))));
        fewer =
            (let c = tree.counted in
            let w = tree.wide in
            let r = (found.1).reached in
            let right_is : length r ≡ g.right = omega arith in
            let few : count_by (is_neighbour g set) (range_with_len 0 (length r)) ≤ count_by (λ x. x) r =
            counted_within (is_neighbour g set) r 0 (λ b l e. let z : b ≡ 0 + b = omega arith in reached_neighbour b (ap (is_neighbour g set) z ∙ e)) in
            let few' : count_by (is_neighbour g set) (range_with_len 0 g.right) ≤ count_by (λ x. x) r =
            subst (λ k. count_by (is_neighbour g set) (range_with_len 0 k) ≤ count_by (λ x. x) r) right_is few in
            omega arith);
      }
