-- A turn over the neighbours of a visit's left node.
use Rattle.std.proofs.Common.{◌≡◌, ◌+◌, ◌<◌, ◌++◌, ℕ, Bool, true, false, Option, Some, List, [], ◌∷◌, length, get_or, set, sym, ◌∙◌, ap, subst, arith, Vec}
use Rattle.std.proofs.{Common.{Global, below_more}, lemmas.List.{get_or-map, get_or_default}}
use Rattle.gs_match.specs.{declared.search.Visit.{Visit}, Adjacency.{row_of, AreNeighboursBelow, Near}}
use Rattle.gs_match.specs.Search.{holder, IsMatching, visit, is_reached, IsTree, Extends}
use Rattle.gs_model.specs.Rows.{rows}
use Rattle.gs_match.proofs.SearchLaws.{tree_more, extends_more, marked_more, mark_kept, extends_trans}

-- what a read of a list of lists gives
pub row_read : (vs : List (Vec ℕ Global)) (i : ℕ) (v : Vec ℕ Global) → i < length vs → v ≡ get_or vs i v → v.items ≡ row_of (rows vs) i
row_read vs i v l is = ap (λ (x : Vec ℕ Global). x.items) is ∙ sym (get_or-map (λ (x : Vec ℕ Global). x.items) vs i v [] l)

module _ (adjacent : List (Vec ℕ Global)) (holders : List (Option ℕ)) (visits0 : List Visit) (reached0 : List Bool) (place : ℕ) (w : Visit) (v : Vec ℕ Global)
    (row : List ℕ)
    (place_in : place < length visits0) (rows_in : AreNeighboursBelow (rows adjacent) (length holders)) (left_in : (visit visits0 place).left < length adjacent)
    (m : IsMatching (rows adjacent) holders (visit visits0 0).left)
    (w_is : w ≡ get_or visits0 place w) (v_is : v ≡ get_or adjacent w.left v) (row_is : row ≡ v.items) where
  same_visit : w ≡ visit visits0 place
  same_visit = w_is ∙ get_or_default visits0 place w (record { left = 0; right = 0; from = 0 }) place_in

  same_row : row ≡ row_of (rows adjacent) (visit visits0 place).left
  same_row =
      let e = ap (λ (x : Visit). x.left) same_visit in
      row_is ∙ row_read adjacent w.left v (omega arith) v_is ∙ ap (λ k. row_of (rows adjacent) k) e

  pub right_in : (k : ℕ) → k < length row → get_or row k 0 < length holders
  right_in k l = subst (λ (r : List ℕ). get_or r k 0 < length holders) (sym same_row) (rows_in (visit visits0 place).left k (let n = ap length same_row in
      omega arith))

  near_first : (k : ℕ) → k < length row → Near (rows adjacent) (visit visits0 place).left (get_or row k 0)
  near_first k l = record { at = k; within = (let n = ap length same_row in omega arith); here = ap (λ (r : List ℕ). get_or r k 0) (sym same_row) }

  module _ (visits : List Visit) (reached : List Bool) (tree : IsTree (rows adjacent) holders visits reached)
      (ext : Extends visits0 reached0 visits reached) where
    place_now : place < length visits
    place_now = let l = ext.longer in omega arith

    matching_now : IsMatching (rows adjacent) holders (visit visits 0).left
    matching_now = subst (λ (x : Visit). IsMatching (rows adjacent) holders x.left) (sym (ext.kept 0 (omega arith))) m

    pub near_now : (k : ℕ) → k < length row → Near (rows adjacent) (visit visits place).left (get_or row k 0)
    near_now k l = subst (λ (x : Visit). Near (rows adjacent) x.left (get_or row k 0)) (sym (ext.kept place place_in)) (near_first k l)

    pub reached_in : (k : ℕ) → k < length row → get_or row k 0 < length reached
    reached_in k l = let r = right_in k l in let t = tree.wide in omega arith

    -- at the end of the row
    pub all_seen : ((k : ℕ) → k < length row → is_reached reached (get_or row k 0) ≡ true) → (b : ℕ) → Near (rows adjacent) (visit visits place).left b
        → is_reached reached b ≡ true
    all_seen seen b near =
        let e : row ≡ row_of (rows adjacent) (visit visits place).left =
        same_row ∙ ap (λ (x : Visit). row_of (rows adjacent) x.left) (sym (ext.kept place place_in)) in
        let n = ap length e in
        let within = near.within in
        ap (λ c. is_reached reached c) (sym near.here ∙ ap (λ (r : List ℕ). get_or r near.at 0) (sym e)) ∙ seen near.at (omega arith)

    module _ (k left : ℕ) (k_in : k < length row) (new : is_reached reached (get_or row k 0) ≡ false) (held : holder holders (get_or row k 0) ≡ Some left)
        (seen : (j : ℕ) → j < k → is_reached reached (get_or row j 0) ≡ true) where
      pub turn_tree : IsTree (rows adjacent) holders (visits ++ record {
        left = left;
        right = get_or row k 0;
        from =
            place;
      } ∷ []) (set reached (get_or row k 0) true)
      turn_tree = tree_more (rows adjacent) holders visits reached place left (get_or row k 0) matching_now tree place_now (near_now k k_in)
          (right_in k k_in) new held

      pub turn_extends : Extends visits0 reached0 (visits ++ record {
        left = left;
        right = get_or row k 0;
        from =
            place;
      } ∷ []) (set reached (get_or row k 0) true)
      turn_extends = extends_trans visits0 reached0 visits reached _ _ ext
          (extends_more (rows adjacent) holders visits reached place left (get_or row k 0) matching_now tree place_now (near_now k k_in)
          (right_in k k_in) new held)

      pub turn_seen : (j : ℕ) → j < k + 1 → is_reached (set reached (get_or row k 0) true) (get_or row j 0) ≡ true
      turn_seen = below_more (λ j. is_reached (set reached (get_or row k 0) true) (get_or row j 0) ≡ true) k
          (λ j lt. mark_kept reached (get_or row k 0) (get_or row j 0) (reached_in k k_in) (seen j lt))
          (marked_more (rows adjacent) holders visits reached place left (get_or row k 0) matching_now tree place_now (near_now k k_in)
          (right_in k k_in) new held)
