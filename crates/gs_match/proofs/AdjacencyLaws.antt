-- Adjacency lists, an edge at a time.
use Rattle.std.proofs.Common.{◌≡◌, ◌≢◌, ◌+◌, ◌<◌, ◌++◌, ◌==◌, ℕ, suc, Bool, true, false, cond, ◌||◌, List, [], ◌∷◌, length, get_or, set, sym, ◌∙◌, ap, subst}
use Rattle.std.proofs.{Common.{arith, ⊎_elim, refl, Vec, Global}, lemmas.Bool.{cases_eq, cases_lt, ne_eqb, eq-eqb, eqb-true, false≢true, or_cases}}
use Rattle.std.proofs.lemmas.List.{get_or_append_left, get_or_push, get_or_past, map_push, get_or-set_same, get_or-set_other, length-set, length_push}
use Rattle.std.proofs.lemmas.List.Folds.{list_any-append, list_any_at}
use Rattle.std.specs.List.{list_any}
use Rattle.gs_model.specs.{Matching.{Edges, has_edge}, Rows.{rows}}
use Rattle.gs_match.specs.Adjacency.{row_of, AreNeighbours, Near}

-- one more empty list
pub empty_more : (vs : List (Vec ℕ Global)) (v : Vec ℕ Global) → v.items ≡ [] → ((k : ℕ) → row_of (rows vs) k ≡ []) → (k : ℕ)
    → row_of (rows (vs ++ v ∷ [])) k ≡ []
empty_more vs v e old k =
    let m : rows (vs ++ v ∷ []) ≡ rows vs ++ v.items ∷ [] = map_push (λ (x : Vec ℕ Global). x.items) vs v in
    ap (λ (l : List (List ℕ)). get_or l k []) m ∙ ⊎_elim
    (λ within. get_or_append_left (rows vs) (v.items ∷ []) [] k within ∙ old k)
    (λ past. ⊎_elim
    (λ (here : k ≡ length (rows vs)). get_or_push (rows vs) v.items [] k (sym here) ∙ e)
    (λ beyond. get_or_past (rows vs ++ v.items ∷ []) k [] (let n = length_push (rows vs) v.items in omega arith))
    (cases_eq k (length (rows vs))))
    (cases_lt k (length (rows vs)))

-- no edges
pub neighbours_none : (left right : ℕ) (adjacent : List (List ℕ)) → length adjacent ≡ left → ((k : ℕ) → row_of adjacent k ≡ [])
    → AreNeighbours (record { left = left; right = right; edges = [] }) adjacent
neighbours_none left right adjacent long empty = record {
  long = long;
  same = λ a b l. ap (λ (row : List ℕ). list_any (λ x. x == b) row) (empty a);
  in_range = λ a k l. let e = ap length (empty a) in absurd (omega arith);
}

any_push : {X : Type 0} (p : X → Bool) (xs : List X) (y : X) → list_any p (xs ++ y ∷ []) ≡ (list_any p xs || p y)
any_push p xs y = list_any-append p xs (y ∷ []) ∙ ap (λ b. list_any p xs || b) (one (p y))
  where
    one : (b : Bool) → (b || false) ≡ b
    one true = refl
    one false = refl

or_false : (b : Bool) → (b || false) ≡ b
or_false true = refl
or_false false = refl

-- one more edge
module _ (left right : ℕ) (edges : List (ℕ × ℕ)) (adjacent : List (List ℕ)) (e : ℕ × ℕ)
    (old : AreNeighbours (record { left = left; right = right; edges = edges }) adjacent) (low : e.0 < left) (high : e.1 < right) where
  abbrev grown : List ℕ
  grown = row_of adjacent e.0 ++ e.1 ∷ []

  abbrev lists : List (List ℕ)
  lists = set adjacent e.0 grown

  at : e.0 < length adjacent
  at = let n = old.long in omega arith

  row_same : row_of lists e.0 ≡ grown
  row_same = get_or-set_same adjacent e.0 grown [] at

  row_other : (a : ℕ) → a ≢ e.0 → row_of lists a ≡ row_of adjacent a
  row_other a ne = get_or-set_other adjacent e.0 a grown [] ne

  pub neighbours_more : AreNeighbours (record { left = left; right = right; edges = edges ++ e ∷ [] }) lists
  neighbours_more = record {
    long = length-set adjacent e.0 grown ∙ old.long;
    same = λ a b l. ⊎_elim
        (λ (s : a ≡ e.0).
        ap (λ k. list_any (λ x. x == b) (row_of lists k)) s ∙ ap (λ (row : List ℕ). list_any (λ x. x == b) row) row_same
        ∙ any_push (λ x. x == b) (row_of adjacent e.0) e.1 ∙ ap (λ t. t || (e.1 == b)) (old.same e.0 b low)
        ∙ ap (λ t. has_edge (record { left = left; right = right; edges = edges }) e.0 b || t) (sym (ap (λ t. cond t (e.1 == b) false) (eq-eqb e.0 e.0 refl)))
        ∙ sym (any_push (λ x. cond (x.0 == e.0) (x.1 == b) false) edges e)
        ∙ ap (λ k. list_any (λ x. cond (x.0 == k) (x.1 == b) false) (edges ++ e ∷ [])) (sym s))
        (λ ne.
        ap (λ (row : List ℕ). list_any (λ x. x == b) row) (row_other a ne) ∙ old.same a b l
        ∙ sym (any_push (λ x. cond (x.0 == a) (x.1 == b) false) edges e ∙ ap (λ t. has_edge (record { left = left; right = right; edges = edges }) a b
        || cond t (e.1 == b) false) (ne_eqb e.0 a (λ q. ne (sym q)))
        ∙ or_false (has_edge (record { left = left; right = right; edges = edges }) a b)))
        (cases_eq a e.0);
    in_range = λ a k l. ⊎_elim
        (λ (s : a ≡ e.0).
        let n : length (row_of lists a) ≡ length (row_of adjacent e.0) + 1 =
        ap (λ m. length (row_of lists m)) s ∙ ap length row_same ∙ length_push (row_of adjacent e.0) e.1 in
        let v : get_or (row_of lists a) k 0 ≡ get_or grown k 0 = ap (λ m. get_or (row_of lists m) k 0) s ∙ ap (λ (row : List ℕ). get_or row k 0) row_same in
        ⊎_elim
        (λ within. let w = get_or_append_left (row_of adjacent e.0) (e.1 ∷ []) 0 k within in let r = old.in_range e.0 k within in omega arith)
        (λ past. let q : length (row_of adjacent e.0) ≡ k = omega arith in let w = get_or_push (row_of adjacent e.0) e.1 0 k q in omega arith)
        (cases_lt k (length (row_of adjacent e.0))))
        (λ ne. let r = row_other a ne in subst (λ (row : List ℕ). get_or row k 0 < right) (sym r) (old.in_range a k (let n = ap length r in omega arith)))
        (cases_eq a e.0);
  }

-- ---- neighbours and edges

pub record Stands (p : ℕ → Bool) (xs : List ℕ) : Type 0 where
  pub at : ℕ
  pub within : at < length xs
  pub here : p (get_or xs at 0) ≡ true

pub stands : (p : ℕ → Bool) (xs : List ℕ) → list_any p xs ≡ true → Stands p xs
stands p [] h = absurd (false≢true h)
stands p (x ∷ xs) h = ⊎_elim
    (λ e. record { at = 0; within = omega arith; here = e })
    (λ r. let s = stands p xs r in record { at = suc s.at; within = (let w = s.within in omega arith); here = s.here })
    (or_cases (p x) (list_any p xs) h)

pub near_from_edge : (g : Edges) (adjacent : List (List ℕ)) → AreNeighbours g adjacent → (a b : ℕ) → a < g.left → has_edge g a b ≡ true → Near adjacent a b
near_from_edge g adjacent n a b l h =
    let s = stands (λ x. x == b) (row_of adjacent a) (n.same a b l ∙ h) in
    record { at = s.at; within = s.within; here = eqb-true (get_or (row_of adjacent a) s.at 0) b s.here }

pub edge_from_near : (g : Edges) (adjacent : List (List ℕ)) → AreNeighbours g adjacent → (a b : ℕ) → a < g.left → Near adjacent a b → has_edge g a b ≡ true
edge_from_near g adjacent n a b l near =
    sym (n.same a b l) ∙ list_any_at (λ x. x == b) (row_of adjacent a) near.at 0 near.within (eq-eqb (get_or (row_of adjacent a) near.at 0) b near.here)
