-- A deal weighs no more than all deals.
use Rattle.std.proofs.Common.{◌≡◌, ℕ, zero, suc, ◌+◌, ◌-◌, ◌*◌, ◌/◌, ◌%◌, ◌<◌, ◌≤◌, List, [], ◌∷◌, length, map, get_or, sym, ap, ◌∙◌, arith, subst, Bool, true}
use Rattle.std.proofs.{Common.{false, cond, nat_lt, ⊎_elim}, lemmas.List.Sums.{sum_by-cons}, lemmas.Nat.{div-mul-add, mod-mul-add, mul-add-lt}}
use Rattle.std.proofs.{lemmas.Bool.{cases_lt, lt-ltb}, lemmas.List.FromFn.{get_or-map-range_with_len, length-map-range_with_len}}
use Rattle.std.specs.{Prelude.{filter, sum_by}, List.{range_with_len}}
use Rattle.gs_model.specs.{Deals.{Deal}, Frame.{frame_of, total_weight}, Game.{Game}}
use Rattle.gs_tree.specs.Walk.{deal_at, last_count, pair_at}
use Rattle.gs_tree.proofs.Pairs.{all_pairs}

member_le : {X : Type 0} (f : X → ℕ) (xs : List X) (k : ℕ) (d : X) → k < length xs → 0 < f (get_or xs k d)
    → f (get_or xs k d) ≤ sum_by f (filter (λ x. nat_lt 0 (f x)) xs)
member_le f [] k d l p = absurd (omega arith)
member_le f (x ∷ xs) zero d l p =
    rw (lt-ltb 0 (f x) p) (omega (arith, sum_by-cons f x (filter (λ x. nat_lt 0 (f x)) xs)))
member_le f (x ∷ xs) (suc k) d l p = by (nat_lt 0 (f x)) (member_le f xs k d (omega arith) p)
  where
    by : (b : Bool) → f (get_or xs k d) ≤ sum_by f (filter (λ x. nat_lt 0 (f x)) xs)
        → f (get_or xs k d) ≤ sum_by f (cond b (x ∷ filter (λ x. nat_lt 0 (f x)) xs) (filter (λ x. nat_lt 0 (f x)) xs))
    by true h = omega (arith, h, sum_by-cons f x (filter (λ x. nat_lt 0 (f x)) xs))
    by false h = h

pub deal_small : (g : Game) (one two : ℕ) → one < last_count g → two < last_count g → (deal_at g one two).weight ≤ total_weight (frame_of g)
deal_small g one two a b = ⊎_elim
    (λ (some : 0 < (deal_at g one two).weight).
    let n : ℕ = last_count g in
    let k : ℕ = one * n + two in
    let weight : Deal → ℕ = λ d. d.weight in
    let row : k / n ≡ one = div-mul-add one n two b in
    let column : k % n ≡ two = mod-mul-add one n two b in
    let pair : pair_at g k ≡ deal_at g one two = ap (λ r. deal_at g r (k % n)) row ∙ ap (λ c. deal_at g one c) column in
    let within : k < n * n = mul-add-lt one n two n a b in
    let xs : List Deal = map (pair_at g) (range_with_len 0 (n * n - 0)) in
    let d : Deal = deal_at g one two in
    let at : get_or xs k d ≡ deal_at g one two = get_or-map-range_with_len (pair_at g) 0 (n * n - 0) k k d (omega arith) (omega arith) ∙ pair in
    let P : Deal → Type 0 = λ x. x.weight ≤ sum_by weight (filter (λ (y : Deal). nat_lt 0 y.weight) xs) in
    let Q : Deal → Type 0 = λ x. 0 < x.weight in
    let here = subst P at (member_le weight xs k d (omega (arith, length-map-range_with_len (pair_at g) 0 (n * n - 0))) (subst Q (sym at) some)) in
    let R : List Deal → Type 0 = λ ys. (deal_at g one two).weight ≤ sum_by weight ys in
    subst R (all_pairs g) here)
    (λ (none : (deal_at g one two).weight ≤ 0). omega arith)
    (cases_lt 0 (deal_at g one two).weight)
