-- Lists of lists, by rounds.
use Rattle.std.proofs.Common.{◌≡◌, ◌+◌, ◌-◌, ◌<◌, ◌≤◌, ◌++◌, ◌∷◌, map, take, ℕ, List, [], length, get_or, sym, ◌∙◌, ap, arith, Vec, Global}
use Rattle.std.proofs.lemmas.List.{get_or-map, length-map, map_more}
use Rattle.gs_model.specs.{Classes.{list_of}, Rows.{rows}}

pub length-rows : {X : Type 0} (vs : List (Vec X Global)) → length (rows vs) ≡ length vs
length-rows {X} vs = length-map vs (λ (v : Vec X Global). v.items)

pub list_at : (lists : List (List ℕ)) (i : ℕ) → list_of lists (i + 1) ≡ get_or lists i []
list_at lists i = let e : i + 1 - 1 ≡ i = omega arith in ap (λ k. get_or lists k []) e

-- what a read gives
pub row_read : {X : Type 0} (vs : List (Vec X Global)) (i : ℕ) (v : Vec X Global) → i < length vs → v ≡ get_or vs i v → v.items ≡ get_or (rows vs) i []
row_read {X} vs i v l is = ap (λ (x : Vec X Global). x.items) is ∙ sym (get_or-map (λ (x : Vec X Global). x.items) vs i v [] l)

pub round_read : (vs : List (Vec ℕ Global)) (i : ℕ) (v : Vec ℕ Global) → i < length vs → v ≡ get_or vs i v → v.items ≡ list_of (rows vs) (i + 1)
round_read vs i v l is = row_read vs i v l is ∙ sym (list_at (rows vs) i)

-- one more behind what is made of the lists before a round
pub made_more : {X : Type 0} (f : List ℕ → X) (lists : List (List ℕ)) (made : List X) (round : ℕ) (x : X) → 0 < round → round ≤ length lists
    → made ≡ map f (take (round - 1) lists) → x ≡ f (list_of lists round) → made ++ x ∷ [] ≡ map f (take (round + 1 - 1) lists)
made_more f lists made round x some top before is =
    let here : round - 1 + 1 ≡ round + 1 - 1 = omega arith in
    ap (λ ys. ys ++ x ∷ []) before ∙ ap (λ y. map f (take (round - 1) lists) ++ y ∷ []) is
    ∙ sym (map_more f lists (round - 1) [] (omega arith)) ∙ ap (λ k. map f (take k lists)) here
