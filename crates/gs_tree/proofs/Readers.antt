-- What the readers of the tables give.
use Rattle.std.proofs.Common.{◌≡◌, ℕ, zero, suc, ◌+◌, ◌<◌, ◌≤◌, List, [], ◌∷◌, length, map, take, get_or, refl, sym, ap, ◌∙◌, arith, subst, length-append}
use Rattle.std.proofs.{lemmas.List.{take_more, length-map}, lemmas.List.Concat.{flat_map-append}, lemmas.List.FromFn.{get_or-map-range_with_len, fill_by_all}}
use Rattle.std.specs.{Prelude.{flat_map}, List.{range_with_len}, Global.{Vec}}
use Rattle.gs_model.specs.{Game.{Game, round_at}, Signals.{Signal, signals, parents, children, first_child, child_count}}
use Rattle.gs_tree.specs.{Tables.{AreTables}, declared.layer.Layer.{Layer}}

-- the children of one signal more
pub first_next : (g : Game) (round i : ℕ) → i < length (signals g round) → first_child g round (i + 1) ≡ first_child g round i + child_count g round i
first_next g round i l =
    let f : Signal → List (ℕ × Signal) = λ s. children g (round_at g (suc round)) s in
    let ss : List Signal = signals g round in
    ap (λ (x : List Signal). length (flat_map f x)) (take_more ss i [] l)
    ∙ ap (λ (x : List (ℕ × Signal)). length x) (flat_map-append f (take i ss) (get_or ss i [] ∷ []))
    ∙ length-append (flat_map f (take i ss)) (flat_map f (get_or ss i [] ∷ []))
    ∙ ap (λ n. length (flat_map f (take i ss)) + n) (length-append (f (get_or ss i [])) [] ∙ omega arith)

pub firsts_of : (g : Game) (ps : List (Vec ℕ)) (ls : List Layer) (round : ℕ) (l : Layer) → AreTables g ps ls → round < length ls → l ≡ get_or ls round l
    → l.firsts.items ≡ map (first_child g round) (range_with_len 0 (length (signals g round) + 1))
firsts_of g ps ls round l t h e = let P : Layer → Type 0 = λ x. x.firsts.items
    ≡ map (first_child g round) (range_with_len 0 (length (signals g round) + 1)) in subst P (sym e) (t.listed round l h).firsts

pub first_at : (g : Game) (round i d : ℕ) (xs : List ℕ) → xs ≡ map (first_child g round) (range_with_len 0 (length (signals g round) + 1))
    → i ≤ length (signals g round) → get_or xs i d ≡ first_child g round i
first_at g round i d xs e l = ap (λ (x : List ℕ). get_or x i d) e ∙ get_or-map-range_with_len (first_child g round) 0 (length (signals g round) + 1) i i d
    (omega arith) (omega arith)

shifted : {Y : Type 0} (f : ℕ → Y) (a n : ℕ) → map (λ k. f (suc k)) (range_with_len a n) ≡ map f (range_with_len (suc a) n)
shifted f a zero = refl
shifted f a (suc n) = ap (λ l. f (suc a) ∷ l) (shifted f (a + 1) n ∙ ap (λ k. map f (range_with_len k n)) (omega arith))

read : (ps : List (Vec ℕ)) (k : ℕ) (x : List ℕ) → k < length ps → ((d : Vec ℕ) → (get_or ps k d).items ≡ x)
    → get_or (map (λ (v : Vec ℕ). v.items) ps) k [] ≡ x
read [] k x l h = absurd (omega arith)
read (p ∷ ps) zero x l h = h p
read (p ∷ ps) (suc k) x l h = read ps k x (omega arith) (λ d. h d)

-- all lists of parents
pub rows_all : (g : Game) (ps : List (Vec ℕ)) (ls : List Layer) (n : ℕ) → AreTables g ps ls → length ls ≡ n
    → map (λ (v : Vec ℕ). v.items) ps ≡ map (parents g) (range_with_len 1 n)
rows_all g ps ls n t e =
    let items : Vec ℕ → List ℕ = λ v. v.items in
    let long : length ps ≡ n = t.as_many ∙ e in
    fill_by_all (λ k. parents g (suc k)) (map items ps) n [] (length-map ps items ∙ long)
    (λ k l. row k (omega arith)) ∙ shifted (parents g) 0 n
  where
    row : (k : ℕ) → k < length ls → get_or (map (λ (v : Vec ℕ). v.items) ps) k [] ≡ parents g (suc k)
    row k l = read ps k (parents g (suc k)) (omega (arith, t.as_many)) (λ d. t.owned k d l)
