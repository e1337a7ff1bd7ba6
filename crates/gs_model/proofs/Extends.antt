-- A signal of a round is its parent with what one more round shows: as long as there are rounds, and without its last round its parent.
use Rattle.std.proofs.Common.{◌≡◌, ℕ, zero, suc, ◌+◌, ◌-◌, ◌<◌, List, [], ◌∷◌, ◌++◌, map, length, get_or, take, refl, ap, ◌∙◌, subst, arith, length-append}
use Rattle.std.proofs.{lemmas.List.{take-append-le, take_all}, lemmas.List.Elements.{All-from_recursion}, lemmas.List.FromFn.{get_or-map-range_with_len}}
use Rattle.std.specs.List.{All, AllByRecursion}
use Rattle.gs_model.specs.Game.{Game, round_at}
use Rattle.gs_model.specs.Signals.{Seen, Signal, child_count, children, edge, first_child, last_edge, left_by, parents, showings, signal_at, signals}
use Rattle.gs_model.proofs.{Children.{child-only, children-run}, Ranges.{length-parents, owners-below}}

pub parents_below : (g : Game) (round : ℕ) → All (λ p. p < length (signals g round)) (parents g (suc round))
parents_below g round k d l =
    let r = All-from_recursion (λ k. k < 0 + length (signals g round)) (parents g (suc round))
    (owners-below (λ s. children g (round_at g (suc round)) s) 0 (signals g round)) k d l in omega (arith, r)

pub parent_below : (g : Game) (round x : ℕ) → x < length (signals g (suc round)) → get_or (parents g (suc round)) x 0 < length (signals g round)
parent_below g round x l = parents_below g round x 0 (omega (arith, l, length-parents g (suc round)))

-- a child is its parent with what one more round shows
pub record Extends (s c : Signal) : Type 0 where
  pub seen : Seen
  pub is : c ≡ s ++ seen ∷ []

all_extend : (left : List ℕ) (s : Signal) (ps : List Seen) → AllByRecursion (λ (c : ℕ × Signal). Extends s c.1) (map (λ p. (edge left p, s ++ p ∷ [])) ps)
all_extend left s [] = tt
all_extend left s (p ∷ ps) = (record { seen = p; is = refl }, all_extend left s ps)

pub child_extends : (g : Game) (round x : ℕ) → x < length (signals g (suc round))
    → Extends (signal_at g round (get_or (parents g (suc round)) x 0)) (signal_at g (suc round) x)
child_extends g round x l =
    let i = get_or (parents g (suc round)) x 0 in
    let in' : i < length (signals g round) = parent_below g round x l in
    let here = child-only g round i in' x l refl in
    let s = signal_at g round i in
    let r = round_at g (suc round) in
    let first = first_child g round i in
    let count = child_count g round i in
    let child : ℕ → ℕ × Signal = λ x. (last_edge g.copies (signal_at g (suc round) x), signal_at g (suc round) x) in
    let all = All-from_recursion (λ (c : ℕ × Signal). Extends s c.1) (children g r s) (all_extend (left_by g.copies s) s (showings (left_by g.copies s) r)) in
    let run = children-run g round i in' in
    let lt : x - first < count = omega (arith, here.0, here.1) in
    let at : first + (x - first) ≡ x = omega (arith, here.0) in
    let read : get_or (children g r s) (x - first) (0, []) ≡ child x =
    ap (λ (cs : List (ℕ × Signal)). get_or cs (x - first) (0, [])) run ∙ get_or-map-range_with_len child first count (x - first) x (0, []) lt at in
    subst (λ (c : ℕ × Signal). Extends s c.1) read (all (x - first) (0, []) lt)

-- a signal of a round has what that many rounds show
pub signal_long : (g : Game) (round x : ℕ) → x < length (signals g round) → length (signal_at g round x) ≡ round
signal_long g zero zero l = refl
signal_long g zero (suc x) l = absurd (omega (arith, l))
signal_long g (suc round) x l =
    let e = child_extends g round x l in
    let p = get_or (parents g (suc round)) x 0 in
    let h = signal_long g round p (parent_below g round x l) in
    let a = length-append (signal_at g round p) (e.seen ∷ []) in
    let b = ap length e.is in
    omega (arith, a, b, h)

-- a signal without its last round is its parent
pub before_last : (g : Game) (round x : ℕ) → x < length (signals g (suc round))
    → take round (signal_at g (suc round) x) ≡ signal_at g round (get_or (parents g (suc round)) x 0)
before_last g round x l =
    let e = child_extends g round x l in
    let p = get_or (parents g (suc round)) x 0 in
    let h = signal_long g round p (parent_below g round x l) in
    ap (take round) e.is ∙ take-append-le round (signal_at g round p) (e.seen ∷ []) (omega (arith, h))
    ∙ take_all round (signal_at g round p) (omega (arith, h))
