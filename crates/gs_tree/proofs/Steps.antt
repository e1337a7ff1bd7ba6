-- Steps of the walk: pairs that are passed over weigh nothing.
use Rattle.std.proofs.Common.{◌≡◌, ⊎_elim, ℕ, zero, suc, ◌+◌, ◌-◌, ◌*◌, ◌%◌, ◌<◌, ◌≤◌, List, [], ◌∷◌, get_or, sym, ap, ◌∙◌, arith, true, false, cond, nat_lt}
use Rattle.std.proofs.{Common.{subst}, lemmas.Bool.{cases_lt, lt-ltb}, lemmas.Nat.{div-mul-add, mod-mul-add, mul-add-lt}}
use Rattle.gs_model.specs.{Deals.{Deal, path_weight, own_ways}, Game.{Game, round_count}, Signals.{signal_at, left_by}}
use Rattle.gs_model.proofs.Basics.{product_le}
use Rattle.gs_tree.specs.{Boards.{AreBoards}, Walk.{deal_at, deals_between, last_count, pair_at, pair_number, shows_same, IsOnWalk, IsRowStart, IsNextPair}}
use Rattle.gs_tree.proofs.{Pairs.{between_step, between_end}, Same.{public_alike}}

skip : (g : Game) (m from to : ℕ) → ((k : ℕ) → from ≤ k → k < from + m → (pair_at g k).weight ≡ 0) → deals_between g from to ≡ deals_between g (from + m) to
skip g zero from to h = let e : from ≡ from + zero = omega arith in ap (λ n. deals_between g n to) e
skip g (suc m) from to h = ⊎_elim
    (λ (l : from < to).
    let e : from + 1 + m ≡ from + suc m = omega arith in
    between_step g from to l
    ∙ ap (λ w. cond (nat_lt 0 w) (pair_at g from ∷ deals_between g (from + 1) to) (deals_between g (from + 1) to)) (h from (omega arith) (omega arith))
    ∙ skip g m (from + 1) to (λ k a b. h k (omega arith) (omega arith)) ∙ ap (λ n. deals_between g n to) e)
    (λ (l : to ≤ from). between_end g from to l ∙ sym (between_end g (from + suc m) to (omega arith)))
    (cases_lt from to)

-- pairs that weigh nothing may be passed over
pub pass : (g : Game) (from mid to : ℕ) → from ≤ mid → ((k : ℕ) → from ≤ k → k < mid → (pair_at g k).weight ≡ 0)
    → deals_between g from to ≡ deals_between g mid to
pass g from mid to l h =
    let e : from + (mid - from) ≡ mid = omega arith in
    skip g (mid - from) from to (λ k a b. h k a (omega arith)) ∙ ap (λ n. deals_between g n to) e

pair_is : (g : Game) (one two : ℕ) → two < last_count g → pair_at g (pair_number g one two) ≡ deal_at g one two
pair_is g one two l =
    let n : ℕ = last_count g in
    ap (λ r. deal_at g r (pair_number g one two % n)) (div-mul-add one n two l) ∙ ap (λ c. deal_at g one c) (mod-mul-add one n two l)

-- a pair that shows different public cards weighs nothing
apart : (g : Game) (one two k : ℕ) → two < last_count g → k ≡ pair_number g one two → shows_same g one two ≡ false → (pair_at g k).weight ≡ 0
apart g one two k l e h =
    let both : ℕ = path_weight g.copies (signal_at g (round_count g) one)
    * own_ways (left_by g.copies (signal_at g (round_count g) one)) (signal_at g (round_count g) two) in
    let weight : Deal → ℕ = λ d. d.weight in
    ap (λ j. weight (pair_at g j)) e ∙ ap weight (pair_is g one two l) ∙ ap (λ b. cond b both 0) h

alike : (g : Game) (one two k : ℕ) → shows_same g one two ≡ true → shows_same g one k ≡ shows_same g two k
alike g one two k h = public_alike (signal_at g (round_count g) one) (signal_at g (round_count g) two) (signal_at g (round_count g) k) h

pub row_start : (g : Game) (firsts nexts : List ℕ) (one two : ℕ) → AreBoards g firsts nexts → one < last_count g → two ≡ get_or firsts one 0
    → IsRowStart g one two
row_start g firsts nexts one two t l e =
    let P : ℕ → Type 0 = λ x. shows_same g one x ≡ true in
    record {
      start = record { end_in = omega arith; two_in = λ _. omega (arith, e, t.first_in one l); same = λ _. subst P (sym e) (t.first_same one l) };
      passes = λ end. pass g (one * last_count g) (pair_number g one two) end (omega arith)
          (λ k a b. apart g one (k - one * last_count g) k (omega (arith, e, t.first_in one l)) (omega arith)
          (t.none_before one (k - one * last_count g) l (omega (arith, e))));
    }

pub next_in_row : (g : Game) (firsts nexts : List ℕ) (one two next : ℕ) → AreBoards g firsts nexts → one < last_count g → two < last_count g
    → shows_same g one two ≡ true → next ≡ get_or nexts two 0 → next < last_count g → IsNextPair g one two one next
next_in_row g firsts nexts one two next t lo lt same e l =
    let P : ℕ → Type 0 = λ x. shows_same g two x ≡ true in
    let Q : ℕ → Type 0 = λ x. x < last_count g in
    record {
      on = record { end_in = omega arith; two_in = λ _. l; same = λ _. alike g one two next same ∙ subst P (sym e) (t.next_same two lt (subst Q e l)) };
      later = omega (arith, e, t.next_later two lt);
      passes = λ end. pass g (pair_number g one two + 1) (pair_number g one next) end (omega (arith, e, t.next_later two lt))
          (λ k a b. apart g one (k - one * last_count g) k (omega (arith, l)) (omega arith)
          (alike g one two (k - one * last_count g) same ∙ t.none_between two (k - one * last_count g) lt (omega arith) (omega (arith, e))
          (omega (arith, l))));
    }

pub next_row : (g : Game) (firsts nexts : List ℕ) (one two next other : ℕ) → AreBoards g firsts nexts → one < last_count g → two < last_count g
    → shows_same g one two ≡ true → next ≡ get_or nexts two 0 → last_count g ≤ next → IsRowStart g (one + 1) other → IsNextPair g one two (one + 1) other
next_row g firsts nexts one two next other t lo lt same e l r =
    let row : (one + 1) * last_count g ≡ one * last_count g + last_count g = omega arith in
    record {
      on = r.start;
      later = omega (arith, row);
      passes = λ end. pass g (pair_number g one two + 1) ((one + 1) * last_count g) end (omega (arith, row))
          (λ k a b. apart g one (k - one * last_count g) k (omega (arith, row)) (omega arith)
          (alike g one two (k - one * last_count g) same ∙ t.none_between two (k - one * last_count g) lt (omega arith) (omega (arith, e, row))
          (omega (arith, row))))
          ∙ r.passes end;
    }

pub walk_within : (g : Game) (one two end : ℕ) → end ≤ last_count g → IsOnWalk g one two (last_count g) → IsOnWalk g one two end
walk_within g one two end l w = record { end_in = l; two_in = λ m. w.two_in (omega arith); same = λ m. w.same (omega arith) }

-- one step of the walk
stepped : (g : Game) (one two next other end : ℕ) → one < end → two < last_count g → IsNextPair g one two next other →
    deals_between g (pair_number g one two) (end * last_count g) ≡ cond (nat_lt 0 (deal_at g one two).weight)
    (deal_at g one two ∷ deals_between g (pair_number g next other) (end * last_count g)) (deals_between g (pair_number g next other) (end * last_count g))
stepped g one two next other end lo lt h =
    let turn : end * last_count g ≡ last_count g * end = omega arith in
    let l : pair_number g one two < end * last_count g = omega (arith, turn, mul-add-lt one (last_count g) two end lo lt) in
    let weight : Deal → ℕ = λ d. d.weight in
    between_step g (pair_number g one two) (end * last_count g) l
    ∙ ap (λ r. cond (nat_lt 0 (pair_at g (pair_number g one two)).weight) (pair_at g (pair_number g one two) ∷ r) r) (h.passes (end * last_count g))
    ∙ ap (λ (d : Deal). cond (nat_lt 0 d.weight) (d ∷ deals_between g (pair_number g next other) (end * last_count g))
    (deals_between g (pair_number g next other) (end * last_count g))) (pair_is g one two lt)

pub step_some : (g : Game) (one two next other end : ℕ) (d : Deal) → one < end → two < last_count g → IsNextPair g one two next other → d ≡ deal_at g one two
    → 0 < d.weight → deals_between g (pair_number g one two) (end * last_count g) ≡ d ∷ deals_between g (pair_number g next other) (end * last_count g)
step_some g one two next other end d lo lt h e some =
    let rest = deals_between g (pair_number g next other) (end * last_count g) in
    stepped g one two next other end lo lt h ∙ ap (λ (x : Deal). cond (nat_lt 0 x.weight) (x ∷ rest) rest) (sym e)
    ∙ ap (λ b. cond b (d ∷ rest) rest) (lt-ltb 0 d.weight some)

pub step_none : (g : Game) (one two next other end : ℕ) (d : Deal) → one < end → two < last_count g → IsNextPair g one two next other → d ≡ deal_at g one two
    → d.weight ≤ 0 → deals_between g (pair_number g one two) (end * last_count g) ≡ deals_between g (pair_number g next other) (end * last_count g)
step_none g one two next other end d lo lt h e none =
    let rest = deals_between g (pair_number g next other) (end * last_count g) in
    let zero_is : d.weight ≡ 0 = omega (arith, none) in
    stepped g one two next other end lo lt h ∙ ap (λ (x : Deal). cond (nat_lt 0 x.weight) (x ∷ rest) rest) (sym e)
    ∙ ap (λ w. cond (nat_lt 0 w) (d ∷ rest) rest) zero_is

-- behind the last row nothing is left
pub walked : (g : Game) (one two end : ℕ) → end ≤ one → deals_between g (pair_number g one two) (end * last_count g) ≡ []
walked g one two end l =
    let rows : end * last_count g ≤ one * last_count g = product_le end (last_count g) one (last_count g) l (omega arith) in
    between_end g (pair_number g one two) (end * last_count g) (omega (arith, rows))
