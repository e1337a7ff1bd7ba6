-- The signals of a board, one after another.
use Rattle.std.proofs.Common.{◌≡◌, ◌+◌, ◌-◌, ◌<◌, ◌≤◌, ◌∙◌, ℕ, zero, suc, Bool, true, false, cond, List, [], ◌∷◌, ◌++◌, append_assoc, append-nil, get_or, length, map}
use Rattle.std.proofs.{Common.{sym, ap, arith, ⊎_elim}, lemmas.Bool.{cases_lt}}
use Rattle.std.specs.{Prelude.{filter}, List.{range_with_len}}
use Rattle.gs_model.specs.{Game.{Game, round_count}, Signals.{signal_at}}
use Rattle.gs_model.proofs.Basics.{range_step, range_end}
use Rattle.gs_tree.specs.{Boards.{AreBoards, signals_on}, Walk.{last_count, shows_same}}
use Rattle.gs_tree.proofs.Same.{public_alike}

-- places that a test refuses are passed over
passed : (p : ℕ → Bool) (n a d : ℕ) → ((k : ℕ) → a ≤ k → k < a + d → k < n → p k ≡ false)
    → filter p (range_with_len a (n - a)) ≡ filter p (range_with_len (a + d) (n - (a + d)))
passed p n a zero h = let e : a ≡ a + 0 = omega arith in ap (λ k. filter p (range_with_len k (n - k))) e
passed p n a (suc d) h = ⊎_elim
    (λ (l : a < n).
    let rest : List ℕ = filter p (range_with_len (a + 1) (n - (a + 1))) in
    let e : a + 1 + d ≡ a + suc d = omega arith in
    ap (filter p) (range_step a n l) ∙ ap (λ b. cond b (a ∷ rest) rest) (h a (omega arith) (omega arith) l)
    ∙ passed p n (a + 1) d (λ k lo hi in'. h k (omega arith) (omega arith) in') ∙ ap (λ k. filter p (range_with_len k (n - k))) e)
    (λ (l : n ≤ a). ap (filter p) (range_end a n l ∙ sym (range_end (a + suc d) n (omega arith))))
    (cases_lt a n)

-- a place that a test takes
taken : (p : ℕ → Bool) (n a : ℕ) → a < n → p a ≡ true → filter p (range_with_len a (n - a)) ≡ a ∷ filter p (range_with_len (a + 1) (n - (a + 1)))
taken p n a l e =
    let rest : List ℕ = filter p (range_with_len (a + 1) (n - (a + 1))) in
    ap (filter p) (range_step a n l) ∙ ap (λ b. cond b (a ∷ rest) rest) e

-- what a board makes of its signals up to one of them, and what is left
pub record IsOnChain {X : Type 0} (g : Game) (h : ℕ → X) (first signal : ℕ) (row : List X) : Type 0 where
  same : signal < last_count g → shows_same g first signal ≡ true
  rest : row ++ map h (filter (shows_same g first) (range_with_len signal (last_count g - signal))) ≡ map h (signals_on g first)

module _ {X : Type 0} (g : Game) (h : ℕ → X) (firsts nexts : List ℕ) (boards : AreBoards g firsts nexts) where
  -- the first signal of the board
  pub chain_start : (first : ℕ) → first < last_count g → IsOnChain g h first (get_or firsts first 0) []
  chain_start first l =
      let n : ℕ = last_count g in
      let s : ℕ = get_or firsts first 0 in
      let p : ℕ → Bool = shows_same g first in
      let whole : n - 0 ≡ n = omega arith in
      let at : 0 + s ≡ s = omega arith in
      record {
        same = λ _. boards.first_same first l;
        rest = ap (λ xs. map h xs)
            (ap (λ k. filter p (range_with_len k (n - k))) (sym at)
            ∙ sym (passed p n 0 s (λ k lo hi in'. boards.none_before first k l (omega arith)))
            ∙ ap (λ k. filter p (range_with_len 0 k)) whole);
      }

  -- the next one
  pub chain_more : (first signal : ℕ) (row : List X) → signal < last_count g → IsOnChain g h first signal row
      → IsOnChain g h first (get_or nexts signal 0) (row ++ h signal ∷ [])
  chain_more first signal row m on =
      let n : ℕ = last_count g in
      let t : ℕ = get_or nexts signal 0 in
      let p : ℕ → Bool = shows_same g first in
      let later : signal < t = boards.next_later signal m in
      let here : p signal ≡ true = on.same m in
      let alike = λ (k : ℕ). public_alike (signal_at g (round_count g) first) (signal_at g (round_count g) signal) (signal_at g (round_count g) k) here in
      let at : signal + 1 + (t - (signal + 1)) ≡ t = omega arith in
      let left : filter p (range_with_len signal (n - signal)) ≡ signal ∷ filter p (range_with_len t (n - t)) =
      taken p n signal m here
      ∙ ap (λ xs. signal ∷ xs) (passed p n (signal + 1) (t - (signal + 1)) (λ k lo hi in'. alike k
      ∙ boards.none_between signal k m (omega arith) (omega arith) in')
      ∙ ap (λ k. filter p (range_with_len k (n - k))) at) in
      record {
        same = λ in'. alike t ∙ boards.next_same signal m in';
        rest = append_assoc row (h signal ∷ []) (map h (filter p (range_with_len t (n - t)))) ∙ ap (λ xs. row ++ map h xs) (sym left) ∙ on.rest;
      }

-- all
pub chain_end : {X : Type 0} (g : Game) (h : ℕ → X) (first signal : ℕ) (row : List X) → last_count g ≤ signal → IsOnChain g h first signal row
    → row ≡ map h (signals_on g first)
chain_end g h first signal row l on =
    sym (ap (λ xs. row ++ map h (filter (shows_same g first) xs)) (range_end signal (last_count g) l) ∙ append-nil row) ∙ on.rest

-- the next signal is nearer to the end
pub chain_smaller : (g : Game) {firsts nexts : List ℕ} → AreBoards g firsts nexts → (s : ℕ) → s < length nexts
    → length nexts - get_or nexts s 0 < length nexts - s
chain_smaller g boards s l = omega (arith, l, boards.next_later s (omega (arith, l, boards.nexts_long)))
