-- Ranks in ascending numbers; ranks on a board tell outcomes where each bonus is 1, and strengths do everywhere.
use Rattle.std.proofs.Common.{◌≡◌, ◌+◌, ◌<◌, ◌≤◌, ◌∙◌, ℕ, ℤ, zero, suc, Bool, true, false, cond, nat_lt, List, [], ◌∷◌, get_or, length, map, pos, neg_ℤ, refl}
use Rattle.std.proofs.{Common.{sym, ap, subst, arith, ⊎_elim}, lemmas.List.Sums.{sum_by-cons}}
use Rattle.std.proofs.{lemmas.Bool.{cases_lt, lt-ltb, ltb-true}, lemmas.List.{get_or-map, length-map}, lemmas.List.Sorted.{sum_by-IsPermutation}}
use Rattle.std.specs.{Prelude.{filter, slice_index}, List.{All, range_with_len}, List.Sorted.{IsNonDecreasing, IsPermutation}}
use Rattle.gs_model.specs.{Game.{Game, Ranking, round_count}, Outcome.{IsBonus, categories, category, outcome}, Signals.{signal_at, signals}}
use Rattle.gs_model.specs.ViewTree.{signal_outcome, signal_strength}
use Rattle.gs_tree.specs.Walk.{last_count, shows_same}
use Rattle.gs_tree.proofs.Same.{public_self}
use Rattle.gs_lossless.specs.{Boards.{PaysOnce, level_of, smaller, strengths_of, strengths_on}, Rivals.{paid_once}}
use Rattle.gs_lossless.proofs.{Seats.{one_board, shown_back}, Taken.{but, taken_out}}

-- ---- counts of smaller numbers

is_less : (a b : ℕ) → a < b → nat_lt a b ≡ true
is_less a b l = lt-ltb a b l

is_not : (a b : ℕ) → b ≤ a → nat_lt a b ≡ false
is_not a b l = go (nat_lt a b) refl
  where
    go : (t : Bool) → nat_lt a b ≡ t → nat_lt a b ≡ false
    go false e = e
    go true e = absurd (omega (arith, ltb-true a b e, l))

one_more : (x a b : ℕ) → a ≤ b → cond (nat_lt x a) 1 0 ≤ cond (nat_lt x b) 1 0
one_more x a b l = ⊎_elim
    (λ (s : x < a).
    let p : cond (nat_lt x a) 1 0 ≡ 1 = ap {B = ℕ} (λ t. cond t 1 0) (is_less x a s) in
    let q : cond (nat_lt x b) 1 0 ≡ 1 = ap {B = ℕ} (λ t. cond t 1 0) (is_less x b (omega (arith, s, l))) in omega (arith, p, q))
    (λ (s : a ≤ x). let p : cond (nat_lt x a) 1 0 ≡ 0 = ap {B = ℕ} (λ t. cond t 1 0) (is_not x a s) in omega (arith, p))
    (cases_lt x a)

smaller_up : (xs : List ℕ) (a b : ℕ) → a ≤ b → smaller a xs ≤ smaller b xs
smaller_up [] a b l = omega arith
smaller_up (x ∷ xs) a b l =
    let p = sum_by-cons (λ (y : ℕ). cond (nat_lt y a) 1 0) x xs in
    let q = sum_by-cons (λ (y : ℕ). cond (nat_lt y b) 1 0) x xs in
    omega (arith, p, q, smaller_up xs a b l, one_more x a b l)

-- a number of the list is counted below a greater one
smaller_more : (xs ys : List ℕ) (a b : ℕ) → IsPermutation xs (a ∷ ys) → a < b → smaller a xs < smaller b xs
smaller_more xs ys a b h l =
    let p = sum_by-IsPermutation (λ (x : ℕ). cond (nat_lt x a) 1 0) xs (a ∷ ys) h in
    let q = sum_by-IsPermutation (λ (x : ℕ). cond (nat_lt x b) 1 0) xs (a ∷ ys) h in
    let pa = sum_by-cons (λ (x : ℕ). cond (nat_lt x a) 1 0) a ys in
    let qa = sum_by-cons (λ (x : ℕ). cond (nat_lt x b) 1 0) a ys in
    let none : cond (nat_lt a a) 1 0 ≡ 0 = ap {B = ℕ} (λ t. cond t 1 0) (is_not a a (omega arith)) in
    let one : cond (nat_lt a b) 1 0 ≡ 1 = ap {B = ℕ} (λ t. cond t 1 0) (is_less a b l) in
    omega (arith, p, q, pa, qa, none, one, smaller_up ys a b (omega (arith, l)))

-- the counts are ordered as the numbers are
counts_tell : (xs ys : List ℕ) (a b : ℕ) → IsPermutation xs (a ∷ ys) → nat_lt (smaller a xs) (smaller b xs) ≡ nat_lt a b
counts_tell xs ys a b h = ⊎_elim
    (λ (l : a < b). is_less (smaller a xs) (smaller b xs) (smaller_more xs ys a b h l) ∙ sym (is_less a b l))
    (λ (l : b ≤ a). is_not (smaller a xs) (smaller b xs) (smaller_up xs b a l) ∙ sym (is_not a b l))
    (cases_lt a b)

-- ---- ranks in ascending numbers

none_smaller : (xs : List ℕ) (a : ℕ) → ((k : ℕ) → k < length xs → a ≤ get_or xs k 0) → smaller a xs ≡ 0
none_smaller [] a h = refl
none_smaller (x ∷ xs) a h =
    let p = sum_by-cons (λ (y : ℕ). cond (nat_lt y a) 1 0) x xs in
    let q : cond (nat_lt x a) 1 0 ≡ 0 = ap {B = ℕ} (λ t. cond t 1 0) (is_not x a (h 0 (omega arith))) in
    omega (arith, p, q, none_smaller xs a (λ k l. h (suc k) (omega arith)))

-- those that are smaller stand first
first_smaller : (n : ℕ) (xs : List ℕ) (a : ℕ) → n ≤ length xs → ((k : ℕ) → k < n → get_or xs k 0 < a) → ((k : ℕ) → n ≤ k → k < length xs → a ≤ get_or xs k 0)
    → smaller a xs ≡ n
first_smaller zero xs a l lo hi = none_smaller xs a (λ k m. hi k (omega arith) m)
first_smaller (suc n) [] a l lo hi = absurd (omega arith)
first_smaller (suc n) (x ∷ xs) a l lo hi =
    let p = sum_by-cons (λ (y : ℕ). cond (nat_lt y a) 1 0) x xs in
    let q : cond (nat_lt x a) 1 0 ≡ 1 = ap {B = ℕ} (λ t. cond t 1 0) (is_less x a (lo 0 (omega arith))) in
    omega (arith, p, q, first_smaller n xs a (omega arith) (λ k m. lo (suc k) (omega arith)) (λ k m e. hi (suc k) (omega arith) (omega arith)))

-- the last of the first numbers, and its rank
pub record IsRanked (xs : List ℕ) (n : ℕ) (rank above : ℕ) : Type 0 where
  pub rank_is : rank ≡ smaller above xs
  pub below : (k : ℕ) → k < n → get_or xs k 0 ≤ above
  pub rest : (k : ℕ) → n ≤ k → k < length xs → above ≤ get_or xs k 0

pub ranked_none : (xs : List ℕ) → IsRanked xs 0 0 0
ranked_none xs = record { rank_is = sym (none_smaller xs 0 (λ k l. omega arith)); below = λ k l. absurd (omega arith); rest = λ k m l. omega arith }

module _ (xs : List ℕ) (up : IsNonDecreasing xs) (n : ℕ) (l : n < length xs) (rank above : ℕ) (h : IsRanked xs n rank above) where
  -- a greater number
  pub ranked_above : above < get_or xs n 0 → IsRanked xs (n + 1) n (get_or xs n 0)
  ranked_above more =
      let s : ℕ = get_or xs n 0 in
      let is : n ≡ smaller s xs = sym (first_smaller n xs s (omega (arith, l)) (λ k m. let b = h.below k m in
      omega (arith, b, more)) (λ k m e. up n k 0 m e)) in
      record { rank_is = is; below = λ k m. up k n 0 (omega (arith, m)) l; rest = λ k m e. up n k 0 (omega (arith, m)) e }

  -- the same number
  pub ranked_again : get_or xs n 0 ≤ above → IsRanked xs (n + 1) rank (get_or xs n 0)
  ranked_again less =
      let s : ℕ = get_or xs n 0 in
      let there : above ≤ s = h.rest n (omega arith) l in
      let same : above ≡ s = omega (arith, less, there) in
      record {
        rank_is = h.rank_is ∙ ap (λ a. smaller a xs) same;
        below = λ k m. up k n 0 (omega (arith, m)) l;
        rest = λ k m e. up n k 0 (omega (arith, m)) e;
      }

-- ---- outcomes

outcome_once : (bonus : List ℕ) (r : Ranking) (a b : ℕ) → slice_index bonus (category r a) ≡ 1 → slice_index bonus (category r b) ≡ 1
    → outcome bonus r a b ≡ paid_once a b
outcome_once bonus r a b e f =
    ap (λ (n : ℕ). cond (nat_lt b a) (pos n) (cond (nat_lt a b) (neg_ℤ (pos (slice_index bonus (category r b)))) (pos 0))) e
    ∙ ap (λ (n : ℕ). cond (nat_lt b a) (pos 1) (cond (nat_lt a b) (neg_ℤ (pos n)) (pos 0))) f

-- levels tell the outcomes of the signals on a board
pub record TellOutcomes (g : Game) (level : ℕ → ℕ) : Type 0 where
  pub pays : ℕ → ℕ → ℤ
  pub paid : (i k : ℕ) → i < last_count g → k < last_count g → shows_same g i k ≡ true
      → signal_outcome g (signal_at g (round_count g) i) (signal_at g (round_count g) k) ≡ pays (level i) (level k)

module _ (g : Game) where
  pub strength_at : (i : ℕ) → i < last_count g → slice_index (strengths_of g) i ≡ signal_strength g (signal_at g (round_count g) i)
  strength_at i l = get_or-map (signal_strength g) (signals g (round_count g)) i [] 0 l

  -- the outcome of two signals where each bonus is 1
  pub told_once : PaysOnce g → (i k : ℕ) → i < last_count g → k < last_count g
      → signal_outcome g (signal_at g (round_count g) i) (signal_at g (round_count g) k)
      ≡ paid_once (slice_index (strengths_of g) i) (slice_index (strengths_of g) k)
  told_once once i k l m =
      outcome_once g.bonus g.ranking (signal_strength g (signal_at g (round_count g) i)) (signal_strength g (signal_at g (round_count g) k))
      (once i l) (once k m)
      ∙ ap (λ (x : ℕ). paid_once x (signal_strength g (signal_at g (round_count g) k))) (sym (strength_at i l))
      ∙ ap (paid_once (slice_index (strengths_of g) i)) (sym (strength_at k m))

  -- two signals on a board
  ranks_tell : (i k : ℕ) → i < last_count g → shows_same g i k ≡ true → nat_lt (level_of g true i) (level_of g true k)
      ≡ nat_lt (slice_index (strengths_of g) i) (slice_index (strengths_of g) k)
  ranks_tell i k l same =
      let h : ℕ → ℕ = slice_index (strengths_of g) in
      let xs : List ℕ = strengths_on g i in
      let moved = taken_out (shows_same g i) h i 0 (last_count g) (public_self (signal_at g (round_count g) i)) (omega arith) (omega (arith, l)) in
      let there : strengths_on g k ≡ xs = ap (map h) (one_board g k i (shown_back g i k same)) in
      ap (λ (ys : List ℕ). nat_lt (smaller (h i) xs) (smaller (h k) ys)) there
      ∙ counts_tell xs (map h (filter (but (shows_same g i) i) (range_with_len 0 (last_count g)))) (h i) (h k) moved

  pub tell : (by_rank : Bool) → (by_rank ≡ true → PaysOnce g) → TellOutcomes g (level_of g by_rank)
  tell false once = record {
    pays = outcome g.bonus g.ranking;
    paid = λ i k l m same. ap (λ (a : ℕ). outcome g.bonus g.ranking a (signal_strength g (signal_at g (round_count g) k))) (sym (strength_at i l))
        ∙ ap (outcome g.bonus g.ranking (slice_index (strengths_of g) i)) (sym (strength_at k m));
  }
  tell true pays = record {
    pays = paid_once;
    paid = λ i k l m same.
        let a : ℕ = slice_index (strengths_of g) i in
        let b : ℕ = slice_index (strengths_of g) k in
        let up : nat_lt b a ≡ nat_lt (level_of g true k) (level_of g true i) = sym (ranks_tell k i m (shown_back g i k same)) in
        let down : nat_lt a b ≡ nat_lt (level_of g true i) (level_of g true k) = sym (ranks_tell i k l same) in
        told_once (pays refl) i k l m
        ∙ ap (λ (t : Bool). cond t (pos 1) (cond (nat_lt a b) (neg_ℤ (pos 1)) (pos 0))) up
        ∙ ap (λ (t : Bool). cond (nat_lt (level_of g true k) (level_of g true i)) (pos 1) (cond t (neg_ℤ (pos 1)) (pos 0))) down;
  }

  -- each signal's category has the bonus 1
  pub once_is : (bonus strengths : List ℕ) → bonus ≡ g.bonus → ((k : ℕ) → k < length bonus → slice_index bonus k ≡ 1) → IsBonus g.ranking g.bonus
      → All (λ s. category g.ranking s < categories g.ranking) strengths → strengths ≡ strengths_of g → PaysOnce g
  once_is bonus strengths e ones h strong ranked i l =
      let s : ℕ = signal_strength g (signal_at g (round_count g) i) in
      let at : get_or strengths i 0 ≡ s = ap (λ (xs : List ℕ). get_or xs i 0) ranked ∙ strength_at i l in
      let long : length strengths ≡ last_count g = ap (λ (xs : List ℕ). length xs) ranked ∙ length-map (signals g (round_count g)) (signal_strength g) in
      let in' : category g.ranking s < categories g.ranking = subst (λ (x : ℕ). category g.ranking x
      < categories g.ranking) at (strong i 0 (omega (arith, l, long))) in
      let span : length bonus ≡ length g.bonus = ap (λ (xs : List ℕ). length xs) e in
      ap (λ (xs : List ℕ). slice_index xs (category g.ranking s)) (sym e) ∙ ones (category g.ranking s) (omega (arith, in', span, h.each))
