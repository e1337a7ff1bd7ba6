-- The first greatest and the sum of some numbers, one more at a time; and so for the worths of a point's moves, class by class.
use Rattle.std.proofs.Common.{◌≡◌, ℕ, ◌+◌, ◌<◌, ◌≤◌, ◌^◌, Bool, true, false, cond, List, get_or, ◌-◌, refl, sym, ap, ◌∙◌, subst, arith, true≢false, ⊎_elim}
use Rattle.std.proofs.{lemmas.Bool.{cases_eq}, lemmas.Bool.Decides.{Decides-eqb}, lemmas.Int.{ints}, Math.IntN.{+ℤ_idl}}
use Rattle.std.specs.{Prelude.{◌==◌, ◌||◌, ℤ, pos, ◌+ℤ◌, ◌≤ℤ◌, ◌<ℤ◌, int_lt, unsigned_abs}, List.{range_with_len}}
use Rattle.gs_model.specs.{Classes.{ClassLists, IsClass, class_count}, Frame.{Frame, move_count, round_of}, Positions.{at_point}, Sums.{sum_z}}
use Rattle.gs_model.proofs.Sparse.{abs_sum}
use Rattle.gs_seq.proofs.EndTotals.{range_more}
use Rattle.gs_best.specs.{Rows.{AreWorthsAdded, AreGreatest, AreRaised, AreSums, AreWorths, IsFirstGreatest, IsMerged, Worths, raises}, Tables.{classes_at}}

less_is : (a b : ℤ) → int_lt a b ≡ true → a <ℤ b
less_is a b h = grind (arith, ints)

less_not : (a b : ℤ) → int_lt a b ≡ false → b ≤ℤ a
less_not a b h = grind (arith, ints)

first_one : (W : ℕ → ℤ) (n : ℕ) → n ≡ 0 → IsFirstGreatest W (n + 1) (W n) n
first_one W n e = record {
  in_range = omega arith;
  reached = refl;
  none_more = λ m l. let s : m ≡ n = omega arith in let k = ap W s in omega (arith, ints, k);
  none_before = λ m l. absurd (omega arith);
}

new_best : (W : ℕ → ℤ) (n : ℕ) (b : ℤ) (p : ℕ) → IsFirstGreatest W n b p → b <ℤ W n → IsFirstGreatest W (n + 1) (W n) n
new_best W n b p h l = record {
  in_range = omega arith;
  reached = refl;
  none_more = λ m lm. ⊎_elim
      (λ (same : m ≡ n). let k = ap W same in omega (arith, ints, k))
      (λ (other : m ≡ n → ⊥). let k = h.none_more m (omega arith) in omega (arith, ints, k, l))
      (cases_eq m n);
  none_before = λ m lm. let k = h.none_more m lm in omega (arith, ints, k, l);
}

old_best : (W : ℕ → ℤ) (n : ℕ) (b : ℤ) (p : ℕ) → IsFirstGreatest W n b p → W n ≤ℤ b → IsFirstGreatest W (n + 1) b p
old_best W n b p h l = record {
  in_range = (let i = h.in_range in omega arith);
  reached = h.reached;
  none_more = λ m lm. ⊎_elim
      (λ (same : m ≡ n). let k = ap W same in omega (arith, ints, k, l))
      (λ (other : m ≡ n → ⊥). h.none_more m (omega arith))
      (cases_eq m n);
  none_before = h.none_before;
}

pub greatest_more : (W : ℕ → ℤ) (n : ℕ) (b : ℤ) (p : ℕ) → (0 < n → IsFirstGreatest W n b p)
    → IsFirstGreatest W (n + 1) (cond (raises n b (W n)) (W n) b) (cond (raises n b (W n)) n p)
greatest_more W n b p h = by (n == 0) (int_lt b (W n)) refl refl
  where
    by : (first : Bool) (less : Bool) → (n == 0) ≡ first → int_lt b (W n) ≡ less
        → IsFirstGreatest W (n + 1) (cond (first || less) (W n) b) (cond (first || less) n p)
    by true less e f = first_one W n ((Decides-eqb n 0).0 e)
    by false true e f = new_best W n b p (h (some e)) (less_is b (W n) f)
      where
        some : (n == 0) ≡ false → 0 < n
        some e = ⊎_elim (λ (z : n ≡ 0). absurd (true≢false (sym ((Decides-eqb n 0).1 z) ∙ e))) (λ (z : n ≡ 0 → ⊥). omega arith) (cases_eq n 0)
    by false false e f = old_best W n b p (h (some e)) (less_not b (W n) f)
      where
        some : (n == 0) ≡ false → 0 < n
        some e = ⊎_elim (λ (z : n ≡ 0). absurd (true≢false (sym ((Decides-eqb n 0).1 z) ∙ e))) (λ (z : n ≡ 0 → ⊥). omega arith) (cases_eq n 0)

sum_one : (W : ℕ → ℤ) (n : ℕ) (b : ℤ) → (0 < n → b ≡ sum_z W (range_with_len 0 n)) → cond (n == 0) (W n) (b +ℤ W n) ≡ sum_z W (range_with_len 0 (n + 1))
sum_one W n b h = by (n == 0) refl
  where
    at : 0 + n ≡ n
    at = omega arith

    by : (first : Bool) → (n == 0) ≡ first → cond first (W n) (b +ℤ W n) ≡ sum_z W (range_with_len 0 (n + 1))
    by true e =
        let z : n ≡ 0 = (Decides-eqb n 0).0 e in
        sym (range_more W 0 n ∙ ap (λ k. sum_z W (range_with_len 0 k) +ℤ W (0 + n)) z ∙ +ℤ_idl (W (0 + n)) ∙ ap W at)
    by false e =
        let some : 0 < n = ⊎_elim (λ (z : n ≡ 0). absurd (true≢false (sym ((Decides-eqb n 0).1 z) ∙ e))) (λ (z : n ≡ 0 → ⊥). omega arith) (cases_eq n 0) in
        ap (λ z. z +ℤ W n) (h some) ∙ ap (λ k. sum_z W (range_with_len 0 n) +ℤ W k) (sym at) ∙ sym (range_more W 0 n)

module _ (f : Frame) (lists : ClassLists) (worth : Worths) (q n count : ℕ) (all : count
    ≡ class_count lists (round_of f (at_point q))) (worths : List ℤ) (new : AreWorths f lists worth q n worths) where
  -- one more move, of which the greatest is sought
  pub greatest_step : (old_best new_best : List ℤ) (old_moves new_moves : List ℕ) → AreRaised count n worths old_best new_best old_moves new_moves
      → (0 < n → AreGreatest f lists worth q n old_best old_moves) → AreGreatest f lists worth q (n + 1) new_best new_moves
  greatest_step old_best new_best old_moves new_moves r h c lc =
      let W : ℕ → ℤ = λ m. worth q m c in
      let k = c - 1 in
      let l : k < count = omega (arith, lc.0, lc.1, all) in
      let b = get_or old_best k (pos 0) in
      let p = get_or old_moves k 0 in
      let w = new c lc in
      let value = r.best k l ∙ ap (λ z. cond (raises n b z) z b) w in
      let place = r.moves k l ∙ ap (λ z. cond (raises n b z) n p) w in
      subst (λ x. IsFirstGreatest W (n + 1) x (get_or new_moves k 0)) (sym value)
      (subst (λ x. IsFirstGreatest W (n + 1) (cond (raises n b (W n)) (W n) b) x) (sym place) (greatest_more W n b p (λ some. h some c lc)))

  -- the sum of the worths so far and one more worth is no large number
  pub sum_fits : (old : List ℤ) (most more : ℕ) → most + more < 2 ^ 127 → AreSums f lists worth q n old
      → ((c : ℕ) → IsClass lists (round_of f (at_point q)) c → unsigned_abs (sum_z (λ m. worth q m c) (range_with_len 0 n)) ≤ most)
      → ((c : ℕ) → IsClass lists (round_of f (at_point q)) c → unsigned_abs (worth q n c) ≤ more) → (k : ℕ) → k < count
      → unsigned_abs (get_or old k (pos 0) +ℤ get_or worths k (pos 0)) < 2 ^ 127
  sum_fits old most more fits sums a b k l =
      let class : IsClass lists (round_of f (at_point q)) (k + 1) = (omega arith, omega (arith, l, all)) in
      let at : k + 1 - 1 ≡ k = omega arith in
      let sum_is = ap (λ i. get_or old i (pos 0)) (sym at) ∙ sums (k + 1) class in
      let worth_is = ap (λ i. get_or worths i (pos 0)) (sym at) ∙ new (k + 1) class in
      omega (
        arith,
        fits,
        a (k + 1) class,
        b (k + 1) class,
        ap unsigned_abs sum_is,
        ap unsigned_abs worth_is,
        abs_sum (get_or old k (pos 0)) (get_or worths k (pos 0)),
      )

  -- one more move that is added
  pub sum_step : (old new_sums : List ℤ) → AreWorthsAdded count n worths old new_sums → (0 < n → AreSums f lists worth q n old)
      → AreSums f lists worth q (n + 1) new_sums
  sum_step old new_sums r h c lc =
      let W : ℕ → ℤ = λ m. worth q m c in
      let k = c - 1 in
      let l : k < count = omega (arith, lc.0, lc.1, all) in
      let b = get_or old k (pos 0) in
      r k l ∙ ap (λ z. cond (n == 0) z (b +ℤ z)) (new c lc) ∙ sum_one W n b (λ some. h some c lc)

-- rows that agree at the classes of a point
pub merged_rows : (f : Frame) (lists : ClassLists) (player : ℕ) (worth : Worths) (q : ℕ) (best best' : List ℤ) (moves moves' : List ℕ)
    → ((k : ℕ) → k < classes_at f lists q → get_or best' k (pos 0) ≡ get_or best k (pos 0))
    → ((k : ℕ) → k < classes_at f lists q → get_or moves' k 0 ≡ get_or moves k 0) → IsMerged f lists player worth q best moves
    → IsMerged f lists player worth q best' moves'
merged_rows f lists player worth q best best' moves moves' same_best same_moves h = record {
  own = λ own c lc.
      let in' : c - 1 < classes_at f lists q = omega (arith, lc.0, lc.1) in
      subst (λ v. IsFirstGreatest (λ m. worth q m c) (move_count f q) v (get_or moves' (c - 1) 0)) (sym (same_best (c - 1) in'))
      (subst (λ m. IsFirstGreatest (λ m. worth q m c) (move_count f q) (get_or best (c - 1) (pos 0)) m) (sym (same_moves (c - 1) in')) (h.own own c lc));
  others = λ other c lc. let in' : c - 1 < classes_at f lists q = omega (arith, lc.0, lc.1) in same_best (c - 1) in' ∙ h.others other c lc;
}
