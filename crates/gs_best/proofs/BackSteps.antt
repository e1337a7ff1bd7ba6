-- One step of the induction backwards: a point gets its row, and all later ones stay as they are.
use Rattle.std.proofs.Common.{◌≡◌, ◌≢◌, ℕ, ◌+◌, ◌-◌, ◌<◌, ◌≤◌, ◌++◌, List, drop, get_or, length, sym, ap, ◌∙◌, subst, arith, ⊎_elim}
use Rattle.std.proofs.{lemmas.Bool.{cases_eq}, lemmas.Int.{ints}, lemmas.List.{get_or-append_right, get_or_append_left, get_or-drop}}
use Rattle.std.specs.Prelude.{ℤ, pos, ◌≤ℤ◌, ◌<ℤ◌}
use Rattle.gs_model.specs.{BestAnswers.{Values}, Classes.{ClassLists, IsClass}, Frame.{Frame, choices_at, move_count, player_at, point_count, round_of}}
use Rattle.gs_model.specs.{FrameFacts.{IsFrom}, Positions.{Target, at_end, at_point}, Sums.{sum_z}}
use Rattle.gs_best.specs.{ClassTotals.{total_worth}, Places.{AreFirstFrom, IsFollowedFrom}, Rows.{AreSums, IsMerged}, Tables.{classes_at, start_of}}
use Rattle.gs_seq.proofs.SlotLaws.{sum_range_le, sum_range_more}
use Rattle.gs_best.proofs.Ranges.{sum_same}

-- what comes later than a point comes later than all points before it
pub later_on : (q p : ℕ) → q ≤ p → (t : Target) → IsFrom (p + 1) t → IsFrom (q + 1) t
later_on q p l (at_point n) h = omega arith
later_on q p l (at_end z) h = tt

-- a list with a row for each point: one point gets its row, and the rows of later points stay as they were
pub record IsSetAt {A : Type 0} (zero : A) (f : Frame) (lists : ClassLists) (q : ℕ) (row old new : List A) : Type 0 where
  pub here : (c : ℕ) → IsClass lists (round_of f (at_point q)) c → get_or new (start_of f lists q + (c - 1)) zero ≡ get_or row (c - 1) zero
  pub later : (p c : ℕ) → q + 1 ≤ p → get_or new (start_of f lists p + (c - 1)) zero ≡ get_or old (start_of f lists p + (c - 1)) zero

module _ {A : Type 0} (zero : A) (f : Frame) (lists : ClassLists) (q start from : ℕ) (at : start ≡ start_of f lists q)
    (next : from ≡ start_of f lists (q + 1)) where
  in_row : (new : List A) (c : ℕ) → get_or new (start_of f lists q + (c - 1)) zero ≡ get_or (drop start new) (c - 1) zero
  in_row new c =
      let e : start_of f lists q + (c - 1) ≡ start + (c - 1) = omega (arith, at) in
      ap (λ i. get_or new i zero) e ∙ sym (get_or-drop start new (c - 1) zero)

  behind : (p c : ℕ) → q + 1 ≤ p → from ≤ start_of f lists p + (c - 1)
  behind p c l = omega (arith, next, sum_range_le (classes_at f lists) (q + 1) p l)

  -- a list that changes before the next point's row
  pub set_before : (old new : List A) → ((i : ℕ) → from ≤ i → get_or new i zero ≡ get_or old i zero) → IsSetAt zero f lists q (drop start new) old new
  set_before old new kept = record { here = λ c lc. in_row new c; later = λ p c l. kept (start_of f lists p + (c - 1)) (behind p c l) }

  -- a list of which another part stands behind
  pub set_front : (old new rest : List A) → length old ≡ from → length new ≡ from → IsSetAt zero f lists q (drop start new) (old ++ rest) (new ++ rest)
  set_front old new rest long same = record {
    here = λ c lc.
        let inside : start_of f lists q + (c - 1) < length new = omega (arith, same, next, sum_range_more (classes_at f lists) q, lc.0, lc.1) in
        get_or_append_left new rest zero (start_of f lists q + (c - 1)) inside ∙ in_row new c;
    later = λ p c l.
        let i = start_of f lists p + (c - 1) in
        get_or-append_right new rest from i zero same (behind p c l) ∙ sym (get_or-append_right old rest from i zero long (behind p c l));
  }

module _ (f : Frame) (lists : ClassLists) (player q : ℕ) (lq : q < point_count f) (v v' : Values) (move move' : ℕ → ℕ → ℕ) (row : List ℤ)
    (value_later : (p c : ℕ) → q + 1 ≤ p → v' (at_point p) c ≡ v (at_point p) c)
    (value_here : (c : ℕ) → IsClass lists (round_of f (at_point q)) c → v' (at_point q) c ≡ get_or row (c - 1) (pos 0))
    (same_worth : (p m c : ℕ) → q ≤ p → p < point_count f → m < move_count f p → total_worth f lists v' p m c ≡ total_worth f lists v p m c)
    (kept : (p c : ℕ) → q + 1 ≤ p → move' p c ≡ move p c) where
  same_sum : (p c : ℕ) → q ≤ p → p < point_count f
      → sum_z (λ m. total_worth f lists v' p m c) (choices_at f p) ≡ sum_z (λ m. total_worth f lists v p m c) (choices_at f p)
  same_sum p c lo lp = sum_same (λ m. total_worth f lists v' p m c) (λ m. total_worth f lists v p m c) 0 (move_count f p)
      (λ m a b. same_worth p m c lo lp (omega arith))

  module _ (own_in : player_at f q ≡ player → (c : ℕ) → IsClass lists (round_of f (at_point q)) c → move' q c < move_count f q)
      (own_is : player_at f q ≡ player → (c : ℕ) → IsClass lists (round_of f (at_point q)) c
      → get_or row (c - 1) (pos 0) ≡ total_worth f lists v q (move' q c) c) where
    pub followed_back : (player_at f q ≢ player → AreSums f lists (total_worth f lists v) q (move_count f q) row) → IsFollowedFrom f lists player v move (q + 1)
        → IsFollowedFrom f lists player v' move' q
    followed_back sums h = record {
      in_range = λ p c lo lp. ⊎_elim
          (λ (same : p ≡ q). let P : ℕ → Type 0 = λ p. player_at f p ≡ player → IsClass lists (round_of f (at_point p)) c → move' p c < move_count f p in
          subst P (sym same) (λ own lc. own_in own c lc))
          (λ (other : p ≡ q → ⊥). λ own lc. let a = h.in_range p c (omega arith) lp own lc in
          subst (λ m. m < move_count f p) (sym (kept p c (omega arith))) a)
          (cases_eq p q);
      reached = λ p c lo lp. ⊎_elim
          (λ (same : p ≡ q). let P : ℕ → Type 0 = λ p. player_at f p ≡ player → IsClass lists (round_of f (at_point p)) c
          → v' (at_point p) c ≡ total_worth f lists v' p (move' p c) c in subst P (sym same)
          (λ own lc. value_here c lc ∙ own_is own c lc ∙ sym (same_worth q (move' q c) c (omega arith) lq (own_in own c lc))))
          (λ (other : p ≡ q → ⊥). λ own lc.
          let later : q + 1 ≤ p = omega arith in
          value_later p c later ∙ h.reached p c later lp own lc ∙ sym (same_worth p (move p c) c lo lp (h.in_range p c later lp own lc))
          ∙ ap (λ m. total_worth f lists v' p m c) (sym (kept p c later)))
          (cases_eq p q);
      at_others = λ p c lo lp. ⊎_elim
          (λ (same : p ≡ q). let P : ℕ → Type 0 = λ p. player_at f p ≢ player → IsClass lists (round_of f (at_point p)) c
          → v' (at_point p) c ≡ sum_z (λ m. total_worth f lists v' p m c) (choices_at f p) in subst P (sym same)
          (λ other lc. value_here c lc ∙ sums other c lc ∙ sym (same_sum q c (omega arith) lq)))
          (λ (not : p ≡ q → ⊥). λ other lc.
          let later : q + 1 ≤ p = omega arith in
          value_later p c later ∙ h.at_others p c later lp other lc ∙ sym (same_sum p c lo lp))
          (cases_eq p q);
    }

  first_back : ((m c : ℕ) → player_at f q ≡ player → m < move_count f q → IsClass lists (round_of f (at_point q)) c
      → total_worth f lists v q m c ≤ℤ get_or row (c - 1) (pos 0))
      → ((m c : ℕ) → player_at f q ≡ player → IsClass lists (round_of f (at_point q)) c → m < move' q c
      → (m < move_count f q) × (total_worth f lists v q m c <ℤ get_or row (c - 1) (pos 0)))
      → IsFollowedFrom f lists player v move (q + 1) → AreFirstFrom f lists player v move (q + 1) → AreFirstFrom f lists player v' move' q
  first_back more before g h = record {
    none_more = λ p m c lo lp. ⊎_elim
        (λ (same : p ≡ q). let P : ℕ → Type 0 = λ p. player_at f p ≡ player → m < move_count f p → IsClass lists (round_of f (at_point p)) c
        → total_worth f lists v' p m c ≤ℤ v' (at_point p) c in subst P (sym same)
        (λ own lm lc. let a = more m c own lm lc in let e = same_worth q m c (omega arith) lq lm in let g = value_here c lc in omega (arith, ints, a, e, g)))
        (λ (other : p ≡ q → ⊥). λ own lm lc.
        let later : q + 1 ≤ p = omega arith in
        let a = h.none_more p m c later lp own lm lc in let e = same_worth p m c lo lp lm in let g = value_later p c later in omega (arith, ints, a, e, g))
        (cases_eq p q);
    none_before = λ p m c lo lp. ⊎_elim
        (λ (same : p ≡ q). let P : ℕ → Type 0 = λ p. player_at f p ≡ player → IsClass lists (round_of f (at_point p)) c → m < move' p c
        → total_worth f lists v' p m c <ℤ v' (at_point p) c in subst P (sym same)
        (λ own lc lm. let a = before m c own lc lm in let b = a.1 in let e = same_worth q m c (omega arith) lq a.0 in let g = value_here c lc in
        omega (arith, ints, b, e, g)))
        (λ (other : p ≡ q → ⊥). λ own lc lm.
        let later : q + 1 ≤ p = omega arith in
        let lm' = subst (λ n. m < n) (kept p c later) lm in
        let inr = g.in_range p c later lp own lc in
        let a = h.none_before p m c later lp own lc lm' in let e = same_worth p m c lo lp (omega (arith, lm', inr)) in let k = value_later p c later in
        omega (arith, ints, a, e, k))
        (cases_eq p q);
  }

  -- by the first greatest
  pub best_back : (moves : List ℕ) → ((c : ℕ) → IsClass lists (round_of f (at_point q)) c → move' q c ≡ get_or moves (c - 1) 0)
      → IsMerged f lists player (total_worth f lists v) q row moves → IsFollowedFrom f lists player v move (q + 1) → AreFirstFrom f lists player v move (q + 1)
      → IsFollowedFrom f lists player v' move' q × AreFirstFrom f lists player v' move' q
  best_back moves is m followed first = (
    followed_back (λ own c lc. subst (λ n. n < move_count f q) (sym (is c lc)) (m.own own c lc).in_range) (λ own c lc. (m.own own c lc).reached
        ∙ ap (λ n. total_worth f lists v q n c) (sym (is c lc))) m.others followed,
    first_back (λ n c own lm lc. (m.own own c lc).none_more n lm)
        (λ n c own lc lm.
        let o = m.own own c lc in
        let lm' = subst (λ k. n < k) (is c lc) lm in
        let inr = o.in_range in
        (omega (arith, lm', inr), o.none_before n lm'))
        followed first,
  )
