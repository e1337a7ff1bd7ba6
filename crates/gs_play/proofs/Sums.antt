-- The sum of what all moves are worth at a point of the other's: as small as a class total, since it would be one.
use Rattle.std.proofs.{Common.{◌≡◌, ◌≢◌, ℕ, ◌+◌, ◌<◌, ◌≤◌, cond, refl, sym, ap, ◌∙◌, subst, arith, ⊎_elim}, lemmas.Bool.{cases_eq}}
use Rattle.std.specs.Prelude.{◌==◌, ℤ, pos, unsigned_abs}
use Rattle.std.proofs.lemmas.Bool.Decides.{Decides-eqb}
use Rattle.gs_model.specs.{BestAnswers.{Values}, Classes.{ClassLists, IsClass, classes_in}, FrameFacts.{IsFrom, IsWalked}, Positions.{Target, at_end, at_point}}
use Rattle.gs_model.specs.{Frame.{Frame, choices_at, end_count, leads_to, move_count, player_at, point_count, round_of}, Sums.{sum_z}}
use Rattle.gs_model.proofs.{Basics.{not_eq}, Total.{sum_z-same}}
use Rattle.gs_best.proofs.Ranges.{sum_same}
use Rattle.gs_best.specs.{ClassTotals.{earlier_class, total_worth}, Places.{IsFollowedFrom}}
use Rattle.gs_play.specs.Tallies.{AreSmallAt}

module _ (f : Frame) (lists : ClassLists) (player : ℕ) (walked : IsWalked f player) (v : Values) (move : ℕ → ℕ → ℕ) (q : ℕ) (lq : q < point_count f)
    (other : player_at f q ≢ player) (followed : IsFollowedFrom f lists player v move (q + 1)) where
  -- the table with the sums at the point
  abbrev over : Values
  over (at_point p) c = cond (p == q) (sum_z (λ m. total_worth f lists v q m c) (choices_at f q)) (v (at_point p) c)
  over (at_end z) c = v (at_end z) c

  later_same : (t : Target) (p : ℕ) → q ≤ p → IsFrom (p + 1) t → (k : ℕ) → over t k ≡ v t k
  later_same (at_point r) p lo i k =
      ap (λ b. cond b (sum_z (λ m. total_worth f lists v q m k) (choices_at f q)) (v (at_point r) k)) (not_eq r q (omega (arith, lo, i)))
  later_same (at_end z) p lo i k = refl

  worth_same : (p m c : ℕ) → p < point_count f → q ≤ p → m < move_count f p → total_worth f lists over p m c ≡ total_worth f lists v p m c
  worth_same p m c lp lo lm =
      let t = leads_to f p m in
      let above = λ (k : ℕ). earlier_class f lists (round_of f t) (round_of f (at_point p)) k in
      sum_z-same (λ k. cond (above k == c) (over t k) (pos 0)) (λ k. cond (above k == c) (v t k) (pos 0))
      (λ k. ap (λ x. cond (above k == c) x (pos 0)) (later_same t p lo (walked.later p m lp lm) k)) (classes_in lists (round_of f t))

  here : (c : ℕ) → over (at_point q) c ≡ sum_z (λ m. total_worth f lists v q m c) (choices_at f q)
  here c = ap (λ b. cond b (sum_z (λ m. total_worth f lists v q m c) (choices_at f q)) (v (at_point q) c)) ((Decides-eqb q q).1 refl)

  behind : (p c : ℕ) → p ≢ q → over (at_point p) c ≡ v (at_point p) c
  behind p c n = ap (λ b. cond b (sum_z (λ m. total_worth f lists v q m c) (choices_at f q)) (v (at_point p) c)) (not_eq p q n)

  sums_same : (p c : ℕ) → p < point_count f → q ≤ p
      → sum_z (λ m. total_worth f lists over p m c) (choices_at f p) ≡ sum_z (λ m. total_worth f lists v p m c) (choices_at f p)
  sums_same p c lp lo = sum_same (λ m. total_worth f lists over p m c) (λ m. total_worth f lists v p m c) 0 (move_count f p)
      (λ m low hi. worth_same p m c lp lo (omega (arith, hi)))

  over_followed : IsFollowedFrom f lists player over move q
  over_followed = record {
    in_range = λ p c lo lp own lc. followed.in_range p c (past p lo own) lp own lc;
    reached = λ p c lo lp own lc.
        behind p c (λ e. other (ap (player_at f) (sym e) ∙ own))
        ∙ followed.reached p c (past p lo own) lp own lc
        ∙ sym (worth_same p (move p c) c lp lo (followed.in_range p c (past p lo own) lp own lc));
    at_others = λ p c lo lp his lc. ⊎_elim
        (λ (e : p ≡ q). subst (λ i. over (at_point i) c ≡ sum_z (λ m. total_worth f lists over i m c) (choices_at f i)) (sym e)
        (here c ∙ sym (sums_same q c lq (omega arith))))
        (λ (n : p ≡ q → ⊥). behind p c n ∙ followed.at_others p c (omega (arith, lo, n)) lp his lc ∙ sym (sums_same p c lp lo))
        (cases_eq p q);
  }
    where
      past : (p : ℕ) → q ≤ p → player_at f p ≡ player → q + 1 ≤ p
      past p lo own = ⊎_elim
          (λ (e : p ≡ q). absurd (other (ap (player_at f) (sym e) ∙ own)))
          (λ (n : p ≡ q → ⊥). omega (arith, lo, n))
          (cases_eq p q)

  pub sum_few : (ends : ℕ → ℕ → ℤ) (most : ℕ) → AreSmallAt f lists player ends most
      → ((z e : ℕ) → z < end_count f → IsClass lists (round_of f (at_end z)) e → v (at_end z) e ≡ ends z e)
      → (c : ℕ) → IsClass lists (round_of f (at_point q)) c → unsigned_abs (sum_z (λ m. total_worth f lists v q m c) (choices_at f q)) ≤ most
  sum_few ends most few at_ends c lc = subst (λ x. unsigned_abs x ≤ most) (here c)
      (few.totals over move q at_ends over_followed (at_point q) c lq (omega arith) lc)
