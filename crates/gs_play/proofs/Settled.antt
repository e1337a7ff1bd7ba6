-- Settled points and classes: where nothing below has changed nothing has to be looked at, and as long as all are settled the totals are best.
use Rattle.std.proofs.{Common.{◌≡◌, ℕ, ◌+◌, ◌<◌, ◌≤◌, Bool, true, false, cond, refl, sym, ap, ◌∙◌, arith}, lemmas.Bool.Decides.{Decides-eqb}, lemmas.Int.{ints}}
use Rattle.std.specs.Prelude.{◌==◌, ℤ, pos, ◌+ℤ◌, ◌*ℤ◌}
use Rattle.gs_model.specs.{BestAnswers.{Values}, Classes.{ClassLists, IsClass, class_count}, Plans.{Plan}, Positions.{at_end, at_point}, Sums.{sum_z}}
use Rattle.gs_model.specs.Frame.{Frame, choices_at, leads_to, move_count, player_at, point_count, round_of}
use Rattle.gs_model.proofs.Total.{sum_z-add, sum_z-mul, sum_z-same}
use Rattle.gs_seq.specs.Payoffs.{end_sum}
use Rattle.gs_best.specs.{Rows.{IsFirstGreatest}, ClassTotals.{AreBestTotals, earlier_class, gathered_below, total_worth}}
use Rattle.gs_best.proofs.Ranges.{sum_same}
use Rattle.gs_play.specs.{Jumps.{line}, Tables.{IsOtherSettled, IsOwnSettled, IsLineSettled, worth_in}}
use Rattle.gs_play.proofs.{JumpLaws.{tables_after, worth_line}, SumLaws.{ArePaid, end_plus, plus_times}, Turning.{line_on}}

-- the lines of all points and classes are known, and need no look, in the turns from one on up to another
abbrev pub AreLinesSettled : Frame → ClassLists → ℕ → Values → Values → (ℕ → ℕ → ℕ) → ℕ → ℕ → Type 0
AreLinesSettled f lists player at slope move now until =
    (q c : ℕ) → q < point_count f → IsClass lists (round_of f (at_point q)) c → IsLineSettled f lists player at slope q c (move q c) now until

-- two tables agree on what a point and class is made of: on the classes below it where each move leads, and on itself
pub record AgreeUnder (f : Frame) (lists : ClassLists) (v w : Values) (q c : ℕ) : Type 0 where
  pub here : w (at_point q) c ≡ v (at_point q) c
  pub below : (m k : ℕ) → m < move_count f q → IsClass lists (round_of f (leads_to f q m)) k
      → earlier_class f lists (round_of f (leads_to f q m)) (round_of f (at_point q)) k ≡ c → w (leads_to f q m) k ≡ v (leads_to f q m) k

-- ---- fewer turns

pub settled_less : (f : Frame) (lists : ClassLists) (player : ℕ) (at slope : Values) (q c place now until later less : ℕ) → now ≤ later → less ≤ until
    → IsLineSettled f lists player at slope q c place now until → IsLineSettled f lists player at slope q c place later less
settled_less f lists player at slope q c place now until later less l u h = record {
  own = λ own. let o = h.own own in record {
    in_range = o.in_range;
    at_is = o.at_is;
    slope_is = o.slope_is;
    first = λ t lo hi. o.first t (omega (arith, lo, l)) (omega (arith, hi, u));
  };
  others = h.others;
}

-- ---- what has not changed below

below_term : (a c : ℕ) (x y : ℤ) → (a ≡ c → x ≡ y) → cond (a == c) x (pos 0) ≡ cond (a == c) y (pos 0)
below_term a c x y h = by (a == c) refl
  where
    by : (b : Bool) → (a == c) ≡ b → cond b x (pos 0) ≡ cond b y (pos 0)
    by true e = h ((Decides-eqb a c).0 e)
    by false e = refl

pub gathered_same : (f : Frame) (lists : ClassLists) (from to : ℕ) (v w : ℕ → ℤ) (c : ℕ)
    → ((k : ℕ) → IsClass lists from k → earlier_class f lists from to k ≡ c → w k ≡ v k)
    → gathered_below f lists from to w c ≡ gathered_below f lists from to v c
gathered_same f lists from to v w c h =
    sum_same (λ k. cond (earlier_class f lists from to k == c) (w k) (pos 0)) (λ k. cond (earlier_class f lists from to k == c) (v k) (pos 0)) 1
    (class_count lists from)
    (λ k lo hi. below_term (earlier_class f lists from to k) c (w k) (v k) (λ e. h k (omega arith, omega arith) e))

pub worth_below : (f : Frame) (lists : ClassLists) (v w : Values) (q c m : ℕ) → AgreeUnder f lists v w q c → m < move_count f q
    → total_worth f lists w q m c ≡ total_worth f lists v q m c
worth_below f lists v w q c m h lm =
    gathered_same f lists (round_of f (leads_to f q m)) (round_of f (at_point q)) (v (leads_to f q m)) (w (leads_to f q m)) c (λ k lk e. h.below m k lm lk e)

-- the first greatest of the same numbers
first_same : (u v : ℕ → ℤ) (n place : ℕ) → ((m : ℕ) → m < n → v m ≡ u m) → IsFirstGreatest u n (u place) place → IsFirstGreatest v n (v place) place
first_same u v n place same h =
    let here = same place h.in_range in
    record {
      in_range = h.in_range;
      reached = refl;
      none_more = λ m lm. let a = h.none_more m lm in let e = same m lm in omega (arith, ints, a, e, here);
      none_before = λ m lm. let a = h.none_before m lm in let e = same m (omega (arith, lm, h.in_range)) in omega (arith, ints, a, e, here);
    }

-- a point and class needs no look where nothing below it and nothing of it has changed
pub stays_settled : (f : Frame) (lists : ClassLists) (player : ℕ) (at slope at' slope' : Values) (q c place now until : ℕ)
    → AgreeUnder f lists at at' q c → AgreeUnder f lists slope slope' q c
    → IsLineSettled f lists player at slope q c place now until → IsLineSettled f lists player at' slope' q c place now until
stays_settled f lists player at slope at' slope' q c place now until a s h =
    let wa : (m : ℕ) → m < move_count f q → total_worth f lists at' q m c ≡ total_worth f lists at q m c = λ m lm. worth_below f lists at at' q c m a lm in
    let ws : (m : ℕ) → m < move_count f q → total_worth f lists slope' q m c ≡ total_worth f lists slope q m c =
    λ m lm. worth_below f lists slope slope' q c m s lm in
    record {
      own = λ own. let o = h.own own in record {
        in_range = o.in_range;
        at_is = a.here ∙ o.at_is ∙ sym (wa place o.in_range);
        slope_is = s.here ∙ o.slope_is ∙ sym (ws place o.in_range);
        first = λ t lo hi. first_same (worth_in f lists at slope q c t) (worth_in f lists at' slope' q c t) (move_count f q) place
            (λ m lm. ap (λ x. line x (total_worth f lists slope' q m c) t) (wa m lm) ∙ ap (λ x. line (total_worth f lists at q m c) x t) (ws m lm))
            (o.first t lo hi);
      };
      others = λ other. let o = h.others other in record {
        at_is = a.here ∙ o.at_is ∙ sym (sum_same (λ m. total_worth f lists at' q m c) (λ m. total_worth f lists at q m c) 0 (move_count f q)
            (λ m lo hi. wa m (omega arith)));
        slope_is = s.here ∙ o.slope_is ∙ sym (sum_same (λ m. total_worth f lists slope' q m c) (λ m. total_worth f lists slope q m c) 0 (move_count f q)
            (λ m lo hi. ws m (omega arith)));
      };
    }

-- ---- as long as all are settled

-- in any turn a settled own class has what its move is worth
pub own_value : (f : Frame) (lists : ClassLists) (at slope : Values) (q c place now until : ℕ) → IsOwnSettled f lists at slope q c place now until
    → (t : ℕ) → tables_after at slope t (at_point q) c ≡ total_worth f lists (tables_after at slope t) q place c
own_value f lists at slope q c place now until o t =
    ap (λ x. line x (slope (at_point q) c) t) o.at_is ∙ ap (λ x. line (total_worth f lists at q place c) x t) o.slope_is
    ∙ sym (worth_line f lists at slope t q place c)

-- and a class of the other's the sum over all moves
pub other_value : (f : Frame) (lists : ClassLists) (at slope : Values) (q c : ℕ) → IsOtherSettled f lists at slope q c
    → (t : ℕ) → tables_after at slope t (at_point q) c ≡ sum_z (λ m. total_worth f lists (tables_after at slope t) q m c) (choices_at f q)
other_value f lists at slope q c o t =
    let a = λ (m : ℕ). total_worth f lists at q m c in
    let s = λ (m : ℕ). total_worth f lists slope q m c in
    ap (λ x. line x (slope (at_point q) c) t) o.at_is
    ∙ ap (λ x. line (sum_z a (choices_at f q)) x t) o.slope_is
    ∙ sym
    (sum_z-same (λ m. total_worth f lists (tables_after at slope t) q m c) (λ m. a m +ℤ pos t *ℤ s m) (λ m. worth_line f lists at slope t q m c)
    (choices_at f q)
    ∙ sum_z-add a (λ m. pos t *ℤ s m) (choices_at f q)
    ∙ ap (λ x. sum_z a (choices_at f q) +ℤ x) (sum_z-mul (pos t) s (choices_at f q)))

module _ (f : Frame) (lists : ClassLists) (player : ℕ) (y b : Plan) (at slope : Values) (move : ℕ → ℕ → ℕ) (now until : ℕ)
    (paid : ArePaid f lists player y b at slope now) (all : AreLinesSettled f lists player at slope move now until) where
  -- after so many turns, in each of which b is added to the other's plan, the lines are the best totals, by the same moves
  pub best_after : (k : ℕ) → now + k < until → AreBestTotals f lists player (plus_times y k b) (tables_after at slope (now + k)) move
  best_after k soon =
      let t = now + k in
      let worth : (q c m : ℕ) → total_worth f lists (tables_after at slope t) q m c ≡ worth_in f lists at slope q c t m =
      λ q c m. worth_line f lists at slope t q m c in
      let chosen : (q c : ℕ) → q < point_count f → player_at f q ≡ player → IsClass lists (round_of f (at_point q)) c
      → tables_after at slope t (at_point q) c ≡ worth_in f lists at slope q c t (move q c) = λ q c lq own lc.
      own_value f lists at slope q c (move q c) now until ((all q c lq lc).own own) t ∙ worth q c (move q c) in
      record {
        followed = record {
          at_ends = λ z c lz lc.
              sym (line_on (at (at_end z) c) (slope (at_end z) c) now k)
              ∙ ap (λ x. line x (slope (at_end z) c) k) (paid.so_far z c lz lc)
              ∙ ap (λ x. line (end_sum f lists player y z c) x k) (paid.each z c lz lc)
              ∙ sym (end_plus f lists player y b k z c);
          in_range = λ q c lq own lc. ((all q c lq lc).own own).in_range;
          reached = λ q c lq own lc. own_value f lists at slope q c (move q c) now until ((all q c lq lc).own own) t;
          at_others = λ q c lq other lc. other_value f lists at slope q c ((all q c lq lc).others other) t;
        };
        greatest = record {
          none_more = λ q m c lq own lm lc.
              let h = (((all q c lq lc).own own).first t (omega arith) soon).none_more m lm in
              let e = worth q c m in
              let g = chosen q c lq own lc in
              omega (arith, ints, h, e, g);
          none_before = λ q m c lq own lc lm.
              let h = (((all q c lq lc).own own).first t (omega arith) soon).none_before m lm in
              let e = worth q c m in
              let g = chosen q c lq own lc in
              omega (arith, ints, h, e, g);
        };
      }
