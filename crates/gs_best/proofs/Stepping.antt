-- One step of the induction backwards: the class totals of a point from those of all later points.
use Rattle.std.proofs.Common.{◌≡◌, ℕ, ◌+◌, ◌<◌, ◌≤◌, List, refl, arith}
use Rattle.std.specs.Prelude.{ℤ, pos}
use Rattle.gs_model.specs.{BestAnswers.{Values}, Classes.{ClassLists}, Frame.{Frame, leads_to, move_count, point_count, round_of}}
use Rattle.gs_model.specs.{FrameFacts.{IsFrom, IsWalked}, Plans.{Plan}, Positions.{Target, at_end, at_point}}
use Rattle.gs_best.specs.{Rows.{IsMerged}, Tables.{moves_of}, ClassTotals.{AreBestTotals, IsFollowed, total_worth}}
use Rattle.gs_best.specs.Places.{AreBestFrom, IsFollowedFrom, totals_of}
use Rattle.gs_best.proofs.{BackSteps.{IsSetAt, best_back, later_on}, Gathered.{gathered_same}}

-- no point is known yet
pub none_followed : (f : Frame) (lists : ClassLists) (player : ℕ) (v : Values) (move : ℕ → ℕ → ℕ) (from : ℕ) → point_count f ≤ from
    → IsFollowedFrom f lists player v move from
none_followed f lists player v move from h = record {
  in_range = λ q c lo l. absurd (omega arith);
  reached = λ q c lo l. absurd (omega arith);
  at_others = λ q c lo l. absurd (omega arith);
}

-- and at last all are
pub all_followed : (f : Frame) (lists : ClassLists) (player : ℕ) (y : Plan) (values : List ℤ) (move : ℕ → ℕ → ℕ)
    → IsFollowedFrom f lists player (totals_of f lists player y values) move 0 → IsFollowed f lists player y (totals_of f lists player y values) move
all_followed f lists player y values move h = record {
  at_ends = λ z c l lc. refl;
  in_range = λ q c. h.in_range q c (omega arith);
  reached = λ q c. h.reached q c (omega arith);
  at_others = λ q c. h.at_others q c (omega arith);
}

-- and from any point on
pub from_some : (f : Frame) (lists : ClassLists) (player : ℕ) (y : Plan) (v : Values) (move : ℕ → ℕ → ℕ) (from : ℕ) → IsFollowed f lists player y v move
    → IsFollowedFrom f lists player v move from
from_some f lists player y v move from h = record {
  in_range = λ q c lo. h.in_range q c;
  reached = λ q c lo. h.reached q c;
  at_others = λ q c lo. h.at_others q c;
}

pub all_best : (f : Frame) (lists : ClassLists) (player : ℕ) (y : Plan) (values : List ℤ) (move : ℕ → ℕ → ℕ)
    → AreBestFrom f lists player (totals_of f lists player y values) move 0 → AreBestTotals f lists player y (totals_of f lists player y values) move
all_best f lists player y values move h = record {
  followed = all_followed f lists player y values move h.followed;
  greatest = record {
    none_more = λ q m c. h.greatest.none_more q m c (omega arith);
    none_before = λ q m c. h.greatest.none_before q m c (omega arith);
  };
}

module _ (f : Frame) (lists : ClassLists) (player : ℕ) (w : IsWalked f player) (y : Plan) (q : ℕ) (lq : q < point_count f) (row old new : List ℤ)
    (set : IsSetAt (pos 0) f lists q row old new) where
  same_value : (t : Target) (c : ℕ) → IsFrom (q + 1) t → totals_of f lists player y new t c ≡ totals_of f lists player y old t c
  same_value (at_point p) c lo = set.later p c lo
  same_value (at_end z) c lo = refl

  same_worth : (p m c : ℕ) → q ≤ p → p < point_count f → m < move_count f p
      → total_worth f lists (totals_of f lists player y new) p m c ≡ total_worth f lists (totals_of f lists player y old) p m c
  same_worth p m c lo lp lm = gathered_same f lists (round_of f (leads_to f p m)) (round_of f (at_point p)) _ _ c
      (λ k lk. same_value (leads_to f p m) k (later_on q p lo (leads_to f p m) (w.later p m lp lm)))

  -- by the first greatest
  pub step_best : (moves picks new_picks : List ℕ) → IsSetAt 0 f lists q moves picks new_picks
      → IsMerged f lists player (total_worth f lists (totals_of f lists player y old)) q row moves
      → AreBestFrom f lists player (totals_of f lists player y old) (moves_of f lists picks) (q + 1)
      → AreBestFrom f lists player (totals_of f lists player y new) (moves_of f lists new_picks) q
  step_best moves picks new_picks moved m h =
      let both =
      best_back f lists player q lq (totals_of f lists player y old) (totals_of f lists player y new) (moves_of f lists picks) (moves_of f lists new_picks) row
      set.later set.here same_worth moved.later moves moved.here m h.followed h.greatest in
      record { followed = both.0; greatest = both.1 }
