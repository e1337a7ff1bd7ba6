-- What is settled behind a point bounds what the moves of the point are worth, so that their lines can be read.
use Rattle.std.proofs.{Common.{◌≡◌, ◌≢◌, ℕ, ◌+◌, ◌*◌, ◌^◌, ◌<◌, ◌≤◌, List, refl, ap, ◌∙◌, subst, arith}, Math.Nat.{mul-le-mul_left}}
use Rattle.std.specs.Prelude.{ℤ, pos, ◌+ℤ◌, ◌-ℤ◌, ◌*ℤ◌, unsigned_abs}
use Rattle.std.proofs.lemmas.Int.{ints, unsigned_abs-mul}
use borrow.Author.Differences.{abs_is}
use Rattle.gs_model.specs.{BestAnswers.{Values}, Classes.{ClassLists, IsClass}, FrameFacts.{IsWalked}, Positions.{at_end, at_point}, Sums.{sum_z}}
use Rattle.gs_model.specs.Frame.{Frame, choices_at, end_count, move_count, player_at, point_count, round_of}
use Rattle.gs_model.proofs.Total.{sum_z-add, sum_z-mul, sum_z-same}
use Rattle.gs_best.specs.{ClassTotals.{total_worth}, Places.{IsFollowedFrom}}
use Rattle.gs_play.specs.{Jumps.{line}, Tables.{AreSettledUntil}, Tallies.{AreSmallAtEnds, slopes_of, zeros_of}, declared.line.Line.{Line}}
use Rattle.gs_play.proofs.{JumpLaws.{tables_after, worth_line}, Settled.{other_value, own_value}, Sums.{sum_few}}

-- where a slope and the value of now are small, so is the line in turn 0
pub line_few : (at slope : ℤ) (now : ℕ) → unsigned_abs slope ≤ 2 ^ 38 → unsigned_abs (line at slope now) ≤ 2 ^ 58 → now ≤ 2 ^ 20 → unsigned_abs at ≤ 2 ^ 59
line_few at slope now s v few =
    let n : now * unsigned_abs slope ≤ now * 2 ^ 38 = mul-le-mul_left now s in
    let r = unsigned_abs-mul (pos now) slope in
    omega (arith, ints, r, abs_is (pos now), abs_is at, abs_is (pos now *ℤ slope), abs_is (line at slope now), n, v, few)

back : (x s : ℤ) (now : ℕ) → line (x -ℤ pos now *ℤ s) s now ≡ x
back x s now = omega (arith, ints)

module _ (f : Frame) (lists : ClassLists) (player : ℕ) (pays rise : ℕ → ℕ → ℤ) (now : ℕ) (soon : now ≤ 2 ^ 20) (few : AreSmallAtEnds f lists player pays rise)
    (totals : List Line) (pick due : ℕ → ℕ → ℕ) (q : ℕ) (lq : q < point_count f) where
  abbrev Z : Values
  Z = zeros_of f lists pays rise now totals

  abbrev S : Values
  S = slopes_of f lists rise totals

  abbrev T : Values
  T = tables_after Z S now

  module _ (all : AreSettledUntil f lists player Z S pick due now)
      (late : (p c : ℕ) → q < p → p < point_count f → IsClass lists (round_of f (at_point p)) c → now < due p c) where
    slopes_from : IsFollowedFrom f lists player S pick (q + 1)
    slopes_from = record {
      in_range = λ p c lo lp own lc. ((all p c lp lc (late p c (omega (arith, lo)) lp lc)).own own).in_range;
      reached = λ p c lo lp own lc. ((all p c lp lc (late p c (omega (arith, lo)) lp lc)).own own).slope_is;
      at_others = λ p c lo lp other lc. ((all p c lp lc (late p c (omega (arith, lo)) lp lc)).others other).slope_is;
    }

    values_from : IsFollowedFrom f lists player T pick (q + 1)
    values_from = record {
      in_range = λ p c lo lp own lc. ((all p c lp lc (late p c (omega (arith, lo)) lp lc)).own own).in_range;
      reached = λ p c lo lp own lc. (let l = late p c (omega (arith, lo)) lp lc in own_value f lists Z S p c (pick p c) now (due p c)
          ((all p c lp lc l).own own) now);
      at_others = λ p c lo lp other lc. (let l = late p c (omega (arith, lo)) lp lc in other_value f lists Z S p c ((all p c lp lc l).others other) now);
    }

    ends_now : (z e : ℕ) → z < end_count f → IsClass lists (round_of f (at_end z)) e → T (at_end z) e ≡ pays z e
    ends_now z e lz le = back (pays z e) (rise z e) now

    pub slope_few : (m c : ℕ) → m < move_count f q → IsClass lists (round_of f (at_point q)) c → unsigned_abs (total_worth f lists S q m c) ≤ 2 ^ 38
    slope_few m c lm lc = few.slopes.worths S pick (q + 1) (λ z e lz le. refl) slopes_from q m c lq (omega arith) lm lc

    pub zero_few : (m c : ℕ) → m < move_count f q → IsClass lists (round_of f (at_point q)) c → unsigned_abs (total_worth f lists Z q m c) ≤ 2 ^ 59
    zero_few m c lm lc =
        let v = few.values.worths T pick (q + 1) ends_now values_from q m c lq (omega arith) lm lc in
        let value : unsigned_abs (line (total_worth f lists Z q m c) (total_worth f lists S q m c) now) ≤ 2 ^ 58 =
        subst (λ x. unsigned_abs x ≤ 2 ^ 58) (worth_line f lists Z S now q m c) v in
        line_few (total_worth f lists Z q m c) (total_worth f lists S q m c) now (slope_few m c lm lc) value soon

    module _ (walked : IsWalked f player) (other : player_at f q ≢ player) (c : ℕ) (lc : IsClass lists (round_of f (at_point q)) c) where
      abbrev all_of : Values → ℤ
      all_of v = sum_z (λ m. total_worth f lists v q m c) (choices_at f q)

      pub slopes_few : unsigned_abs (all_of S) ≤ 2 ^ 38
      slopes_few = sum_few f lists player walked S pick q lq other slopes_from rise (2 ^ 38) few.slopes (λ z e lz le. refl) c lc

      sum_line : all_of T ≡ line (all_of Z) (all_of S) now
      sum_line =
          let a = λ (m : ℕ). total_worth f lists Z q m c in
          let s = λ (m : ℕ). total_worth f lists S q m c in
          sum_z-same (λ m. total_worth f lists T q m c) (λ m. a m +ℤ pos now *ℤ s m) (λ m. worth_line f lists Z S now q m c) (choices_at f q)
          ∙ sum_z-add a (λ m. pos now *ℤ s m) (choices_at f q)
          ∙ ap (λ x. sum_z a (choices_at f q) +ℤ x) (sum_z-mul (pos now) s (choices_at f q))

      pub zeros_few : unsigned_abs (all_of Z) ≤ 2 ^ 59
      zeros_few =
          let v = sum_few f lists player walked T pick q lq other values_from pays (2 ^ 58) few.values ends_now c lc in
          line_few (all_of Z) (all_of S) now slopes_few (subst (λ x. unsigned_abs x ≤ 2 ^ 58) sum_line v) soon
