-- Turns taken at once: while both answers stay, so many turns add so many times both answers.
use Rattle.std.proofs.Common.{◌≡◌, ℕ, zero, suc, ◌+◌, ◌<◌, ◌≤◌, refl, sym, subst, arith}
use Rattle.gs_model.specs.{Classes.{ClassLists}, Frame.{Frame, other_player}, Plans.{Plan}, Play.{IsFictitiousPlay, IsPlanSum}, BestAnswers.{IsFirstBestPlan}}
use Rattle.gs_play.specs.PlanSums.{ArePlansAlike}
use Rattle.gs_play.proofs.SumLaws.{plus_times}
use Rattle.gs_model.specs.Plans.{lift}

-- after fewer than `times` turns, each of which adds `more` to the other's plan y, the answer is still the first best one
abbrev pub AnswerStays : Frame → ClassLists → ℕ → Plan → Plan → Plan → ℕ → Type 0
AnswerStays f lists player y more answer times =
    (k : ℕ) (z : Plan) → k < times → ArePlansAlike f lists (other_player player) z (plus_times y k more)
    → IsFirstBestPlan f lists player (lift f lists z) answer

alike_itself : (f : Frame) (lists : ClassLists) (player : ℕ) (x : Plan) → ArePlansAlike f lists player x x
alike_itself f lists player x = record { total = refl; numbers = λ q c m l own h lm. refl }

one_more : (f : Frame) (lists : ClassLists) (player : ℕ) (x b z : Plan) (j : ℕ) → ArePlansAlike f lists player z (plus_times x (suc j) b)
    → IsPlanSum f lists player (plus_times x j b) b z
one_more f lists player x b z j a = record {
  total = omega (arith, a.total);
  numbers = λ q c m l own h lm. omega (arith, a.numbers q c m l own h lm);
}

first_more : (f : Frame) (lists : ClassLists) (player : ℕ) (x b z : Plan) → ArePlansAlike f lists player z (plus_times x 1 b) → IsPlanSum f lists player x b z
first_more f lists player x b z a = record {
  total = omega (arith, a.total);
  numbers = λ q c m l own h lm. omega (arith, a.numbers q c m l own h lm);
}

alike_first : (f : Frame) (lists : ClassLists) (player : ℕ) (x b : Plan) → ArePlansAlike f lists player x (plus_times x 0 b)
alike_first f lists player x b = record { total = omega arith; numbers = λ q c m l own h lm. omega arith }

module _ (f : Frame) (lists : ClassLists) (n times : ℕ) (x y bx by : Plan) (played : IsFictitiousPlay f lists n x y)
    (first : AnswerStays f lists 1 y by bx times) (second : AnswerStays f lists 2 x bx by times) where
  jumps : (j : ℕ) (x' y' : Plan) → suc j ≤ times → ArePlansAlike f lists 1 x' (plus_times x (suc j) bx) → ArePlansAlike f lists 2 y' (plus_times y (suc j) by)
      → IsFictitiousPlay f lists (n + suc j) x' y'
  jumps zero x' y' l a b =
      let e : suc n ≡ n + 1 = omega arith in
      subst (λ m. IsFictitiousPlay f lists m x' y') e (
        x,
        y,
        bx,
        by,
        played,
        first 0 y (omega arith) (alike_first f lists 2 y by),
        second 0 x (omega arith) (alike_first f lists 1 x bx),
        first_more f lists 1 x bx x' a,
        first_more f lists 2 y by y' b,
      )
  jumps (suc j) x' y' l a b =
      let e : suc (n + suc j) ≡ n + suc (suc j) = omega arith in
      let xj = plus_times x (suc j) bx in
      let yj = plus_times y (suc j) by in
      let before = jumps j xj yj (omega arith) (alike_itself f lists 1 xj) (alike_itself f lists 2 yj) in
      subst (λ m. IsFictitiousPlay f lists m x' y') e (
        xj,
        yj,
        bx,
        by,
        before,
        first (suc j) yj (omega arith) (alike_itself f lists 2 yj),
        second (suc j) xj (omega arith) (alike_itself f lists 1 xj),
        one_more f lists 1 x bx x' (suc j) a,
        one_more f lists 2 y by y' (suc j) b,
      )

  -- so many turns at once
  pub jump : (x' y' : Plan) → 0 < times → ArePlansAlike f lists 1 x' (plus_times x times bx) → ArePlansAlike f lists 2 y' (plus_times y times by)
      → IsFictitiousPlay f lists (n + times) x' y'
  jump x' y' some a b = by_last times refl
    where
      by_last : (t : ℕ) → t ≡ times → IsFictitiousPlay f lists (n + times) x' y'
      by_last zero e = absurd (omega arith)
      by_last (suc j) e =
          subst (λ t. IsFictitiousPlay f lists (n + t) x' y') e
          (jumps j x' y' (omega arith) (subst (λ t. ArePlansAlike f lists 1 x' (plus_times x t bx)) (sym e) a)
          (subst (λ t. ArePlansAlike f lists 2 y' (plus_times y t by)) (sym e) b))
