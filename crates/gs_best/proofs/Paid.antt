-- What the first best plan is paid, of both players.
use Rattle.std.proofs.{Common.{◌≡◌, ℕ, zero, suc, ◌<◌, ◌≤◌, refl, ap, ◌∙◌, arith}, lemmas.Int.{ints}}
use Rattle.std.specs.Prelude.{ℤ, pos, neg_ℤ, ◌*ℤ◌, ◌≤ℤ◌}
use Rattle.gs_model.specs.{BestAnswers.{IsFirstBestPlan, spread, start_sum}, Classes.{ClassLists, IsClasses}, Frame.{Frame}}
use Rattle.gs_model.specs.{FrameFacts.{InRange, IsExchanged, IsWalked}, Lossless.{IsLossless}, Payoff.{raw_payoff}, Plans.{Plan, lift}}
use Rattle.gs_model.proofs.BestPaid.{first_best_paid, second_best_paid}
use Rattle.gs_best.specs.Answers.{IsPaidMost}

-- once a total is 1, times it is the number itself
by_one : (n : ℕ) (z : ℤ) → n ≡ 1 → z ≡ pos n *ℤ z
by_one n z e = let m = ap (λ k. pos k *ℤ z) e in omega (arith, ints, m)

neg_by_one : (n : ℕ) (paid z : ℤ) → n ≡ 1 → paid ≡ neg_ℤ z → neg_ℤ paid ≡ pos n *ℤ z
neg_by_one n paid z e is = let m = by_one n z e in omega (arith, ints, m, is)

neg_at_most : (a b : ℤ) → neg_ℤ b ≤ℤ a → neg_ℤ a ≤ℤ b
neg_at_most a b l = omega (arith, ints, l)

module _ (f : Frame) (r : InRange f) (lists : ClassLists) (k : IsClasses f.parents lists) (g : IsLossless f lists) (ex : IsExchanged f 1) where
  -- the first best plan is paid its total times the best total, and no raw plan is paid more
  pub first_is_paid : (player : ℕ) → 0 < player → player ≤ 2 → IsWalked f player → (x y : Plan) → IsFirstBestPlan f lists player (lift f lists y) x
      → IsPaidMost f lists player (lift f lists y) (lift f lists x)
  first_is_paid zero some two w x y b = absurd (omega arith)
  first_is_paid (suc zero) some two w x y b =
      let paid = first_best_paid f lists y x r w k g b in
      let best = start_sum f (spread f lists b.values) in
      record {
        best = best;
        is_best = record { values = b.values; move = b.move; best = b.best; total_is = refl };
        none_more = paid.2;
        is_plan = paid.0;
        exactly = paid.1 ∙ by_one x.total best b.one;
      }
  first_is_paid (suc (suc zero)) some two w x y b =
      let paid = second_best_paid f lists y x r w ex k g b in
      let best = start_sum f (spread f lists b.values) in
      record {
        best = best;
        is_best = record { values = b.values; move = b.move; best = b.best; total_is = refl };
        none_more = λ z plan. neg_at_most (raw_payoff f (lift f lists y) z) (pos z.total *ℤ best) (paid.2 z plan);
        is_plan = paid.0;
        exactly = neg_by_one x.total (raw_payoff f (lift f lists y) (lift f lists x)) best b.one paid.1;
      }
  first_is_paid (suc (suc (suc player))) some two w x y b = absurd (omega arith)
