-- What best answers are paid, as raw payoffs. First best plans are best answers, and so turns of fictitious play are turns of best answers.
use Rattle.std.proofs.{Common.{◌≡◌, ℕ, zero, suc, sym, ap, ◌∙◌, subst, arith}, lemmas.Int.{ints}}
use Rattle.std.specs.Prelude.{ℤ, pos, neg_ℤ, ◌*ℤ◌, ◌≤ℤ◌}
use Rattle.gs_model.proofs.{Basics.{neg-neg}, Best.{best_holds}, Deviations.{no_raw_plan_gains_more}, Exchange.{gain_exchange, raw_payoff_is_gain, neg_out}}
use Rattle.gs_model.proofs.{FirstBest.{first_best_lifts, first_best_reaches, puts_is_raw}, Gather.{class_in, firsts_from, holds_by, known_from}, Tables.{is_table}}
use Rattle.gs_model.specs.{BestAnswers.{IsFirstBestPlan}, Classes.{ClassLists, IsClasses, class_of}, Frame.{Frame, round_of}}
use Rattle.gs_model.specs.{FrameFacts.{InRange, IsExchanged, IsWalked}, Lossless.{IsLossless}, Payoff.{gain, raw_payoff}, Plans.{IsRawPlan, Plan, lift}}
use Rattle.gs_model.specs.{Play.{IsFictitiousPlay}, Positions.{at_point}}
use Rattle.gs_converge.specs.BestTurns.{IsBestAnswer, AreBestTurns}

pub answer_is_raw : (f : Frame) (lists : ClassLists) (p : ℕ) (y x : Plan) → IsWalked f p → IsClasses f.parents lists → IsBestAnswer f lists p y x
    → IsRawPlan f p (lift f lists x)
answer_is_raw f lists p y x w k b = puts_is_raw f lists p (lift f lists x) b.move (let e = b.one in omega arith)
    (λ q s lq hp ls. let round = round_of f (at_point q) in
    b.in_range q (class_of lists round s) lq hp (class_in f lists k round s (w.some_round q lq) (w.point_in q lq) ls)) b.puts

pub first_paid : (f : Frame) (lists : ClassLists) (y x : Plan) → IsBestAnswer f lists 1 y x → (z : Plan) → IsRawPlan f 1 z
    → raw_payoff f z y ≤ℤ (pos z.total *ℤ raw_payoff f (lift f lists x) y)
first_paid f lists y x b z raw =
    subst (λ a. raw_payoff f z y ≤ℤ (pos z.total *ℤ a)) (sym (raw_payoff_is_gain f (lift f lists x) y))
    (subst (λ a. a ≤ℤ (pos z.total *ℤ gain f 1 (lift f lists x) y)) (sym (raw_payoff_is_gain f z y)) (b.none_more z raw))

turned : (f : Frame) (x y : Plan) → IsExchanged f 1 → raw_payoff f x y ≡ neg_ℤ (gain f 2 y x)
turned f x y e = raw_payoff_is_gain f x y ∙ sym (ap neg_ℤ (gain_exchange f 1 e x y) ∙ neg-neg (gain f 1 x y))

pub second_paid : (f : Frame) (lists : ClassLists) (x y : Plan) → IsExchanged f 1 → IsBestAnswer f lists 2 x y → (z : Plan) → IsRawPlan f 2 z
    → (pos z.total *ℤ raw_payoff f x (lift f lists y)) ≤ℤ raw_payoff f x z
second_paid f lists x y e b z raw =
    let t = turned f x (lift f lists y) e in let u = turned f x z e in
    let n = ap (λ a. pos z.total *ℤ a) t ∙ neg_out z.total (gain f 2 (lift f lists y) x) in
    joined (pos z.total *ℤ raw_payoff f x (lift f lists y)) (pos z.total *ℤ gain f 2 (lift f lists y) x) (raw_payoff f x z) (gain f 2 z x) n u
    (b.none_more z raw)
  where
    joined : (a b c d : ℤ) → a ≡ neg_ℤ b → c ≡ neg_ℤ d → d ≤ℤ b → a ≤ℤ c
    joined a b c d h i l = omega (arith, ints)

first_is_best : (f : Frame) (lists : ClassLists) (p : ℕ) (y x : Plan) → InRange f → IsWalked f p → IsClasses f.parents lists → IsLossless f lists
    → IsFirstBestPlan f lists p (lift f lists y) x → IsBestAnswer f lists p (lift f lists y) x
first_is_best f lists p y x r w k g b = record {
  move = b.move;
  one = b.one;
  in_range = b.best.in_range;
  puts = first_best_lifts f lists p (lift f lists y) x r w k b;
  none_more = λ z raw. subst (λ a. gain f p z (lift f lists y) ≤ℤ (pos z.total *ℤ a)) (sym (first_best_reaches f lists p y x r w k g b).1)
      (no_raw_plan_gains_more f (is_table f r) lists g (firsts_from f lists k) p (known_from f p r w) y b.values
      (holds_by f lists p (lift f lists y) b.values w k (best_holds f lists p (lift f lists y) b.values b.move b.best)) z raw);
}

pub turns_are_best : (f : Frame) (lists : ClassLists) → InRange f → IsWalked f 1 → IsWalked f 2 → IsClasses f.parents lists → IsLossless f lists
    → (n : ℕ) (x y : Plan) → IsFictitiousPlay f lists n x y → AreBestTurns f lists n x y
turns_are_best f lists r w1 w2 k g zero x y h = (h.0.plan, h.1.plan, h.0.one, h.1.one)
turns_are_best f lists r w1 w2 k g (suc n) x y (x', y', bx, by, before, b1, b2, s1, s2) = (
  x',
  y',
  bx,
  by,
  turns_are_best f lists r w1 w2 k g n x' y' before,
  first_is_best f lists 1 y' bx r w1 k g b1,
  first_is_best f lists 2 x' by r w2 k g b2,
  s1,
  s2,
)
