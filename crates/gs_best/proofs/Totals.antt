-- What plans gain against the best totals, and how large payoffs are.
use Rattle.std.proofs.{Common.{ℕ, ◌^◌, ◌≤◌, sym, subst, arith}, lemmas.Int.{ints, unsigned_abs-mul}}
use Rattle.std.specs.Prelude.{ℤ, pos, ◌*ℤ◌, ◌≤ℤ◌, unsigned_abs}
use borrow.Author.Differences.{abs_is}
use Rattle.gs_model.specs.{BestAnswers.{IsFirstBestPlan}, Classes.{ClassLists, IsClasses}, Payoff.{gain, raw_payoff}, Plans.{IsClassPlan, Plan, lift}}
use Rattle.gs_model.specs.{Frame.{Frame}, FrameFacts.{InRange, IsExchanged, IsWalked}, Lossless.{IsLossless}}
use Rattle.gs_model.proofs.{Alike.{keeps_from}, Best.{best_holds}, Deviations.{lift_is_raw_plan, no_raw_plan_gains_more}}
use Rattle.gs_model.proofs.{Exchange.{gain_exchange, raw_payoff_is_gain}, FirstBest.{first_best_reaches}}
use Rattle.gs_model.proofs.{Gather.{firsts_from, holds_by, known_from, plan_by}, Tables.{is_table}, Basics.{product_le}}
use Rattle.gs_best.specs.{ClassTotals.{IsBestTotal}, Answers.{NoneGainsMore}}

-- a product of a total and a best total
pub scaled_small : (total : ℕ) (best : ℤ) → total ≤ 2 ^ 36 → unsigned_abs best ≤ 2 ^ 74 → unsigned_abs (pos total *ℤ best) ≤ 2 ^ 110
scaled_small total best l m =
    let e = unsigned_abs-mul (pos total) best in
    let t : unsigned_abs (pos total) ≤ 2 ^ 36 = omega (arith, ints, abs_is (pos total), l) in
    let p = product_le (unsigned_abs (pos total)) (unsigned_abs best) (2 ^ 36) (2 ^ 74) t m in
    omega (arith, e, p)

module _ (f : Frame) (r : InRange f) (lists : ClassLists) (k : IsClasses f.parents lists) (g : IsLossless f lists) where
  -- a plan gains at most what its total times the best total says
  gains_at_most : (p : ℕ) → IsWalked f p → (x y : Plan) → IsClassPlan f lists p x → (b : ℤ) → IsBestTotal f lists p (lift f lists y) b
      → gain f p (lift f lists x) (lift f lists y) ≤ℤ (pos x.total *ℤ b)
  gains_at_most p w x y plan b h =
      let h' = is_table f r in
      let firsts = firsts_from f lists k in
      let kn = known_from f p r w in
      let raw = lift_is_raw_plan f h' lists (keeps_from f lists k.filter) firsts p kn x w.point_in (plan_by f lists p x w k plan) in
      let holds = holds_by f lists p (lift f lists y) h.values w k (best_holds f lists p (lift f lists y) h.values h.move h.best) in
      let bound = no_raw_plan_gains_more f h' lists g firsts p kn y h.values holds (lift f lists x) raw in
      subst (λ z. gain f p (lift f lists x) (lift f lists y) ≤ℤ (pos x.total *ℤ z)) (sym h.total_is) bound

  -- no raw plan gains more than the first best plan
  pub first_gains_most : (p : ℕ) → IsWalked f p → (x y : Plan) → IsFirstBestPlan f lists p (lift f lists y) x
      → NoneGainsMore f p (lift f lists y) (lift f lists x)
  first_gains_most p w x y b z raw =
      let firsts = firsts_from f lists k in
      let holds = holds_by f lists p (lift f lists y) b.values w k (best_holds f lists p (lift f lists y) b.values b.move b.best) in
      let bound = no_raw_plan_gains_more f (is_table f r) lists g firsts p (known_from f p r w) y b.values holds z raw in
      subst (λ n. gain f p z (lift f lists y) ≤ℤ (pos z.total *ℤ n)) (sym (first_best_reaches f lists p y x r w k g b).1) bound

  -- what two plans pay is small
  pub paid_small : IsWalked f 1 → IsWalked f 2 → IsExchanged f 1 → (x y : Plan) → IsClassPlan f lists 1 x → IsClassPlan f lists 2 y → (b1 b2 : ℤ)
      → IsBestTotal f lists 1 (lift f lists y) b1 → IsBestTotal f lists 2 (lift f lists x) b2
      → unsigned_abs b1 ≤ 2 ^ 74 → unsigned_abs b2 ≤ 2 ^ 74 → unsigned_abs (raw_payoff f (lift f lists x) (lift f lists y)) ≤ 2 ^ 110
  paid_small w1 w2 ex x y px py b1 b2 h1 h2 s1 s2 =
      let v = raw_payoff f (lift f lists x) (lift f lists y) in
      let one = raw_payoff_is_gain f (lift f lists x) (lift f lists y) in
      let two = gain_exchange f 1 ex (lift f lists x) (lift f lists y) in
      let up = gains_at_most 1 w1 x y px b1 h1 in
      let down = gains_at_most 2 w2 y x py b2 h2 in
      let a1 = scaled_small x.total b1 px.total_in.1 s1 in
      let a2 = scaled_small y.total b2 py.total_in.1 s2 in
      omega (arith, ints, abs_is v, abs_is (pos x.total *ℤ b1), abs_is (pos y.total *ℤ b2), one, two, up, down, a1, a2)
