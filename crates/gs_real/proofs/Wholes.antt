-- The whole numbers are an ordered group, in which plans are raw plans.
use Rattle.std.proofs.{Common.{◌≡◌, ℕ, zero, suc, ◌+◌, ◌*◌, ◌<◌, List, [], ◌∷◌, refl, sym, ap, ◌∙◌, arith, neg_ℤ, Option, Some, None}, lemmas.Int.{ints}}
use Rattle.std.proofs.Math.IntN.{*ℤ_comm}
use Rattle.std.specs.{Prelude.{ℤ, pos, negsuc, ◌+ℤ◌, ◌*ℤ◌}, List.{range_with_len}}
use borrow.Author.Differences.{neg_is, product_is}
use Rattle.gs_model.proofs.{Regroup.{sum_z-pos}, Total.{sum_z-same}}
use Rattle.gs_model.specs.{Deals.{Deal}, Payoff.{gain, number_at_end}, Plans.{IsRawPlan, Plan, number_before}, Positions.{Step, at_end, at_point}}
use Rattle.gs_model.specs.Frame.{Frame, ancestor, at_round, choices_at, end_count, last_step, other_player, payoff_to, round_of}
use Rattle.gs_model.specs.Sums.{sum_z}
use Rattle.gs_real.specs.{Laws.{WholesAreOne, in_wholes}, Numbers.{OrderedGroup, scaled, sum_of, times}, Plans.{AnyPlan, any_at_end, any_before, any_gain}}

abbrev wholes : OrderedGroup ℤ ℕ
wholes = record {
  nil = pos 0;
  plus = λ a b. a +ℤ b;
  minus = neg_ℤ;
  associative = λ a b c. omega (arith, ints);
  commutative = λ a b. omega (arith, ints);
  neutral = λ a. omega (arith, ints);
  opposite = λ a. omega (arith, ints);
  place = pos;
  nil_in = (0, refl);
  sum_in = λ p q. (p + q, omega (arith, ints));
}

sums_are : {X : Type 0} (f : X → ℤ) (xs : List X) → sum_of wholes f xs ≡ sum_z f xs
sums_are f [] = refl
sums_are f (x ∷ xs) = ap (λ n. f x +ℤ n) (sums_are f xs)

times_are : (n : ℕ) (a : ℤ) → times wholes n a ≡ pos n *ℤ a
times_are zero a = omega (arith, ints, product_is (pos 0) a)
times_are (suc n) a =
    let p = product_is (pos (suc n)) a in
    let q = product_is (pos n) a in
    ap (λ k. a +ℤ k) (times_are n a) ∙ (let e : a +ℤ pos n *ℤ a ≡ pos (suc n) *ℤ a = omega (arith, ints, p.0, p.1, q.0, q.1) in e)

scaled_are : (z a : ℤ) → scaled wholes z a ≡ z *ℤ a
scaled_are (pos n) a = times_are n a
scaled_are (negsuc n) a =
    let p = product_is (pos (suc n)) a in
    let q = product_is (negsuc n) a in
    ap neg_ℤ (times_are (suc n) a) ∙ (let e : neg_ℤ (pos (suc n) *ℤ a) ≡ negsuc n *ℤ a = omega (arith, ints, p.0, p.1, q.0, q.1) in e)

before_are : (f : Frame) (x : Plan) (l : Option Step) (round s : ℕ) → any_before f (in_wholes x) l round s ≡ pos (number_before f x l round s)
before_are f x None round s = refl
before_are f x (Some u) round s = refl

pub wholes_are_one : (G : OrderedGroup ℤ ℕ) × WholesAreOne G
wholes_are_one = (
  wholes,
  record {
    sums = λ a b. refl;
    naturals = λ n. refl;
    plans = λ f player x h. record {
      total_some = (x.total, refl);
      some = λ q s c hq hp hs hc. (x.number q s c, refl);
      flow = λ q s hq hp hs. sums_are (λ c. pos (x.number q s c)) (choices_at f q) ∙ sum_z-pos (λ c. x.number q s c) (choices_at f q)
          ∙ ap pos (h.flow q s hq hp hs) ∙ sym (before_are f x (last_step f player (at_point q)) (round_of f (at_point q)) s);
    };
    gains = λ f player x y.
        let worth = λ (z : ℕ) (d : Deal).
        pos (d.weight * number_at_end f (other_player player) y z (at_round f (round_of f (at_end z)) d.two)) *ℤ payoff_to f player z d.outcome in
        let own = λ (z : ℕ) (d : Deal). number_at_end f player x z (at_round f (round_of f (at_end z)) d.one) in
        let deal_is : (z : ℕ) (d : Deal)
        → scaled wholes (worth z d) (any_at_end f player (in_wholes x) z (at_round f (round_of f (at_end z)) d.one)) ≡ pos (own z d) *ℤ worth z d =
        λ z d. ap (scaled wholes (worth z d)) (before_are f x (last_step f player (at_end z)) (round_of f (at_end z)) (at_round f (round_of f (at_end z)) d.one))
        ∙ scaled_are (worth z d) (pos (own z d)) ∙ *ℤ_comm (worth z d) (pos (own z d)) in
        sums_are (λ z. sum_of wholes (λ d. scaled wholes (worth z d) (any_at_end f player (in_wholes x) z (at_round f (round_of f (at_end z)) d.one))) f.deals)
        (range_with_len 0 (end_count f))
        ∙ sum_z-same (λ z. sum_of wholes (λ d. scaled wholes (worth z d) (any_at_end f player (in_wholes x) z (at_round f (round_of f (at_end z)) d.one))) f.deals)
        (λ z. sum_z (λ d. pos (own z d) *ℤ worth z d) f.deals)
        (λ z. sums_are (λ d. scaled wholes (worth z d) (any_at_end f player (in_wholes x) z (at_round f (round_of f (at_end z)) d.one))) f.deals
        ∙ sum_z-same (λ d. scaled wholes (worth z d) (any_at_end f player (in_wholes x) z (at_round f (round_of f (at_end z)) d.one)))
        (λ d. pos (own z d) *ℤ worth z d) (deal_is z) f.deals)
        (range_with_len 0 (end_count f));
  },
)
