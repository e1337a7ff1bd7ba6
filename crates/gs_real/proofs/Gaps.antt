-- No plan, whatever its numbers are, gains more than a gap: some raw plan of total 1 reaches the table of best values, which bounds every plan. Each signal
-- is a class of its own here.
use Rattle.std.proofs.{Common.{◌≡◌, ℕ, ◌+◌, ◌*◌, ◌<◌, ◌≤◌, Bool, true, false, cond, eqb, List, get_or, refl, sym, ap, ◌∙◌, subst, arith, neg_ℤ}, lemmas.Int.{ints}}
use Rattle.std.proofs.{lemmas.Bool.Decides.{Decides-eqb}, lemmas.List.FromFn.{get_or-range_with_len}}
use Rattle.std.specs.Prelude.{◌==◌, ℤ, pos, ◌+ℤ◌, ◌-ℤ◌, ◌*ℤ◌, ◌≤ℤ◌}
use borrow.Author.Differences.{product_is}
use Rattle.gs_filter.proofs.ClassLaws.{single_are_classes, single_at}
use Rattle.gs_filter.specs.Filter.{single_classes}
use Rattle.gs_model.proofs.{Basics.{eqb-turn}, Deviations.{raw_reached}, Exchange.{gain_exchange, neg_out, raw_payoff_is_gain}}
use Rattle.gs_model.proofs.{FirstBest.{first_best_exists}, Gather.{class_in, firsts_from, known_from}, RawBound.{All-range, range_once}}
use Rattle.gs_model.proofs.Total.{pick_one, sum_z-same_all}
use Rattle.gs_model.specs.{BestAnswers.{IsBestValues, PutsAllOn, Values, end_worth, move_worth, spread, start_sum}, Bounds.{Bounds, Reaches}}
use Rattle.gs_model.specs.{Classes.{ClassLists, IsClass, class_of, first_member}, Payoff.{gain, raw_payoff}, Verdict.{IsFirstGap, IsSecondGap}}
use Rattle.gs_model.specs.Frame.{Frame, choices_at, end_count, last_round, last_step, move_count, player_at, point_count, round_of, signal_count}
use Rattle.gs_model.specs.{Frame.{total_weight}, FrameFacts.{InRange, IsExchanged, IsWalked}, Plans.{IsRawPlan, Plan, number_before}}
use Rattle.gs_model.specs.{Positions.{at_end, at_point}, Sums.{sum_z}}
use Rattle.gs_real.proofs.{Bound.{any_bound}, Group.{scaled_kept, times_kept, times_scaled, transitive}, Moves.{told_moves}}
use Rattle.gs_real.specs.{Laws.{NoneGainsMore}, Numbers.{AtMost, IsSome, OrderedGroup, scaled, times}}
use Rattle.gs_real.specs.Plans.{AnyPlan, IsAnyPlan, any_gain}
use Rattle.gs_solve.proofs.BestExists.{best_values_exist}

once : (z : ℤ) → pos 1 *ℤ z ≡ z
once z = omega (arith, ints, product_is (pos 1) z)

pick_at : (n m : ℕ) (w : ℕ → ℤ) (x : ℕ) (r : Bool) → r ≡ eqb m x → pos (cond r n 0) *ℤ w x ≡ cond r (pos n *ℤ w m) (pos 0)
pick_at n m w x true e = ap (λ k. pos n *ℤ w k) (sym ((Decides-eqb m x).0 (sym e)))
pick_at n m w x false e = omega (arith, ints, product_is (pos 0) (w x))

pick_move : (n m : ℕ) (w : ℕ → ℤ) (x : ℕ) → pos (cond (x == m) n 0) *ℤ w x ≡ cond (eqb m x) (pos n *ℤ w m) (pos 0)
pick_move n m w x = ap (λ r. pos (cond {A = ℕ} r n 0) *ℤ w x) (eqb-turn x m) ∙ pick_at n m w x (eqb m x) refl

-- a table that bounds a player's moves, and a raw plan of total 1 that gains its sum at the start
record Reached (f : Frame) (player : ℕ) (y : Plan) : Type 0 where
  values : Values
  bounds : Bounds f player y values
  plan : Plan
  raw : IsRawPlan f player plan
  one : plan.total ≡ 1
  gains : gain f player plan y ≡ start_sum f values

module _ (f : Frame) (r : InRange f) (some : (q : ℕ) → q < point_count f → 0 < move_count f q) where
  abbrev singles : ClassLists
  singles = single_classes f.parents

  own_class : (j s : ℕ) → 0 < j → j ≤ last_round f → s < signal_count f j → class_of singles j s ≡ 1 + s
  own_class j s past top l =
      ap (λ (xs : List ℕ). get_or xs s 0) (single_at f.parents j past top) ∙ get_or-range_with_len 1 (signal_count f j) s 0 l

  own_member : (j s : ℕ) → 0 < j → j ≤ last_round f → s < signal_count f j → first_member singles j (class_of singles j s) ≡ s
  own_member j s past top l =
      let h = firsts_from f singles (single_are_classes f.parents) in
      let m = first_member singles j (class_of singles j s) in
      let one = own_class j m past top (h.in_range j s l) in
      let two = own_class j s past top l in
      omega (arith, one, two, h.member j s l)

  module _ (player : ℕ) (w : IsWalked f player) (y : Plan) (v : Values) (move : ℕ → ℕ → ℕ) (b : IsBestValues f singles player y v move) where
    abbrev table : Values
    table = spread f singles v

    at_point_own : (q s : ℕ) → q < point_count f → s < signal_count f (round_of f (at_point q))
        → first_member singles (round_of f (at_point q)) (class_of singles (round_of f (at_point q)) s) ≡ s
    at_point_own q s hq hs = own_member (round_of f (at_point q)) s (w.some_round q hq) (w.point_in q hq) hs

    point_class : (q s : ℕ) → q < point_count f → s < signal_count f (round_of f (at_point q))
        → IsClass singles (round_of f (at_point q)) (class_of singles (round_of f (at_point q)) s)
    point_class q s hq hs = class_in f singles (single_are_classes f.parents) (round_of f (at_point q)) s (w.some_round q hq) (w.point_in q hq) hs

    end_value : (z s : ℕ) → z < end_count f → s < signal_count f (round_of f (at_end z)) → end_worth f player y z s ≡ table (at_end z) s
    end_value z s hz hs =
        let j = round_of f (at_end z) in
        sym (b.at_ends z (class_of singles j s) hz (class_in f singles (single_are_classes f.parents) j s (w.end_round z hz) (w.end_in z hz) hs)
        ∙ ap (end_worth f player y z) (own_member j s (w.end_round z hz) (w.end_in z hz) hs))

    other_value : (q s : ℕ) → q < point_count f → (player_at f q ≡ player → ⊥) → s < signal_count f (round_of f (at_point q))
        → sum_z (λ c. move_worth f table q c s) (choices_at f q) ≡ table (at_point q) s
    other_value q s hq hp hs =
        sym (b.at_others q (class_of singles (round_of f (at_point q)) s) hq hp (point_class q s hq hs)
        ∙ ap (λ k. sum_z (λ c. move_worth f table q c k) (choices_at f q)) (at_point_own q s hq hs))

    best_bounds : Bounds f player y table
    best_bounds = record {
      at_ends = λ z s hz hs. let e = end_value z s hz hs in omega (arith, ints, e);
      at_own = λ q c s hq hp hc hs. subst (λ k. move_worth f table q c k ≤ℤ table (at_point q) s) (at_point_own q s hq hs)
          (b.none_more q c (class_of singles (round_of f (at_point q)) s) hq hp hc (point_class q s hq hs));
      at_others = λ q s hq hp hs. let e = other_value q s hq hp hs in omega (arith, ints, e);
    }

    best_reaches : (x : Plan) → PutsAllOn f singles player x move → Reaches f player x y table
    best_reaches x puts = record {
      at_ends = end_value;
      at_own = λ q s hq hp hs.
          let j = round_of f (at_point q) in
          let k = class_of singles j s in
          let best = move q k in
          let inside = b.in_range q k hq hp (point_class q s hq hs) in
          let n = number_before f x (last_step f player (at_point q)) j s in
          let worth = λ (c : ℕ). move_worth f table q c s in
          sum_z-same_all (λ c. pos (x.number q s c) *ℤ worth c) (λ c. cond (eqb best c) (pos n *ℤ worth best) (pos 0)) (choices_at f q)
          (All-range (λ c. pos (x.number q s c) *ℤ worth c ≡ cond (eqb best c) (pos n *ℤ worth best) (pos 0)) (move_count f q)
          (λ c lc. ap (λ a. pos a *ℤ worth c) (puts.puts q s c hq hp hs lc) ∙ pick_move n best worth c))
          ∙ pick_one (eqb best) (pos n *ℤ worth best) (choices_at f q) (range_once best 0 (move_count f q) (omega arith) (omega (arith, inside)))
          ∙ ap (λ a. pos n *ℤ a) (sym (b.reached q k hq hp (point_class q s hq hs) ∙ ap (move_worth f table q best) (at_point_own q s hq hs)));
      at_others = other_value;
    }

  reached : (player : ℕ) → IsWalked f player → (y : Plan) → Reached f player y
  reached player w y =
      let k = single_are_classes f.parents in
      let b = best_values_exist f singles player r w k some y in
      let x = first_best_exists f singles player 1 b.1 w k (omega arith) b.2.in_range in
      let V = spread f singles b.0 in
      record {
        values = V;
        bounds = best_bounds player w y b.0 b.1 b.2;
        plan = x.0;
        raw = x.1;
        one = x.3;
        gains = raw_reached f player (known_from f player r w) x.0 y V (best_reaches player w y b.0 b.1 b.2 x.0 x.2)
            ∙ ap (λ n. pos n *ℤ start_sum f V) x.3 ∙ once (start_sum f V);
      }

  module _ {A P : Type 0} (G : OrderedGroup A P) where
    -- a bound by the table is a bound by what the table's sum keeps within
    times_more : (k : ℕ) (B R : ℤ) (a total : A) → AtMost G a (scaled G B total) → IsSome G total → (pos k *ℤ B) ≤ℤ R
        → AtMost G (scaled G (pos k) a) (scaled G R total)
    times_more k B R a total h above le =
        transitive G (times G k a) (times G k (scaled G B total)) (scaled G R total) (times_kept G k a (scaled G B total) h)
        (subst (λ x. AtMost G x (scaled G R total)) (sym (times_scaled G k B total)) (scaled_kept G (pos k *ℤ B) R total le above))

    first_holds : IsWalked f 1 → (x y : Plan) (num : ℤ) (den : ℕ) → IsFirstGap f x y num den → (z : AnyPlan A) → IsAnyPlan G f 1 z
        → AtMost G (scaled G (pos (den * x.total)) (any_gain G f 1 z y))
        (scaled G (pos den *ℤ raw_payoff f x y +ℤ num *ℤ pos (total_weight f * x.total * y.total)) z.total)
    first_holds w x y num den gap z plan =
        let b = reached 1 w y in
        let B = start_sum f b.values in
        let R = pos den *ℤ raw_payoff f x y +ℤ num *ℤ pos (total_weight f * x.total * y.total) in
        let most = gap.none_more b.plan b.raw in
        let left : pos (den * x.total) *ℤ raw_payoff f b.plan y ≡ pos (den * x.total) *ℤ B =
        ap (λ a. pos (den * x.total) *ℤ a) (raw_payoff_is_gain f b.plan y ∙ b.gains) in
        let right : pos b.plan.total *ℤ R ≡ R = ap (λ n. pos n *ℤ R) b.one ∙ once R in
        times_more (den * x.total) B R (any_gain G f 1 z y) z.total
        (any_bound G f 1 (known_from f 1 r w) z b.values w plan y b.bounds) plan.total_some
        (subst (λ a. a ≤ℤ R) left (subst (λ a. (pos (den * x.total) *ℤ raw_payoff f b.plan y) ≤ℤ a) right most))

    turned : (d k n : ℤ) → (d -ℤ n) ≤ℤ k → neg_ℤ k ≤ℤ (n -ℤ d)
    turned d k n h = omega (arith, ints)

    second_holds : IsWalked f 2 → IsExchanged f 1 → (x y : Plan) (num : ℤ) (den : ℕ) → IsSecondGap f x y num den → (z : AnyPlan A) → IsAnyPlan G f 2 z
        → AtMost G (scaled G (pos (den * y.total)) (any_gain G f 2 z x))
        (scaled G (num *ℤ pos (total_weight f * x.total * y.total) -ℤ pos den *ℤ raw_payoff f x y) z.total)
    second_holds w ex x y num den gap z plan =
        let b = reached 2 w x in
        let B = start_sum f b.values in
        let N = num *ℤ pos (total_weight f * x.total * y.total) in
        let D = pos den *ℤ raw_payoff f x y in
        let K = pos (den * y.total) *ℤ raw_payoff f x b.plan in
        let least : (D -ℤ N) ≤ℤ K =
        subst (λ a. a ≤ℤ K) (ap (λ n. pos n *ℤ (D -ℤ N)) b.one ∙ once (D -ℤ N)) (gap.none_less b.plan b.raw) in
        let is : B ≡ neg_ℤ (raw_payoff f x b.plan) = sym b.gains ∙ gain_exchange f 1 ex x b.plan ∙ ap neg_ℤ (sym (raw_payoff_is_gain f x b.plan)) in
        let left : pos (den * y.total) *ℤ B ≡ neg_ℤ K = ap (λ a. pos (den * y.total) *ℤ a) is ∙ neg_out (den * y.total) (raw_payoff f x b.plan) in
        times_more (den * y.total) B (N -ℤ D) (any_gain G f 2 z x) z.total
        (any_bound G f 2 (known_from f 2 r w) z b.values w plan x b.bounds) plan.total_some
        (subst (λ a. a ≤ℤ (N -ℤ D)) (sym left) (turned D K N least))

    pub frame_holds : IsWalked f 1 → IsWalked f 2 → IsExchanged f 1 → (x y : Plan) (gap1 gap2 : ℤ × ℕ) → IsFirstGap f x y gap1.0 gap1.1
        → IsSecondGap f x y gap2.0 gap2.1 → NoneGainsMore G f x y gap1 gap2
    frame_holds one two ex x y gap1 gap2 g h = record {
      first = λ z plan. first_holds one x y gap1.0 gap1.1 g z plan;
      second = λ z plan. second_holds two ex x y gap2.0 gap2.1 h z plan;
    }
