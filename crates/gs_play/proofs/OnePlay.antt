-- The plans after so many turns are one: all that the definition allows are alike.
use Rattle.std.proofs.Common.{◌≡◌, ℕ, zero, suc, ◌*◌, ◌<◌, ◌==◌, cond, eqb, get_or, Option, Some, None, pos, ◌*ℤ◌, refl, sym, ap, ◌∙◌, arith}
use Rattle.gs_model.proofs.{BestOnce.{best_values_are_one}, Gather.{class_in}, Tables.{kept}, Total.{sum_z-same_all}}
use Rattle.gs_model.specs.{BestAnswers.{IsBestValues, IsFirstBestPlan, Values, end_worth}, Classes.{ClassLists, IsClasses, class_of, first_member}}
use Rattle.gs_model.specs.{Deals.{Deal}, Frame.{Frame, ancestor, at_round, end_count, last_round, last_step, other_player, payoff_to, round_of, signal_count}}
use Rattle.gs_model.specs.{FrameFacts.{InRange, IsWalked}, Payoff.{number_at_end}, Plans.{Plan, lift, number_before}}
use Rattle.gs_model.specs.{Play.{IsFictitiousPlay, IsPlanSum}, Positions.{Step, at_end, at_point}}
use Rattle.gs_play.specs.PlanSums.{ArePlansAlike}
use Rattle.gs_play.proofs.PlansAlike.{comes, firsts_same, puts_same}

module _ (f : Frame) (lists : ClassLists) (player : ℕ) (r : InRange f) (w : IsWalked f player) (k : IsClasses f.parents lists) where
  -- sums
  pub sums_one : (x y z x' y' z' : Plan) → ArePlansAlike f lists player x x' → ArePlansAlike f lists player y y' → IsPlanSum f lists player x y z
      → IsPlanSum f lists player x' y' z' → ArePlansAlike f lists player z z'
  sums_one x y z x' y' z' a b h g = record {
    total = let p = a.total in let q = b.total in let s = h.total in let t = g.total in omega arith;
    numbers = λ q c m lq hp lc lm. (let p = a.numbers q c m lq hp lc lm in let i = b.numbers q c m lq hp lc lm in let s = h.numbers q c m lq hp lc lm in
        let t = g.numbers q c m lq hp lc lm in omega arith);
  }

  -- what an end reads of plans with the same numbers
  end_at : (x y : Plan) (z s : ℕ) (o : Option Step) → ArePlansAlike f lists player x y → z < end_count f → s < signal_count f (round_of f (at_end z))
      → last_step f player (at_end z) ≡ o
      → number_before f (lift f lists x) o (round_of f (at_end z)) s ≡ number_before f (lift f lists y) o (round_of f (at_end z)) s
  end_at x y z s None same lz ls e = same.total
  end_at x y z s (Some u) same lz ls e =
      let ch = w.chosen_end z u lz e in
      let lu = w.earlier_end z u lz e in
      let a = ancestor f (round_of f (at_end z)) (round_of f (at_point u.point)) s in
      let past = w.past_end_own z u lz e in
      let some = w.some_round u.point lu in
      let inside = kept f r (round_of f (at_end z)) (round_of f (at_point u.point)) s some past ls in
      same.numbers u.point (class_of lists (round_of f (at_point u.point)) a) u.choice lu ch.0
      (class_in f lists k (round_of f (at_point u.point)) a some (w.point_in u.point lu) inside) ch.1

  pub end_same : (x y : Plan) (z s : ℕ) → ArePlansAlike f lists player x y → z < end_count f → s < signal_count f (round_of f (at_end z))
      → number_at_end f player (lift f lists x) z s ≡ number_at_end f player (lift f lists y) z s
  end_same x y z s same lz ls = end_at x y z s (last_step f player (at_end z)) same lz ls refl

-- what an end is worth to the other player is the same
worth_same : (f : Frame) (lists : ClassLists) (player : ℕ) (x y : Plan) (z s : ℕ) → InRange f → IsWalked f (other_player player) → IsClasses f.parents lists
    → ArePlansAlike f lists (other_player player) x y → z < end_count f → end_worth f player (lift f lists x) z s ≡ end_worth f player (lift f lists y) z s
worth_same f lists player x y z s r w k same lz =
    let round = round_of f (at_end z) in
    sum_z-same_all
    (λ (d : Deal). cond (at_round f round d.one == s) (pos (d.weight * number_at_end f (other_player player) (lift f lists x) z (at_round f round d.two))
    *ℤ payoff_to f player z d.outcome) (pos 0))
    (λ (d : Deal). cond (at_round f round d.one == s) (pos (d.weight * number_at_end f (other_player player) (lift f lists y) z (at_round f round d.two))
    *ℤ payoff_to f player z d.outcome) (pos 0))
    f.deals
    (λ i d l. (let e : Deal = get_or f.deals i d in
    let inside = kept f r (last_round f) round e.two (w.end_round z lz) (w.end_in z lz) (r.twos i d l) in
    let n = end_same f lists (other_player player) r w k x y z (at_round f round e.two) same lz inside in
    ap (λ (m : ℕ). cond (at_round f round e.one == s) (pos (e.weight * m) *ℤ payoff_to f player z e.outcome) (pos 0)) n))

pub best_same : (f : Frame) (lists : ClassLists) (player : ℕ) (x y : Plan) (v : Values) (move : ℕ → ℕ → ℕ) → InRange f → IsWalked f (other_player player)
    → IsClasses f.parents lists → ArePlansAlike f lists (other_player player) x y → IsBestValues f lists player (lift f lists x) v move
    → IsBestValues f lists player (lift f lists y) v move
best_same f lists player x y v move r w k same h = record {
  at_ends = λ z c lz lc. h.at_ends z c lz lc
      ∙ worth_same f lists player x y z (first_member lists (round_of f (at_end z)) c) r w k same lz;
  in_range = h.in_range;
  reached = h.reached;
  none_more = h.none_more;
  none_before = h.none_before;
  at_others = h.at_others;
}

-- first best plans against plans with the same numbers have the same numbers
first_best_one : (f : Frame) (lists : ClassLists) (player : ℕ) (x y b c : Plan) → InRange f → IsWalked f player → IsWalked f (other_player player)
    → IsClasses f.parents lists → ArePlansAlike f lists (other_player player) x y → IsFirstBestPlan f lists player (lift f lists x) b
    → IsFirstBestPlan f lists player (lift f lists y) c → ArePlansAlike f lists player b c
first_best_one f lists player x y b c r w w' k same h g =
    let best = best_same f lists player x y h.values h.move r w' k same h.best in
    let one = best_values_are_one f lists player (lift f lists y) h.values g.values h.move g.move w k best g.best in
    puts_same f lists player r w k b c h.move (record { one = h.one; puts = h.puts }) (record {
      one = g.one;
      puts = λ q d m lq own ld lm. g.puts q d m lq own ld lm ∙ ap (λ (i : ℕ). cond (eqb m i) (comes f lists player c q d) 0) (sym (one.2 q d lq own ld));
    })

pub play_one : (f : Frame) (lists : ClassLists) → InRange f → IsWalked f 1 → IsWalked f 2 → IsClasses f.parents lists → (n : ℕ) (x y x' y' : Plan)
    → IsFictitiousPlay f lists n x y → IsFictitiousPlay f lists n x' y' → ArePlansAlike f lists 1 x x' × ArePlansAlike f lists 2 y y'
play_one f lists r w1 w2 k zero x y x' y' h g =
    (firsts_same f lists 1 r w1 k x x' h.0 g.0, firsts_same f lists 2 r w2 k y y' h.1 g.1)
play_one f lists r w1 w2 k (suc n) x y x' y' (a, b, ba, bb, p, f1, f2, s1, s2) (a', b', ba', bb', p', g1, g2, t1, t2) =
    let both = play_one f lists r w1 w2 k n a b a' b' p p' in
    let one = first_best_one f lists 1 b b' ba ba' r w1 w2 k both.1 f1 g1 in
    let two = first_best_one f lists 2 a a' bb bb' r w2 w1 k both.0 f2 g2 in
    (sums_one f lists 1 r w1 k a ba x a' ba' x' both.0 one s1 t1, sums_one f lists 2 r w2 k b bb y b' bb' y' both.1 two s2 t2)
