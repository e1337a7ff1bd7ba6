-- Plans that are alike: one is a plan, takes first moves and comes from turns of play as the other does. Plans that put all on the same moves are alike.
use Rattle.std.proofs.{Common.{◌≡◌, ℕ, zero, suc, ◌<◌, Bool, cond, eqb, Option, Some, None, refl, sym, ap, ◌∙◌, arith}, lemmas.Bool.{ne_eqb}}
use Rattle.gs_model.specs.{Classes.{ClassLists, IsClass, IsClasses, class_of, first_member}}
use Rattle.gs_model.specs.{Frame.{Frame, ancestor, last_step, move_count, player_at, point_count, round_of}, FrameFacts.{InRange, IsWalked}}
use Rattle.gs_model.specs.{Plans.{IsClassPlan, Plan, lift, number_before}, Play.{IsFictitiousPlay, IsFirstMoves, IsPlanSum}, Positions.{Step, at_point}}
use Rattle.gs_model.proofs.{FirstBest.{one_choice, sum-same_range}, Gather.{class_before}}
use Rattle.gs_best.specs.Tables.{AreInMoves}
use Rattle.gs_play.specs.PlanSums.{ArePlansAlike}
use Rattle.gs_play.proofs.Taken.{PutsAll}

pub alike_on : (f : Frame) (lists : ClassLists) (player : ℕ) (x y z : Plan) → ArePlansAlike f lists player x y → ArePlansAlike f lists player y z
    → ArePlansAlike f lists player x z
alike_on f lists player x y z a b = record {
  total = a.total ∙ b.total;
  numbers = λ q c m lq own lc lm. a.numbers q c m lq own lc lm ∙ b.numbers q c m lq own lc lm;
}

-- what comes to a class at a point
abbrev pub comes : Frame → ClassLists → ℕ → Plan → ℕ → ℕ → ℕ
comes f lists player x q c =
    number_before f (lift f lists x) (last_step f player (at_point q)) (round_of f (at_point q)) (first_member lists (round_of f (at_point q)) c)

module _ (f : Frame) (lists : ClassLists) (player : ℕ) (r : InRange f) (w : IsWalked f player) (k : IsClasses f.parents lists) where
  module _ (x y : Plan) (total : x.total ≡ y.total) (n : ℕ) (below : (q c m : ℕ) → q < n → q < point_count f → player_at f q ≡ player
      → IsClass lists (round_of f (at_point q)) c → m < move_count f q → x.number q c m ≡ y.number q c m) where
    comes_at : (q c : ℕ) (o : Option Step) → q ≡ n → q < point_count f → IsClass lists (round_of f (at_point q)) c → last_step f player (at_point q) ≡ o
        → number_before f (lift f lists x) o (round_of f (at_point q)) (first_member lists (round_of f (at_point q)) c)
        ≡ number_before f (lift f lists y) o (round_of f (at_point q)) (first_member lists (round_of f (at_point q)) c)
    comes_at q c None same lq lc e = total
    comes_at q c (Some u) same lq lc e =
        let l = w.earlier q u lq e in
        let ch = w.chosen q u lq e in
        let lu : u.point < point_count f = omega arith in
        let s = ancestor f (round_of f (at_point q)) (round_of f (at_point u.point)) (first_member lists (round_of f (at_point q)) c) in
        below u.point (class_of lists (round_of f (at_point u.point)) s) u.choice (omega arith) lu ch.0
        (class_before f lists player r w k (round_of f (at_point q)) (round_of f (at_point u.point)) c (w.some_round u.point lu) (w.past q u lq e)
        (w.point_in q lq) lc) ch.1

    -- it is the same where all numbers before the point are
    comes_same : (q c : ℕ) → q ≡ n → q < point_count f → IsClass lists (round_of f (at_point q)) c → comes f lists player x q c ≡ comes f lists player y q c
    comes_same q c same lq lc = comes_at q c (last_step f player (at_point q)) same lq lc refl

  -- ---- plans that are alike

  module _ (x y : Plan) (a : ArePlansAlike f lists player x y) where
    pub plan_alike : IsClassPlan f lists player y → IsClassPlan f lists player x
    plan_alike p = record {
      total_in = (let t = p.total_in.0 in omega (arith, a.total), let t = p.total_in.1 in omega (arith, a.total));
      flow = λ q c lq own lc.
          sum-same_range (λ m. x.number q c m) (λ m. y.number q c m) (move_count f q) (λ m lm. a.numbers q c m lq own lc lm)
          ∙ p.flow q c lq own lc
          ∙ sym (comes_same x y a.total q (λ p d m l lp h ld lm. a.numbers p d m lp h ld lm) q c refl lq lc);
    }

    pub firsts_alike : IsFirstMoves f lists player y → IsFirstMoves f lists player x
    firsts_alike h = record {
      plan = plan_alike h.plan;
      one = a.total ∙ h.one;
      first = λ q c m lq own lc some lm. a.numbers q c m lq own lc lm ∙ h.first q c m lq own lc some lm;
    }

    pub sums_alike : (v b : Plan) → IsPlanSum f lists player v b y → IsPlanSum f lists player v b x
    sums_alike v b s = record { total = a.total ∙ s.total; numbers = λ q c m lq own lc lm. a.numbers q c m lq own lc lm ∙ s.numbers q c m lq own lc lm }

  -- ---- plans that put all on the same moves

  module _ (x y : Plan) (move : ℕ → ℕ → ℕ) (px : PutsAll f lists player move x) (py : PutsAll f lists player move y) where
    below : (n q c m : ℕ) → q < n → q < point_count f → player_at f q ≡ player → IsClass lists (round_of f (at_point q)) c → m < move_count f q
        → x.number q c m ≡ y.number q c m
    below zero q c m l lq own lc lm = absurd (omega arith)
    below (suc n) q c m l lq own lc lm =
        let e = comes_same x y (px.one ∙ sym py.one) q (λ p d i lp. below n p d i (omega arith)) q c refl lq lc in
        px.puts q c m lq own lc lm
        ∙ ap (λ (i : ℕ). cond (eqb m (move q c)) i 0) e
        ∙ sym (py.puts q c m lq own lc lm)

    pub puts_same : ArePlansAlike f lists player x y
    puts_same = record { total = px.one ∙ sym py.one; numbers = λ q c m lq own lc lm. below (suc q) q c m (omega arith) lq own lc lm }

  -- such a plan is one
  pub puts_plan : (x : Plan) (move : ℕ → ℕ → ℕ) → AreInMoves f lists player move → PutsAll f lists player move x → IsClassPlan f lists player x
  puts_plan x move inside p = record {
    total_in = (omega (arith, p.one), omega (arith, p.one));
    flow = λ q c lq own lc.
        let n = comes f lists player x q c in
        sum-same_range (λ m. x.number q c m) (λ m. cond (eqb m (move q c)) n 0) (move_count f q) (λ m lm. p.puts q c m lq own lc lm)
        ∙ one_choice n (move q c) (move_count f q) (inside q c lq own lc);
  }

  -- all on the first moves
  pub puts_firsts : (x : Plan) → ((q : ℕ) → q < point_count f → 0 < move_count f q) → PutsAll f lists player (λ q c. 0) x → IsFirstMoves f lists player x
  puts_firsts x some p = record {
    plan = puts_plan x (λ q c. 0) (λ q c lq own lc. some q lq) p;
    one = p.one;
    first = λ q c m lq own lc more lm. p.puts q c m lq own lc lm
        ∙ ap (λ (b : Bool). cond b (comes f lists player x q c) 0) (ne_eqb m 0 (λ e. omega (arith, e, more)));
  }

  pub firsts_put : (x : Plan) → IsFirstMoves f lists player x → PutsAll f lists player (λ q c. 0) x
  firsts_put x h = record { one = h.one; puts = puts }
    where
      later : (q c m : ℕ) (n : ℕ) → q < point_count f → player_at f q ≡ player → IsClass lists (round_of f (at_point q)) c → suc m < move_count f q
          → x.number q c (suc m) ≡ cond (eqb (suc m) 0) n 0
      later q c m n lq own lc lm =
          h.first q c (suc m) lq own lc (omega arith) lm ∙ ap (λ (b : Bool). cond b n 0) (sym (ne_eqb (suc m) 0 (λ e. omega arith)))

      each : (q c : ℕ) → q < point_count f → player_at f q ≡ player → IsClass lists (round_of f (at_point q)) c → (m : ℕ) → m < move_count f q
          → x.number q c m ≡ cond (eqb m 0) (x.number q c 0) 0
      each q c lq own lc zero lm = refl
      each q c lq own lc (suc m) lm = later q c m (x.number q c 0) lq own lc lm

      puts : (q c m : ℕ) → q < point_count f → player_at f q ≡ player → IsClass lists (round_of f (at_point q)) c → m < move_count f q
          → x.number q c m ≡ cond (eqb m 0) (comes f lists player x q c) 0
      puts q c zero lq own lc lm =
          sym (one_choice (x.number q c 0) 0 (move_count f q) lm)
          ∙ sym (sum-same_range (λ m. x.number q c m) (λ m. cond (eqb m 0) (x.number q c 0) 0) (move_count f q) (each q c lq own lc))
          ∙ h.plan.flow q c lq own lc
      puts q c (suc m) lq own lc lm = later q c m (comes f lists player x q c) lq own lc lm

  -- so there is one plan that takes the first moves
  pub firsts_same : (x y : Plan) → IsFirstMoves f lists player x → IsFirstMoves f lists player y → ArePlansAlike f lists player x y
  firsts_same x y h g = puts_same x y (λ q c. 0) (firsts_put x h) (firsts_put y g)

-- turns of play lead to plans that are alike
pub played_alike : (f : Frame) (lists : ClassLists) → InRange f → IsWalked f 1 → IsWalked f 2 → IsClasses f.parents lists → (n : ℕ) (x y x' y' : Plan)
    → ArePlansAlike f lists 1 x' x → ArePlansAlike f lists 2 y' y → IsFictitiousPlay f lists n x y → IsFictitiousPlay f lists n x' y'
played_alike f lists r w v k zero x y x' y' a b h =
    (firsts_alike f lists 1 r w k x' x a h.0, firsts_alike f lists 2 r v k y' y b h.1)
played_alike f lists r w v k (suc n) x y x' y' a b (x0, y0, bx, by, p, best, other, s, t) =
    (x0, y0, bx, by, p, best, other, sums_alike f lists 1 r w k x' x a x0 bx s, sums_alike f lists 2 r v k y' y b y0 by t)
