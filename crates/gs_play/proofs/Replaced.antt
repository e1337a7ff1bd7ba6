-- What one player is told where the other takes another move at a class: what ends pay changes by what both moves bring there.
use Rattle.std.proofs.{Common.{◌≡◌, ℕ, ◌+◌, ◌<◌, ◌≤◌, Bool, true, false, cond, refl, sym, ap, ◌∙◌, arith}, lemmas.Bool.Decides.{Decides-eqb}, lemmas.Int.{ints}}
use Rattle.std.specs.Prelude.{◌==◌, ◌+ℤ◌}
use Rattle.gs_model.specs.{Classes.{ClassLists, IsClass, IsClasses}, Frame.{Frame, end_count, move_count, other_player, payoff_to, point_count, round_of}}
use Rattle.gs_model.specs.{FrameFacts.{InRange, IsWalked}, Plans.{Plan}, Positions.{Step, at_point}}
use Rattle.gs_model.proofs.Basics.{not_eq}
use Rattle.gs_seq.specs.Payoffs.{end_sum}
use Rattle.gs_play.specs.{PlanSums.{ArePlansAlike}, Answers.{AreTakenBut, IsOtherMove, taken_plan}, Pushes.{IsPushed, with_sign}, Tables.{raise_sum}}
use Rattle.gs_play.proofs.{SumLaws.{kept_alike}, Raised.{IsRaised, end_kept, end_raised}, Slotted.{at_or, here_no, here_yes, is_here}}

-- the plan that takes the given moves, but none at one class
abbrev pub plan_without : ℕ → ℕ → (ℕ → ℕ → ℕ) → Plan
plan_without q c from = record { total = 1; number = λ p e m. cond (is_here q c p e) 0 (cond (m == from p e) 1 0) }

-- and the one that takes another move there
abbrev pub plan_with : ℕ → ℕ → (ℕ → ℕ → ℕ) → ℕ → Plan
plan_with q c from x = record { total = 1; number = λ p e m. cond (is_here q c p e) (cond (m == x) 1 0) (cond (m == from p e) 1 0) }

raised : (f : Frame) (lists : ClassLists) (q c : ℕ) (from : ℕ → ℕ → ℕ) (x : ℕ)
    → IsRaised f lists (record { point = q; choice = x }) c (plan_without q c from) (plan_with q c from x)
raised f lists q c from x = record {
  total = refl;
  here = at_step (is_here q c q c) (here_yes q c);
  elsewhere = λ p e m apart. at_or
      (λ i j. i ≡ p → j ≡ e
      → cond {A = ℕ} (is_here q c i j) (cond (m == x) 1 0) (cond (m == from i j) 1 0) ≡ cond (is_here q c i j) 0 (cond (m == from i j) 1 0))
      q c p e (λ sp se. no_move (is_here q c q c) (cond (m == from q c) 1 0) m (apart (sym sp) (sym se)))
      (λ other sp se. same p e m (here_no q c p e other)) refl refl;
}
  where
    at_step : (b : Bool) → b ≡ true → cond {A = ℕ} b (cond (x == x) 1 0) (cond (x == from q c) 1 0) ≡ cond b 0 (cond (x == from q c) 1 0) + 1
    at_step true is = ap (λ t. cond t 1 0) ((Decides-eqb x x).1 refl)
    at_step false is = absurd (let t : false ≡ true = is in cc)

    no_move : (b : Bool) (n m : ℕ) → (m ≡ x → ⊥) → cond {A = ℕ} b (cond (m == x) 1 0) n ≡ cond b 0 n
    no_move true n m no_one = ap (λ t. cond t 1 0) (not_eq m x no_one)
    no_move false n m no_one = refl

    same : (p e m : ℕ) → is_here q c p e ≡ false
        → cond {A = ℕ} (is_here q c p e) (cond (m == x) 1 0) (cond (m == from p e) 1 0) ≡ cond (is_here q c p e) 0 (cond (m == from p e) 1 0)
    same p e m no_one = ap (λ b. cond b (cond (m == x) 1 0) (cond (m == from p e) 1 0)) no_one ∙ sym (ap (λ b. cond b 0 (cond (m == from p e) 1 0)) no_one)

module _ {f : Frame} (r : InRange f) {lists : ClassLists} (k : IsClasses f.parents lists) (player : ℕ) (w : IsWalked f (other_player player)) (q c : ℕ) where
  abbrev Alike : Plan → Plan → Type 0
  Alike x y = ArePlansAlike f lists (other_player player) x y

  ends_alike : (x y : Plan) → Alike x y → (z e : ℕ) → z < end_count f → end_sum f lists player x z e ≡ end_sum f lists player y z e
  ends_alike x y a z e lz = kept_alike f r lists k (other_player player) w (payoff_to f player z) x y a z e lz

  -- what plans alike are told
  pushed_alike : (u : Step) (is_on : Bool) (x y x' y' : Plan) → Alike x' x → Alike y' y
      → IsPushed f lists player u c is_on (end_sum f lists player x) (end_sum f lists player y)
      → IsPushed f lists player u c is_on (end_sum f lists player x') (end_sum f lists player y')
  pushed_alike u is_on x y x' y' ax ay h = record {
    behind = λ z e lz is le.
        ends_alike y' y ay z e lz ∙ h.behind z e lz is le ∙ ap (λ i. i +ℤ with_sign is_on (raise_sum f lists player z u c e)) (sym (ends_alike x' x ax z e lz));
    elsewhere = λ z e lz other le. ends_alike y' y ay z e lz ∙ h.elsewhere z e lz other le ∙ sym (ends_alike x' x ax z e lz);
  }

  module _ (from : ℕ → ℕ → ℕ) (x : ℕ) where
    abbrev u : Step
    u = record { point = q; choice = x }

    pushed_on : IsPushed f lists player u c true (end_sum f lists player (plan_without q c from)) (end_sum f lists player (plan_with q c from x))
    pushed_on = record {
      behind = λ z e lz is le. end_raised f lists player u c (plan_without q c from) (plan_with q c from x) (raised f lists q c from x) z e is;
      elsewhere = λ z e lz other le. end_kept f lists player u c (plan_without q c from) (plan_with q c from x) (raised f lists q c from x) z e other;
    }

    pushed_off : IsPushed f lists player u c false (end_sum f lists player (plan_with q c from x)) (end_sum f lists player (plan_without q c from))
    pushed_off = record {
      behind = λ z e lz is le.
          (let h = end_raised f lists player u c (plan_without q c from) (plan_with q c from x) (raised f lists q c from x) z e is in omega (arith, ints, h));
      elsewhere = λ z e lz other le.
          sym (end_kept f lists player u c (plan_without q c from) (plan_with q c from x) (raised f lists q c from x) z e other);
    }

  -- ---- plans alike

  module _ (from to : ℕ → ℕ → ℕ) (elsewhere : AreTakenBut f lists q c from to) where
    -- a plan that takes moves as another does but at one class
    alike_but : (n : Plan) (x : ℕ → ℕ) → n.total ≡ 1 → ((m : ℕ) → m < move_count f q → cond {A = ℕ} (m == to q c) 1 0 ≡ x m)
        → ((p e m : ℕ) → n.number p e m ≡ cond (is_here q c p e) (x m) (cond (m == from p e) 1 0)) → Alike (taken_plan to) n
    alike_but n x one here is = record {
      total = sym one;
      numbers = λ p e m lp own le lm. at_or (λ p e. p < point_count f → IsClass lists (round_of f (at_point p)) e → (m : ℕ) → m < move_count f p
          → cond {A = ℕ} (m == to p e) 1 0 ≡ n.number p e m) q c p e at_class other lp le m lm;
    }
      where
        at_class : q < point_count f → IsClass lists (round_of f (at_point q)) c → (m : ℕ) → m < move_count f q
            → cond {A = ℕ} (m == to q c) 1 0 ≡ n.number q c m
        at_class lq lc m lm = here m lm ∙ sym (is q c m ∙ ap (λ b. cond b (x m) (cond (m == from q c) 1 0)) (here_yes q c))

        other : {p e : ℕ} → (p ≡ q → e ≡ c → ⊥) → p < point_count f → IsClass lists (round_of f (at_point p)) e → (m : ℕ) → m < move_count f p
            → cond {A = ℕ} (m == to p e) 1 0 ≡ n.number p e m
        other {p} {e} apart lp le m lm =
            ap (λ i. cond (m == i) 1 0) (elsewhere p e lp le apart)
            ∙ sym (is p e m ∙ ap (λ b. cond b (x m) (cond (m == from p e) 1 0)) (here_no q c p e apart))

    alike_with : (x : ℕ) → to q c ≡ x → Alike (taken_plan to) (plan_with q c from x)
    alike_with x is = alike_but (plan_with q c from x) (λ m. cond (m == x) 1 0) refl (λ m lm. ap (λ i. cond (m == i) 1 0) is) (λ p e m. refl)

    alike_without : move_count f q ≤ to q c → Alike (taken_plan to) (plan_without q c from)
    alike_without none = alike_but (plan_without q c from) (λ m. 0) refl
        (λ m lm. ap (λ b. cond b 1 0) (not_eq m (to q c) (omega (arith, lm, none)))) (λ p e m. refl)

  -- ---- what counts once more or once less

  module _ {old new : ℕ} {from to : ℕ → ℕ → ℕ} (h : IsOtherMove f lists q c old new from to) where
    abbrev Counts : ℕ → Bool → Plan → Plan → Type 0
    Counts x is_on a b = IsPushed f lists player (record { point = q; choice = x }) c is_on (end_sum f lists player a) (end_sum f lists player b)

    itself : AreTakenBut f lists q c from from
    itself p e lp le apart = refl

    -- the old move is taken no more, and another one is taken
    pub move_off : Counts old false (taken_plan from) (plan_without q c from)
    move_off = pushed_alike (record { point = q; choice = old }) false (plan_with q c from old) (plan_without q c from) (taken_plan from)
        (plan_without q c from) (alike_with from from itself old h.before)
        (record { total = refl; numbers = λ p e m lp own le lm. refl }) (pushed_off from old)

    pub move_on : Counts new true (plan_without q c from) (taken_plan to)
    move_on = pushed_alike (record { point = q; choice = new }) true (plan_without q c from) (plan_with q c from new) (plan_without q c from)
        (taken_plan to) (record { total = refl; numbers = λ p e m lp own le lm. refl })
        (alike_with from to h.elsewhere new h.here) (pushed_on from new)

    -- one of the two may be none
    pub only_move_off : move_count f q ≤ new → Counts old false (taken_plan from) (taken_plan to)
    only_move_off none = pushed_alike (record { point = q; choice = old }) false (plan_with q c from old) (plan_without q c from) (taken_plan from)
        (taken_plan to) (alike_with from from itself old h.before)
        (alike_without from to h.elsewhere (omega (arith, none, h.here))) (pushed_off from old)

    pub only_move_on : move_count f q ≤ old → Counts new true (taken_plan from) (taken_plan to)
    only_move_on none = pushed_alike (record { point = q; choice = new }) true (plan_without q c from) (plan_with q c from new) (taken_plan from)
        (taken_plan to) (alike_without from from itself (omega (arith, none, h.before)))
        (alike_with from to h.elsewhere new h.here) (pushed_on from new)
