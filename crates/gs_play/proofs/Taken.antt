-- The answer as a move taken at each class that it comes to: where each class is right, all is put on the chosen moves.
use Rattle.std.proofs.Common.{◌≡◌, ℕ, ◌<◌, ◌≤◌, Bool, true, false, cond, Option, Some, None, refl, sym, ap, ◌∙◌, subst, arith, ⊎_elim, inl}
use Rattle.std.specs.Prelude.{◌==◌, ◌⊎◌, if◌then◌else◌}
use Rattle.std.proofs.{lemmas.Bool.{cases_eq}, lemmas.Bool.Decides.{Decides-eqb}}
use Rattle.gs_model.specs.{Classes.{ClassLists, IsClass, first_member}, Frame.{Frame, last_step, move_count, player_at, point_count, round_of}}
use Rattle.gs_model.specs.{Plans.{Plan, lift, number_before}, Positions.{Step, at_point}}
use Rattle.gs_model.proofs.Basics.{not_eq}
use Rattle.gs_best.specs.ClassTotals.{earlier_class}
use Rattle.gs_play.specs.Answers.{AreRight, IsReached, IsRight, taken_plan}

-- a plan of total 1 that puts all on moves
pub record PutsAll (f : Frame) (lists : ClassLists) (player : ℕ) (move : ℕ → ℕ → ℕ) (answer : Plan) : Type 0 where
  pub one : answer.total ≡ 1
  pub puts : (q c m : ℕ) → q < point_count f → player_at f q ≡ player → IsClass lists (round_of f (at_point q)) c → m < move_count f q
      → let round = round_of f (at_point q) in
      answer.number q c m ≡ (if m == move q c then number_before f (lift f lists answer) (last_step f player (at_point q)) round (first_member lists round c)
      else 0)

empty : (b : Bool) → cond {A = ℕ} b 0 0 ≡ 0
empty true = refl
empty false = refl

-- whether the answer comes to a class
pub reached_or : (f : Frame) (lists : ClassLists) (taken : ℕ → ℕ → ℕ) (o : Option Step) (round c : ℕ)
    → IsReached f lists taken o round c ⊎ (IsReached f lists taken o round c → ⊥)
reached_or f lists taken None round c = inl tt
reached_or f lists taken (Some u) round c = cases_eq (taken u.point (earlier_class f lists round (round_of f (at_point u.point)) c)) u.choice

-- where what is taken at the class above the last step is the same, the answer comes to the same classes
pub reached_same : (f : Frame) (lists : ClassLists) (taken taken' : ℕ → ℕ → ℕ) (round c : ℕ) (o : Option Step)
    → ((u : Step) → o ≡ Some u → let up = earlier_class f lists round (round_of f (at_point u.point)) c in taken' u.point up ≡ taken u.point up)
    → IsReached f lists taken' o round c → IsReached f lists taken o round c
reached_same f lists taken taken' round c None same h = tt
reached_same f lists taken taken' round c (Some u) same h = sym (same u refl) ∙ h

pub taken_puts : (f : Frame) (lists : ClassLists) (player : ℕ) (taken move : ℕ → ℕ → ℕ) → ((q : ℕ) → q < point_count f → move_count f q ≤ 255)
    → AreRight f lists player taken move → PutsAll f lists player move (taken_plan taken)
taken_puts f lists player taken move few right = record {
  one = refl;
  puts = λ q c m lq own lc lm.
      by q c m (let n = few q lq in omega (arith, lm, n)) (right q c lq own lc) (last_step f player (at_point q)) (ap (λ p. last_step f p (at_point q)) own);
}
  where
    by : (q c m : ℕ) → m < 255 → IsRight f lists taken move q c → (o : Option Step) → last_step f (player_at f q) (at_point q) ≡ o
        → cond (m == taken q c) 1 0 ≡ cond (m == move q c)
        (number_before f (lift f lists (taken_plan taken)) o (round_of f (at_point q)) (first_member lists (round_of f (at_point q)) c)) 0
    by q c m lm r None is =
        ap (λ n. cond {A = ℕ} (m == n) 1 0) (r.on (subst (λ o. IsReached f lists taken o (round_of f (at_point q)) c) (sym is) tt))
    by q c m lm r (Some u) is =
        let round = round_of f (at_point q) in
        let gate = taken u.point (earlier_class f lists round (round_of f (at_point u.point)) c) in
        ⊎_elim
        (λ (on : gate ≡ u.choice).
        ap (λ n. cond {A = ℕ} (m == n) 1 0) (r.on (subst (λ o. IsReached f lists taken o round c) (sym is) on))
        ∙ ap (λ b. cond {A = ℕ} (m == move q c) (cond b 1 0) 0) (sym ((Decides-eqb u.choice gate).1 (sym on))))
        (λ (off : gate ≡ u.choice → ⊥).
        let none = r.off (λ h. off (subst (λ o. IsReached f lists taken o round c) is h)) in
        ap (λ b. cond {A = ℕ} b 1 0) (not_eq m (taken q c) (omega (arith, lm, none)))
        ∙ sym (empty (m == move q c))
        ∙ ap (λ b. cond {A = ℕ} (m == move q c) (cond b 1 0) 0) (sym (not_eq u.choice gate (λ e. off (sym e)))))
        (cases_eq gate u.choice)

-- a class stays right where neither its choice nor what is taken there and at the class above the last step changes
pub stays_right : (f : Frame) (lists : ClassLists) (taken move taken' move' : ℕ → ℕ → ℕ) (q c : ℕ) → taken' q c ≡ taken q c → move' q c ≡ move q c
    → ((u : Step) → last_step f (player_at f q) (at_point q) ≡ Some u
    → let up = earlier_class f lists (round_of f (at_point q)) (round_of f (at_point u.point)) c in taken' u.point up ≡ taken u.point up)
    → IsRight f lists taken move q c → IsRight f lists taken' move' q c
stays_right f lists taken move taken' move' q c here choice gate r =
    let round = round_of f (at_point q) in
    let o = last_step f (player_at f q) (at_point q) in
    record {
      on = λ h. here ∙ r.on (reached_same f lists taken taken' round c o gate h) ∙ sym choice;
      off = λ no. here ∙ r.off (λ h. no (reached_same f lists taken' taken round c o (λ u is. sym (gate u is)) h));
    }
