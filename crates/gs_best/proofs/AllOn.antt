-- Weights of the plan that puts all on given moves, class by class.
use Rattle.std.proofs.Common.{◌≡◌, ℕ, ◌+◌, ◌-◌, ◌*◌, ◌<◌, ◌≤◌, cond, List, length, get_or, set, refl, sym, ap, ◌∙◌, subst, arith, ⊎_elim, get_or-set_other}
use Rattle.std.proofs.{Common.{get_or-set_same}, Math.Nat.{mul-le-mul_right}, lemmas.Bool.{cases_eq}, lemmas.Bool.Decides.{Decides-eqb}}
use Rattle.std.specs.Prelude.{◌==◌}
use Rattle.gs_model.specs.{BestAnswers.{IsBestValues, IsFirstBestPlan, Values}, Classes.{ClassLists, IsClass, IsClasses, first_member}}
use Rattle.gs_model.specs.{Frame.{Frame, last_step, move_count, player_at, point_count, round_of}, FrameFacts.{InRange, IsWalked}}
use Rattle.gs_model.specs.{Plans.{Plan, lift, number_before}, Positions.{at_point}}
use Rattle.gs_model.proofs.{PlanLaws.{first_best_is_plan}, Basics.{not_eq}}
use Rattle.gs_seq.specs.{Firsts.{AgreeBefore, IsClear}, Slots.{IsPlan, plan_of, slot_count, slot_of, slots_before}}
use Rattle.gs_seq.proofs.{Firsts.{came_kept, slots_own, slot_under, agree_less}, SlotLaws.{slots_le}}
use Rattle.gs_best.specs.Puts.{ArePutBefore, IsPutAt}

module _ (f : Frame) (r : InRange f) (lists : ClassLists) (k : IsClasses f.parents lists) (player : ℕ) (w : IsWalked f player) (move : ℕ → ℕ
    → ℕ) (q : ℕ) (l : q < point_count f) (own : player_at f q ≡ player) (c : ℕ)
    (h : IsClass lists (round_of f (at_point q)) c) where
  abbrev came_by : List ℕ → ℕ
  came_by xs = number_before f (lift f lists (plan_of f lists 1 xs)) (last_step f player (at_point q)) (round_of f (at_point q))
      (first_member lists (round_of f (at_point q)) c)

  -- weights that agree up to the next class keep the numbers of a class
  pub put_kept : (n : ℕ) (xs ys : List ℕ) → slots_before f lists player q + c * move_count f q ≤ n → AgreeBefore n xs ys → IsPutAt f lists player move xs q c
      → IsPutAt f lists player move ys q c
  put_kept n xs ys room agree put m lm =
      let at : slot_of f lists q c m < n = omega (arith, room, slot_under c (move_count f q) m h.0 lm, ap (λ p. slots_before f lists p q) own) in
      let same = came_kept f r lists k player w q l own c h xs ys (agree_less n (slots_before f lists player q) xs ys (omega (arith, room)) agree) in
      agree (slot_of f lists q c m) at ∙ put m lm ∙ ap (λ x. cond (m == move q c) x 0) (sym same)

  -- a class's weights, once what comes there is put on its move
  pub put_here : (xs : List ℕ) (slot came : ℕ) → slot ≡ slot_of f lists q c (move q c) → move q c < move_count f q → slot < length xs → came ≡ came_by xs
      → IsClear (slots_before f lists player q + (c - 1) * move_count f q) xs
      → IsPutAt f lists player move (set xs slot came) q c
  put_here xs slot came at in_moves room is clear m lm =
      let whose = ap (λ p. slots_before f lists p q) own in
      let agree : AgreeBefore (slots_before f lists player q) xs (set xs slot came) = λ j lj. get_or-set_other xs slot j came 0 (omega (arith, at, whose)) in
      let same = came_kept f r lists k player w q l own c h xs (set xs slot came) agree in
      ⊎_elim
      (λ (e : m ≡ move q c).
      let place : slot_of f lists q c m ≡ slot = omega (arith, at, e) in
      ap (λ n. get_or (set xs slot came) n 0) place ∙ get_or-set_same xs slot came 0 room ∙ is ∙ sym same
      ∙ sym (ap (λ b. cond b (came_by (set xs slot came)) 0) ((Decides-eqb m (move q c)).1 e)))
      (λ (other : m ≡ move q c → ⊥).
      let n = slot_of f lists q c m in
      let apart : n ≡ slot → ⊥ = λ e. other (omega (arith, at, e)) in
      get_or-set_other xs slot n came 0 apart ∙ clear n (omega (arith, whose))
      ∙ sym (ap (λ b. cond b (came_by (set xs slot came)) 0) (not_eq m (move q c) other)))
      (cases_eq m (move q c))

-- weights once the classes of a point up to the `n`th are written; `old` are those before
pub record ArePutTo (f : Frame) (lists : ClassLists) (player : ℕ) (move : ℕ → ℕ → ℕ) (q n : ℕ) (old new : List ℕ) : Type 0 where
  pub kept : AgreeBefore (slots_before f lists player q) old new
  pub here : (c : ℕ) → 0 < c → c ≤ n → IsPutAt f lists player move new q c
  pub clear : IsClear (slots_before f lists player q + n * move_count f q) new

-- one more class of the point
module _ (f : Frame) (r : InRange f) (lists : ClassLists) (k : IsClasses f.parents lists) (player : ℕ) (w : IsWalked f player) (move : ℕ → ℕ
    → ℕ) (q : ℕ) (l : q < point_count f) (own : player_at f q ≡ player) (n : ℕ)
    (h : IsClass lists (round_of f (at_point q)) (n + 1)) (in_moves : move q (n + 1) < move_count f q) (old xs : List ℕ) (slot came : ℕ)
    (at : slot ≡ slot_of f lists q (n + 1) (move q (n + 1))) where
  there : slot ≡ slots_before f lists player q + (n * move_count f q + move q (n + 1))
  there =
      let one : n + 1 - 1 ≡ n = omega arith in
      omega (arith, at, ap (λ p. slots_before f lists p q) own, ap (λ i. i * move_count f q) one)

  next_row : (n + 1) * move_count f q ≡ n * move_count f q + move_count f q
  next_row = omega arith

  pub slot_inside : length xs ≡ slot_count f lists player → slot < length xs
  slot_inside long = omega (
    arith,
    there,
    in_moves,
    next_row,
    slots_own f lists player q own,
    slots_le f lists player (q + 1) (point_count f) (omega (arith, l)),
    mul-le-mul_right (move_count f q) h.1,
    long,
  )

  pub put_next : length xs ≡ slot_count f lists player
      → came ≡ number_before f (lift f lists (plan_of f lists 1 xs)) (last_step f player (at_point q)) (round_of f (at_point q))
      (first_member lists (round_of f (at_point q)) (n + 1))
      → AgreeBefore (slots_before f lists player q) old xs → ((c : ℕ) → 0 < c → c ≤ n → IsPutAt f lists player move xs q c)
      → IsClear (slots_before f lists player q + n * move_count f q) xs → ArePutTo f lists player move q (n + 1) old (set xs slot came)
  put_next long is kept here clear =
      let one : (n + 1 - 1) * move_count f q ≡ n * move_count f q = ap (λ i. i * move_count f q) (let e : n + 1 - 1 ≡ n = omega arith in e) in
      record {
        kept = λ i li. get_or-set_other xs slot i came 0 (omega (arith, li, there)) ∙ kept i li;
        here = λ c lo hi. ⊎_elim
            (λ (e : c ≡ n + 1). subst (λ i. IsPutAt f lists player move (set xs slot came) q i) (sym e)
            (put_here f r lists k player w move q l own (n + 1) h xs slot came at in_moves (slot_inside long) is (λ i li. clear i (omega (arith, li, one)))))
            (λ (other : c ≡ n + 1 → ⊥).
            let less : c ≤ n = omega (arith, hi, other) in
            put_kept f r lists k player w move q l own c (lo, omega (arith, h.1, less)) slot xs (set xs slot came)
            (omega (arith, there, mul-le-mul_right (move_count f q) less)) (λ j lj. get_or-set_other xs slot j came 0 (omega (arith, lj))) (here c lo less))
            (cases_eq c (n + 1));
        clear = λ i li.
            (let after : slot < i = omega (arith, there, in_moves, next_row, li) in
            get_or-set_other xs slot i came 0 (omega (arith, after)) ∙ clear i (omega (arith, next_row, li)));
      }

-- one more point of the player
pub puts_more : (f : Frame) (r : InRange f) (lists : ClassLists) (k : IsClasses f.parents lists) (player : ℕ) (w : IsWalked f player) (move : ℕ → ℕ
    → ℕ) (q : ℕ) (xs ys : List ℕ)
    → q < point_count f → ArePutBefore f lists player move xs q → AgreeBefore (slots_before f lists player q) xs ys
    → ((c : ℕ) → IsClass lists (round_of f (at_point q)) c → IsPutAt f lists player move ys q c)
    → ArePutBefore f lists player move ys (q + 1)
puts_more f r lists k player w move q xs ys l puts agree here p c lp own h = ⊎_elim
    (λ e. subst (λ n. IsPutAt f lists player move ys n c) (sym e) (here c (subst (λ n. IsClass lists (round_of f (at_point n)) c) e h)))
    (λ other.
    let before : p < q = omega arith in
    let in_points : p < point_count f = omega (arith, before, l) in
    put_kept f r lists k player w move p in_points own c h (slots_before f lists player q) xs ys
    (omega (arith, slots_own f lists player p own, mul-le-mul_right (move_count f p) h.1, slots_le f lists player (p + 1) q (omega arith))) agree
    (puts p c before own h))
    (cases_eq p q)

-- one more point of the other player
pub puts_same : (f : Frame) (lists : ClassLists) (player : ℕ) (move : ℕ → ℕ → ℕ) (q : ℕ) (xs : List ℕ) → ArePutBefore f lists player move xs q
    → (player_at f q ≡ player → ⊥) → ArePutBefore f lists player move xs (q + 1)
puts_same f lists player move q xs puts other p c lp own h = ⊎_elim (λ e. absurd (other (sym (ap (player_at f) e) ∙ own)))
    (λ ne. puts p c (omega arith) own h) (cases_eq p q)

-- the plan is the first best plan
pub put_is_best : (f : Frame) (lists : ClassLists) (player : ℕ) (y : Plan) (v : Values) (move : ℕ → ℕ → ℕ) (weights : List ℕ)
    → IsBestValues f lists player y v move → ArePutBefore f lists player move weights (point_count f)
    → IsFirstBestPlan f lists player y (plan_of f lists 1 weights)
put_is_best f lists player y v move weights best puts = record {
  values = v;
  move = move;
  best = best;
  one = refl;
  puts = λ q c m l own h lm. puts q c l own h m lm;
}

pub put_is_plan : (f : Frame) → InRange f → (lists : ClassLists) → IsClasses f.parents lists → (player : ℕ) → IsWalked f player
    → (y : Plan) (weights : List ℕ) → length weights ≡ slot_count f lists player
    → IsFirstBestPlan f lists player y (plan_of f lists 1 weights) → IsPlan f lists player 1 weights
put_is_plan f r lists k player w y weights long b = record { long = long; plan = first_best_is_plan f lists player r w k y (plan_of f lists 1 weights) b }
