-- Weights of the first moves, class by class.
use Rattle.std.proofs.Common.{◌≡◌, ℕ, zero, suc, ◌+◌, ◌-◌, ◌*◌, ◌<◌, ◌≤◌, List, length, get_or, set, sum_by, refl, true, sym, ap, ◌∙◌, subst, arith, Option}
use Rattle.std.proofs.Common.{Some, None, ⊎_elim, get_or-set_other, get_or-set_same}
use Rattle.std.proofs.{Math.Nat.{mul-le-mul_right}, lemmas.Bool.{cases_eq}, lemmas.Bool.Decides.{Decides-eqb}, lemmas.List.Sums.{sum_by-cons}}
use Rattle.std.specs.{List.{range_with_len}, Prelude.{◌==◌, IfSome, MatchOption}}
use Rattle.gs_model.specs.Classes.{ClassLists, IsClass, IsClasses, class_count, class_of, first_member}
use Rattle.gs_model.specs.{Frame.{Frame, ancestor, last_step, move_count, player_at, point_count, round_of}, FrameFacts.{InRange, IsWalked}}
use Rattle.gs_model.specs.{Plans.{IsClassPlan, lift, number_before}, Positions.{Step, at_point}}
use Rattle.gs_model.proofs.{Gather.{class_in, member_in}, Tables.{is_table}}
use Rattle.gs_seq.specs.{Firsts.{AgreeBefore, AreFirstBefore, IsClear, IsFirstAt}, Slots.{plan_of, slot_of, slots_at, slots_before}}
use Rattle.gs_seq.specs.{Sources.{IsSource, MatchSource, slot_above}, declared.flows.StepSource.{StepSource}}
use Rattle.gs_seq.proofs.{Coming.{slot_before, source_facts}, SlotLaws.{slots_le, slots_more}}

pub slot_under : (c k m : ℕ) → 0 < c → m < k → (c - 1) * k + m < c * k
slot_under c k m some l = let e : c ≡ suc (c - 1) = omega arith in omega (arith, ap (λ i. i * k) e, l)

pub agree_less : (n m : ℕ) (xs ys : List ℕ) → m ≤ n → AgreeBefore n xs ys → AgreeBefore m xs ys
agree_less n m xs ys l h k lk = h k (omega arith)

module _ (f : Frame) (r : InRange f) (lists : ClassLists) (k : IsClasses f.parents lists) (player : ℕ) (w : IsWalked f player) (q : ℕ) (l : q
    < point_count f) (own : player_at f q ≡ player) (c : ℕ)
    (h : IsClass lists (round_of f (at_point q)) c) where
  abbrev came_by : List ℕ → ℕ
  came_by xs = number_before f (lift f lists (plan_of f lists 1 xs)) (last_step f player (at_point q)) (round_of f (at_point q))
      (first_member lists (round_of f (at_point q)) c)

  -- the class above, in the round of a step
  abbrev pub class_over : Step → ℕ
  class_over u = let j = round_of f (at_point q) in let i = round_of f (at_point u.point) in class_of lists i (ancestor f j i (first_member lists j c))

  pub over_in : (u : Step) → last_step f player (at_point q) ≡ Some u → IsClass lists (round_of f (at_point u.point)) (class_over u)
  over_in u e =
      let j = round_of f (at_point q) in
      let i = round_of f (at_point u.point) in
      let in_points : u.point < point_count f = omega (arith, w.earlier q u l e, l) in
      let some = w.some_round u.point in_points in
      class_in f lists k i (ancestor f j i (first_member lists j c)) some (w.point_in u.point in_points)
      ((is_table f r).kept j i (first_member lists j c) some (w.past q u l e) (member_in f lists k j c (w.some_round q l) (w.point_in q l) h))

  -- what comes to a class rests on the weights at earlier points
  pub came_kept : (xs ys : List ℕ) → AgreeBefore (slots_before f lists player q) xs ys → came_by ys ≡ came_by xs
  came_kept xs ys agree = by (last_step f player (at_point q)) refl
    where
      by : (o : Option Step) → last_step f player (at_point q) ≡ o
          → number_before f (lift f lists (plan_of f lists 1 ys)) o (round_of f (at_point q)) (first_member lists (round_of f (at_point q)) c)
          ≡ number_before f (lift f lists (plan_of f lists 1 xs)) o (round_of f (at_point q)) (first_member lists (round_of f (at_point q)) c)
      by None e = refl
      by (Some u) e =
          let his = w.chosen q u l e in
          let room = slot_before f lists player u.point (class_over u) u.choice q his.0 (over_in u e) his.1 (w.earlier q u l e) in
          agree (slot_of f lists u.point (class_over u) u.choice) (omega (arith, room, ap (λ p. slots_before f lists p u.point) his.0))

  -- weights that agree up to the next class keep the numbers of a class
  pub first_kept : (n : ℕ) (xs ys : List ℕ) → 0 < move_count f q → slots_before f lists player q + c * move_count f q ≤ n → AgreeBefore n xs ys
      → IsFirstAt f lists player xs q c → IsFirstAt f lists player ys q c
  first_kept n xs ys some room agree first =
      let at : (m : ℕ) → m < move_count f q → slot_of f lists q c m < n =
      λ m lm. omega (arith, room, slot_under c (move_count f q) m h.0 lm, ap (λ p. slots_before f lists p q) own) in
      record {
        came = agree (slot_of f lists q c 0) (at 0 some) ∙ first.came ∙ sym
            (came_kept xs ys (agree_less n (slots_before f lists player q) xs ys (omega (arith, room)) agree));
        others = λ m lo hi. agree (slot_of f lists q c m) (at m hi) ∙ first.others m lo hi;
      }

  -- a class's weights, once what comes there is put on the first move
  pub first_put : (xs : List ℕ) (slot came : ℕ) → slot ≡ slots_before f lists player q + (c - 1) * move_count f q → slot < length xs → came ≡ came_by xs
      → IsClear slot xs → IsFirstAt f lists player (set xs slot came) q c
  first_put xs slot came at room is clear =
      let place : slot_of f lists q c 0 ≡ slot = omega (arith, at, ap (λ p. slots_before f lists p q) own) in
      let agree : AgreeBefore (slots_before f lists player q) xs (set xs slot came) = λ k lk. get_or-set_other xs slot k came 0 (omega (arith, at)) in
      record {
        came = ap (λ n. get_or (set xs slot came) n 0) place ∙ get_or-set_same xs slot came 0 room ∙ is ∙ sym (came_kept xs (set xs slot came) agree);
        others = λ m lo hi.
            (let n = slot_of f lists q c m in
            let after : slot < n = omega (arith, at, ap (λ p. slots_before f lists p q) own) in
            get_or-set_other xs slot n came 0 (omega arith) ∙ clear n (omega arith));
      }

-- ---- what comes to a point is the same at all classes

module _ (f : Frame) (r : InRange f) (lists : ClassLists) (k : IsClasses f.parents lists) (player : ℕ) (w : IsWalked f player) (xs : List ℕ) (e : ℕ) (within : e
    ≤ point_count f) (firsts : AreFirstBefore f lists player xs e) where
  -- a move's weight is the same at all classes
  level : (n p c m : ℕ) → p < n → n ≤ e → player_at f p ≡ player → IsClass lists (round_of f (at_point p)) c → m < move_count f p
      → get_or xs (slot_of f lists p c m) 0 ≡ get_or xs (slot_of f lists p 1 m) 0
  level zero p c m lp le own h lm = absurd (omega arith)
  level (suc n) p c m lp le own h lm =
      let one : IsClass lists (round_of f (at_point p)) 1 = (omega arith, omega (arith, h.0, h.1)) in
      let in_all : p < e = omega arith in
      ⊎_elim
      (λ (is : m ≡ 0). subst (λ j. get_or xs (slot_of f lists p c j) 0 ≡ get_or xs (slot_of f lists p 1 j) 0) (sym is)
      ((firsts p c in_all own h).came ∙ by one (λ p c m a b o h l. level n p c m a b o h l) (last_step f player (at_point p)) refl
      ∙ sym (firsts p 1 in_all own one).came))
      (λ (other : m ≡ 0 → ⊥). (firsts p c in_all own h).others m (omega arith) lm ∙ sym ((firsts p 1 in_all own one).others m (omega arith) lm))
      (cases_eq m 0)
    where
      by : IsClass lists (round_of f (at_point p)) 1
          → ((p c m : ℕ) → p < n → n ≤ e → player_at f p ≡ player → IsClass lists (round_of f (at_point p)) c → m < move_count f p
          → get_or xs (slot_of f lists p c m) 0 ≡ get_or xs (slot_of f lists p 1 m) 0)
          → (o : Option Step) → last_step f player (at_point p) ≡ o
          → number_before f (lift f lists (plan_of f lists 1 xs)) o (round_of f (at_point p)) (first_member lists (round_of f (at_point p)) c)
          ≡ number_before f (lift f lists (plan_of f lists 1 xs)) o (round_of f (at_point p)) (first_member lists (round_of f (at_point p)) 1)
      by one up None t = refl
      by one up (Some u) t =
          let in_points : p < point_count f = omega arith in
          let before : u.point < n = omega (arith, w.earlier p u in_points t) in
          let his = w.chosen p u in_points t in
          up u.point (class_over f r lists k player w p in_points own c h u) u.choice before (omega arith) his.0
          (over_in f r lists k player w p in_points own c h u t) his.1
          ∙ sym (up u.point (class_over f r lists k player w p in_points own 1 one u) u.choice before (omega arith) his.0
          (over_in f r lists k player w p in_points own 1 one u t) his.1)

-- what comes to a class of the point `q`, from the weights `old` of earlier points, once others are written behind them
module _ (f : Frame) (r : InRange f) (lists : ClassLists) (k : IsClasses f.parents lists) (player : ℕ) (w : IsWalked f player) (q : ℕ) (l : q
    < point_count f) (own : player_at f q ≡ player) (c : ℕ)
    (h : IsClass lists (round_of f (at_point q)) c) where
  one_over : (s : StepSource) (u : Step) → IsSource f lists player (at_point q) u s → IsClass lists s.round 1
  one_over s u t = let over = over_in f r lists k player w q l own c h u t.made in
      subst (λ i. IsClass lists i 1) (sym t.round) (omega arith, omega (arith, over.0, over.1))

  pub first_room : (n : ℕ) → slots_before f lists player q ≤ n → (o : Option StepSource) → MatchSource f lists player (at_point q) o
      → IfSome o (λ s. slot_above s 1 < n)
  first_room n le None t = tt
  first_room n le (Some s) t = omega (arith, (source_facts f lists player q t.0 s w l t.1).within 1 (one_over s t.0 t.1), le)

  pub first_came : (old new : List ℕ) → AreFirstBefore f lists player old q → AgreeBefore (slots_before f lists player q) old new
      → (o : Option StepSource) → MatchSource f lists player (at_point q) o → (came : ℕ)
      → MatchOption o (came ≡ 1) (λ s. came ≡ get_or new (slot_above s 1) 0) → came ≡ came_by f r lists k player w q l own c h new
  first_came old new firsts kept None t came is =
      is ∙ ap (λ o. number_before f (lift f lists (plan_of f lists 1 new)) o (round_of f (at_point q)) (first_member lists (round_of f (at_point q)) c)) (sym t)
  first_came old new firsts kept (Some s) t came is =
      let u = t.0 in
      let facts = source_facts f lists player q u s w l t.1 in
      let his = w.chosen q u l t.1.made in
      let over = class_over f r lists k player w q l own c h u in
      let up : get_or old (slot_of f lists u.point over u.choice) 0 ≡ came_by f r lists k player w q l own c h old =
      ap (λ o. number_before f (lift f lists (plan_of f lists 1 old)) o (round_of f (at_point q)) (first_member lists (round_of f (at_point q)) c))
      (sym t.1.made) in
      is ∙ kept (slot_above s 1) (facts.within 1 (one_over s u t.1)) ∙ ap (λ n. get_or old n 0) (facts.slot 1)
      ∙ sym (level f r lists k player w old q (omega arith) firsts q u.point over u.choice (w.earlier q u l t.1.made) (omega arith) his.0
      (over_in f r lists k player w q l own c h u t.1.made) his.1)
      ∙ up ∙ sym (came_kept f r lists k player w q l own c h old new kept)

-- ---- the plan

later_zero : (n : ℕ) (g : ℕ → ℕ) (b : ℕ) → ((m : ℕ) → b ≤ m → m < b + n → g m ≡ 0) → sum_by g (range_with_len b n) ≡ 0
later_zero zero g b h = refl
later_zero (suc n) g b h = omega (
  arith,
  sum_by-cons g b (range_with_len (b + 1) n),
  h b (omega arith) (omega arith),
  later_zero n g (b + 1) (λ m lo hi. h m (omega arith) (omega arith)),
)

-- a sum whose first member is all
first_all : (n : ℕ) (g : ℕ → ℕ) → 0 < n → ((m : ℕ) → 0 < m → m < n → g m ≡ 0) → sum_by g (range_with_len 0 n) ≡ g 0
first_all zero g some h = absurd (omega arith)
first_all (suc n) g some h = omega (arith, sum_by-cons g 0 (range_with_len (0 + 1) n), later_zero n g (0 + 1) (λ m lo hi. h m (omega arith) (omega arith)))

pub first_plan_is : (f : Frame) (lists : ClassLists) (player : ℕ) (weights : List ℕ) → ((q : ℕ) → q < point_count f → 0 < move_count f q)
    → AreFirstBefore f lists player weights (point_count f)
    → IsClassPlan f lists player (plan_of f lists 1 weights)
first_plan_is f lists player weights some h = record {
  total_in = (omega arith, omega arith);
  flow = λ q c l own k.
      (let first = h q c l own k in
      first_all (move_count f q) (λ m. (plan_of f lists 1 weights).number q c m) (some q l) first.others ∙ first.came);
}

-- the slots of an own point
pub slots_own : (f : Frame) (lists : ClassLists) (player q : ℕ) → player_at f q ≡ player
    → slots_before f lists player (q + 1) ≡ slots_before f lists player q + class_count lists (round_of f (at_point q)) * move_count f q
slots_own f lists player q own =
    let test : (player_at f q == player) ≡ true = (Decides-eqb (player_at f q) player).1 own in
    let here : slots_at f lists player q ≡ class_count lists (round_of f (at_point q)) * move_count f q = rw test refl in
    omega (arith, slots_more f lists player q, here)

-- one more point of the player
pub firsts_more : (f : Frame) (r : InRange f) (lists : ClassLists) (k : IsClasses f.parents lists) (player : ℕ) (w : IsWalked f player) (some : (p : ℕ)
    → p < point_count f → 0 < move_count f p) (q : ℕ) (xs ys : List ℕ)
    → q < point_count f → AreFirstBefore f lists player xs q → AgreeBefore (slots_before f lists player q) xs ys
    → ((c : ℕ) → IsClass lists (round_of f (at_point q)) c → IsFirstAt f lists player ys q c)
    → AreFirstBefore f lists player ys (q + 1)
firsts_more f r lists k player w some q xs ys l firsts agree here p c lp own h = ⊎_elim
    (λ e. subst (λ n. IsFirstAt f lists player ys n c) (sym e) (here c (subst (λ n. IsClass lists (round_of f (at_point n)) c) e h)))
    (λ other.
    let before : p < q = omega arith in
    let in_points : p < point_count f = omega (arith, before, l) in
    first_kept f r lists k player w p in_points own c h (slots_before f lists player q) xs ys (some p in_points)
    (omega (arith, slots_own f lists player p own, mul-le-mul_right (move_count f p) h.1, slots_le f lists player (p + 1) q (omega arith))) agree
    (firsts p c before own h))
    (cases_eq p q)

-- one more point of the other player
pub firsts_same : (f : Frame) (lists : ClassLists) (player q : ℕ) (xs : List ℕ) → AreFirstBefore f lists player xs q → (player_at f q ≡ player → ⊥)
    → AreFirstBefore f lists player xs (q + 1)
firsts_same f lists player q xs firsts other p c lp own h = ⊎_elim (λ e. absurd (other (sym (ap (player_at f) e) ∙ own)))
    (λ ne. firsts p c (omega arith) own h) (cases_eq p q)
