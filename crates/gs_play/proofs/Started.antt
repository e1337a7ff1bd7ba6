-- An answer as turns begin, which takes the first move everywhere, and as they end, where no move is taken any more.
use Rattle.std.proofs.{Common.{◌≡◌, ℕ, ◌+◌, ◌-◌, ◌<◌, ◌≤◌, cond, length, get_or, replicate, refl, ap, ◌∙◌, subst, arith, ⊎_elim}, lemmas.Bool.{cases_eq}}
use Rattle.std.proofs.lemmas.List.{length-replicate}
use Rattle.gs_model.specs.{Classes.{ClassLists, IsClass}, Frame.{Frame, last_step, move_count, player_at, point_count, round_of}, Positions.{at_point}}
use Rattle.gs_model.proofs.Basics.{not_eq}
use Rattle.gs_seq.specs.Slots.{plan_of, slot_count, slot_of}
use Rattle.gs_best.specs.Tables.{moves_of, start_of}
use Rattle.gs_play.specs.{PlanSums.{ArePlansAlike}, Answers.{AreKeptBut, AreRight, HasAnswer, plan_after}, declared.answers.Answer.{Answer}}
use Rattle.gs_play.proofs.{Clear.{same_at}, PlansAlike.{alike_on}, Taken.{reached_or}}

module _ (f : Frame) (lists : ClassLists) (player : ℕ) (a : Answer) where
  -- lists of the right lengths: all weights and turns are 0, and the first move is taken where the answer comes
  pub record IsFresh : Type 0 where
    pub weights : a.weights.items ≡ replicate (slot_count f lists player) 0
    pub taken : length a.taken.items ≡ start_of f lists (point_count f)
    pub since : a.since.items ≡ replicate (start_of f lists (point_count f)) 0
    pub turned : length a.turned.items ≡ point_count f
    pub right : AreRight f lists player (moves_of f lists a.taken.items) (λ q c. 0)

  pub fresh_has : ((q : ℕ) → q < point_count f → 0 < move_count f q) → IsFresh → HasAnswer f lists player 0 a
  fresh_has some h = record {
    weights = ap length h.weights ∙ length-replicate (slot_count f lists player) 0;
    taken = h.taken;
    since = ap length h.since ∙ length-replicate (start_of f lists (point_count f)) 0;
    turned = h.turned;
    moves = λ q c lq own lc less. ⊎_elim
        (λ reached. (let first = (h.right q c lq own lc).on reached in let m = some q lq in omega (arith, first, m)))
        (λ no_way. absurd (let none = (h.right q c lq own lc).off no_way in omega (arith, none, less)))
        (reached_or f lists (moves_of f lists a.taken.items) (last_step f (player_at f q) (at_point q)) (round_of f (at_point q)) c);
    begun = λ k. (let z = ap (λ xs. get_or xs k 0) h.since ∙ same_at {X = ℕ} (start_of f lists (point_count f)) k 0 in omega (arith, z));
    few = λ q c m lq own lc lm.
        (let slot = slot_of f lists q c m in
        let z = ap (λ xs. get_or xs slot 0) h.weights ∙ same_at {X = ℕ} (slot_count f lists player) slot 0 in omega (arith, z));
  }

  -- where no move is taken the weights alone are the plan
  pub stopped_plan : (last : ℕ) → ((q : ℕ) → q < point_count f → move_count f q ≤ 255)
      → ((q c : ℕ) → q < point_count f → player_at f q ≡ player → IsClass lists (round_of f (at_point q)) c → moves_of f lists a.taken.items q c ≡ 255)
      → ArePlansAlike f lists player (plan_of f lists last a.weights.items) (plan_after f lists a last)
  stopped_plan last few none = record {
    total = refl;
    numbers = λ q c m lq own lc lm.
        (let e = none q c lq own lc in
        let n = few q lq in
        let no_move = ap (λ b. cond b (last - moves_of f lists a.since.items q c) 0)
        (not_eq m (moves_of f lists a.taken.items q c) (omega (arith, e, n, lm))) in
        omega (arith, no_move));
  }

-- ---- turns end

-- no move is taken any more at own points before one; the plan is what it was
pub record IsStoppedBefore (f : Frame) (lists : ClassLists) (player n last : ℕ) (start now : Answer) : Type 0 where
  pub answer : HasAnswer f lists player last now
  pub none : (q c : ℕ) → q < n → q < point_count f → player_at f q ≡ player → IsClass lists (round_of f (at_point q)) c
      → moves_of f lists now.taken.items q c ≡ 255
  pub plan : ArePlansAlike f lists player (plan_after f lists now last) (plan_after f lists start last)

module _ (f : Frame) (lists : ClassLists) (player n last : ℕ) (start now : Answer) (done : IsStoppedBefore f lists player n last start now) where
  -- a point of the other player
  pub stopped_other : (player_at f n ≡ player → ⊥) → IsStoppedBefore f lists player (n + 1) last start now
  stopped_other his = record {
    answer = done.answer;
    none = λ q c less lq own lc. ⊎_elim
        (λ (same : q ≡ n). absurd (his (subst (λ i. player_at f i ≡ player) same own)))
        (λ (other : q ≡ n → ⊥). done.none q c (omega (arith, less, other)) lq own lc)
        (cases_eq q n);
    plan = done.plan;
  }

  -- an own point
  pub stopped_more : (next : Answer) → HasAnswer f lists player last next
      → ((c : ℕ) → IsClass lists (round_of f (at_point n)) c → moves_of f lists next.taken.items n c ≡ 255)
      → AreKeptBut f lists n now.taken.items next.taken.items → ArePlansAlike f lists player (plan_after f lists next last) (plan_after f lists now last)
      → IsStoppedBefore f lists player (n + 1) last start next
  stopped_more next answer here kept plan = record {
    answer = answer;
    none = λ q c less lq own lc. ⊎_elim
        (λ (same : q ≡ n). ap (λ i. moves_of f lists next.taken.items i c) same ∙ here c (subst (λ i. IsClass lists (round_of f (at_point i)) c) same lc))
        (λ (other : q ≡ n → ⊥). kept q c lq lc other ∙ done.none q c (omega (arith, less, other)) lq own lc)
        (cases_eq q n);
    plan = alike_on f lists player (plan_after f lists next last) (plan_after f lists now last) (plan_after f lists start last) plan done.plan;
  }
