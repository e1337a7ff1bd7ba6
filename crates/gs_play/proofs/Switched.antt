-- What changes of a player's answer where another move is taken at a class: the plan so far stays, and goes on by the new move.
use Rattle.std.proofs.{Common.{◌≡◌, ℕ, ◌+◌, ◌-◌, ◌<◌, ◌≤◌, Bool, true, false, cond, length, get_or, set, refl, ap, ◌∙◌, arith, ⊎_elim}, lemmas.Bool.{cases_eq}}
use Rattle.std.proofs.Common.{get_or-set_other, get_or-set_same, length-set}
use Rattle.std.specs.Prelude.{◌==◌}
use Rattle.gs_model.specs.{Classes.{ClassLists, IsClass}, Frame.{Frame, move_count, player_at, point_count, round_of}, Positions.{at_point}}
use Rattle.gs_seq.specs.Slots.{slot_of}
use Rattle.gs_best.specs.Tables.{moves_of, start_of}
use Rattle.gs_best.proofs.PointStarts.{place_before}
use Rattle.gs_play.specs.{PlanSums.{ArePlansAlike}, Answers.{HasAnswer, IsElsewhere, IsPaidOff, plan_after}, Plots.{cell_place}}
use Rattle.gs_play.specs.declared.answers.Answer.{Answer}
use Rattle.gs_play.proofs.{Lists.{other_cell}, Slotted.{at_or, counted_here, counted_other}}

-- the weight so far is written, and the other move and the turn
pub record IsSwitched (f : Frame) (lists : ClassLists) (player q c new now : ℕ) (a b : Answer) : Type 0 where
  pub weights : (p e m : ℕ) → p < point_count f → player_at f p ≡ player → IsClass lists (round_of f (at_point p)) e → m < move_count f p
      → IsPaidOff f lists q c now p e m a b
  pub long : length b.weights.items ≡ length a.weights.items
  pub taken : b.taken.items ≡ set a.taken.items (cell_place f lists q c) new
  pub since : b.since.items ≡ set a.since.items (cell_place f lists q c) now
  pub turned : b.turned.items ≡ set a.turned.items q true

module _ (f : Frame) (lists : ClassLists) (player q c new now : ℕ) (lq : q < point_count f) (own : player_at f q ≡ player)
    (lc : IsClass lists (round_of f (at_point q)) c) (a b : Answer) (has : HasAnswer f lists player now a)
    (s : IsSwitched f lists player q c new now a b) where
  abbrev taken : Answer → ℕ → ℕ → ℕ
  taken x p e = moves_of f lists x.taken.items p e

  abbrev since : Answer → ℕ → ℕ → ℕ
  since x p e = moves_of f lists x.since.items p e

  abbrev weight : Answer → ℕ → ℕ → ℕ → ℕ
  weight x p e m = get_or x.weights.items (slot_of f lists p e m) 0

  inside : cell_place f lists q c < start_of f lists (point_count f)
  inside = place_before f lists q c (point_count f) lc lq

  pub switched_here : taken b q c ≡ new
  switched_here = ap (λ xs. moves_of f lists xs q c) s.taken ∙ get_or-set_same a.taken.items (cell_place f lists q c) new 0 (omega (arith, inside, has.taken))

  since_here : since b q c ≡ now
  since_here = ap (λ xs. moves_of f lists xs q c) s.since ∙ get_or-set_same a.since.items (cell_place f lists q c) now 0 (omega (arith, inside, has.since))

  taken_other : (p e : ℕ) → IsClass lists (round_of f (at_point p)) e → (p ≡ q → e ≡ c → ⊥) → taken b p e ≡ taken a p e
  taken_other p e le apart = other_cell f lists a.taken.items b.taken.items q c new p e s.taken lc le apart

  since_other : (p e : ℕ) → IsClass lists (round_of f (at_point p)) e → (p ≡ q → e ≡ c → ⊥) → since b p e ≡ since a p e
  since_other p e le apart = other_cell f lists a.since.items b.since.items q c now p e s.since lc le apart

  weight_here : (m : ℕ) → m < move_count f q → weight b q c m ≡ weight a q c m + cond (m == taken a q c) (now - since a q c) 0
  weight_here m lm = s.weights q c m lq own lc lm ∙ ap (λ n. weight a q c m + n) (counted_here q c (taken a q c) (now - since a q c) m)

  weight_other : (p e m : ℕ) → p < point_count f → player_at f p ≡ player → IsClass lists (round_of f (at_point p)) e → m < move_count f p
      → (p ≡ q → e ≡ c → ⊥) → weight b p e m ≡ weight a p e m
  weight_other p e m lp his le lm apart =
      let h = s.weights p e m lp his le lm in
      let none = counted_other q c (taken a q c) (now - since a q c) p e m apart in
      omega (arith, h, none)

  pub switched_elsewhere : IsElsewhere f lists q c a b
  switched_elsewhere = record {
    taken = λ p e lp le apart. taken_other p e le apart;
    turned = λ p other. ap (λ xs. get_or xs p false) s.turned ∙ get_or-set_other a.turned.items q p true false other;
  }

  -- ---- what holds of the answer

  begun : (k : ℕ) → get_or b.since.items k 0 ≤ now
  begun k =
      let cell = cell_place f lists q c in
      let at = ap (λ xs. get_or xs k 0) s.since in
      ⊎_elim
      (λ (same : k ≡ cell).
      let here = ap (λ i. get_or (set a.since.items cell now) i 0) same ∙ get_or-set_same a.since.items cell now 0 (omega (arith, inside, has.since)) in
      omega (arith, at, here))
      (λ (other : k ≡ cell → ⊥).
      let there = get_or-set_other a.since.items cell k now 0 other in
      omega (arith, at, there, has.begun k))
      (cases_eq k cell)

  paid_few : (b : Bool) (w s : ℕ) → w ≤ s → s ≤ now → w + cond b (now - s) 0 ≤ now
  paid_few true w s l m = omega (arith, l, m)
  paid_few false w s l m = omega (arith, l, m)

  few : (p e m : ℕ) → p < point_count f → player_at f p ≡ player → IsClass lists (round_of f (at_point p)) e → m < move_count f p
      → weight b p e m ≤ since b p e
  few p e m lp his le lm = at_or
      (λ p e. p < point_count f → player_at f p ≡ player → IsClass lists (round_of f (at_point p)) e → m < move_count f p → weight b p e m ≤ since b p e)
      q c p e
      (λ lp his le lm. (let h = paid_few (m == taken a q c) (weight a q c m) (since a q c) (has.few q c m lq own lc lm) (has.begun (cell_place f lists q c)) in
      omega (arith, weight_here m lm, h, since_here)))
      (λ apart lp his le lm. omega (arith, weight_other p e m lp his le lm apart, has.few p e m lp his le lm, since_other p e le apart))
      lp his le lm

  pub switched_has : (new < 255 → new < move_count f q) → HasAnswer f lists player now b
  switched_has moves = record {
    weights = s.long ∙ has.weights;
    taken = ap length s.taken ∙ length-set a.taken.items (cell_place f lists q c) new ∙ has.taken;
    since = ap length s.since ∙ length-set a.since.items (cell_place f lists q c) now ∙ has.since;
    turned = ap length s.turned ∙ length-set a.turned.items q true ∙ has.turned;
    moves = λ p e lp his le. at_or
        (λ p e. p < point_count f → player_at f p ≡ player → IsClass lists (round_of f (at_point p)) e → taken b p e < 255 → taken b p e < move_count f p)
        q c p e
        (λ lp his le less. (let t = switched_here in let m = moves (omega (arith, t, less)) in omega (arith, t, m)))
        (λ apart lp his le less. (let t = taken_other p e le apart in let m = has.moves p e lp his le (omega (arith, t, less)) in omega (arith, t, m)))
        lp his le;
    begun = begun;
    few = few;
  }

  -- the plan so far stays
  pub switched_plan : ArePlansAlike f lists player (plan_after f lists b now) (plan_after f lists a now)
  switched_plan = record {
    total = refl;
    numbers = λ p e m lp his le lm. at_or
        (λ p e. p < point_count f → player_at f p ≡ player → IsClass lists (round_of f (at_point p)) e → m < move_count f p
        → weight b p e m + cond (m == taken b p e) (now - since b p e) 0 ≡ weight a p e m + cond (m == taken a p e) (now - since a p e) 0)
        q c p e
        (λ lp his le lm. omega (arith, nothing_yet (m == taken b q c) (since b q c) since_here, weight_here m lm))
        (λ apart lp his le lm.
        ap (λ n. n + cond (m == taken b p e) (now - since b p e) 0) (weight_other p e m lp his le lm apart)
        ∙ ap (λ n. weight a p e m + cond (m == n) (now - since b p e) 0) (taken_other p e le apart)
        ∙ ap (λ n. weight a p e m + cond (m == taken a p e) (now - n) 0) (since_other p e le apart))
        lp his le lm;
  }
    where
      nothing_yet : (b : Bool) (n : ℕ) → n ≡ now → cond b (now - n) 0 ≡ 0
      nothing_yet true n is = omega (arith, is)
      nothing_yet false n is = refl
