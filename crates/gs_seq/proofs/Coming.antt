-- What comes to a class of a point.
use Rattle.std.proofs.Common.{◌≡◌, ℕ, suc, ◌+◌, ◌-◌, ◌*◌, ◌<◌, ◌≤◌, List, get_or, refl, sym, ap, ◌∙◌, subst, arith, true, Option, Some, None}
use Rattle.std.proofs.{Math.Nat.{mul-le-mul_right}, lemmas.Bool.Decides.{Decides-eqb}}
use Rattle.std.specs.Prelude.{◌==◌, option_map}
use Rattle.gs_filter.specs.Filter.{Filter}
use Rattle.gs_game.specs.{Seen.{step_of}, declared.positions.Point.{Point as StoredPoint}, declared.positions.Step.{Step as StoredStep}}
use Rattle.gs_model.specs.Classes.{ClassLists, IsClass, class_count, class_of, first_member}
use Rattle.gs_model.specs.{Frame.{Frame, ancestor, end_count, last_step, move_count, player_at, point_count, round_of}, FrameFacts.{InRange, IsWalked}}
use Rattle.gs_model.specs.{Plans.{lift, number_before}, Positions.{Step, Target, at_end, at_point}}
use Rattle.gs_seq.specs.{Slots.{plan_of, slot_count, slot_of, slots_at, slots_before}, Sources.{IsSource, IsWeightAbove, slot_above}}
use Rattle.gs_seq.specs.declared.flows.StepSource.{StepSource}
use Rattle.gs_seq.proofs.{Points.{Reads}, SlotLaws.{slots_le, slots_more}}

-- the step that a point of the program names
pub made : (f : Frame) (player q : ℕ) (p : StoredPoint) (u : StoredStep) → Reads f q p → player_at f q ≡ player → p.own ≡ Some u
    → last_step f player (at_point q) ≡ Some (step_of u)
made f player q p u r own e = ap (λ k. last_step f k (at_point q)) (sym own) ∙ sym r.own ∙ ap (option_map step_of) e

pub none_made : (f : Frame) (player q : ℕ) (p : StoredPoint) → Reads f q p → player_at f q ≡ player → p.own ≡ None → last_step f player (at_point q) ≡ None
none_made f player q p r own e = ap (λ k. last_step f k (at_point q)) (sym own) ∙ sym r.own ∙ ap (option_map step_of) e

row_in : (c n k m : ℕ) → 0 < c → c ≤ n → m < k → (c - 1) * k + m < n * k
row_in c n k m some top l =
    let up = mul-le-mul_right k top in
    let e : c ≡ suc (c - 1) = omega arith in
    omega (arith, up, ap (λ i. i * k) e, l)

-- a slot at a point is one of the player's slots up to the next point
pub slot_in : (f : Frame) (lists : ClassLists) (player q c m : ℕ) → player_at f q ≡ player → IsClass lists (round_of f (at_point q)) c → m < move_count f q
    → slots_before f lists player q + ((c - 1) * move_count f q + m) < slots_before f lists player (q + 1)
slot_in f lists player q c m own k l =
    let test : (player_at f q == player) ≡ true = (Decides-eqb (player_at f q) player).1 own in
    let here : slots_at f lists player q ≡ class_count lists (round_of f (at_point q)) * move_count f q = rw test refl in
    omega (arith, slots_more f lists player q, here, row_in c (class_count lists (round_of f (at_point q))) (move_count f q) m k.0 k.1 l)

-- and so one of those before any later point
pub slot_before : (f : Frame) (lists : ClassLists) (player q c m later : ℕ) → player_at f q ≡ player → IsClass lists (round_of f (at_point q)) c
    → m < move_count f q → q < later
    → slots_before f lists player q + ((c - 1) * move_count f q + m) < slots_before f lists player later
slot_before f lists player q c m later own k l lq = omega (arith, slot_in f lists player q c m own k l, slots_le f lists player (q + 1) later (omega arith))

-- the number of a step at the class above
pub number_at : (f : Frame) (lists : ClassLists) (total : ℕ) (weights : List ℕ) (u : Step) (o : Option Step) (round s above slot : ℕ) → o ≡ Some u
    → above ≡ class_of lists (round_of f (at_point u.point)) (ancestor f round (round_of f (at_point u.point)) s)
    → slot ≡ slots_before f lists (player_at f u.point) u.point + ((above - 1) * move_count f u.point + u.choice)
    → get_or weights slot 0 ≡ number_before f (lift f lists (plan_of f lists total weights)) o round s
number_at f lists total weights u o round s above slot e a at =
    ap (λ k. get_or weights k 0) at
    ∙ ap (λ k. get_or weights (slot_of f lists u.point k u.choice) 0) a
    ∙ ap (λ v. number_before f (lift f lists (plan_of f lists total weights)) v round s) (sym e)

-- where a source's step stands among the slots before a later point
pub record SourceFacts (f : Frame) (lists : ClassLists) (to : Target) (room : ℕ) (u : Step) (s : StepSource) : Type 0 where
  pub some : 0 < s.round
  pub earlier : s.round ≤ round_of f to
  pub within : (above : ℕ) → IsClass lists s.round above → s.first + ((above - 1) * s.moves + s.choice) < room
  pub slot : (above : ℕ) → s.first + ((above - 1) * s.moves + s.choice) ≡ slots_before f lists (player_at f u.point) u.point
      + ((above - 1) * move_count f u.point + u.choice)

facts_by : (f : Frame) (lists : ClassLists) (player : ℕ) (to : Target) (later : ℕ) (u : Step) (s : StepSource) → IsSource f lists player to u s
    → 0 < round_of f (at_point u.point) → u.point < later
    → round_of f (at_point u.point) ≤ round_of f to → (player_at f u.point ≡ player) × (u.choice < move_count f u.point)
    → SourceFacts f lists to (slots_before f lists player later) u s
facts_by f lists player to later u s h some before past his =
    let same : (above : ℕ) → s.first + ((above - 1) * s.moves + s.choice)
    ≡ slots_before f lists player u.point + ((above - 1) * move_count f u.point + u.choice) =
    λ above. omega (arith, h.first, ap (λ k. (above - 1) * k) h.moves, h.choice) in
    record {
      some = omega (arith, h.round, some);
      earlier = omega (arith, h.round, past);
      within = λ above k. omega (
        arith,
        same above,
        slot_before f lists player u.point above u.choice later his.0
            (subst (λ r. IsClass lists r above) h.round k) his.1 before,
      );
      slot = λ above. same above ∙ ap (λ p. slots_before f lists p u.point + ((above - 1) * move_count f u.point + u.choice)) (sym his.0);
    }

pub source_facts : (f : Frame) (lists : ClassLists) (player q : ℕ) (u : Step) (s : StepSource) → IsWalked f player → q < point_count f
    → IsSource f lists player (at_point q) u s
    → SourceFacts f lists (at_point q) (slots_before f lists player q) u s
source_facts f lists player q u s w l h =
    let before = w.earlier q u l h.made in facts_by f lists player (at_point q) q u s h (w.some_round u.point (omega (arith, before, l))) before
    (w.past q u l h.made) (w.chosen q u l h.made)

pub end_facts : (f : Frame) (lists : ClassLists) (player z : ℕ) (u : Step) (s : StepSource) → IsWalked f player → z < end_count f
    → IsSource f lists player (at_end z) u s
    → SourceFacts f lists (at_end z) (slot_count f lists player) u s
end_facts f lists player z u s w l h =
    let before = w.earlier_end z u l h.made in facts_by f lists player (at_end z) (point_count f) u s h (w.some_round u.point before) before
    (w.past_end_own z u l h.made) (w.chosen_end z u l h.made)

-- the weight of a source's step, at the class above, is the plan's number before the position
pub number_above : (f : Frame) → InRange f → (c : Filter) → f.parents ≡ c.parents → (player : ℕ) (to : Target) (room : ℕ) (u : Step) (s : StepSource)
    → IsSource f c.lists player to u s → SourceFacts f c.lists to room u s
    → (total round class : ℕ) → round ≡ round_of f to → (weights : List ℕ) (weight : ℕ) → IsWeightAbove c s round class weights weight
    → weight ≡ number_before f (lift f c.lists (plan_of f c.lists total weights)) (last_step f player to) (round_of f to)
    (first_member c.lists (round_of f to) class)
number_above f r c e player to room u s h facts total round class here weights weight t =
    t.3
    ∙ number_at f c.lists total weights u (last_step f player to) (round_of f to) (first_member c.lists (round_of f to) class) t.0 (slot_above s t.0) h.made
    (t.2 f r e ∙ ap (λ k. class_of c.lists s.round (ancestor f k s.round (first_member c.lists k class))) here
    ∙ ap (λ k. class_of c.lists k (ancestor f (round_of f to) k (first_member c.lists (round_of f to) class))) h.round)
    (facts.slot t.0)
