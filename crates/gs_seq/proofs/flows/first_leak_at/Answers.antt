use Rattle.std.proofs.{lemmas.Grind.{common_steps}, Common.{◌≡◌, ◌+◌, ◌<◌, ◌≤◌, ℕ, sum_by, ap, sym, ◌∙◌, subst, arith, ⊎_elim}, lemmas.Bool.{cases_eq}}
use Rattle.gs_model.specs.{Classes.{class_count, first_member}, Frame.{choices_at, last_step, round_of}, Plans.{lift, number_before}, Positions.{at_point}}
use Rattle.gs_seq.specs.{Faults.{FlowsAt}, Games.{frame_in}, Slots.{plan_of}, Sources.{MatchSource}}
use Rattle.gs_seq.proofs.{Leaks.{RowAt, class_sum, row_at}, Points.{Reads, point_reads}, SlotLaws.{classes_in, slots_own_before}}
use Rattle.gs_seq.proofs.flows.first_leak_at.Goals.{After-len-moves, After-from, In-loop-before}
use Rattle.gs_seq.proofs.flows.first_leak_at.Goals as goal

-- what holds of the first classes holds of one more
one_more : (P : ℕ → Type 0) (n : ℕ) → ((k : ℕ) → 0 < k → k ≤ n → P k) → P (n + 1) → (k : ℕ) → 0 < k → k ≤ n + 1 → P k
one_more P n before here k some l = ⊎_elim (λ e. subst P (sym e) here) (λ other. before k some (omega (arith, l, other))) (cases_eq k (n + 1))

-- what the point says
reads : (c : After-len-moves) → Reads (frame_in c.args.game.now) c.args.point c.index-points-point.result
reads c = point_reads c.args.game.now c.points.result.now c.args.point c.index-points-point.result c.points.ensures c.requires.in_range c.index-points-point.is

-- where the weights of the class stand
row : (c : In-loop-before) → RowAt (frame_in c.args.game.now) c.args.classes.now.lists c.args.player c.args.point c.loop-before.before c.args.first
    c.len-moves.result
row c =
    row_at c.args.game.now c.args.classes.now c.requires.parents c.args.player c.args.point c.loop-before.before c.args.first c.len-moves.result
    c.classes-before-end.result
    c.index-points-point.result (reads (goal.at.In-loop-before c).After-len-moves) c.requires.own c.requires.in_range c.requires.first
    (omega (arith, c.len-moves.ensures)) c.classes-before-end.ensures c.loop-before-test.true

-- the two numbers that are compared are the sum of the moves' weights, and what comes to the class
record AreSums (c : After-from) : Type 0 where
  pub sum : c.total_from.result
      ≡ sum_by (λ m. (plan_of (frame_in c.args.game.now) c.args.classes.now.lists c.args.total c.args.weights.now).number c.args.point
      (c.loop-before.before + 1) m) (choices_at (frame_in c.args.game.now) c.args.point)
  pub came : c.from.result
      ≡ number_before (frame_in c.args.game.now) (lift (frame_in c.args.game.now) c.args.classes.now.lists
      (plan_of (frame_in c.args.game.now) c.args.classes.now.lists c.args.total c.args.weights.now))
      (last_step (frame_in c.args.game.now) c.args.player (at_point c.args.point)) (round_of (frame_in c.args.game.now) (at_point c.args.point))
      (first_member c.args.classes.now.lists (round_of (frame_in c.args.game.now) (at_point c.args.point)) (c.loop-before.before + 1))

sums : (c : After-from) → AreSums c
sums c =
    let f = frame_in c.args.game.now in
    let q = c.args.point in
    let lists = c.args.classes.now.lists in
    let r = row (goal.at.After-from c).In-loop-before in
    record {
      sum = c.total_from.ensures
          ∙ class_sum f lists c.args.player q c.loop-before.before c.args.first c.len-moves.result c.args.total c.args.weights.now c.requires.own r.many
          c.requires.first (omega (arith, r.room, c.requires.long));
      came = c.from.ensures ∙ c.coming-came.ensures
          ∙ ap (λ p. number_before f (lift f lists (plan_of f lists c.args.total c.args.weights.now)) (last_step f p (at_point q)) (round_of f (at_point q))
          (first_member lists (round_of f (at_point q)) (c.loop-before.before + 1)))
          c.requires.own;
    }

-- where the two are equal, the class has no leak
flows : (c : After-from) → c.total_from.result ≡ c.from.result → FlowsAt (frame_in c.args.game.now) c.args.classes.now.lists c.args.player
    (plan_of (frame_in c.args.game.now) c.args.classes.now.lists c.args.total c.args.weights.now) c.args.point (c.loop-before.before + 1)
flows c e = sym (sums c).sum ∙ e ∙ (sums c).came

pub classes-before-end-requires : goal.classes-before-end-requires
classes-before-end-requires c =
    let h = classes_in c.args.game.now c.args.classes.now c.requires.parents c.args.point c.index-points-point.result
    (reads (goal.at.classes-before-end-requires c).After-len-moves) c.requires.in_range in
    record { some = h.0; top = h.1 }

pub overflow_mul-slot : goal.overflow_mul-slot
overflow_mul-slot c = let r = row (goal.at.overflow_mul-slot c).In-loop-before in omega (arith, r.room, r.few)

pub overflow_add-slot : goal.overflow_add-slot
overflow_add-slot c = let r = row (goal.at.overflow_add-slot c).In-loop-before in omega (arith, r.room, r.few)

pub coming-came-requires-clause-source : goal.coming-came-requires-clause-source
coming-came-requires-clause-source c =
    let f = frame_in c.args.game.now in
    subst (λ p. MatchSource f c.args.classes.now.lists p (at_point c.args.point) c.source_of-source.result) (sym c.requires.own) c.source_of-source.ensures

pub coming-came-requires-clause-class : goal.coming-came-requires-clause-class
coming-came-requires-clause-class c = (omega arith, omega (arith, (row (goal.at.coming-came-requires-clause-class c).In-loop-before).below))

pub coming-came-requires-clause-long : goal.coming-came-requires-clause-long
coming-came-requires-clause-long c = omega (
  arith,
  slots_own_before (frame_in c.args.game.now) c.args.classes.now.lists c.args.player c.args.point
      c.requires.own c.requires.in_range,
  c.requires.long,
)

pub total_from-requires : goal.total_from-requires
total_from-requires c = let r = row (goal.at.total_from-requires c).In-loop-before in omega (arith, r.room, c.requires.long)

pub returns-then-total_from-from : goal.returns-then-total_from-from
returns-then-total_from-from c =
    let r = row (goal.at.returns-then-total_from-from c).In-loop-before in
    let s = sums (goal.at.returns-then-total_from-from c).After-from in (
      (omega arith, omega (arith, r.below)),
      (λ k some l. c.loop-before.invariant k some (omega (arith, l))),
      λ e. c.if-total_from-from.true
          (s.sum ∙ e ∙ sym s.came),
    )

pub loop-before-preserved : goal.loop-before-preserved
loop-before-preserved c =
    let f = frame_in c.args.game.now in
    let lists = c.args.classes.now.lists in
    one_more (FlowsAt f lists c.args.player (plan_of f lists c.args.total c.args.weights.now) c.args.point) c.loop-before.before c.loop-before.invariant
    (flows (goal.at.loop-before-preserved c).After-from c.if-total_from-from.false)

pub returns : goal.returns
returns c =
    let r = reads (goal.at.returns c).After-len-moves in
    λ k h. c.loop-before.invariant k h.0 (omega (
      arith,
      h.1,
      c.loop-before-test.false,
      c.classes-before-end.ensures,
      ap (class_count
          c.args.classes.now.lists) r.round,
    ))

pub bounds-points-point : goal.bounds-points-point
bounds-points-point c = grind (arith, common_steps)

pub overflow_add-result : goal.overflow_add-result
overflow_add-result c = grind arith

pub coming-came-requires-clause-in_range : goal.coming-came-requires-clause-in_range
coming-came-requires-clause-in_range c = omega arith

pub coming-came-requires-clause-parents : goal.coming-came-requires-clause-parents
coming-came-requires-clause-parents c = grind arith
