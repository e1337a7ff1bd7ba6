use Rattle.std.proofs.Common.{◌≡◌, ◌*◌, ◌<◌, ◌≤◌, ◌∷◌, [], ap, arith, length, sym, ◌∙◌}
use Rattle.gs_model.specs.Deals.{Deal}
use Rattle.gs_tree.specs.{Trees.{rules_of}, Walk.{deals_between, last_count, pair_number}}
use Rattle.gs_tree.proofs.Steps.{step_none, step_some, walk_within, walked}
use Rattle.gs_tree.proofs.deals.DealsIterator.next.Goals as goal

pub returns-then-deal-gt0-clause-steps : goal.returns-then-deal-gt0-clause-steps
returns-then-deal-gt0-clause-steps c =
    let s = c.loop-self.self-inside in
    let some : 0 < c.deal-deal.result.weight = omega (arith, ap (λ (d : Deal). d.weight) c.deal.view_is, c.if-deal-gt0.true) in
    sym c.loop-self.invariant.left
    ∙ step_some (rules_of s.signals.now) s.one s.two c.next_pair-one.result.0 c.next_pair-one.result.1 s.end c.deal-deal.result c.loop-self-test.true
    (c.loop-self.invariant.on.two_in c.loop-self-test.true) c.next_pair-one.ensures c.deal-deal.ensures some

pub returns-then-deal-gt0-clause-goes : goal.returns-then-deal-gt0-clause-goes
returns-then-deal-gt0-clause-goes c =
    let s = c.loop-self.self-inside in
    let g = rules_of s.signals.now in
    let some : 0 < c.deal-deal.result.weight = omega (arith, ap (λ (d : Deal). d.weight) c.deal.view_is, c.if-deal-gt0.true) in
    let step : c.args.self.now ≡ c.deal-deal.result ∷ deals_between g (pair_number g c.next_pair-one.result.0 c.next_pair-one.result.1) (s.end * last_count g) =
    sym c.loop-self.invariant.left
    ∙ step_some g s.one s.two c.next_pair-one.result.0 c.next_pair-one.result.1 s.end c.deal-deal.result c.loop-self-test.true
    (c.loop-self.invariant.on.two_in c.loop-self-test.true) c.next_pair-one.ensures c.deal-deal.ensures some in
    record { on = λ _. (tt, tt, omega (arith, ap length step)); keeps = tt; rests = λ _. tt }

pub loop-self-preserved : goal.loop-self-preserved
loop-self-preserved c =
    let s = c.loop-self.self-inside in
    let none : c.deal-deal.result.weight ≤ 0 = omega (arith, ap (λ (d : Deal). d.weight) c.deal.view_is, c.if-deal-gt0.false) in
    record {
      left = sym (step_none (rules_of s.signals.now) s.one s.two c.next_pair-one.result.0 c.next_pair-one.result.1 s.end c.deal-deal.result
          c.loop-self-test.true (c.loop-self.invariant.on.two_in c.loop-self-test.true) c.next_pair-one.ensures c.deal-deal.ensures none)
          ∙ c.loop-self.invariant.left;
      on = walk_within (rules_of s.signals.now) c.next_pair-one.result.0 c.next_pair-one.result.1 s.end c.loop-self.invariant.on.end_in
          c.next_pair-one.ensures.on;
    }

pub returns-clause-steps : goal.returns-clause-steps
returns-clause-steps c =
    let s = c.loop-self.self-inside in
    let end : deals_between (rules_of s.signals.now) (pair_number (rules_of s.signals.now) s.one s.two) (s.end * last_count (rules_of s.signals.now)) ≡ [] =
    walked (rules_of s.signals.now) s.one s.two s.end c.loop-self-test.false in
    (sym c.loop-self.invariant.left ∙ end, end)

pub invariant_of-self-then-deal-gt0 : goal.invariant_of-self-then-deal-gt0
invariant_of-self-then-deal-gt0 c =
    let s = c.loop-self.self-inside in
    walk_within (rules_of s.signals.now) c.next_pair-one.result.0 c.next_pair-one.result.1 s.end c.loop-self.invariant.on.end_in c.next_pair-one.ensures.on

pub loop-self-smaller : goal.loop-self-smaller
loop-self-smaller c = grind arith
