use Rattle.std.proofs.Common.{◌≡◌, ◌-◌, ◌*◌}
use Rattle.gs_tree.specs.{Trees.{rules_of}, Walk.{deals_between, last_count, pair_number, IsOnWalk}}
use Rattle.gs_tree.proofs.deals.DealsIterator.next.Given as goal

abbrev pub invariant-loop-self : goal.invariant-loop-self
invariant-loop-self l = record {
  left : deals_between (rules_of l.self-inside.signals.now) (pair_number (rules_of l.self-inside.signals.now) l.self-inside.one l.self-inside.two)
      (l.self-inside.end * last_count (rules_of l.self-inside.signals.now)) ≡ l.fn.self;
  on : IsOnWalk (rules_of l.self-inside.signals.now) l.self-inside.one l.self-inside.two l.self-inside.end;
}

abbrev pub decreases-loop-self : goal.decreases-loop-self
decreases-loop-self l = l.self-inside.end * last_count (rules_of l.self-inside.signals.now)
    - pair_number (rules_of l.self-inside.signals.now) l.self-inside.one l.self-inside.two
