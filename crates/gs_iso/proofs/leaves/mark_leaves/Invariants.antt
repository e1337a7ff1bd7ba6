use Rattle.std.proofs.Common.{◌≡◌, ◌==◌, ◌++◌, ◌<◌, ◌^◌, map}
use Rattle.std.specs.Prelude.{All, filter, unsigned_abs}
use Rattle.gs_model.specs.{Deals.{Deal, deals}, Game.{round_count}, Signals.{signal_at}, ViewTree.{leaves}}
use Rattle.gs_tree.specs.Trees.{rules_of}
use Rattle.gs_iso.specs.Orders.{leaf_mark, leaf_of}
use Rattle.gs_iso.proofs.leaves.mark_leaves.Given as goal

abbrev pub invariant-loop-deal : goal.invariant-loop-deal
invariant-loop-deal l =
    let g = rules_of l.signals in
    record {
      done : l.marks.items ++ map (λ d. leaf_mark (leaf_of l.path d)) l.deal-iterator ≡ map leaf_mark (leaves g (signal_at g (round_count g) l.signal));
      light : All (λ (d : Deal). d.weight < 2 ^ 32) l.deal-iterator;
      small : All (λ (d : Deal). unsigned_abs d.outcome < 256) l.deal-iterator
          → All (λ (d : Deal). unsigned_abs d.outcome < 256) (filter (λ (d : Deal). d.one == l.signal) (deals g));
    }
