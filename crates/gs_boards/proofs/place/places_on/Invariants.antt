use Rattle.std.proofs.Common.{◌-◌, length, map}
use Rattle.std.specs.Prelude.{All}
use Rattle.gs_tree.specs.Trees.{rules_of}
use Rattle.gs_tree.proofs.Chain.{IsOnChain}
use Rattle.gs_boards.specs.{Boards.{IsPlace}, declared.place.Place.{Place}}
use Rattle.gs_boards.proofs.place.places_on.Given as goal

abbrev pub invariant-loop-signal : goal.invariant-loop-signal
invariant-loop-signal l = record {
  each : All (IsPlace (rules_of l.signals)) l.places.items;
  chain : IsOnChain (rules_of l.signals) (λ k. k) l.first l.signal (map (λ (p : Place). p.signal) l.places.items);
}

abbrev pub decreases-loop-signal : goal.decreases-loop-signal
decreases-loop-signal l = length l.nexts - l.signal
