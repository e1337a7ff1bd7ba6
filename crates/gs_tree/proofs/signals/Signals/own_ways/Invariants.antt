use Rattle.std.proofs.Common.{◌≡◌, ◌≤◌, ◌^◌, length, take}
use Rattle.gs_model.specs.{Deals.{own_ways}, Game.{round_count}, Signals.{left_by, own_cards, signal_at}}
use Rattle.gs_tree.specs.Trees.{rules_of}
use Rattle.gs_tree.proofs.signals.Signals.own_ways.Given as goal

abbrev pub invariant-loop-round : goal.invariant-loop-round
invariant-loop-round l =
    let g = rules_of l.self in
    let two = signal_at g (round_count g) l.two in
    record {
      start : l.start ≡ length (own_cards (take l.round-index two));
      counted : l.ways ≡ own_ways (left_by g.copies (signal_at g (round_count g) l.one)) (take l.round-index two);
      small : l.ways ≤ 59049 ^ l.round-index;
    }
