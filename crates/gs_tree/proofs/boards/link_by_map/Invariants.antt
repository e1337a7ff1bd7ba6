use Rattle.std.proofs.Common.{◌≡◌, ℕ}
use Rattle.std.specs.{HashMap.{get}, Global.{Vec}, Prelude.{nat_eq}}
use lib.Pointwise.{pointwise}
use Rattle.gs_game.specs.Games.{game_of}
use Rattle.gs_model.specs.{Game.{round_count}, Signals.{public_cards, signal_at}}
use Rattle.gs_tree.proofs.Linked.{AreBegun, last_place}
use Rattle.gs_tree.proofs.boards.link_by_map.Given as goal

abbrev pub invariant-loop-signal : goal.invariant-loop-signal
invariant-loop-signal l = record {
  linked : AreBegun (λ i. public_cards (signal_at (game_of l.valid.game) (round_count (game_of l.valid.game)) i)) l.signal l.count l.boards.firsts.items
      l.boards.nexts.items;
  found : (q : Vec ℕ) → get (λ (x y : Vec ℕ). pointwise nat_eq x.items y.items) l.seen q
      ≡ last_place (λ i. public_cards (signal_at (game_of l.valid.game) (round_count (game_of l.valid.game)) i)) l.signal q.items;
}
