use Rattle.std.proofs.Common.{◌≡◌, suc, length, map, take}
use Rattle.std.specs.{Prelude.{flat_map}, List.{range_with_len}}
use Rattle.gs_game.specs.Games.{game_of}
use Rattle.gs_model.specs.{Game.{round_at}, Signals.{signals, children, owners, showings, edge, left_by, first_child}}
use Rattle.gs_tree.specs.Tables.{shown_in}
use Rattle.gs_tree.proofs.tables.Tables.push_round.Given as goal

abbrev pub invariant-loop-parent : goal.invariant-loop-parent
invariant-loop-parent l =
    let g = game_of l.valid.game in
    let n = length l.self.layers.items in
    let r = round_at g (suc n) in
    record {
      shown : shown_in l.grown.layer ≡ flat_map (λ s. showings (left_by g.copies s) r) (take l.parent (signals g n));
      edges : l.grown.layer.edges ≡ flat_map (λ s. map (edge (left_by g.copies s)) (showings (left_by g.copies s) r)) (take l.parent (signals g n));
      firsts : l.grown.layer.firsts.items ≡ map (first_child g n) (range_with_len 0 l.parent);
      parents : l.grown.parents.items ≡ owners (λ s. children g r s) 0 (take l.parent (signals g n));
      long : length l.grown.parents.items ≡ length l.grown.layer.shown.items;
    }
