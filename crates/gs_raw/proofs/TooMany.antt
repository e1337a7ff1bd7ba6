-- A valid game with more than 2^30 sequences over single signals has more than 16,777,216 raw cells.
use Rattle.std.proofs.{Common.{◌≡◌, ℕ, ◌<◌, true, List, [], ◌∷◌, map, subst, inl, inr, arith}, lemmas.Bool.{cases_lt}}
use Rattle.std.specs.List.{AllByRecursion}
use Rattle.gs_bet.specs.{Grammar.{is_sound}, TreeView.{plain}}
use Rattle.gs_filter.specs.Filter.{single_classes}
use Rattle.gs_game.proofs.{MoneyLaws.{tree_sound}, Rules.{kept}}
use Rattle.gs_game.specs.{Games.{game_of, round_rules}, declared.game.Round.{Round}, declared.valid.ValidGame.{ValidGame}}
use Rattle.gs_model.specs.{Classes.{ClassLists}, Game.{Round as Rules}}
use Rattle.gs_seq.proofs.Points.{playable}
use Rattle.gs_seq.specs.{Games.{frame_in}, Slots.{sequence_count}, Stops.{IsFaultAt}, declared.stop.SeqFault.TheVariants.{TooManySequences}}
use Rattle.gs_raw.specs.{Answers.{raw_limits}, Cells.{raw_cell_count}}
use Rattle.gs_raw.proofs.RawSequences.{sequences_within}

trees_sound : (rs : List Round) → AllByRecursion (λ t. is_sound 16 t ≡ true) (map (λ (r : Rules). r.tree) (map round_rules rs))
trees_sound [] = tt
trees_sound (r ∷ rs) = (tree_sound (plain r.tree.tree) r.tree.sound, trees_sound rs)

cells_over : (g : ValidGame) (player : ℕ) → 1073741824 < sequence_count (frame_in g) (single_classes (frame_in g).parents) player
    → 16777216 < raw_cell_count (frame_in g)
cells_over g player many = elim (cases_lt 16777216 (raw_cell_count (frame_in g))) [
  | inl over ↦ over
  | inr few ↦ absurd (let within = sequences_within (game_of g.game) player (playable g) (kept (game_of g.game) g.accepted) (trees_sound g.game.rounds.items)
      (omega arith) in omega (arith, many, within))
]

pub too_many_cells : (g : ValidGame) (lists : ClassLists) (player count : ℕ) → lists ≡ single_classes (frame_in g).parents
    → IsFaultAt raw_limits (frame_in g) lists (TooManySequences player count) → 16777216 < raw_cell_count (frame_in g)
too_many_cells g lists player count singles h =
    by (subst (λ (ls : ClassLists). IsFaultAt raw_limits (frame_in g) ls (TooManySequences player count)) singles h)
  where
    by : IsFaultAt raw_limits (frame_in g) (single_classes (frame_in g).parents) (TooManySequences player count) → 16777216 < raw_cell_count (frame_in g)
    by (inl k) = cells_over g 1 (let e = k.1 in let o = k.2 in omega (arith, e, o))
    by (inr k) = cells_over g 2 (let e = k.1.1 in let o = k.1.2 in omega (arith, e, o))
