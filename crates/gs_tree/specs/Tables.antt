-- What the tables of signals hold, round by round.
use Rattle.std.specs.{Prelude.{ℕ, suc, ◌≡◌, ◌<◌, ◌≤◌, ◌+◌, List, length, map, slice_index_or}, List.{range_with_len}, Global.{Vec}}
use Rattle.gs_model.specs.{Game.{Game, Round, round_at}, Signals.{Seen, signals, parents, last_edge, first_child}}
use Rattle.gs_tree.specs.{Layers.{last_seen}, Shown.{seen_of}, declared.layer.Layer.{Layer}}

-- what the last rounds of a layer's signals show
abbrev pub shown_in : Layer → List Seen
shown_in l = map seen_of l.shown.items

-- a layer belongs to the round after `round`: for each signal of that round what its last round shows and the weight of its edge. For each signal of
-- `round`, and for one past the last, it has the place of the first child
pub record IsLayer (g : Game) (round : ℕ) (l : Layer) : Type 0 where
  pub shown : shown_in l ≡ map last_seen (signals g (suc round))
  pub edges : l.edges ≡ map (last_edge g.copies) (signals g (suc round))
  pub firsts : l.firsts.items ≡ map (first_child g round) (range_with_len 0 (length (signals g round) + 1))

-- the tables of the first rounds: for each round the parent of each signal, and the layer
pub record AreTables (g : Game) (parents_of : List (Vec ℕ)) (layers : List Layer) : Type 0 where
  pub as_many : length parents_of ≡ length layers
  pub owned : (round : ℕ) (d : Vec ℕ) → round < length layers → (slice_index_or parents_of round d).items ≡ parents g (suc round)
  pub listed : (round : ℕ) (d : Layer) → round < length layers → IsLayer g round (slice_index_or layers round d)

-- the round that comes after the first rounds, and the number of signals of the last of these
pub record IsNext (g : Game) (rounds count : ℕ) (next : Round) : Type 0 where
  pub counted : count ≡ length (signals g rounds)
  pub ruled : next ≡ round_at g (suc rounds)
  pub few : length (signals g (suc rounds)) ≤ 200000
  pub private : next.private ≤ 3
  pub public : next.public ≤ 3
