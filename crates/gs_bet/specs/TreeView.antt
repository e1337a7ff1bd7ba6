-- The program's betting trees, acts and moves as the definitions see them.
use Rattle.std.specs.Prelude.{ℕ, List, [], ◌∷◌}
use Rattle.gs_bet.specs.{declared.shape.Tree.{Tree, Tree-F, fold-Tree}, declared.shape.Tree.TheOpen.{Act, Fold, Even}}
use Rattle.gs_bet.specs.{declared.shape.Act.{Act as Choice, Act-F, fold-Act}, declared.shape.Move.{Move, Move-F}}
use Rattle.gs_model.specs.Betting.{Bet, Moves, act, fold, even, none, move}

-- a move as the definitions see it: letter, chips and the tree that follows
pub record PlainMove : Type 0 where
  pub letter : ℕ
  pub chips : ℕ
  pub next : Bet

-- the moves of a list
abbrev pub moves_of_list : List PlainMove → Moves
moves_of_list [] = none
moves_of_list (m ∷ ms) = move m.letter m.chips m.next (moves_of_list ms)

-- one layer of a tree of the program, as the definitions see it
abbrev pub tree_step : Tree-F Bet Bet PlainMove → Bet
tree_step (Act a) = a
tree_step Fold = fold
tree_step Even = even

-- one layer of an act of the program, as the definitions see it
abbrev pub act_step : Act-F Bet Bet PlainMove → Bet
act_step a = act a.player (moves_of_list a.moves.items)

-- one layer of a move of the program, as the definitions see it
abbrev pub move_step : Move-F Bet Bet PlainMove → PlainMove
move_step m = record { letter = m.letter; chips = m.chips; next = m.next }

-- a tree of the program, as the definitions see it
abbrev pub plain : Tree → Bet
plain = fold-Tree Bet Bet PlainMove tree_step act_step move_step

-- an act of the program, as the definitions see it
abbrev pub plain_act : Choice → Bet
plain_act = fold-Act Bet Bet PlainMove tree_step act_step move_step

-- moves of the program, as the definitions see them
abbrev pub plain_moves : List Move → Moves
plain_moves [] = none
plain_moves (m ∷ ms) = move m.letter m.chips (plain m.next) (plain_moves ms)
