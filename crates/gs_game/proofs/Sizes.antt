-- How large a tree is: what falls where a function goes down a tree.
use Rattle.std.proofs.Common.{ℕ, ◌+◌, List, [], ◌∷◌}
use Rattle.gs_model.specs.Betting.{Bet, Moves, act, fold, even, none, move}

abbrev mutual
  pub bet_size : Bet → ℕ
  bet_size (act player moves) = moves_size moves + 1
  bet_size fold = 1
  bet_size even = 1

  pub moves_size : Moves → ℕ
  moves_size none = 0
  moves_size (move letter chips next moves) = bet_size next + moves_size moves

-- how many steps a walk takes at most, where so many follow an even leaf
abbrev mutual
  pub steps_of : ℕ → Bet → ℕ
  steps_of more (act player moves) = 2 + moves_steps more moves
  steps_of more fold = 1
  steps_of more even = 1 + more

  pub moves_steps : ℕ → Moves → ℕ
  moves_steps more none = 0
  moves_steps more (move letter chips next moves) = steps_of more next + moves_steps more moves

abbrev pub steps_in : List Bet → ℕ
steps_in [] = 1
steps_in (t ∷ ts) = 1 + steps_of (steps_in ts) t
