-- The moves of a choice, as a list.
use Rattle.std.specs.Prelude.{ℕ, suc, Bool, true, false, ◌||◌, ◌==◌}
use Rattle.gs_model.specs.Betting.{Bet, Moves, none, move}

-- how many moves there are
abbrev pub count : Moves → ℕ
count none = 0
count (move letter chips next moves) = suc (count moves)

-- whether there is a move
abbrev pub has_move : Moves → Bool
has_move none = false
has_move (move letter chips next moves) = true

-- whether some move has this letter
abbrev pub has_letter : Moves → ℕ → Bool
has_letter none b = false
has_letter (move letter chips next moves) b = letter == b || has_letter moves b

-- the moves with one more at the end
abbrev pub push_move : Moves → ℕ → ℕ → Bet → Moves
push_move none l c t = move l c t none
push_move (move letter chips next moves) l c t = move letter chips next (push_move moves l c t)
