-- What the players put along the paths of betting trees. Source: extensive games (von Stengel 1996).
use Rattle.std.specs.Prelude.{ℕ, ◌+◌, ◌*◌, ◌^◌, ◌≤◌, ◌≡◌, ◌==◌, ◌||◌, Bool, true, false, max, List, [], ◌∷◌, ◌++◌, Option, Some, None, if◌then◌else◌}
use Rattle.gs_model.specs.Betting.{Bet, Moves, act, fold, even, none, move}
use Rattle.gs_bet.specs.Grammar.{is_sound}

-- the first value if there is one, else the second
abbrev pub first_of : {X : Type 0} → Option X → Option X → Option X
first_of (Some x) other = Some x
first_of None other = other

-- what player 1 has put after a move of a player
abbrev pub one_after : ℕ → ℕ → ℕ → ℕ
one_after player chips one = if player == 1 then one + chips else one

-- what player 2 has put after a move of a player
abbrev pub two_after : ℕ → ℕ → ℕ → ℕ
two_after player chips two = if player == 1 then two else two + chips

abbrev mutual
  -- whether some path ends the round evenly
  pub has_even : Bet → Bool
  has_even (act player moves) = any_even moves
  has_even fold = false
  has_even even = true

  -- whether some move of a choice leads to such a path
  pub any_even : Moves → Bool
  any_even none = false
  any_even (move letter chips next moves) = has_even next || any_even moves

abbrev mutual
  -- the letters to the first even leaf, in tree order, where the players have put different amounts. `path` holds the letters so far, and `one` and `two`
  -- what each player has put so far
  pub uneven_path : List ℕ → ℕ → ℕ → Bet → Option (List ℕ)
  uneven_path path one two (act player moves) = uneven_move path one two player moves
  uneven_path path one two fold = None
  uneven_path path one two even = if one == two then None else Some path

  -- the letters to the first such leaf below the moves of a choice
  pub uneven_move : List ℕ → ℕ → ℕ → ℕ → Moves → Option (List ℕ)
  uneven_move path one two player none = None
  uneven_move path one two player (move letter chips next moves) =
      first_of (uneven_path (path ++ letter ∷ []) (one_after player chips one) (two_after player chips two) next) (uneven_move path one two player moves)

abbrev mutual
  -- the most that one player has put at any end. `one` and `two` are what each has put before the tree; `go_on` gives the most behind an even leaf
  pub most_put : (ℕ → ℕ → ℕ) → ℕ → ℕ → Bet → ℕ
  most_put go_on one two (act player moves) = most_moved go_on one two player moves
  most_put go_on one two fold = max one two
  most_put go_on one two even = go_on one two

  -- the most that one player has put at any end below the moves of a choice
  pub most_moved : (ℕ → ℕ → ℕ) → ℕ → ℕ → ℕ → Moves → ℕ
  most_moved go_on one two player none = 0
  most_moved go_on one two player (move letter chips next moves) =
      max (most_put go_on (one_after player chips one) (two_after player chips two) next) (most_moved go_on one two player moves)

-- the most that one player has put at any end of the rounds that are left; after the last round comes the showdown
abbrev pub most_in : List Bet → ℕ → ℕ → ℕ
most_in [] one two = max one two
most_in (t ∷ ts) one two = most_put (most_in ts) one two t

-- what the player who has put more has put, and `above` more
abbrev pub put_above : ℕ → ℕ → ℕ → ℕ
put_above above one two = max one two + above

-- a tree leaves each player at 2^24 chips or below: what was put before it, and 4,096 chips for each level of acts
pub record Fits (one two : ℕ) (t : Bet) : Type 0 where
  pub left : ℕ
  pub sound : is_sound left t ≡ true
  pub room_one : one + left * 4096 ≤ 2 ^ 24
  pub room_two : two + left * 4096 ≤ 2 ^ 24

-- the result of a search along a path: if the path is found, the list holds it; else the list is as before
abbrev pub Searched : List ℕ → List ℕ → Bool → Option (List ℕ) → Type 0
Searched old new true sought = sought ≡ Some new
Searched old new false sought = (sought ≡ None) × (new ≡ old)
