-- The one text of a betting tree, and which trees have a text.
use Rattle.std.specs.Prelude.{ℕ, zero, suc, ◌+◌, ◌≡◌, ◌<◌, ◌≤◌, Bool, true, false, not, ◌&&◌, ◌||◌, ◌==◌, nat_le, IsTrue, List, [], ◌∷◌, ◌++◌, length, take}
use Rattle.std.specs.Fmt.{decimal}
use Rattle.gs_model.specs.Betting.{Bet, Moves, act, fold, even, none, move}
use Rattle.gs_bet.specs.MoveLists.{has_move, has_letter}

-- the text of a move's chips: a decimal number, or nothing for 0 chips
abbrev pub chips_text : ℕ → List ℕ
chips_text zero = []
chips_text (suc n) = decimal (suc n)

abbrev mutual
  -- the text of a tree: for an act `1[` or `2[`, the moves and `]`; for a fold `!`; for an even leaf `=`
  pub tree_text : Bet → List ℕ
  tree_text (act player moves) = (48 + player) ∷ (moves_text 91 moves ++ 93 ∷ [])
  tree_text fold = 33 ∷ []
  tree_text even = 61 ∷ []

  -- the text of moves: the byte `before`, then the first move; before each other move a comma. A move is its letter, its chips, `:` and its tree
  pub moves_text : ℕ → Moves → List ℕ
  moves_text before none = []
  moves_text before (move letter chips next moves) = before ∷ letter ∷ (chips_text chips ++ (58 ∷ (tree_text next ++ moves_text 44 moves)))

-- whether a byte is a small letter, from a to z
abbrev pub is_letter : ℕ → Bool
is_letter b = nat_le 97 b && nat_le b 122

-- whether a number is 1 or 2
abbrev pub is_player : ℕ → Bool
is_player p = p == 1 || p == 2

abbrev mutual
  -- whether acts are nested at most `left` deep, and each act has player 1 or 2, at least one move and sound moves
  pub is_sound : ℕ → Bet → Bool
  is_sound zero (act player moves) = false
  is_sound (suc left) (act player moves) = is_player player && (has_move moves && are_sound left moves)
  is_sound left fold = true
  is_sound left even = true

  -- whether moves are sound: different letters from a to z, at most 4,096 chips, and sound trees
  pub are_sound : ℕ → Moves → Bool
  are_sound left none = true
  are_sound left (move letter chips next moves) =
      (is_letter letter && not (has_letter moves letter)) && (nat_le chips 4096 && (is_sound left next && are_sound left moves))

-- whether a tree is a fold
abbrev pub is_fold : Bet → Bool
is_fold (act player moves) = false
is_fold fold = true
is_fold even = false

-- whether a tree is a whole tree: not a fold, and sound with at most sixteen acts inside each other
abbrev pub is_tree : Bet → Bool
is_tree t = not (is_fold t) && is_sound 16 t

-- the bytes begin the text of some tree
pub record BeginsTree (bytes : List ℕ) : Type 0 where
  pub tree : Bet
  pub rest : List ℕ
  pub is : IsTrue (is_tree tree)
  pub text : bytes ++ rest ≡ tree_text tree

-- the length of the longest prefix of the text that begins a tree's text
pub record IsLongest (text : List ℕ) (at : ℕ) : Type 0 where
  pub within : at ≤ length text
  pub begins : BeginsTree (take at text)
  pub longest : (n : ℕ) → at < n → n ≤ length text → BeginsTree (take n text) → ⊥

-- the tree is sound at some depth
abbrev pub Prints : Bet → Type 0
Prints t = (left : ℕ) × IsTrue (is_sound left t)
