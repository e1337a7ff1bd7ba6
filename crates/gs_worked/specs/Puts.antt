-- What an end puts, stated along its line: the ante and the chips of the moves on the way to it.
use Rattle.std.specs.Prelude.{ℕ, ◌≡◌, ◌+◌, ◌==◌, [], ◌∷◌, ◌++◌, List, sum_by, if◌then◌else◌}
use Rattle.gs_model.specs.{Betting.{Bet, Moves, act, fold, even, none, move}, Positions.{End, EndKind, Folded1, Folded2, Show}, Walk.{walk}}

-- a move on the way to an end: whose it is, and the chips that it puts
pub record Paid : Type 0 where
  pub player : ℕ
  pub chips : ℕ

abbrev mutual
  -- the ways to the ends of a tree, each with the moves before the tree and then those from its root on; `go_on` gives the ways on from an even leaf
  pub ways : (List Paid → List (List Paid)) → List Paid → Bet → List (List Paid)
  ways go_on before (act player moves) = ways_of go_on before player moves
  ways go_on before fold = before ∷ []
  ways go_on before even = go_on before

  -- the ways to the ends after each move of a choice
  pub ways_of : (List Paid → List (List Paid)) → List Paid → ℕ → Moves → List (List Paid)
  ways_of go_on before player none = []
  ways_of go_on before player (move letter chips next moves) =
      ways go_on (before ++ record { player = player; chips = chips } ∷ []) next ++ ways_of go_on before player moves

-- the ways through the rounds that are left; after the last one each even leaf is an end
abbrev pub ways_through : List Bet → List Paid → List (List Paid)
ways_through [] before = before ∷ []
ways_through (t ∷ ts) before = ways (ways_through ts) before t

-- the chips that player 1 puts on a way
abbrev pub chips_one : List Paid → ℕ
chips_one way = sum_by (λ (m : Paid). if m.player == 1 then m.chips else 0) way

-- the chips that player 2 puts on a way
abbrev pub chips_two : List Paid → ℕ
chips_two way = sum_by (λ (m : Paid). if m.player == 1 then 0 else m.chips) way

-- the chips of the player who folded; at a showdown those of player 1, which in a valid game equal those of player 2
abbrev pub chips_at_end : EndKind → List Paid → ℕ
chips_at_end Folded1 way = chips_one way
chips_at_end Folded2 way = chips_two way
chips_at_end Show way = chips_one way

-- there are as many ends as ways, and each end puts the ante and the chips of its way
abbrev pub PutChips : ℕ → List End → List (List Paid) → Type 0
PutChips ante [] [] = Unit {0}
PutChips ante [] (way ∷ ways) = ⊥
PutChips ante (z ∷ zs) [] = ⊥
PutChips ante (z ∷ zs) (way ∷ ways) = (z.put ≡ ante + chips_at_end z.kind way) × PutChips ante zs ways

-- each end of a game, from its ante and its trees, puts the ante and the chips of its way
abbrev pub PutsAreChips : Type 0
PutsAreChips = (ante : ℕ) (trees : List Bet) → PutChips ante (walk ante trees).ends (ways_through trees [])
