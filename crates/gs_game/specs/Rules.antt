-- The eleven rules of a game, without an order and without refusals.
use Rattle.std.specs.Prelude.{◌≡◌, ℕ, ◌+◌, ◌*◌, ◌<◌, ◌≤◌, List, [], ◌∷◌, None, true, length, sum}
use Rattle.gs_game.specs.{Money.{has_even, most_in, one_after, two_after}, Refusals.{first_refusal, own_card_total, public_card_total, ranks}}
use Rattle.gs_model.specs.{Betting.{Bet, Moves, act, fold, even, none, move}, Deals.{deals}, Frame.{frame_of, total_weight, trees_of}}
use Rattle.gs_model.specs.{Game.{Game, round_at, round_count}, Numbering.{greatest}, Signals.{signals}, Walk.{walk}}

abbrev mutual
  -- at each even leaf of the tree both players have put in the same amount, if they put in these two amounts before the tree
  pub IsLevel : ℕ → ℕ → Bet → Type 0
  IsLevel one two (act player moves) = AreLevel one two player moves
  IsLevel one two fold = Unit {0}
  IsLevel one two even = one ≡ two

  -- the tree after each move of a choice is level, counting the chips of that move
  pub AreLevel : ℕ → ℕ → ℕ → Moves → Type 0
  AreLevel one two player none = Unit {0}
  AreLevel one two player (move letter chips next moves) =
      IsLevel (one_after player chips one) (two_after player chips two) next × AreLevel one two player moves

-- each tree but the last has an even leaf
abbrev pub GoOn : List Bet → Type 0
GoOn [] = Unit {0}
GoOn (t ∷ []) = Unit {0}
GoOn (t ∷ u ∷ ts) = (has_even t ≡ true) × GoOn (u ∷ ts)

-- each tree is level, if both players put in nothing before it
abbrev pub EachLevel : List Bet → Type 0
EachLevel [] = Unit {0}
EachLevel (t ∷ ts) = IsLevel 0 0 t × EachLevel ts

-- the game keeps the rules
pub record KeepsRules (g : Game) : Type 0 where
  -- on cards: 1 to 4 rounds; a private card in round 1; hands that the ranking ranks; and at least as many cards as are dealt
  pub rounds : (1 ≤ round_count g) × (round_count g ≤ 4)
  pub private : 0 < (round_at g 1).private
  pub ranking : ranks g.ranking (own_card_total g.rounds) (own_card_total g.rounds + public_card_total g.rounds) ≡ true
  pub copies : 2 * own_card_total g.rounds + public_card_total g.rounds ≤ sum g.copies
  -- on betting: a way into each next round, equal money there, and bounds on what an end pays and on the number of ends
  pub evens : GoOn (trees_of g)
  pub level : EachLevel (trees_of g)
  pub put : most_in (trees_of g) g.ante g.ante * greatest g.bonus ≤ 4096
  pub lines : length (walk g.ante (trees_of g)).ends ≤ 8192
  -- on size
  pub weight : total_weight (frame_of g) ≤ 67108864
  pub signals : (round : ℕ) → 1 ≤ round → round ≤ round_count g → length (signals g round) ≤ 200000
  pub deals : length (deals g) ≤ 8000000

-- no refusal applies to a game if and only if it keeps the rules
abbrev pub RulesAreRefusals : Type 0
RulesAreRefusals = (g : Game) → (first_refusal g ≡ None → KeepsRules g) × (KeepsRules g → first_refusal g ≡ None)
