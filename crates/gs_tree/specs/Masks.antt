-- The own cards of last-round signals as bits, in games with single cards.
use Rattle.std.specs.{Prelude.{ℕ, ◌≡◌, ◌≤◌, ◌<◌, ◌==◌, List, count_by, length, min, slice_index}, Int.{bit_at}}
use Rattle.gs_model.specs.{Game.{Game, round_count}, Signals.{own_cards, signal_at}}
use Rattle.gs_tree.specs.Walk.{last_count}

-- no kind of card has more than one copy, and each player is dealt more than one private card
pub record HasMasks (g : Game) : Type 0 where
  pub single : (card : ℕ) → slice_index g.copies card ≤ 1
  pub several : (i : ℕ) → i < last_count g → 1 < length (own_cards (signal_at g (round_count g) i))

-- no kind of card has more than one copy, and each player is dealt more than one private card. Each last-round signal has a mask: a bit is set exactly
-- where it has the own card with the bit's number
pub record AreMasks (g : Game) (masks : List ℕ) : Type 0 where
  pub single : (card : ℕ) → slice_index g.copies card ≤ 1
  pub several : (i : ℕ) → i < last_count g → 1 < length (own_cards (signal_at g (round_count g) i))
  pub long : length masks ≡ last_count g
  pub held : (i card : ℕ) → i < last_count g
      → bit_at (slice_index masks i) card ≡ min (count_by (λ other. other == card) (own_cards (signal_at g (round_count g) i))) 1
