-- Games in which any two different last-round signals with the same public cards are equally likely.
use Rattle.std.specs.Prelude.{ℕ, ◌≡◌, ◌<◌, ◌≤◌, length, slice_index}
use Rattle.gs_model.specs.{Game.{Game, round_count}, Signals.{own_cards, signal_at}}
use Rattle.gs_tree.specs.Walk.{last_count}

-- no kind of card has more than one copy, and each player is dealt one private card
pub record IsPlain (g : Game) : Type 0 where
  pub single : (card : ℕ) → slice_index g.copies card ≤ 1
  pub one_own : (i : ℕ) → i < last_count g → length (own_cards (signal_at g (round_count g) i)) ≡ 1
