-- The kind of card with two letters, by its number.
use Rattle.std.specs.Prelude.{ℕ, ◌*◌, ◌≡◌, ◌<◌, List, length, slice_index}
use Rattle.gs_model.specs.Outcome.{rank_of, suit_of}

-- `number` is the number of the kind whose rank and suit have these letters
pub record HasLetters (ranks suits : List ℕ) (rank suit number : ℕ) : Type 0 where
  pub of_deck : number < length ranks * length suits
  pub rank_is : slice_index ranks (rank_of (length suits) number) ≡ rank
  pub suit_is : slice_index suits (suit_of (length suits) number) ≡ suit
