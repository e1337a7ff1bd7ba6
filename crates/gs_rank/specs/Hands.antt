-- The hands and strengths that a ranking compares. Source: the rules of Kuhn's, Leduc and Rhode Island hold'em (Gilpin and Sandholm 2007).
use Rattle.std.specs.Prelude.{ℕ, ◌+◌, ◌<◌, ◌≡◌, List, length, All}
use Rattle.gs_card.specs.Decks.{DeckValue, kinds}
use Rattle.gs_model.specs.{Game.{Ranking, High, Pair, Three}, Outcome.{categories, category}}

-- how many own and public cards a hand has: by the own card and by a pair one own card, by three cards three in all
abbrev pub IsSized : Ranking → ℕ → ℕ → Type 0
IsSized High own public = own ≡ 1
IsSized Pair own public = own ≡ 1
IsSized Three own public = own + public ≡ 3

-- own and public cards of a deck that make a hand
pub record IsHand (d : DeckValue) (r : Ranking) (own public : List ℕ) : Type 0 where
  pub own_of_deck : All (λ card. card < kinds d) own
  pub public_of_deck : All (λ card. card < kinds d) public
  pub sized : IsSized r (length own) (length public)

-- a number whose category is one of the ranking's; the strength of every hand is such a number
abbrev pub IsStrength : Ranking → ℕ → Type 0
IsStrength r strength = category r strength < categories r
