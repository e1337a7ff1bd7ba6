-- The category of three cards, by their ranks and suits, in any order. Source: the rules of Rhode Island hold'em (Gilpin and Sandholm 2007).
use Rattle.std.specs.Prelude.{ℕ, ◌+◌, ◌<◌, ◌≤◌, ◌≡◌, ◌⊎◌}
use Rattle.gs_model.specs.{Game.{Three}, Outcome.{rank_of, suit_of, three_strength, category}}

-- three cards, by the numbers of their kinds
pub record Cards : Type 0 where
  pub first : ℕ
  pub second : ℕ
  pub third : ℕ

-- some card has this rank
abbrev pub HasRank : ℕ → Cards → ℕ → Type 0
HasRank suits h rank = (rank_of suits h.first ≡ rank) ⊎ (rank_of suits h.second ≡ rank) ⊎ (rank_of suits h.third ≡ rank)

-- the six categories of hands
pub data Category : Type 0 where
  HighCard : Category
  OnePair : Category
  Flush : Category
  Straight : Category
  ThreeOfAKind : Category
  StraightFlush : Category

-- the number of a category
abbrev pub category_number : Category → ℕ
category_number HighCard = 0
category_number OnePair = 1
category_number Flush = 2
category_number Straight = 3
category_number ThreeOfAKind = 4
category_number StraightFlush = 5

-- two of the cards have one rank
abbrev pub IsPair : ℕ → Cards → Type 0
IsPair suits h = (rank_of suits h.first ≡ rank_of suits h.second) ⊎ (rank_of suits h.second ≡ rank_of suits h.third)
    ⊎ (rank_of suits h.first ≡ rank_of suits h.third)

-- the three cards have one suit
abbrev pub IsFlush : ℕ → Cards → Type 0
IsFlush suits h = (suit_of suits h.first ≡ suit_of suits h.second) × (suit_of suits h.second ≡ suit_of suits h.third)

-- the three cards have consecutive ranks
abbrev pub IsStraight : ℕ → Cards → Type 0
IsStraight suits h = (low : ℕ) × HasRank suits h low × HasRank suits h (low + 1) × HasRank suits h (low + 2)

-- the three cards have one rank
abbrev pub IsThreeOfAKind : ℕ → Cards → Type 0
IsThreeOfAKind suits h = (rank_of suits h.first ≡ rank_of suits h.second) × (rank_of suits h.second ≡ rank_of suits h.third)

-- a category applies to cards, whether a higher one does or not
abbrev pub Applies : ℕ → Cards → Category → Type 0
Applies suits h HighCard = Unit {0}
Applies suits h OnePair = IsPair suits h
Applies suits h Flush = IsFlush suits h
Applies suits h Straight = IsStraight suits h
Applies suits h ThreeOfAKind = IsThreeOfAKind suits h
Applies suits h StraightFlush = IsStraight suits h × IsFlush suits h

-- n is the number of the greatest category that applies
pub record IsGreatest (suits : ℕ) (h : Cards) (n : ℕ) : Type 0 where
  pub applies : (c : Category) → category_number c ≡ n → Applies suits h c
  pub greatest : (c : Category) → Applies suits h c → category_number c ≤ n

-- the category of three cards is the greatest that applies, where ranks are below 64
abbrev pub CategoriesAreGreatest : Type 0
CategoriesAreGreatest =
    (suits : ℕ) (h : Cards) → rank_of suits h.first < 64 → rank_of suits h.second < 64 → rank_of suits h.third < 64
    → IsGreatest suits h (category Three (three_strength suits h.first h.second h.third))
