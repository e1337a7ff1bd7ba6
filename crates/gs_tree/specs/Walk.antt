-- The walk over the deals of a game: pairs of last-round signals in order. Pairs that no deal has are passed over.
use Rattle.std.specs.{Prelude.{ℕ, ◌≡◌, ◌<◌, ◌≤◌, ◌+◌, ◌-◌, ◌*◌, ◌/◌, ◌%◌, Bool, true, List, filter, map, length, nat_lt}, List.{range_with_len}}
use Rattle.gs_model.specs.{Deals.{Deal, deal_of, same_public}, Game.{Game, round_count}, Signals.{signal_at, signals}}

-- the number of last-round signals
abbrev pub last_count : Game → ℕ
last_count g = length (signals g (round_count g))

-- the deal of the last-round signals at two places
abbrev pub deal_at : Game → ℕ → ℕ → Deal
deal_at g one two = deal_of g (one, signal_at g (round_count g) one) (two, signal_at g (round_count g) two)

-- the deal of the pair with number k; pairs are numbered row by row
abbrev pub pair_at : Game → ℕ → Deal
pair_at g k = deal_at g (k / last_count g) (k % last_count g)

-- the deals that weigh more than 0 among the pairs numbered from `from` up to, but not including, `to`
abbrev pub deals_between : Game → ℕ → ℕ → List Deal
deals_between g from to = filter (λ d. nat_lt 0 d.weight) (map (pair_at g) (range_with_len from (to - from)))

-- the number of a pair
abbrev pub pair_number : Game → ℕ → ℕ → ℕ
pair_number g one two = one * last_count g + two

-- whether the last-round signals at two places show the same public cards
abbrev pub shows_same : Game → ℕ → ℕ → Bool
shows_same g one two = same_public (signal_at g (round_count g) one) (signal_at g (round_count g) two)

-- two last-round signals that show the same public cards
pub record IsPair (g : Game) (one two : ℕ) : Type 0 where
  pub one_in : one < last_count g
  pub two_in : two < last_count g
  pub same : shows_same g one two ≡ true

-- a pair that the walk looks at: unless row `one` is at the end, two signals that show the same public cards
pub record IsOnWalk (g : Game) (one two end : ℕ) : Type 0 where
  pub end_in : end ≤ last_count g
  pub two_in : one < end → two < last_count g
  pub same : one < end → shows_same g one two ≡ true

-- the walk of row `one` begins at signal `two`: no pair before it in this row is a deal
pub record IsRowStart (g : Game) (one two : ℕ) : Type 0 where
  pub start : IsOnWalk g one two (last_count g)
  pub passes : (end : ℕ) → deals_between g (one * last_count g) end ≡ deals_between g (pair_number g one two) end

-- the walk goes on from one pair to a later one, and no pair between them is a deal
pub record IsNextPair (g : Game) (one two next other : ℕ) : Type 0 where
  pub on : IsOnWalk g next other (last_count g)
  pub later : pair_number g one two < pair_number g next other
  pub passes : (end : ℕ) → deals_between g (pair_number g one two + 1) end ≡ deals_between g (pair_number g next other) end
