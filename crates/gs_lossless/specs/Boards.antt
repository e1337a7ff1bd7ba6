-- Boards: the last-round signals that show the same public cards, and their levels.
use Rattle.std.specs.{Prelude.{ℕ, ◌≡◌, ◌<◌, Bool, true, List, cond, count_by, length, map, nat_eq, nat_lt, slice_index}, List.{All}}
use Rattle.gs_model.specs.{Game.{Game, round_count}, Outcome.{category}, Signals.{signal_at, signals}, ViewTree.{signal_strength}}
use Rattle.gs_tree.specs.{Boards.{signals_on}, Plain.{IsPlain}, Walk.{last_count}}
use Rattle.gs_lossless.specs.{declared.board.Board.{Board}, declared.board.Seat.{Seat}}

-- the strengths of the last-round signals
abbrev pub strengths_of : Game → List ℕ
strengths_of g = map (signal_strength g) (signals g (round_count g))

-- the strengths of the last-round signals with the same public cards as signal `i`
abbrev pub strengths_on : Game → ℕ → List ℕ
strengths_on g i = map (slice_index (strengths_of g)) (signals_on g i)

-- how many of the numbers `xs` are smaller than `a`
abbrev pub smaller : ℕ → List ℕ → ℕ
smaller a xs = count_by (λ x. nat_lt x a) xs

-- the signals of some seats
abbrev pub seat_signals : List Seat → List ℕ
seat_signals seats = map (λ (s : Seat). s.signal) seats

-- the levels of some seats
abbrev pub levels_in : List Seat → List ℕ
levels_in seats = map (λ (s : Seat). s.level) seats

-- a seat with its rank as its level: how many of the seats `seats` have a smaller level
abbrev pub ranked_in : List Seat → Seat → Seat
ranked_in seats s = record { level = smaller s.level (levels_in seats); signal = s.signal }

-- the seats, with their ranks as their levels
abbrev pub ranked : List Seat → List Seat
ranked seats = map (ranked_in seats) seats

-- the level of a last-round signal: its strength or, by rank, how many signals with the same public cards are weaker
abbrev pub level_of : Game → Bool → ℕ → ℕ
level_of g by_rank i = cond by_rank (smaller (slice_index (strengths_of g) i) (strengths_on g i)) (slice_index (strengths_of g) i)

-- a last-round signal with the strength of its hand as its level
abbrev pub seat_of : Game → ℕ → Seat
seat_of g i = record { level = slice_index (strengths_of g) i; signal = i }

-- the bonus of each last-round signal's category is 1
abbrev pub PaysOnce : Game → Type 0
PaysOnce g = (i : ℕ) → i < last_count g → slice_index g.bonus (category g.ranking (signal_strength g (signal_at g (round_count g) i))) ≡ 1

-- two lists have each number equally often
abbrev pub HaveSame : List ℕ → List ℕ → Type 0
HaveSame xs ys = (v : ℕ) → count_by (λ x. nat_eq x v) xs ≡ count_by (λ x. nat_eq x v) ys

-- a board of a plain game: all last-round signals with the same public cards as any one of them, with their levels.
-- Levels are by rank only if each bonus is 1
pub record IsBoard (g : Game) (by_rank : Bool) (board : Board) : Type 0 where
  pub plain : IsPlain g
  pub once : by_rank ≡ true → PaysOnce g
  pub within : All (λ seat. seat.signal < last_count g) board.seats.items
  pub signals : (i : ℕ) → i < length board.seats.items
      → HaveSame (signals_on g (slice_index (seat_signals board.seats.items) i)) (seat_signals board.seats.items)
  pub levels : levels_in board.seats.items ≡ map (level_of g by_rank) (seat_signals board.seats.items)
