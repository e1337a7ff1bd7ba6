-- Hands that are written one after another.
use Rattle.std.proofs.Common.{◌≡◌, ◌+◌, ◌*◌, ◌<◌, ◌∙◌, ℕ, List, get_or, length, set, below_more, arith, length-set}
use Rattle.std.proofs.lemmas.List.{get_or-set_other, get_or-set_same}
use Rattle.gs_lossless.specs.{Boards.{levels_in, seat_signals}, declared.board.Board.{Board}, declared.board.Seat.{Seat}}

-- the hand of the signal at a place of a board
abbrev pub hand_of : Board → List ℕ → ℕ → ℕ
hand_of board keys i = get_or (levels_in board.seats.items) i 0 * 4294967296 + get_or keys (get_or (seat_signals board.seats.items) i 0) 0

-- a number for each of some seats, and the first numbers are those of their places
pub record AreFilled (f : ℕ → ℕ) (xs : List ℕ) (seats : List Seat) (n : ℕ) : Type 0 where
  pub long : length xs ≡ length seats
  pub each : (i : ℕ) → i < n → get_or xs i 0 ≡ f i

pub none_filled : (f : ℕ → ℕ) (xs : List ℕ) (seats : List Seat) → length xs ≡ length seats → AreFilled f xs seats 0
none_filled f xs seats e = record { long = e; each = λ i l. absurd (omega arith) }

-- one more
pub one_filled : (f : ℕ → ℕ) (xs : List ℕ) (seats : List Seat) (n x : ℕ) → AreFilled f xs seats n → n < length seats → x ≡ f n
    → AreFilled f (set xs n x) seats (n + 1)
one_filled f xs seats n x h l e = record {
  long = length-set xs n x ∙ h.long;
  each = below_more (λ (i : ℕ). get_or (set xs n x) i 0 ≡ f i) n
      (λ i m. get_or-set_other xs n i x 0 (λ q. absurd (omega (arith, q, m))) ∙ h.each i m)
      (get_or-set_same xs n x 0 (omega (arith, l, h.long)) ∙ e);
}
