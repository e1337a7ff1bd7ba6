-- Kinds of boards: boards of one kind have the same hands.
use Rattle.std.specs.{Prelude.{ℕ, ◌≡◌, ◌<◌, ◌+◌, ◌*◌, ◌++◌, ◌∷◌, [], Bool, List, Some, get_or, length, nat_eq, slice_index}, Global.{Vec}}
use Rattle.std.specs.{HashMap.{HashMap, get}, List.Sorted.{IsPermutation}, declared.hash.BuildHasherDefault.{BuildHasherDefault}}
use Rattle.std.specs.declared.hash.FoldHasher.{FoldHasher}
use lib.Pointwise.{pointwise}
use Rattle.gs_lossless.specs.{Boards.{levels_in, seat_signals}, declared.board.Board.{Board}, declared.kinds.Kind.{Kind}}

-- for each signal of a board its hand: a number made of its level and its key
pub record AreHands (board : Board) (keys hands : List ℕ) : Type 0 where
  pub long : length hands ≡ length board.seats.items
  pub each : (i : ℕ) → i < length board.seats.items → slice_index hands i
      ≡ slice_index (levels_in board.seats.items) i * 4294967296 + slice_index keys (slice_index (seat_signals board.seats.items) i)

-- the kind at the place `kind` has the hands `hands`, in some order
pub record IsKindOf (kinds : List Kind) (kind : ℕ) (hands : List ℕ) : Type 0 where
  pub within : kind < length kinds
  pub same : (d : Kind) → IsPermutation (get_or kinds kind d).hands.items hands

-- whether two rows of hands are the same
abbrev pub row_eq : Vec ℕ → Vec ℕ → Bool
row_eq row other = pointwise nat_eq row.items other.items

-- each kind that is kept for a row has the hands of that row
abbrev pub KeepsKinds : List Kind → HashMap (Vec ℕ) ℕ (BuildHasherDefault FoldHasher) → Type 0
KeepsKinds kinds seen = (row : Vec ℕ) (kind : ℕ) → get row_eq seen row ≡ Some kind → IsKindOf kinds kind row.items

-- `more` is `kinds` and one more kind, with a board's place and hands
pub record HasMore (kinds more : List Kind) (board : ℕ) (hands : List ℕ) : Type 0 where
  pub last : Kind
  pub joined : more ≡ kinds ++ last ∷ []
  pub board_is : last.board ≡ board
  pub hands_are : last.hands.items ≡ hands

-- the mark of a signal of one board is a signal of another board with the same hand
pub record IsMark (signals hands others other_hands : List ℕ) (signal mark : ℕ) : Type 0 where
  pub one : ℕ
  pub two : ℕ
  pub one_in : one < length signals
  pub two_in : two < length others
  pub signal_is : slice_index signals one ≡ signal
  pub mark_is : slice_index others two ≡ mark
  pub same : slice_index hands one ≡ slice_index other_hands two
