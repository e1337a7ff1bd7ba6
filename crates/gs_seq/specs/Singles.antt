-- The pairs of a class with one signal, made from the deals of that signal.
use Rattle.std.specs.Prelude.{ℕ, ℤ, ◌+◌, ◌<◌, ◌≤◌, ◌≡◌, List, [], length, get_or, Option, None, Some, pos, ◌*ℤ◌}
use Rattle.gs_boards.specs.Boards.{deal_sum}
use Rattle.gs_model.specs.{Deals.{Deal}, Game.{Game}}
use Rattle.gs_tree.specs.Walk.{last_count}
use Rattle.gs_seq.specs.declared.pair.Pair.{Pair}

-- a deal as a pair of classes, when each signal is a class of its own
abbrev pub deal_pair : Deal → Pair
deal_pair d = record { two = d.two + 1; weight = d.weight; signed = pos d.weight *ℤ d.outcome }

-- the deals that are left, or no deals
abbrev pub deals_left : Option (List Deal) → List Deal
deals_left None = []
deals_left (Some deals) = deals

-- a deal within the bounds of a game: player 2's signal is below 200,000, and the weight is at most 2^26
pub record IsSlight (d : Deal) : Type 0 where
  pub two : d.two < 200000
  pub weight : d.weight ≤ 67108864

-- two games have the same number of last-round signals, and each of these has the same sums over its deals in both
pub record HasSumsOf (g h : Game) : Type 0 where
  pub count : last_count g ≡ last_count h
  pub sums : (numbers : List ℕ) (pays : ℤ → ℤ) (signal : ℕ) → deal_sum g numbers pays signal ≡ deal_sum h numbers pays signal

-- ---- a search along a row

-- the first pair of a row whose class is above `after`
pub record IsFirstAfter (row : List Pair) (after : ℕ) (p : Pair) : Type 0 where
  pub place : ℕ
  pub inside : place < length row
  pub read : (d : Pair) → get_or row place d ≡ p
  pub before : (k : ℕ) (d : Pair) → k < place → (get_or row k d).two ≤ after
  pub above : after < p.two
