-- Last-round signals that see the same deals, up to a key for each of the opponent's signals.
use Rattle.std.specs.{Prelude.{ℕ, ℤ, ◌≡◌, ◌<◌, ◌≤◌, ◌==◌, List, filter, length, map, slice_index}, List.Sorted.{IsPermutation}}
use Rattle.gs_model.specs.{Deals.{Deal, deals, path_weight}, Game.{Game, round_count}, Signals.{signal_at}}
use Rattle.gs_tree.specs.Walk.{last_count}

-- a deal as player 1 sees it: the key of player 2's signal, the outcome and the weight
abbrev pub seen_by : List ℕ → Deal → ℕ × ℤ × ℕ
seen_by keys d = (slice_index keys d.two, d.outcome, d.weight)

-- the deals of the last-round signal `i`, as player 1 sees them
abbrev pub seen : Game → List ℕ → ℕ → List (ℕ × ℤ × ℕ)
seen g keys i = map (seen_by keys) (filter (λ d. d.one == i) (deals g))

-- two last-round signals have the same key, the same number of ways to them, and the same deals in some order
pub record AreAlike (g : Game) (keys : List ℕ) (one two : ℕ) : Type 0 where
  pub key : slice_index keys one ≡ slice_index keys two
  pub path : path_weight g.copies (signal_at g (round_count g) one) ≡ path_weight g.copies (signal_at g (round_count g) two)
  pub deals : IsPermutation (seen g keys one) (seen g keys two)

-- `firsts` gives each last-round signal a stand-in at the same or an earlier place; the two signals are alike
pub record AreStandIns (g : Game) (keys firsts : List ℕ) : Type 0 where
  pub long : length firsts ≡ last_count g
  pub before : (i : ℕ) → i < last_count g → slice_index firsts i ≤ i
  pub alike : (i : ℕ) → i < last_count g → AreAlike g keys i (slice_index firsts i)
