-- Items with marks. A last-round signal and the signal at the place of its mark are alike.
use Rattle.std.specs.Prelude.{ℕ, ◌≡◌, ◌<◌, ◌≤◌, List, length, slice_index}
use Rattle.gs_model.specs.Game.{Game}
use Rattle.gs_tree.specs.Walk.{last_count}
use Rattle.gs_lossless.specs.Alike.{AreAlike}

-- for each item one with the same mark, at the same or an earlier place; the item itself if its mark is not the place of an item
pub record AreFirsts (marks firsts : List ℕ) : Type 0 where
  pub long : length firsts ≡ length marks
  pub before : (i : ℕ) → i < length marks → slice_index firsts i ≤ i
  pub same : (i : ℕ) → i < length marks → slice_index marks (slice_index firsts i) ≡ slice_index marks i
  pub itself : (i : ℕ) → i < length marks → length marks ≤ slice_index marks i → slice_index firsts i ≡ i

-- if the mark of a last-round signal is the place of a last-round signal, the two signals are alike
pub record AreAlikeMarks (g : Game) (keys marks : List ℕ) : Type 0 where
  pub long : length marks ≡ last_count g
  pub alike : (i : ℕ) → i < last_count g → slice_index marks i < last_count g → AreAlike g keys i (slice_index marks i)
