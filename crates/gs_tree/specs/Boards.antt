-- Last-round signals that show the same public cards: for each the first one and the next one.
use Rattle.std.specs.Prelude.{ℕ, ◌≡◌, ◌<◌, ◌+◌, ◌*◌, true, false, List, [], ◌∷◌, Option, Some, None, if◌then◌else◌, filter, length, nat_lt, slice_index}
use Rattle.std.specs.{List.{range_with_len}, Prelude.{slice_set}}
use Rattle.gs_model.specs.Game.{Game}
use Rattle.gs_tree.specs.Walk.{last_count, shows_same}

-- for each last-round signal the first signal that shows the same public cards, and the next one. If no other follows, the next one is the number of all
-- signals or more
pub record AreBoards (g : Game) (firsts nexts : List ℕ) : Type 0 where
  pub firsts_long : length firsts ≡ last_count g
  pub nexts_long : length nexts ≡ last_count g
  pub first_in : (i : ℕ) → i < last_count g → slice_index firsts i < last_count g
  pub first_same : (i : ℕ) → i < last_count g → shows_same g i (slice_index firsts i) ≡ true
  pub none_before : (i k : ℕ) → i < last_count g → k < slice_index firsts i → shows_same g i k ≡ false
  pub next_later : (i : ℕ) → i < last_count g → i < slice_index nexts i
  pub next_same : (i : ℕ) → i < last_count g → slice_index nexts i < last_count g → shows_same g i (slice_index nexts i) ≡ true
  pub none_between : (i k : ℕ) → i < last_count g → i < k → k < slice_index nexts i → k < last_count g → shows_same g i k ≡ false

-- the last-round signals with the same public cards as signal `i`
abbrev pub signals_on : Game → ℕ → List ℕ
signals_on g i = filter (shows_same g i) (range_with_len 0 (last_count g))

-- the first signal with the public cards of `signal`: that of the last one before it with these cards, or else itself
abbrev pub first_on_board : Option ℕ → ℕ → List ℕ → ℕ
first_on_board None signal firsts = signal
first_on_board (Some last) signal firsts = slice_index firsts last

-- the last signal before `signal` with the same public cards, if there is one, gets `signal` as its next
abbrev pub linked : Option ℕ → ℕ → List ℕ → List ℕ
linked None signal nexts = nexts
linked (Some last) signal nexts = slice_set nexts last signal

-- the number of a list of cards: its digits, to base `kinds`, follow those of `code`
abbrev pub code_behind : ℕ → ℕ → List ℕ → ℕ
code_behind kinds code [] = code
code_behind kinds code (card ∷ cards) = code_behind kinds (code * kinds + card) cards

-- the signal that an entry of a table names, none where the entry is not below `count`
abbrev pub seen_last : ℕ → ℕ → Option ℕ
seen_last count entry = if nat_lt entry count then Some entry else None
