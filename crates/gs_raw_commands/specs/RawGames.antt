-- Bounds on the number of sequences over single signals; and each hand is dealt.
use Rattle.std.specs.Prelude.{ℕ, ◌+◌, ◌*◌, ◌<◌, ◌≤◌}
use Rattle.gs_file.specs.{JsonLaws.{IsTold}, Reading.{FileGame}, declared.version.Version.{Version}}
use Rattle.gs_filter.specs.Filter.{single_classes}
use Rattle.gs_model.specs.{Frame.{signal_count}, Payoff.{hand_weight}}
use Rattle.gs_raw.specs.Cells.{raw_cell_count}
use Rattle.gs_seq.specs.Slots.{sequence_count}
use Rattle.gs_strategy.specs.Values.{file_frame}

-- each raw signal of round 1 is dealt
abbrev pub HandsWeighSome : Type 0
HandsWeighSome = (version : Version) (g : FileGame) (s : ℕ) → IsTold version g → s < signal_count (file_frame g) 1 → 0 < hand_weight (file_frame g) s

-- over single signals a player has at most 64 sequences per raw cell, and the empty one
abbrev pub RawSequencesAreFew : Type 0
RawSequencesAreFew = (version : Version) (g : FileGame) (player : ℕ) → IsTold version g
    → sequence_count (file_frame g) (single_classes (file_frame g).parents) player ≤ 1 + 64 * raw_cell_count (file_frame g)

-- a game with at most 16,777,216 raw cells keeps the limit on sequences over single signals
abbrev pub RawGamesAreWithin : Type 0
RawGamesAreWithin = (version : Version) (g : FileGame) (player : ℕ) → IsTold version g → raw_cell_count (file_frame g) ≤ 16777216
    → sequence_count (file_frame g) (single_classes (file_frame g).parents) player ≤ 1073741824
