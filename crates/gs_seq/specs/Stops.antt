-- Why a game with its classes is too large.
use Rattle.std.specs.Prelude.{ℕ, ◌<◌, ◌≤◌, ◌≡◌, ◌⊎◌}
use Rattle.gs_model.specs.{Classes.{ClassLists}, Frame.{Frame}}
use Rattle.gs_seq.specs.{Cells.{cell_count}, Slots.{sequence_count}, declared.limits.Limits.{Limits}, declared.stop.SeqError.{SeqError}}
use Rattle.gs_seq.specs.{declared.stop.SeqError.TheVariants.{Fault, Memory}, declared.stop.SeqFault.{SeqFault}}
use Rattle.gs_seq.specs.declared.stop.SeqFault.TheVariants.{TooManySequences, TooManyCells}

-- each player has at most `most` sequences
pub record HasSequencesWithin (most : ℕ) (f : Frame) (lists : ClassLists) : Type 0 where
  pub one : sequence_count f lists 1 ≤ most
  pub two : sequence_count f lists 2 ≤ most

-- the fault says that a player has more than `most` sequences, and how many
abbrev pub HasOver : ℕ → Frame → ClassLists → ℕ → SeqFault → Type 0
HasOver most f lists player (TooManySequences p count) = (p ≡ player) × (count ≡ sequence_count f lists player) × (most < count)
HasOver most f lists player (TooManyCells count) = ⊥

-- the fault names the first player with more than `most` sequences
abbrev pub IsTooLong : ℕ → Frame → ClassLists → SeqFault → Type 0
IsTooLong most f lists e = HasOver most f lists 1 e ⊎ ((sequence_count f lists 1 ≤ most) × HasOver most f lists 2 e)

-- a fault names the first limit that is exceeded, sequences before cells
abbrev pub IsFaultAt : Limits → Frame → ClassLists → SeqFault → Type 0
IsFaultAt most f lists (TooManySequences player count) = IsTooLong most.sequences f lists (TooManySequences player count)
IsFaultAt most f lists (TooManyCells count) = HasSequencesWithin most.sequences f lists × (count ≡ cell_count f lists) × (most.cells < count)

-- the error is such a fault; memory may run out for any game
abbrev pub IsErrorAt : Limits → Frame → ClassLists → SeqError → Type 0
IsErrorAt most f lists Memory = Unit {0}
IsErrorAt most f lists (Fault fault) = IsFaultAt most f lists fault

-- the game exceeds neither limit
pub record IsWithin (most : Limits) (f : Frame) (lists : ClassLists) : Type 0 where
  pub sequences : HasSequencesWithin most.sequences f lists
  pub cells : cell_count f lists ≤ most.cells

-- ---- the limits of a game that is solved or played

-- 262,144 sequences of each player, with the empty one counted, and 4,194,304 cells
abbrev pub usual : Limits
usual = record { sequences = 262144; cells = 4194304 }

-- the game is within the usual limits
abbrev pub IsSmall : Frame → ClassLists → Type 0
IsSmall f lists = IsWithin usual f lists
