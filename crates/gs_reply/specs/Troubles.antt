-- Why a game over classes is refused: the classes are not lossless, or the game in sequence form is too large.
use Rattle.std.specs.Prelude.{◌≡◌, ℕ, List}
use Rattle.gs_file.specs.Reading.{FileGame, file_rules}
use Rattle.gs_model.specs.{Classes.{ClassLists}, Lossless.{IsFirstUnlike, IsLossless}, Signals.{signal_at}}
use Rattle.gs_seq.specs.{Stops.{IsFaultAt, usual}, declared.stop.SeqFault.TheVariants.{TooManySequences, TooManyCells}}
use Rattle.gs_strategy.specs.Values.{file_frame}
use Rattle.gs_tree.specs.Texts.{signal_text}
use Rattle.gs_reply.specs.{Refusals.{Unlike_pair, Too_large}, Replies.{Reply, Refuses}, declared.refusals.Limit.{Limit}}
use Rattle.gs_reply.specs.declared.refusals.Limit.TheVariants.{Sequences, Cells, TableNumbers, RawCells}

-- the classes are not lossless, and this is their first unlike pair, by its round and the texts of the two signals
pub record IsUnlikePair (g : FileGame) (lists : ClassLists) (round : ℕ) (one two : List ℕ) : Type 0 where
  pub first : ℕ
  pub second : ℕ
  pub unlike : IsFirstUnlike (file_frame g) lists round first second
  pub not_lossless : IsLossless (file_frame g) lists → ⊥
  pub first_text : one ≡ signal_text g.deck (signal_at (file_rules g) round first)
  pub second_text : two ≡ signal_text g.deck (signal_at (file_rules g) round second)

-- the limit is the first that the game in sequence form passes
abbrev pub Passes : FileGame → ClassLists → Limit → Type 0
Passes g lists (Sequences player count) = IsFaultAt usual (file_frame g) lists (TooManySequences player count)
Passes g lists (Cells count) = IsFaultAt usual (file_frame g) lists (TooManyCells count)
Passes g lists (TableNumbers count) = ⊥
Passes g lists (RawCells count) = ⊥

-- ---- the refusal for one of them

-- the reply refuses classes that are not lossless, with their first unlike pair
abbrev pub SaysUnlike : FileGame → ClassLists → Reply → Type 0
SaysUnlike g lists reply =
    (round : ℕ) × (one : List ℕ) × (two : List ℕ) × IsUnlikePair g lists round one two × (reply ≡ Refuses (Unlike_pair round one two))

-- the reply refuses the game, with the first limit that it passes
abbrev pub SaysLarge : FileGame → ClassLists → Reply → Type 0
SaysLarge g lists reply = (limit : Limit) × Passes g lists limit × (reply ≡ Refuses (Too_large limit))
