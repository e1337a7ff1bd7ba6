-- What `check` says of an input.
use Rattle.std.specs.Prelude.{◌≡◌, ℕ, List, Bool}
use Rattle.gs_file.specs.Reading.{FileGame, read_at, file_rules}
use Rattle.gs_filter.specs.Filter.{single_classes}
use Rattle.gs_model.specs.{Classes.{ClassLists}, Frame.{frame_of}, Game.{Game}, Lossless.{IsLossless}, Refinement.{IsCoarsestLossless}}
use Rattle.gs_model.specs.SignalClasses.{IsSignalClasses}
use Rattle.gs_words.specs.{declared.request.Grouping.{Grouping}, declared.request.Grouping.TheVariants.{Isomorphism, Coarsest, Single}}
use Rattle.gs_game_commands.specs.Shrinking.{told}
use Rattle.gs_reply.specs.{Replies.{Reply, Prints, Refuses, OfReading}, Troubles.{SaysUnlike}}

-- the classes of a grouping: those of recursive ordered game isomorphism, the coarsest lossless classes that refine those, or each signal by itself
abbrev pub IsGrouping : Grouping → Game → ClassLists → Type 0
IsGrouping Isomorphism g lists = IsSignalClasses g lists
IsGrouping Coarsest g lists = (signal_classes : ClassLists) × IsSignalClasses g signal_classes × IsCoarsestLossless (frame_of g) signal_classes lists
IsGrouping Single g lists = lists ≡ single_classes (frame_of g).parents

-- the classes of the grouping are lossless, and the text is theirs or their summary
pub record IsChecked (grouping : Grouping) (summary : Bool) (g : FileGame) (text : List ℕ) : Type 0 where
  pub classes : ClassLists
  pub are : IsGrouping grouping (file_rules g) classes
  pub lossless : IsLossless (frame_of (file_rules g)) classes
  pub printed : text ≡ told summary g.deck (file_rules g) classes

-- the classes of the grouping are refused with their first unlike pair; only those of ordered game isomorphism may have one
abbrev pub SaysNotLossless : Grouping → FileGame → Reply → Type 0
SaysNotLossless grouping g reply =
    (grouping ≡ Isomorphism) × (classes : ClassLists) × IsSignalClasses (file_rules g) classes × SaysUnlike g classes reply

-- what `check` says of a game: the text of its classes, or their first unlike pair
abbrev pub ChecksGame : Grouping → Bool → FileGame → Reply → Type 0
ChecksGame grouping summary g (Prints text) = IsChecked grouping summary g text
ChecksGame grouping summary g (Refuses why) = SaysNotLossless grouping g (Refuses why)

-- what `check` says of the bytes of a game file
abbrev pub Checks : Grouping → Bool → List ℕ → Reply → Type 0
Checks grouping summary bytes reply = OfReading (ChecksGame grouping summary) (read_at bytes) reply
