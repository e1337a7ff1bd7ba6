-- How long a strategy's text is, and what `evaluate` does with a text that the program printed.
use Rattle.std.specs.Prelude.{◌≡◌, ℕ, ◌≤◌, List, Some, length, true}
use Rattle.gs_file.specs.declared.version.Version.{Version}
use Rattle.gs_run.specs.{Endings.{EndsWell}, InMemory.{DoesInMemory}, Meanings.{Means}, Running.{NothingFailed, most_bytes}, Theorem.{Does, Run}}
use Rattle.gs_run.specs.{declared.status.Status.{Status}, declared.status.Status.TheVariants.{Ok}}
use Rattle.gs_seq.specs.Stops.{IsSmall}
use Rattle.gs_strategy.specs.{Laws.{IsStrategy}, Texts.{strategy_text}, Values.{Strategy, file_frame}}
use Rattle.gs_words.specs.{Plain.{AskFor}, Tasks.{of_game, of_strategy, Evaluate, Upgrade}, declared.request.Grouping.{Grouping}}
use Rattle.gs_words.specs.declared.request.OfGame.TheVariants.{Play, Solve}

-- the text of a strategy whose game over its classes keeps the limits has at most as many bytes as an input may have
abbrev pub TextsFitInputs : Type 0
TextsFitInputs =
    (version : Version) (s : Strategy) → IsStrategy version s → IsSmall (file_frame s.game) s.classes → length (strategy_text version s) ≤ most_bytes

-- `says` holds of each text that `solve`, `play` and `upgrade` print at status 0, by the table of meanings
pub record OfPrinted (says : List ℕ → Type 0) : Type 0 where
  pub solved : (grouping : Grouping) (bytes text : List ℕ) → Means (of_game (Solve grouping)) bytes text → says text
  pub played : (grouping : Grouping) (turns : ℕ) (bytes text : List ℕ) → Means (of_game (Play grouping turns)) bytes text → says text
  pub upgraded : (bytes text : List ℕ) → Means (of_strategy Upgrade) bytes text → says text

-- `evaluate` never refuses this text: a run over it in which no read or write fails ends well or out of memory, and over bytes in memory it ends well
pub record EvaluatesWell (text : List ℕ) : Type 0 where
  pub run : (r : Run) → Does r → AskFor r.words (of_strategy Evaluate) → r.old.left ≡ Some text → NothingFailed true r.old r.new → EndsWell r.status
  pub in_memory : (words : List (List ℕ)) (s : Status) (printed told : List ℕ) → DoesInMemory words text s printed told → AskFor words (of_strategy Evaluate) → s ≡ Ok
