-- What a run of the program does, over any source and any two sinks.
use Rattle.std.specs.{Prelude.{◌≡◌, ◌≢◌, ℕ, ◌<◌, List, Bool, length, take, true}, Io.KnownBytes.{Appends}}
use Rattle.gs_words.specs.{Plain.{AskFor}, Tasks.{Task, of_game}, declared.request.Grouping.{Grouping}, declared.request.OfGame.TheVariants.{Solve}}
use Rattle.gs_run.specs.{Asking.{reads}, Deciding.{Holds, IsDecided}, Endings.{Concludes}, Meanings.{Means, ShowsSolution}}
use Rattle.gs_run.specs.{Running.{Ends, Inputs, NothingFailed, Quiet, Silent}, declared.status.Status.{Status}}
use Rattle.gs_run.specs.declared.status.Status.TheVariants as status

-- a run: its words, the ends before and after it, and its status
pub record Run : Type 0 where
  pub words : List (List ℕ)
  pub old : Ends
  pub new : Ends
  pub status : Status

-- The input was read: all of the source, or nothing if the command reads nothing. One text went to stdout, and nothing to stderr. `says` holds of the
-- input and the text.
pub record Printed (reads_source : Bool) (says : List ℕ → List ℕ → Type 0) (r : Run) : Type 0 where
  pub bytes : List ℕ
  pub read : Inputs reads_source r.old r.new bytes
  pub text : List ℕ
  pub printed : Appends r.old.given r.new.given text
  pub silent : Silent r.old r.new
  pub said : says bytes text

-- the input was read; a proper prefix of one text went to stdout, and `says` holds of the input and the whole text
pub record CutShort (reads_source : Bool) (says : List ℕ → List ℕ → Type 0) (r : Run) : Type 0 where
  pub bytes : List ℕ
  pub read : Inputs reads_source r.old r.new bytes
  pub text : List ℕ
  pub count : ℕ
  pub short : count < length text
  pub printed : Appends r.old.given r.new.given (take count text)
  pub said : says bytes text

-- what a run does
pub record Does (r : Run) : Type 0 where
  -- a command with its options is never refused for its words
  pub takes_words : (task : Task) → AskFor r.words task → r.status ≢ status.Usage
  -- and a run that is not refused for its words, and has memory, was asked for a task
  pub asked : r.status ≢ status.Usage → r.status ≢ status.Memory → (task : Task) × AskFor r.words task
  -- at status 0 the run printed what the command means
  pub prints : (task : Task) → AskFor r.words task → r.status ≡ status.Ok → Printed (reads task) (Means task) r
  -- and the plans that `solve` prints are read off its path
  pub path : (grouping : Grouping) → AskFor r.words (of_game (Solve grouping)) → r.status ≡ status.Ok → Printed true (ShowsSolution grouping) r
  -- if a write to stdout failed, a proper prefix of what the command means went out
  pub cut : (task : Task) → AskFor r.words task → r.status ≡ status.WriteFault → CutShort (reads task) (Means task) r
  -- at every other status nothing went out
  pub quiet : r.status ≢ status.Ok → r.status ≢ status.WriteFault → Quiet r.old r.new
  -- over valid input the run ends as the table of endings says, if no read or write fails
  pub ends : (task : Task) (bytes : List ℕ) → AskFor r.words task → Holds (reads task) r.old bytes → NothingFailed (reads task) r.old r.new
      → Concludes task bytes r.status
  -- each of these decides how the run ends, unless memory runs out: invalid words, an input that is too long, the reply of the task's definition
  pub decided : IsDecided r.words r.old r.new r.status
