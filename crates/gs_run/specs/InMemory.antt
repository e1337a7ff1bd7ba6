-- What the program does with words and bytes in memory. This is what `Does` says of a run, without a source and sinks.
use Rattle.std.specs.Prelude.{◌≡◌, ◌≢◌, ◌⊎◌, ℕ, ◌<◌, ◌≤◌, List, [], Bool, length, Some, None, true, false}
use Rattle.gs_reply.specs.{Refusals.{line_of}, Replies.{Reply, Prints, Refuses}}
use Rattle.gs_words.specs.{Plain.{AskFor}, Requests.{request_of}, Tasks.{Task, of_game}, declared.request.Grouping.{Grouping}, declared.request.OfGame.TheVariants.{Solve}}
use Rattle.gs_run.specs.{Asking.{Asks, reads}, Endings.{Concludes}, Meanings.{Means, ShowsSolution}, Running.{Asked, long_line, most_bytes, usage_line}}
use Rattle.gs_run.specs.{Statuses.{status_of}, declared.status.Status.{Status}}
use Rattle.gs_run.specs.declared.status.Status.TheVariants as status

-- the input is within the limit, if the task reads one
abbrev pub FitsLimit : Bool → List ℕ → Type 0
FitsLimit true input = length input ≤ most_bytes
FitsLimit false input = Unit {0}

-- the reply was given: at status 0 its text and no line, or at the status of the refusal its line and no text
abbrev pub GivesReply : Reply → Status → List ℕ → List ℕ → Type 0
GivesReply (Prints text) s printed told = (s ≡ status.Ok) × (printed ≡ text) × (told ≡ [])
GivesReply (Refuses why) s printed told = (s ≡ status_of why) × (printed ≡ []) × (told ≡ line_of why)

-- the outcome is a reply that the task's definition gives for the input
abbrev pub GivesAnswer : Task → List ℕ → Status → List ℕ → List ℕ → Type 0
GivesAnswer task input s printed told = (reply : Reply) × Asks task input reply × GivesReply reply s printed told

-- Words that are no request get the usage line. An input that is too long gets the line that refuses it. In all other cases the outcome is a reply that the
-- task's definition gives for the input.
abbrev pub GivesOutcome : List (List ℕ) → List ℕ → Status → List ℕ → List ℕ → Type 0
GivesOutcome words input s printed told =
    ((request_of words ≡ None) × (s ≡ status.Usage) × (printed ≡ []) × (told ≡ usage_line))
    ⊎ Asked words (λ task. ((reads task ≡ true) × (most_bytes < length input) × (s ≡ status.TooLong) × (printed ≡ []) × (told ≡ long_line))
    ⊎ (FitsLimit (reads task) input × GivesAnswer task input s printed told))

-- what the program does with words and bytes in memory: its status, what it prints to stdout and what it tells on stderr
pub record DoesInMemory (words : List (List ℕ)) (input : List ℕ) (s : Status) (printed told : List ℕ) : Type 0 where
  -- a command with its options is never refused for its words
  pub takes_words : (task : Task) → AskFor words task → s ≢ status.Usage
  -- and what is not refused for its words was asked for a task
  pub asked : s ≢ status.Usage → (task : Task) × AskFor words task
  -- every outcome is one of three: the usage line for words that are no request, the line that refuses a too long input, or a reply of the task's definition
  pub outcome : GivesOutcome words input s printed told
  -- words that are no request get the usage line
  pub no_request : request_of words ≡ None → (s ≡ status.Usage) × (printed ≡ []) × (told ≡ usage_line)
  -- at status 0 it prints what the command means, and tells nothing
  pub prints : (task : Task) → AskFor words task → s ≡ status.Ok → Means task input printed × (told ≡ [])
  -- and the plans that `solve` prints are read off its path
  pub path : (grouping : Grouping) → AskFor words (of_game (Solve grouping)) → s ≡ status.Ok → ShowsSolution grouping input printed
  -- at every other status it prints nothing
  pub quiet : s ≢ status.Ok → printed ≡ []
  -- over valid input it ends as the table of endings says, and never out of memory
  pub ends : (task : Task) → AskFor words task → FitsLimit (reads task) input → Concludes task input s × (s ≢ status.Memory)
  -- an input that is too long is refused
  pub too_long : (task : Task) → request_of words ≡ Some task → reads task ≡ true → most_bytes < length input
      → (s ≡ status.TooLong) × (printed ≡ []) × (told ≡ long_line)
  -- if the task's definition gives a reply for the input, the outcome is this reply
  pub decided : (task : Task) (reply : Reply) → request_of words ≡ Some task → FitsLimit (reads task) input → Asks task input reply
      → GivesReply reply s printed told
