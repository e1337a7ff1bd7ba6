-- A command has one reply to an input. The run gives this reply if no read or write fails and memory does not run out.
use Rattle.std.specs.{Prelude.{◌≡◌, ◌⊎◌, ℕ, ◌<◌, ◌≤◌, List, Bool, length, Some, None, true, false}, Io.KnownBytes.{Appends}}
use Rattle.gs_io.specs.Causes.{Rose}
use Rattle.gs_reply.specs.{Refusals.{line_of}, Replies.{Reply, Prints, Refuses}}
use Rattle.gs_words.specs.{Requests.{request_of}, Tasks.{Task}}
use Rattle.gs_run.specs.{Asking.{Asks, reads}, Running.{Ends, NothingFailed, Quiet, Silent, TellsLine, most_bytes}, Statuses.{status_of}}
use Rattle.gs_run.specs.declared.status.Status.{Status}
use Rattle.gs_run.specs.declared.status.Status.TheVariants as status

-- the source holds these bytes, within the limit; for a task that reads no input this says nothing
abbrev pub Holds : Bool → Ends → List ℕ → Type 0
Holds true old bytes = (old.left ≡ Some bytes) × (length bytes ≤ most_bytes)
Holds false old bytes = Unit {0}

-- The run gave the reply. A text went to stdout at status 0, and nothing to stderr. A refusal ended the run at its status: nothing went to stdout, and its
-- line to stderr.
abbrev pub DoesReply : Reply → Ends → Ends → Status → Type 0
DoesReply (Prints text) old new s = (s ≡ status.Ok) × Appends old.given new.given text × Silent old new
DoesReply (Refuses why) old new s = (s ≡ status_of why) × Quiet old new × TellsLine old new (line_of why)

-- Words that are no request end the run with status `Usage`. An input that is too long ends it with `TooLong`, if no read fails. If the task's definition
-- gives a reply for the bytes and nothing fails, the run gives that reply. Each of these runs may end out of memory instead.
pub record IsDecided (words : List (List ℕ)) (old new : Ends) (s : Status) : Type 0 where
  pub no_request : request_of words ≡ None → (s ≡ status.Usage) ⊎ (s ≡ status.Memory)
  pub too_long : (task : Task) (bytes : List ℕ) → request_of words ≡ Some task → reads task ≡ true → old.left ≡ Some bytes → most_bytes < length bytes
      → (Rose old.read_faults new.read_faults → ⊥) → (s ≡ status.TooLong) ⊎ (s ≡ status.Memory)
  pub reply : (task : Task) (bytes : List ℕ) (reply : Reply) → request_of words ≡ Some task → Holds (reads task) old bytes
      → NothingFailed (reads task) old new → Asks task bytes reply → DoesReply reply old new s ⊎ (s ≡ status.Memory)

-- two runs over the same words and bytes give the same reply, if no read or write fails; or one of them runs out of memory
abbrev pub OneReply : List (List ℕ) → Ends → Ends → Status → Ends → Ends → Status → Type 0
OneReply words old new s before after t =
    (task : Task) (bytes : List ℕ) → request_of words ≡ Some task → Holds (reads task) old bytes → Holds (reads task) before bytes
    → NothingFailed (reads task) old new → NothingFailed (reads task) before after
    → ((s ≡ status.Memory) ⊎ (t ≡ status.Memory)) ⊎ ((reply : Reply) × DoesReply reply old new s × DoesReply reply before after t)
