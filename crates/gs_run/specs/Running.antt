-- What a run does to the source, to stdout and to stderr, for each status.
use Rattle.std.specs.Prelude.{◌≡◌, ◌⊎◌, ℕ, ◌+◌, ◌<◌, ◌≤◌, List, [], length, take, codes, Bool, true, false, Some, None, Result, Ok, Err}
use Rattle.std.specs.{declared.option.Option.{Option}, declared.alloc.Global.{Global}, Prelude.{Vec}, Io.KnownBytes.{Consumes, Appends, IsAtEnd}}
use Rattle.gs_io.specs.{Causes.{Rose}, Moves.{ReadsAll, TookPrefix}, declared.InputError.{InputError}}
use Rattle.gs_reply.specs.{Refusals.{Refusal, line_of}, Replies.{Reply, Prints, Refuses}}
use Rattle.gs_words.specs.{Requests.{request_of}, Tasks.{Task}}
use Rattle.gs_run.specs.{Asking.{Asks, reads}, Told.{TellsTo}, Statuses.{status_of}, declared.status.Status.{Status}}
use Rattle.gs_run.specs.declared.status.Status.TheVariants as status

-- the source, stdout and stderr: the bytes of each, if it tells them, and its count of faults
pub record Ends : Type 0 where
  pub left : Option (List ℕ)
  pub read_faults : ℕ
  pub given : Option (List ℕ)
  pub write_faults : ℕ
  pub told : Option (List ℕ)
  pub tell_faults : ℕ

-- the ends with these bytes and counts
abbrev pub ends : Option (List ℕ) → ℕ → Option (List ℕ) → ℕ → Option (List ℕ) → ℕ → Ends
ends left read_faults given write_faults told tell_faults =
    record { left = left; read_faults = read_faults; given = given; write_faults = write_faults; told = told; tell_faults = tell_faults }

-- the greatest length of an input, in bytes
abbrev pub most_bytes : ℕ
most_bytes = 16777216

-- the words are a request, and `what` holds of its task
abbrev pub Asked : List (List ℕ) → (Task → Type 0) → Type 0
Asked words what = (task : Task) × (request_of words ≡ Some task) × what task

-- nothing was read, and no read failed
abbrev pub Unread : Ends → Ends → Type 0
Unread old new = (new.left ≡ old.left) × (new.read_faults ≡ old.read_faults)

-- the source was read to its end, and no read failed; these were its bytes, within the limit
pub record ReadsWhole (old new : Ends) (bytes : List ℕ) : Type 0 where
  pub taken : Consumes old.left new.left bytes
  pub end : IsAtEnd new.left
  pub few : length bytes ≤ most_bytes
  pub faults : new.read_faults ≡ old.read_faults

-- the input of a task: all bytes of the source; or no bytes for a task that reads none, and nothing was read
abbrev pub Inputs : Bool → Ends → Ends → List ℕ → Type 0
Inputs true old new bytes = ReadsWhole old new bytes
Inputs false old new bytes = (bytes ≡ []) × Unread old new

-- what reading the input of a task does to the source, for each result
abbrev pub ReadsInput : Bool → Option (List ℕ) → Option (List ℕ) → ℕ → ℕ → Result (Vec ℕ Global) InputError → Type 0
ReadsInput true old new before now result = ReadsAll (λ v. v.items) most_bytes old new before now result
ReadsInput false old new before now (Ok v) = (v.items ≡ []) × (new ≡ old) × (now ≡ before)
ReadsInput false old new before now (Err e) = ⊥

-- no write to stdout failed, and no read if the task reads the source; these counts of faults are below their last value
abbrev pub NothingFailed : Bool → Ends → Ends → Type 0
NothingFailed reads_source old new = (reads_source ≡ true → Rose old.read_faults new.read_faults → ⊥) × (Rose old.write_faults new.write_faults → ⊥)

-- nothing was written to stdout, and no write to it failed
abbrev pub Quiet : Ends → Ends → Type 0
Quiet old new = (new.given ≡ old.given) × (new.write_faults ≡ old.write_faults)

-- stderr received the line, or a prefix of it if a write failed
abbrev pub TellsLine : Ends → Ends → List ℕ → Type 0
TellsLine old new line = TellsTo old.told old.tell_faults new.told new.tell_faults line

-- nothing was written to stderr, and no write to it failed
abbrev pub Silent : Ends → Ends → Type 0
Silent old new = (new.told ≡ old.told) × (new.tell_faults ≡ old.tell_faults)

-- the input of the task was read, and the task's definition gives this reply for it
pub record IsAnswered (task : Task) (old new : Ends) (reply : Reply) : Type 0 where
  pub bytes : List ℕ
  pub input : Inputs (reads task) old new bytes
  pub says : Asks task bytes reply

-- the task's definition refuses the input with this status: nothing went to stdout, and the line of the refusal to stderr
pub record IsRefused (task : Task) (old new : Ends) (s : Status) : Type 0 where
  pub why : Refusal
  pub answered : IsAnswered task old new (Refuses why)
  pub status : status_of why ≡ s
  pub quiet : Quiet old new
  pub told : TellsLine old new (line_of why)

-- a prefix of the source was taken, at most one byte more than the limit; nothing was taken unless the words ask for a task that reads it
pub record TookInput (words : List (List ℕ)) (old new : Ends) : Type 0 where
  pub front : TookPrefix (most_bytes + 1) old.left new.left
  pub unread : (new.left ≡ old.left) ⊎ Asked words (λ task. reads task ≡ true)

-- the line that names the commands
abbrev pub usage_line : List ℕ
usage_line = codes "usage: gameshrink shrink, check, solve, play, evaluate, query, make, upgrade, judge, duel, certify, verify or path\n"

-- the line that refuses an input that is too long
abbrev pub long_line : List ℕ
long_line = codes "input longer than 16777216 bytes\n"

-- the line for out of memory
abbrev pub memory_line : List ℕ
memory_line = codes "out of memory\n"

-- stdout and stderr alone
abbrev pub sinks : Option (List ℕ) → ℕ → Option (List ℕ) → ℕ → Ends
sinks = ends None 0

-- What writing an answer does to stdout and stderr, for each status that an answer may have. `says` holds of the text that is printed, or of the refusal whose
-- line is told.
abbrev pub Writes : (Reply → Type 0) → Ends → Ends → Status → Type 0
Writes says old new status.Ok =
    ((text : List ℕ) × says (Prints text) × Appends old.given new.given text) × (new.write_faults ≡ old.write_faults) × Silent old new
Writes says old new status.WriteFault =
    ((text : List ℕ) × says (Prints text) × ((count : ℕ) × (count < length text) × Appends old.given new.given (take count text)))
    × Rose old.write_faults new.write_faults × TellsLine old new (codes "write fault\n")
Writes says old new status.Memory = Quiet old new × TellsLine old new memory_line
Writes says old new status.Usage = ⊥
Writes says old new status.ReadFault = ⊥
Writes says old new status.TooLong = ⊥
Writes says old new s = (why : Refusal) × says (Refuses why) × (status_of why ≡ s) × Quiet old new × TellsLine old new (line_of why)

-- what each status says of the ends; each status that is not listed is that of a refusal
abbrev pub RunsTo : List (List ℕ) → Ends → Ends → Status → Type 0
RunsTo words old new status.Ok =
    Asked words (λ task. ((text : List ℕ) × IsAnswered task old new (Prints text) × Appends old.given new.given text)
    × (new.write_faults ≡ old.write_faults) × Silent old new)
RunsTo words old new status.Usage =
    (request_of words ≡ None) × Unread old new × Quiet old new × TellsLine old new usage_line
RunsTo words old new status.ReadFault =
    Asked words (λ task. (reads task ≡ true) × (TookPrefix (most_bytes + 1) old.left new.left × Rose old.read_faults new.read_faults) × Quiet old new
    × TellsLine old new (codes "read fault\n"))
RunsTo words old new status.TooLong =
    Asked words (λ task. (reads task ≡ true) × ((bytes : List ℕ) × Consumes old.left new.left bytes × (length bytes ≡ most_bytes + 1))
    × (new.read_faults ≡ old.read_faults) × Quiet old new × TellsLine old new long_line)
RunsTo words old new status.Memory =
    TookInput words old new × (new.read_faults ≡ old.read_faults) × Quiet old new × TellsLine old new memory_line
RunsTo words old new status.WriteFault =
    Asked words (λ task. ((text : List ℕ) × IsAnswered task old new (Prints text)
    × ((count : ℕ) × (count < length text) × Appends old.given new.given (take count text)))
    × Rose old.write_faults new.write_faults × TellsLine old new (codes "write fault\n"))
RunsTo words old new s = Asked words (λ task. IsRefused task old new s)
