-- What a run does, from what each status says.
use Rattle.std.proofs.Common.{◌≡◌, ◌≢◌, ℕ, List, Some, refl, subst}
use Rattle.gs_reply.specs.Replies.{Prints}
use Rattle.std.specs.{List.{All}, Str.{IsUtf8}}
use Rattle.gs_words.proofs.{Asked.{read_is_asked}, Plain.{asked_is_read}}
use Rattle.gs_words.specs.{Plain.{AskFor}, Requests.{request_of}, Tasks.{Task, of_game}, declared.request.OfGame.TheVariants.{Solve}}
use Rattle.gs_run.proofs.{Answered.{answer_of, replied}, Concluded.{concludes}, Decided.{decided}, Meant.{means_of, solution_of}}
use Rattle.gs_run.specs.{Asking.{Asks, reads}, Meanings.{Means, ShowsSolution}, Running.{Ends, Quiet, RunsTo}, Theorem.{CutShort, Does, Printed, Run}}
use Rattle.gs_run.specs.declared.status.Status.{Status}
use Rattle.gs_run.specs.declared.status.Status.TheVariants as status

-- words that ask for a task are read as it
pub asked_for : (words : List (List ℕ)) (task : Task) → AskFor words task → request_of words ≡ Some task
asked_for words task a = asked_is_read words task a

-- a run that is not refused for its words, and has memory, has a task
task_there : (words : List (List ℕ)) (old new : Ends) (s : Status) → RunsTo words old new s → s ≢ status.Usage → s ≢ status.Memory
    → (task : Task) × (request_of words ≡ Some task)
task_there words old new status.Usage runs a b = absurd (a refl)
task_there words old new status.Memory runs a b = absurd (b refl)
task_there words old new status.Ok runs a b = (runs.0, runs.1)
task_there words old new status.ReadFault runs a b = (runs.0, runs.1)
task_there words old new status.TooLong runs a b = (runs.0, runs.1)
task_there words old new status.WriteFault runs a b = (runs.0, runs.1)
task_there words old new s runs a b = (runs.0, runs.1)

printed : (r : Run) (task : Task) (says : List ℕ → List ℕ → Type 0) → ((bytes text : List ℕ) → Asks task bytes (Prints text) → says bytes text)
    → request_of r.words ≡ Some task → RunsTo r.words r.old r.new status.Ok → Printed (reads task) says r
printed r task says h asked (other, is, ((text, a, out), faults, silent)) =
    let mine = answer_of r.words task other r.old r.new (Prints text) asked is a in
    record { bytes = mine.bytes; read = mine.input; text = text; printed = out; silent = silent; said = h mine.bytes text mine.says }

cut : (r : Run) (task : Task) (says : List ℕ → List ℕ → Type 0) → ((bytes text : List ℕ) → Asks task bytes (Prints text) → says bytes text)
    → request_of r.words ≡ Some task → RunsTo r.words r.old r.new status.WriteFault → CutShort (reads task) says r
cut r task says h asked (other, is, ((text, a, (count, short, out)), rose, told)) =
    let mine = answer_of r.words task other r.old r.new (Prints text) asked is a in
    record { bytes = mine.bytes; read = mine.input; text = text; count = count; short = short; printed = out; said = h mine.bytes text mine.says }

quiet : (words : List (List ℕ)) (old new : Ends) (s : Status) → RunsTo words old new s → s ≢ status.Ok → s ≢ status.WriteFault → Quiet old new
quiet words old new status.Ok runs a b = absurd (a refl)
quiet words old new status.WriteFault runs a b = absurd (b refl)
quiet words old new status.Usage runs a b = runs.2
quiet words old new status.ReadFault runs a b = runs.2.2
quiet words old new status.TooLong runs a b = runs.2.3
quiet words old new status.Memory runs a b = runs.2
quiet words old new s runs a b = runs.2.quiet

pub takes_words : (words : List (List ℕ)) (s : Status) (old new : Ends) (task : Task) → RunsTo words old new s → request_of words ≡ Some task
    → s ≢ status.Usage
takes_words words s old new task runs asked e =
    let refused : RunsTo words old new status.Usage = subst (RunsTo words old new) e runs in
    let bad = refused.0 in cc

pub does : (words : List (List ℕ)) (old new : Ends) (s : Status) → All IsUtf8 words → RunsTo words old new s
    → Does (record { words = words; old = old; new = new; status = s })
does words old new s texts runs =
    let r : Run = record { words = words; old = old; new = new; status = s } in
    record {
      takes_words = λ task a. takes_words words s old new task runs (asked_for words task a);
      asked = λ a b.
          let t = task_there words old new s runs a b in
          (t.0, read_is_asked words t.0 texts t.1);
      prints = λ task a e. printed r task (Means task) (means_of task) (asked_for words task a) (subst (RunsTo words old new) e runs);
      path = λ grouping a e. printed r (of_game (Solve grouping)) (ShowsSolution grouping) (solution_of grouping) (asked_for words (of_game (Solve grouping)) a)
          (subst (RunsTo words old new) e runs);
      cut = λ task a e. cut r task (Means task) (means_of task) (asked_for words task a) (subst (RunsTo words old new) e runs);
      quiet = quiet words old new s runs;
      ends = λ task bytes a h good. concludes task bytes s (replied words old new s runs task bytes (asked_for words task a) h good);
      decided = decided words old new s runs;
    }
