-- What a run answered, and that it says some reply where nothing outside fails.
use Rattle.std.proofs.Common.{◌≡◌, ◌⊎◌, inl, inr, ℕ, ◌+◌, ◌<◌, ◌≤◌, ◌++◌, true, false, Bool, List, length, take, Some, None, Option, Ok, Vec, refl, sym, ap, ◌∙◌, subst, arith}
use Rattle.std.proofs.{Common.{[]}, KnownBytes.{Consumes-nil}, lemmas.Bool.{true≢false}, lemmas.List.{append-nil, length-append}}
use Rattle.std.specs.{Prelude.{Err, Result, codes}, Io.KnownBytes.{Appends, Consumes, IsAtEnd}, declared.alloc.Global.{Global}}
use Rattle.gs_io.specs.{Causes.{Rose}, Moves.{WritesAll}, declared.InputError.{InputError}, declared.WriteStop.{WriteStop}}
use Rattle.gs_io.specs.declared.InputError.TheVariants as read
use Rattle.gs_io.specs.declared.InputFault.TheVariants as source
use Rattle.gs_io.specs.declared.WriteStop.TheVariants as write
use Rattle.gs_reply.specs.Refusals.{Refusal, Bad_game, Unlike_pair, Overflows, Many_pivots, Too_large, Bad_strategy, Wrong_number, Bad_query, Other_game}
use Rattle.gs_reply.specs.{Refusals.{Bad_certificate, line_of}, Replies.{Reply, Prints, Refuses}}
use Rattle.gs_words.specs.{Requests.{request_of}, Tasks.{Task, make}}
use Rattle.gs_run.specs.{Asking.{Asks, reads}, Deciding.{Holds}, Endings.{EndsSo}, Statuses.{status_of}}
use Rattle.gs_run.specs.Running.{Unread, Writes, long_line, memory_line, most_bytes, sinks, usage_line}
use Rattle.gs_run.specs.Running.{Asked, Ends, Inputs, IsAnswered, IsRefused, NothingFailed, Quiet, ReadsInput, ReadsWhole, RunsTo, TellsLine, TookInput}
use Rattle.gs_run.specs.declared.status.Status.{Status}
use Rattle.gs_run.specs.declared.status.Status.TheVariants as status

-- ---- tasks and inputs

pub one_task : (words : List (List ℕ)) (one two : Task) → request_of words ≡ Some one → request_of words ≡ Some two → one ≡ two
one_task words one two a b = let e : Some one ≡ Some two = sym a ∙ b in cc

-- what was read to the end is all that was there
all_there : (new : Option (List ℕ)) (xs ys : List ℕ) → Consumes (Some xs) new ys → IsAtEnd new → xs ≡ ys
all_there None xs ys c e = absurd c
all_there (Some zs) xs ys c e = c ∙ (ap (λ r. ys ++ r) e ∙ append-nil ys)

no_longer : (new : Option (List ℕ)) (xs ys : List ℕ) → Consumes (Some xs) new ys → length ys ≤ length xs
no_longer None xs ys c = absurd c
no_longer (Some zs) xs ys c = rw (c, length-append) (omega arith)

-- no more was taken than the source held
pub taken_within : (old new : Ends) (bytes found : List ℕ) → old.left ≡ Some bytes → Consumes old.left new.left found → length found ≤ length bytes
taken_within old new bytes found e c = no_longer new.left bytes found (subst (λ (l : Option (List ℕ)). Consumes l new.left found) e c)

-- what was read is what the source held
pub read_is_held : (old new : Ends) (bytes found : List ℕ) → old.left ≡ Some bytes → ReadsWhole old new found → found ≡ bytes
read_is_held old new bytes found e whole = sym (all_there new.left bytes found
    (subst (λ (l : Option (List ℕ)). Consumes l new.left found) e whole.taken) whole.end)

-- ---- what was answered

-- a task that reads nothing says the same of any bytes
of_no_bytes : (task : Task) (old new : Ends) (bytes : List ℕ) (reply : Reply) → reads task ≡ false → IsAnswered task old new reply → Asks task bytes reply
of_no_bytes (make m) old new bytes reply r a = a.says
of_no_bytes task old new bytes reply r a = absurd (true≢false r)

-- what is answered is said of the bytes that the source holds
pub said : (task : Task) (old new : Ends) (bytes : List ℕ) (reply : Reply) → Holds (reads task) old bytes → IsAnswered task old new reply
    → Asks task bytes reply
said task old new bytes reply h a = by (reads task) refl h
  where
    by : (b : Bool) → reads task ≡ b → Holds b old bytes → Asks task bytes reply
    by true r held =
        let whole : ReadsWhole old new a.bytes = subst (λ (b : Bool). Inputs b old new a.bytes) r a.input in
        subst (λ (b : List ℕ). Asks task b reply) (read_is_held old new bytes a.bytes held.0 whole) a.says
    by false r held = of_no_bytes task old new bytes reply r a

-- the task that was answered is the one that the words ask for
pub answer_of : (words : List (List ℕ)) (task other : Task) (old new : Ends) (reply : Reply) → request_of words ≡ Some task → request_of words ≡ Some other
    → IsAnswered other old new reply → IsAnswered task old new reply
answer_of words task other old new reply asked is a = subst (λ (t : Task). IsAnswered t old new reply) (one_task words other task is asked) a

-- a source that holds few bytes does not hold one more than the limit
pub not_long : (task : Task) (old new : Ends) (bytes found : List ℕ) → reads task ≡ true → Holds (reads task) old bytes → Consumes old.left new.left found
    → length found ≡ most_bytes + 1 → ⊥
not_long task old new bytes found r h c long =
    let held : Holds true old bytes = subst (λ (b : Bool). Holds b old bytes) r h in
    let within = taken_within old new bytes found held.0 c in
    let few = held.1 in
    omega arith

refused : (words : List (List ℕ)) (task : Task) (old new : Ends) (bytes : List ℕ) (s : Status) → request_of words ≡ Some task → Holds (reads task) old bytes
    → Asked words (λ t. IsRefused t old new s) → EndsSo (Asks task bytes) s
refused words task old new bytes s asked h (other, is, r) =
    inr (inr (r.why, said task old new bytes (Refuses r.why) h (answer_of words task other old new (Refuses r.why) asked is r.answered), r.status))

-- a run says some reply of the bytes that the source holds, or memory runs out
pub replied : (words : List (List ℕ)) (old new : Ends) (s : Status) → RunsTo words old new s → (task : Task) (bytes : List ℕ) → request_of words ≡ Some task
    → Holds (reads task) old bytes → NothingFailed (reads task) old new → EndsSo (Asks task bytes) s
replied words old new status.Ok runs task bytes asked h good =
    let text = runs.2.0.0 in
    inl (refl, (text, said task old new bytes (Prints text) h (answer_of words task runs.0 old new (Prints text) asked runs.1 runs.2.0.1)))
replied words old new status.Memory runs task bytes asked h good = inr (inl refl)
replied words old new status.Usage runs task bytes asked h good = let bad = runs.0 in cc
replied words old new status.ReadFault runs task bytes asked h good =
    absurd (good.0 (ap reads (one_task words task runs.0 asked runs.1) ∙ runs.2.0) runs.2.1.1)
replied words old new status.WriteFault runs task bytes asked h good = absurd (good.1 runs.2.1)
replied words old new status.TooLong runs task bytes asked h good =
    absurd (not_long task old new bytes runs.2.1.0 (ap reads (one_task words task runs.0 asked runs.1) ∙ runs.2.0) h runs.2.1.1 runs.2.1.2)
replied words old new s runs task bytes asked h good = refused words task old new bytes s asked h runs

-- ---- answers that are written

-- a refusal is told with its status
tells_refusal : (says : Reply → Type 0) (old new : Ends) (why : Refusal) → says (Refuses why) → Quiet old new → TellsLine old new (line_of why)
    → Writes says old new (status_of why)
tells_refusal says old new (Bad_game rule) h quiet told = (Bad_game rule, h, refl, quiet, told)
tells_refusal says old new (Unlike_pair round one two) h quiet told = (Unlike_pair round one two, h, refl, quiet, told)
tells_refusal says old new (Overflows at) h quiet told = (Overflows at, h, refl, quiet, told)
tells_refusal says old new Many_pivots h quiet told = (Many_pivots, h, refl, quiet, told)
tells_refusal says old new (Too_large limit) h quiet told = (Too_large limit, h, refl, quiet, told)
tells_refusal says old new (Bad_strategy which rule) h quiet told = (Bad_strategy which rule, h, refl, quiet, told)
tells_refusal says old new (Wrong_number name stated found) h quiet told = (Wrong_number name stated found, h, refl, quiet, told)
tells_refusal says old new (Bad_query rule) h quiet told = (Bad_query rule, h, refl, quiet, told)
tells_refusal says old new Other_game h quiet told = (Other_game, h, refl, quiet, told)
tells_refusal says old new (Bad_certificate text) h quiet told = (Bad_certificate text, h, refl, quiet, told)

-- a write of the text failed
pub write_fault : (says : Reply → Type 0) (old new : Ends) (text bytes : List ℕ) (s : Status) (e : WriteStop) → s ≡ status.WriteFault → says (Prints text)
    → bytes ≡ text → WritesAll bytes old.given new.given old.write_faults new.write_faults {T = Unit {0}} (Err e) → TellsLine old new (codes "write fault\n")
    → Writes says old new s
write_fault says old new text bytes s (write.Fault written) is said same h told =
    let fault = subst (λ (b : List ℕ). (written < length b) × Appends old.given new.given (take written b) × Rose old.write_faults new.write_faults) same h in
    subst (Writes says old new) (sym is) ((text, said, (written, fault.0, fault.1)), fault.2, told)

-- memory ran out
pub no_memory : (says : Reply → Type 0) (old new : Ends) (s : Status) → s ≡ status.Memory → Quiet old new → TellsLine old new memory_line
    → Writes says old new s
no_memory says old new s is quiet told = subst (Writes says old new) (sym is) (quiet, told)

-- the line of a refusal is told with its status, or that memory ran out
pub refusal_written : (says : Reply → Type 0) (old new : Ends) (why : Refusal) (s : Status) → says (Refuses why) → Quiet old new
    → ((s ≡ status_of why) × TellsLine old new (line_of why)) ⊎ ((s ≡ status.Memory) × TellsLine old new memory_line) → Writes says old new s
refusal_written says old new why s h quiet (inl (e, told)) = subst (Writes says old new) (sym e) (tells_refusal says old new why h quiet told)
refusal_written says old new why s h quiet (inr (e, told)) = subst (Writes says old new) (sym e) (quiet, told)

-- the input that was read
pub inputs : (reads_source : Bool) (old new : Ends) (v : Vec ℕ Global) → ReadsInput reads_source old.left new.left old.read_faults new.read_faults (Ok v)
    → Inputs reads_source old new v.items
inputs true old new v h = record { taken = h.0; end = h.1; few = h.2; faults = h.3 }
inputs false old new v h = (h.0, (h.1, h.2))

-- no more of the source was taken than the limit allows, and no read failed
took : (words : List (List ℕ)) (task : Task) (old new : Ends) (bytes : List ℕ) → request_of words ≡ Some task → (b : Bool) → reads task ≡ b
    → Inputs b old new bytes → TookInput words old new × (new.read_faults ≡ old.read_faults)
took words task old new bytes asked true r input =
    (record { front = (bytes, input.taken, omega (arith, input.few)); unread = inr (task, asked, r) }, input.faults)
took words task old new bytes asked false r input =
    let same = input.1.0 in (
      record {
        front = ([], subst (λ (l : Option (List ℕ)). Consumes old.left l []) (sym same) (Consumes-nil old.left), omega arith);
        unread = inl same;
      },
      input.1.1,
    )

-- what was written for the input that was read is what the run wrote
pub run_of : (words : List (List ℕ)) (task : Task) (old new : Ends) (bytes : List ℕ) (s : Status) → request_of words ≡ Some task
    → Inputs (reads task) old new bytes → Writes (Asks task bytes) (sinks old.given old.write_faults old.told old.tell_faults)
    (sinks new.given new.write_faults new.told new.tell_faults) s → RunsTo words old new s
run_of words task old new bytes status.Ok asked input h =
    (task, asked, ((h.0.0, record { bytes = bytes; input = input; says = h.0.1 }, h.0.2), h.1, h.2))
run_of words task old new bytes status.WriteFault asked input h =
    (task, asked, ((h.0.0, record { bytes = bytes; input = input; says = h.0.1 }, h.0.2), h.1, h.2))
run_of words task old new bytes status.Memory asked input h =
    let front = took words task old new bytes asked (reads task) refl input in (front.0, front.1, h.0, h.1)
run_of words task old new bytes status.Usage asked input h = absurd h
run_of words task old new bytes status.ReadFault asked input h = absurd h
run_of words task old new bytes status.TooLong asked input h = absurd h
run_of words task old new bytes s asked input h =
    (task, asked, record { why = h.0; answered = record { bytes = bytes; input = input; says = h.1 }; status = h.2; quiet = h.3; told = h.4 })

-- ---- what was not read

-- the words are no request
pub no_request : (words : List (List ℕ)) (old new : Ends) (s : Status) → s ≡ status.Usage → request_of words ≡ None → Unread old new → Quiet old new
    → TellsLine old new usage_line → RunsTo words old new s
no_request words old new s is none unread quiet told = subst (RunsTo words old new) (sym is) (none, unread, quiet, told)

-- there was no room for the words
pub no_room_for_words : (words : List (List ℕ)) (old new : Ends) (s : Status) → s ≡ status.Memory → Unread old new → Quiet old new
    → TellsLine old new memory_line → RunsTo words old new s
no_room_for_words words old new s is unread quiet told =
    subst (RunsTo words old new) (sym is) (
      record {
        front = ([], subst (λ (l : Option (List ℕ)). Consumes old.left l []) (sym unread.0) (Consumes-nil old.left), omega arith);
        unread = inl unread.0;
      },
      unread.1,
      quiet,
      told,
    )

-- where reading the input stops, the task reads it
stopped : (b : Bool) (old new : Option (List ℕ)) (before now : ℕ) (e : InputError) → ReadsInput b old new before now (Err e)
    → (b ≡ true) × ReadsInput true old new before now (Err e)
stopped true old new before now e h = (refl, h)
stopped false old new before now e h = absurd h

module _ (words : List (List ℕ)) (task : Task) (old new : Ends) (asked : request_of words ≡ Some task) (r : Result (Vec ℕ Global) InputError)
    (input : ReadsInput (reads task) old.left new.left old.read_faults new.read_faults r) (quiet : Quiet old new) where
  reads_it : (e : InputError) → r ≡ Err e → (reads task ≡ true) × ReadsInput true old.left new.left old.read_faults new.read_faults (Err e)
  reads_it e is = stopped (reads task) old.left new.left old.read_faults new.read_faults e
      (subst (ReadsInput (reads task) old.left new.left old.read_faults new.read_faults) is input)

  -- a read failed
  pub read_fault : (s : Status) → s ≡ status.ReadFault → r ≡ Err (read.Fault source.Failed) → TellsLine old new (codes "read fault\n") → RunsTo words old new s
  read_fault s is e told =
      let h = reads_it (read.Fault source.Failed) e in
      subst (RunsTo words old new) (sym is) (task, asked, (h.0, (h.1.0, h.1.1), quiet, told))

  -- the source holds more than the limit
  pub too_long : (s : Status) → s ≡ status.TooLong → r ≡ Err (read.Fault source.TooLong) → TellsLine old new long_line → RunsTo words old new s
  too_long s is e told =
      let h = reads_it (read.Fault source.TooLong) e in
      subst (RunsTo words old new) (sym is) (task, asked, (h.0, h.1.0, h.1.1, quiet, told))

  -- there was no room for what was read
  pub no_room : (s : Status) → s ≡ status.Memory → r ≡ Err read.Memory → TellsLine old new memory_line → RunsTo words old new s
  no_room s is e told =
      let h = reads_it read.Memory e in
      subst (RunsTo words old new) (sym is) (record { front = h.1.0; unread = inr (task, asked, h.0) }, h.1.1, quiet, told)
