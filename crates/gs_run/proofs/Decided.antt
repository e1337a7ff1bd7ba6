-- What words and bytes decide of a run.
use Rattle.std.proofs.Common.{◌≡◌, ◌⊎◌, inl, inr, ℕ, ◌<◌, List, Bool, length, Some, None, true, refl, sym, ap, ◌∙◌, subst, arith}
use Rattle.gs_io.specs.Causes.{Rose}
use Rattle.gs_reply.specs.Replies.{Reply, Prints, Refuses}
use Rattle.gs_words.specs.{Requests.{request_of}, Tasks.{Task}}
use Rattle.gs_run.proofs.{Answering.{answers_one}, Answered.{answer_of, not_long, one_task, read_is_held, replied, said}}
use Rattle.gs_run.specs.{Asking.{Asks, reads}, Deciding.{DoesReply, Holds, IsDecided, OneReply}, Endings.{EndsSo}}
use Rattle.gs_run.specs.{Running.{Asked, Ends, Inputs, IsAnswered, IsRefused, NothingFailed, ReadsWhole, RunsTo, most_bytes}, declared.status.Status.{Status}}
use Rattle.gs_run.specs.declared.status.Status.TheVariants as status

-- ---- replies

by_print : (words : List (List ℕ)) (task : Task) (old new : Ends) (bytes : List ℕ) (reply : Reply) → request_of words ≡ Some task
    → Holds (reads task) old bytes → Asks task bytes reply → RunsTo words old new status.Ok → DoesReply reply old new status.Ok
by_print words task old new bytes reply asked h says (other, is, ((text, a, out), faults, silent)) =
    let mine = answer_of words task other old new (Prints text) asked is a in
    let same = answers_one task bytes (Prints text) reply (said task old new bytes (Prints text) h mine) says in
    subst (λ (r : Reply). DoesReply r old new status.Ok) same (refl, out, silent)

by_refusal : (words : List (List ℕ)) (task : Task) (old new : Ends) (bytes : List ℕ) (reply : Reply) (s : Status) → request_of words ≡ Some task
    → Holds (reads task) old bytes → Asks task bytes reply → Asked words (λ t. IsRefused t old new s) → DoesReply reply old new s
by_refusal words task old new bytes reply s asked h says (other, is, r) =
    let mine = answer_of words task other old new (Refuses r.why) asked is r.answered in
    let same = answers_one task bytes (Refuses r.why) reply (said task old new bytes (Refuses r.why) h mine) says in
    subst (λ (x : Reply). DoesReply x old new s) same (sym r.status, r.quiet, r.told)

replies : (words : List (List ℕ)) (old new : Ends) (s : Status) → RunsTo words old new s → (task : Task) (bytes : List ℕ) (reply : Reply)
    → request_of words ≡ Some task → Holds (reads task) old bytes → NothingFailed (reads task) old new → Asks task bytes reply
    → DoesReply reply old new s ⊎ (s ≡ status.Memory)
replies words old new status.Ok runs task bytes reply asked h good says = inl (by_print words task old new bytes reply asked h says runs)
replies words old new status.Memory runs task bytes reply asked h good says = inr refl
replies words old new status.Usage runs task bytes reply asked h good says = let bad = runs.0 in cc
replies words old new status.ReadFault runs task bytes reply asked h good says =
    absurd (good.0 (ap reads (one_task words task runs.0 asked runs.1) ∙ runs.2.0) runs.2.1.1)
replies words old new status.WriteFault runs task bytes reply asked h good says = absurd (good.1 runs.2.1)
replies words old new status.TooLong runs task bytes reply asked h good says =
    absurd (not_long task old new bytes runs.2.1.0 (ap reads (one_task words task runs.0 asked runs.1) ∙ runs.2.0) h runs.2.1.1 runs.2.1.2)
replies words old new s runs task bytes reply asked h good says = inl (by_refusal words task old new bytes reply s asked h says runs)

-- ---- words

asks_something : (words : List (List ℕ)) (what : Task → Type 0) → Asked words what → request_of words ≡ None → ⊥
asks_something words what (task, is, h) none = let e : Some task ≡ None = sym is ∙ none in cc

no_request : (words : List (List ℕ)) (old new : Ends) (s : Status) → RunsTo words old new s → request_of words ≡ None
    → (s ≡ status.Usage) ⊎ (s ≡ status.Memory)
no_request words old new status.Usage runs none = inl refl
no_request words old new status.Memory runs none = inr refl
no_request words old new status.Ok runs none = absurd (asks_something words _ runs none)
no_request words old new status.ReadFault runs none = absurd (asks_something words _ runs none)
no_request words old new status.TooLong runs none = absurd (asks_something words _ runs none)
no_request words old new status.WriteFault runs none = absurd (asks_something words _ runs none)
no_request words old new s runs none = absurd (asks_something words _ runs none)

-- ---- inputs that are too long

-- what was answered was read to its end, and is not too long
no_answer : (words : List (List ℕ)) (task other : Task) (old new : Ends) (bytes : List ℕ) (reply : Reply) → request_of words ≡ Some task
    → request_of words ≡ Some other → reads task ≡ true → old.left ≡ Some bytes → most_bytes < length bytes → IsAnswered other old new reply → ⊥
no_answer words task other old new bytes reply asked is r e long a =
    let mine = answer_of words task other old new reply asked is a in
    let whole : ReadsWhole old new mine.bytes = subst (λ (b : Bool). Inputs b old new mine.bytes) r mine.input in
    let few = whole.few in
    let as_long = ap (λ (l : List ℕ). length l) (read_is_held old new bytes mine.bytes e whole) in
    omega arith

too_long : (words : List (List ℕ)) (old new : Ends) (s : Status) → RunsTo words old new s → (task : Task) (bytes : List ℕ) → request_of words ≡ Some task
    → reads task ≡ true → old.left ≡ Some bytes → most_bytes < length bytes → (Rose old.read_faults new.read_faults → ⊥)
    → (s ≡ status.TooLong) ⊎ (s ≡ status.Memory)
too_long words old new status.TooLong runs task bytes asked r e long good = inl refl
too_long words old new status.Memory runs task bytes asked r e long good = inr refl
too_long words old new status.Usage runs task bytes asked r e long good = let bad = runs.0 in cc
too_long words old new status.ReadFault runs task bytes asked r e long good = absurd (good runs.2.1.1)
too_long words old new status.Ok runs task bytes asked r e long good =
    absurd (no_answer words task runs.0 old new bytes (Prints runs.2.0.0) asked runs.1 r e long runs.2.0.1)
too_long words old new status.WriteFault runs task bytes asked r e long good =
    absurd (no_answer words task runs.0 old new bytes (Prints runs.2.0.0) asked runs.1 r e long runs.2.0.1)
too_long words old new s runs task bytes asked r e long good =
    absurd (no_answer words task runs.0 old new bytes (Refuses runs.2.why) asked runs.1 r e long runs.2.answered)

pub decided : (words : List (List ℕ)) (old new : Ends) (s : Status) → RunsTo words old new s → IsDecided words old new s
decided words old new s runs = record {
  no_request = no_request words old new s runs;
  too_long = too_long words old new s runs;
  reply = replies words old new s runs;
}

-- ---- two runs

pub one_reply : (words : List (List ℕ)) (old new : Ends) (s : Status) (before after : Ends) (t : Status) → RunsTo words old new s → RunsTo words before after t
    → OneReply words old new s before after t
one_reply words old new s before after t k l task bytes asked h g good well =
    by (replied words old new s k task bytes asked h good)
  where
    both : (reply : Reply) → Asks task bytes reply
        → ((s ≡ status.Memory) ⊎ (t ≡ status.Memory)) ⊎ ((reply : Reply) × DoesReply reply old new s × DoesReply reply before after t)
    both reply says = two (replies words old new s k task bytes reply asked h good says) (replies words before after t l task bytes reply asked g well says)
      where
        two : DoesReply reply old new s ⊎ (s ≡ status.Memory) → DoesReply reply before after t ⊎ (t ≡ status.Memory)
            → ((s ≡ status.Memory) ⊎ (t ≡ status.Memory)) ⊎ ((reply : Reply) × DoesReply reply old new s × DoesReply reply before after t)
        two (inl a) (inl b) = inr (reply, a, b)
        two (inl a) (inr e) = inl (inr e)
        two (inr e) b = inl (inl e)

    by : EndsSo (Asks task bytes) s
        → ((s ≡ status.Memory) ⊎ (t ≡ status.Memory)) ⊎ ((reply : Reply) × DoesReply reply old new s × DoesReply reply before after t)
    by (inl p) = both (Prints p.1.0) p.1.1
    by (inr (inl e)) = inl (inl e)
    by (inr (inr p)) = both (Refuses p.0) p.1
