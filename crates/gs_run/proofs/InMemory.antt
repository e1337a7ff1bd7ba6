-- What the program does with words and bytes in memory, from what is given for them.
use Rattle.std.proofs.Common.{◌≡◌, ◌≢◌, inl, inr, ℕ, ◌<◌, ◌≤◌, [], List, Bool, length, Some, None, true, refl, sym, ap, ◌∙◌, subst, arith}
use Rattle.gs_reply.specs.Refusals.{Refusal, Bad_game, Unlike_pair, Overflows, Many_pivots, Too_large, Bad_strategy, Wrong_number, Bad_query, Other_game}
use Rattle.gs_reply.specs.{Refusals.{Bad_certificate, line_of}, Replies.{Reply, Prints, Refuses}}
use Rattle.std.specs.{List.{All}, Str.{IsUtf8}}
use Rattle.gs_words.proofs.Asked.{read_is_asked}
use Rattle.gs_words.specs.{Requests.{request_of}, Tasks.{Task, of_game}, declared.request.OfGame.TheVariants.{Solve}}
use Rattle.gs_run.proofs.{Answering.{answers_one}, Answered.{one_task}, Concluded.{concludes}, Meant.{means_of, solution_of}, Theorem.{asked_for}}
use Rattle.gs_run.specs.{Asking.{Asks, reads}, InMemory.{DoesInMemory, FitsLimit, GivesReply, GivesOutcome}, Running.{long_line, most_bytes, usage_line}}
use Rattle.gs_run.specs.{Statuses.{status_of}, declared.status.Status.{Status}}
use Rattle.gs_run.specs.declared.status.Status.TheVariants as status

-- ---- what cannot be

asks_none : (words : List (List ℕ)) (task : Task) → request_of words ≡ Some task → request_of words ≡ None → ⊥
asks_none words task is none = let e : Some task ≡ None = sym is ∙ none in cc

fits_not : (words : List (List ℕ)) (task other : Task) (input : List ℕ) → request_of words ≡ Some task → request_of words ≡ Some other → reads other ≡ true
    → FitsLimit (reads task) input → most_bytes < length input → ⊥
fits_not words task other input is asked r fits long =
    let few : length input ≤ most_bytes = subst (λ (b : Bool). FitsLimit b input) (ap reads (one_task words task other is asked) ∙ r) fits in
    omega arith

-- the status of a refusal is none of those that are no refusal of an input
record IsRefusal (s : Status) : Type 0 where
  not_ok : s ≢ status.Ok
  not_usage : s ≢ status.Usage
  not_memory : s ≢ status.Memory

is_refusal : (why : Refusal) → IsRefusal (status_of why)
is_refusal (Bad_game why) = record { not_ok = λ e. cc; not_usage = λ e. cc; not_memory = λ e. cc }
is_refusal (Unlike_pair round one two) = record { not_ok = λ e. cc; not_usage = λ e. cc; not_memory = λ e. cc }
is_refusal (Overflows at) = record { not_ok = λ e. cc; not_usage = λ e. cc; not_memory = λ e. cc }
is_refusal Many_pivots = record { not_ok = λ e. cc; not_usage = λ e. cc; not_memory = λ e. cc }
is_refusal (Too_large limit) = record { not_ok = λ e. cc; not_usage = λ e. cc; not_memory = λ e. cc }
is_refusal (Bad_strategy which why) = record { not_ok = λ e. cc; not_usage = λ e. cc; not_memory = λ e. cc }
is_refusal (Wrong_number name stated found) = record { not_ok = λ e. cc; not_usage = λ e. cc; not_memory = λ e. cc }
is_refusal (Bad_query why) = record { not_ok = λ e. cc; not_usage = λ e. cc; not_memory = λ e. cc }
is_refusal Other_game = record { not_ok = λ e. cc; not_usage = λ e. cc; not_memory = λ e. cc }
is_refusal (Bad_certificate why) = record { not_ok = λ e. cc; not_usage = λ e. cc; not_memory = λ e. cc }

-- ---- what is given

usage : (words : List (List ℕ)) (input : List ℕ) → request_of words ≡ None → DoesInMemory words input status.Usage [] usage_line
usage words input none = record {
  takes_words = λ task a e. asks_none words task (asked_for words task a) none;
  asked = λ apart. absurd (apart refl);
  outcome = inl (none, refl, refl, refl);
  no_request = λ e. (refl, refl, refl);
  prints = λ task a e. absurd (asks_none words task (asked_for words task a) none);
  path = λ grouping a e. absurd (asks_none words (of_game (Solve grouping)) (asked_for words (of_game (Solve grouping)) a) none);
  quiet = λ e. refl;
  ends = λ task a fits. absurd (asks_none words task (asked_for words task a) none);
  too_long = λ task asked r long. absurd (asks_none words task asked none);
  decided = λ task reply asked fits says. absurd (asks_none words task asked none);
}

too_long : (words : List (List ℕ)) (input : List ℕ) (task : Task) → All IsUtf8 words → request_of words ≡ Some task → reads task ≡ true
    → most_bytes < length input → DoesInMemory words input status.TooLong [] long_line
too_long words input task texts is r long = record {
  takes_words = λ other a e. cc;
  asked = λ apart. (task, read_is_asked words task texts is);
  outcome = inr (task, is, inl (r, long, refl, refl, refl));
  no_request = λ none. absurd (asks_none words task is none);
  prints = λ other a e. let bad : status.TooLong ≡ status.Ok = e in cc;
  path = λ grouping a e. let bad : status.TooLong ≡ status.Ok = e in cc;
  quiet = λ e. refl;
  ends = λ other a fits. absurd (fits_not words other task input (asked_for words other a) is r fits long);
  too_long = λ other asked reads_it more. (refl, refl, refl);
  decided = λ other reply asked fits says. absurd (fits_not words other task input asked is r fits long);
}

says_of : (words : List (List ℕ)) (task other : Task) (input : List ℕ) (reply : Reply) → request_of words ≡ Some task → request_of words ≡ Some other
    → Asks task input reply → Asks other input reply
says_of words task other input reply is asked says = subst (λ (t : Task). Asks t input reply) (one_task words task other is asked) says

printed : (words : List (List ℕ)) (input : List ℕ) (task : Task) (text : List ℕ) → All IsUtf8 words → request_of words ≡ Some task
    → FitsLimit (reads task) input → Asks task input (Prints text) → DoesInMemory words input status.Ok text []
printed words input task text texts is few says = record {
  takes_words = λ other a e. cc;
  asked = λ apart. (task, read_is_asked words task texts is);
  outcome = inr (task, is, inr (few, (Prints text, says, (refl, refl, refl))));
  no_request = λ none. absurd (asks_none words task is none);
  prints = λ other a e. (means_of other input text (says_of words task other input (Prints text) is (asked_for words other a) says), refl);
  path = λ grouping a e.
      solution_of grouping input text (says_of words task (of_game (Solve grouping)) input (Prints text) is (asked_for words (of_game (Solve grouping)) a) says);
  quiet = λ apart. absurd (apart refl);
  ends = λ other a fits. (
    concludes other input status.Ok (inl (refl, (text, says_of words task other input (Prints text) is (asked_for words other a) says))),
    λ e. cc,
  );
  too_long = λ other asked r long. absurd (fits_not words task other input is asked r few long);
  decided = λ other reply asked fits said.
      subst (λ (r : Reply). GivesReply r status.Ok text [])
      (answers_one other input (Prints text) reply (says_of words task other input (Prints text) is asked says) said) (refl, refl, refl);
}

refused : (words : List (List ℕ)) (input : List ℕ) (task : Task) (why : Refusal) → All IsUtf8 words → request_of words ≡ Some task
    → FitsLimit (reads task) input → Asks task input (Refuses why) → DoesInMemory words input (status_of why) [] (line_of why)
refused words input task why texts is few says =
    let apart = is_refusal why in
    record {
      takes_words = λ other a e. apart.not_usage e;
      asked = λ other. (task, read_is_asked words task texts is);
      outcome = inr (task, is, inr (few, (Refuses why, says, (refl, refl, refl))));
      no_request = λ none. absurd (asks_none words task is none);
      prints = λ other a e. absurd (apart.not_ok e);
      path = λ grouping a e. absurd (apart.not_ok e);
      quiet = λ e. refl;
      ends = λ other a fits. (
        concludes other input (status_of why)
            (inr (inr (why, says_of words task other input (Refuses why) is (asked_for words other a) says, refl))),
        apart.not_memory,
      );
      too_long = λ other asked r long. absurd (fits_not words task other input is asked r few long);
      decided = λ other reply asked fits said.
          subst (λ (r : Reply). GivesReply r (status_of why) [] (line_of why))
          (answers_one other input (Refuses why) reply (says_of words task other input (Refuses why) is asked says) said) (refl, refl, refl);
    }

-- the same of what is equal
given_as : (words : List (List ℕ)) (input : List ℕ) (s t : Status) (printed text told line : List ℕ) → s ≡ t → printed ≡ text → told ≡ line
    → DoesInMemory words input t text line → DoesInMemory words input s printed told
given_as words input s t printed text told line a b c h =
    subst (λ (x : Status). DoesInMemory words input x printed told) (sym a)
    (subst (λ (x : List ℕ). DoesInMemory words input t x told) (sym b) (subst (λ (x : List ℕ). DoesInMemory words input t text x) (sym c) h))

replied : (words : List (List ℕ)) (input : List ℕ) (s : Status) (printed_text told : List ℕ) (task : Task) (reply : Reply) → All IsUtf8 words
    → request_of words ≡ Some task → FitsLimit (reads task) input → Asks task input reply → GivesReply reply s printed_text told
    → DoesInMemory words input s printed_text told
replied words input s out told task (Prints text) texts is few says gives =
    given_as words input s status.Ok out text told [] gives.0 gives.1 gives.2 (printed words input task text texts is few says)
replied words input s out told task (Refuses why) texts is few says gives =
    given_as words input s (status_of why) out [] told (line_of why) gives.0 gives.1 gives.2 (refused words input task why texts is few says)

pub does_in_memory : (words : List (List ℕ)) (input : List ℕ) (s : Status) (printed told : List ℕ) → All IsUtf8 words
    → GivesOutcome words input s printed told → DoesInMemory words input s printed told
does_in_memory words input s out told texts (inl h) = given_as words input s status.Usage out [] told usage_line h.1 h.2 h.3 (usage words input h.0)
does_in_memory words input s out told texts (inr (task, is, inl h)) =
    given_as words input s status.TooLong out [] told long_line h.2 h.3 h.4 (too_long words input task texts is h.0 h.1)
does_in_memory words input s out told texts (inr (task, is, inr (few, (reply, says, gives)))) =
    replied words input s out told task reply texts is few says gives
