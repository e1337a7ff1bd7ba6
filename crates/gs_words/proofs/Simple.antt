-- The program's command is one whose words the crate decides by a function.
use Rattle.std.proofs.{Common.{◌≡◌, ◌⊎◌, Err, true, false, refl, List, [], ◌∷◌, ap, sym, ◌∙◌, arith, inl, inr}, lemmas.Bool.Decides.{nat_tests}}
use Rattle.clap.specs.{Words.{HasMatchesOf, is_simple, is_simple_and_free}, Words.{IsAmong, Kinds, Text, App, fault_of}}
use Rattle.clap.specs.{Words.{subcommand_of, subcommand_rows_of}, Walk.{is_empty}, declared.parser.matches.ArgMatches.{ArgMatches}}
use Rattle.clap.specs.{declared.error.kind.ErrorKind.{ErrorKind}, declared.error.kind.ErrorKind.TheVariants.{OutOfMemory}}
use Rattle.clap.proofs.OnLiterals.{clap_on_literals}
use Rattle.gs_words.specs.{Program.{program}, Requests.{IsStopFor, TakesWords, is_taken}, declared.request.WordsStop.{WordsStop}}
use Rattle.gs_words.specs.declared.request.WordsStop.TheVariants as stop

pub program_is_simple : is_simple program ≡ true
unfolding clap_on_literals
program_is_simple = refl

pub program_is_free : is_simple_and_free program ≡ true
unfolding clap_on_literals
program_is_free = refl

some_kind : (k : ErrorKind) (ks : Kinds) → IsAmong k ks → is_empty ks ≡ false
some_kind k [] h = absurd h
some_kind k (x ∷ xs) h = grind (arith, nat_tests)

-- an error comes of words that are not taken, or of want of memory
pub refused : (words : List Text) (a : App) (k : ErrorKind) (r : WordsStop) → a ≡ program → IsStopFor k r
    → (is_simple_and_free a ≡ true → (k ≡ OutOfMemory) ⊎ IsAmong k (fault_of a words)) → TakesWords (Err r) words
refused words a k stop.Memory e why h = tt
refused words a k stop.Usage e other h = some_kind k (fault_of program words) (elim (h (ap is_simple_and_free e ∙ program_is_free)) [
  | inl m ↦ absurd (other m)
  | inr among ↦ rw e at among
])

-- words without a fault are taken
pub accepted : (words : List Text) (a : App) (m : ArgMatches) → a ≡ program → HasMatchesOf a words m → (is_simple_and_free a ≡ true → fault_of a words ≡ [])
    → (is_taken words ≡ true) × (subcommand_rows_of m ≡ subcommand_of program words)
accepted words a m e has clean =
    let free : is_simple_and_free a ≡ true = ap is_simple_and_free e ∙ program_is_free in
    let simple : is_simple a ≡ true = ap is_simple e ∙ program_is_simple in
    let none : fault_of program words ≡ [] = ap (λ x. fault_of x words) (sym e) ∙ clean free in
    (ap is_empty none, (has simple).1 ∙ ap (λ x. subcommand_of x words) e)
