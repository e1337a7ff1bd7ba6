-- What words ask for.
use Rattle.std.specs.Prelude.{◌≡◌, ℕ, Bool, true, false, List, Option, Some, None, codes, option_and_then, option_map, if◌then◌else◌, Result, Ok, Err}
use Rattle.std.specs.Str.{bytes_eq}
use Rattle.clap.specs.{Words.{Row, Text, fault_of, first_of, subcommand_of, subcommand_rows_of}, Walk.{is_empty}, declared.error.kind.ErrorKind.{ErrorKind}}
use Rattle.clap.specs.{declared.error.kind.ErrorKind.TheVariants.{OutOfMemory}, declared.parser.matches.ArgMatches.{ArgMatches}}
use Rattle.gs_words.specs.{declared.kind.Kind.{Kind}, Commands.{command_of}, Program.{program}}
use Rattle.gs_words.specs.Tasks.{Task, make, of_game, of_raw, of_strategy, task_of, Certify, Evaluate, Query, Upgrade, Verify}
use Rattle.gs_words.specs.{Values.{grouping_of, kind_of, number_in}, declared.names.CommandName.{CommandName}, declared.request.Grouping.{Grouping}}
use Rattle.gs_words.specs.{declared.request.Grouping.TheVariants.{Coarsest}, declared.request.Request.{Request}, declared.request.WordsStop.{WordsStop}}
use Rattle.gs_words.specs.declared.names.CommandName.TheVariants as command
use Rattle.gs_words.specs.declared.request.OfGame.TheVariants as game
use Rattle.gs_words.specs.declared.request.OfRaw.TheVariants as raw
use Rattle.gs_words.specs.declared.request.WordsStop.TheVariants as stop

-- the flag is given
abbrev pub is_set : Option Text → Bool
is_set None = false
is_set (Some text) = bytes_eq text (codes "true")

-- the grouping that is named, `split` by default
abbrev pub grouping_in : Option Text → Option Grouping
grouping_in None = Some Coarsest
grouping_in (Some word) = grouping_of word

-- `play` with a grouping and a number of turns, if both are there
abbrev pub play_with : Option Grouping → Option ℕ → Option Task
play_with (Some grouping) (Some turns) = Some (of_game (game.Play grouping turns))
play_with _ _ = None

-- `query` with a player, a line and a signal, if all are there
abbrev pub query_with : Option ℕ → Option Text → Option Text → Option Task
query_with (Some player) (Some line) (Some signal) = Some (of_strategy (Query player line signal))
query_with _ _ _ = None

-- `make` with a kind, ranks, suits and a cap, if all are there
abbrev pub make_with : Option Kind → Option ℕ → Option ℕ → Option ℕ → Bool → Option Task
make_with (Some kind) (Some ranks) (Some suits) (Some cap) summary =
    Some (make (record { kind = kind; ranks = ranks; suits = suits; cap = cap; summary = summary }))
make_with _ _ _ _ summary = None

-- `make` from the texts of its options, each read by its rule
abbrev pub make_of : (kind ranks suits cap summary : Option Text) → Option Task
make_of kind ranks suits cap summary =
    make_with (option_and_then kind_of kind) (option_and_then (number_in 1 13) ranks) (option_and_then (number_in 1 4) suits)
    (option_and_then (number_in 0 8) cap) (is_set summary)

-- what a command asks for, from what is given for each of its options
abbrev pub task_for : CommandName → (Text → Option Text) → Option Task
task_for command.Shrink given = Some (of_game (game.Shrink (is_set (given (codes "summary")))))
task_for command.Check given = option_map (λ grouping. of_game (game.Check grouping (is_set (given (codes "summary"))))) (grouping_in (given (codes "classes")))
task_for command.Solve given = option_map (λ grouping. of_game (game.Solve grouping)) (grouping_in (given (codes "classes")))
task_for command.Play given = play_with (grouping_in (given (codes "classes"))) (option_and_then (number_in 0 1000000) (given (codes "turns")))
task_for command.Path given = option_map (λ grouping. of_game (game.Path grouping)) (grouping_in (given (codes "classes")))
task_for command.Evaluate given = Some (of_strategy Evaluate)
task_for command.Query given = query_with (option_and_then (number_in 1 2) (given (codes "player"))) (given (codes "line")) (given (codes "signal"))
task_for command.Upgrade given = Some (of_strategy Upgrade)
task_for command.Certify given = Some (of_strategy Certify)
task_for command.Verify given = Some (of_strategy Verify)
task_for command.Judge given = Some (of_raw raw.Judge)
task_for command.Duel given = Some (of_raw raw.Duel)
task_for command.Make given = make_of (given (codes "kind")) (given (codes "ranks")) (given (codes "suits")) (given (codes "cap")) (given (codes "summary"))

-- what a command that was entered with these options asks for
abbrev pub task_in : Text × List Row → Option Task
task_in entered = option_and_then (λ command. task_for command (λ option. first_of option entered.1)) (command_of entered.0)

-- `clap` accepts the words
abbrev pub is_taken : List Text → Bool
is_taken words = is_empty (fault_of program words)

-- what the words ask for, if they are a request
unfoldable pub request_of : List Text → Option Task
request_of words = if is_taken words then option_and_then task_in (subcommand_of program words) else None

-- the words are read as the request that they make, or refused if they make none, unless memory runs out
abbrev pub ReadsWords : Result Request WordsStop → List Text → Type 0
ReadsWords (Ok request) words = request_of words ≡ Some (task_of request)
ReadsWords (Err stop.Usage) words = request_of words ≡ None
ReadsWords (Err stop.Memory) words = Unit {0}

-- the stop is `Memory` for an error of kind `OutOfMemory`, and `Usage` for any other
abbrev pub IsStopFor : ErrorKind → WordsStop → Type 0
IsStopFor kind stop.Memory = kind ≡ OutOfMemory
IsStopFor kind stop.Usage = kind ≡ OutOfMemory → ⊥

-- `clap` accepted the words and entered this command, or refused them, unless memory ran out
abbrev pub TakesWords : Result ArgMatches WordsStop → List Text → Type 0
TakesWords (Ok m) words = (is_taken words ≡ true) × (subcommand_rows_of m ≡ subcommand_of program words)
TakesWords (Err stop.Usage) words = is_taken words ≡ false
TakesWords (Err stop.Memory) words = Unit {0}
