-- The command of `clap` that parses the words.
use Rattle.std.specs.Prelude.{◌≡◌, ℕ, List, Bool, Option, Some, None, true, false, codes, fold, map}
use Rattle.clap.specs.{Words.{App, Rule, new_app, new_rule, app_of, with_rule, with_subcommand}, Simple.{on_top}, declared.builder.command.Command.{Command}}
use Rattle.clap.specs.{declared.builder.command.Command.TheViews.{out-Command}, declared.builder.ArgAction.{ArgAction}}
use Rattle.clap.specs.declared.builder.ArgAction.TheVariants.{SetTrue}
use Rattle.gs_words.specs.{Commands.{OptionOf, classes, command_word, commands, options_of, required_option, summary}, declared.names.CommandName.{CommandName}}
use Rattle.gs_words.specs.{declared.command.Choice.{Choice}, declared.command.Choice.TheVariants.{Classes, Summary, Value}}

-- the command is this one, and no argument of it is global
abbrev pub Is : App → Command → Type 0
Is app c = (app_of c ≡ app) × ((out-Command c).has_globals ≡ false)

-- the action of an option: a flag is set; an option with a value has the default action
abbrev pub action_by : Bool → Option ArgAction
action_by false = Some SetTrue
action_by true = None

-- `--name`, with one value or as a flag
abbrev pub rule_for : OptionOf → Rule
rule_for o = record (new_rule o.name) { long = Some o.name; required = o.is_required; action = action_by o.takes_value }

-- what `clap` makes of an option of the table in code
abbrev pub rule_by : Choice → Rule
rule_by Summary = rule_for summary
rule_by Classes = rule_for classes
rule_by (Value name) = rule_for (required_option name.now)

-- a command with options
abbrev pub with_options : List ℕ → List OptionOf → App
with_options word options = fold with_rule (new_app word) (map rule_for options)

-- a command with its options
abbrev pub app_for : CommandName → App
app_for c = with_options (command_word c) (options_of c)

-- a command must follow, and no program's name stands first
abbrev pub bare : App
bare = on_top (λ s. record s { no_binary_name = true; subcommand_required = true }) (new_app (codes "gameshrink"))

-- the bare command with these commands as subcommands
abbrev pub with_commands : List CommandName → App
with_commands names = fold (λ (app : App) c. with_subcommand app (app_for c).top) bare names

-- the program with its commands
abbrev pub program : App
program = with_commands commands
