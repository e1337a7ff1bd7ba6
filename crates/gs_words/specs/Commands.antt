-- The commands of the program and the options of each.
use Rattle.std.specs.{Prelude.{ℕ, Bool, true, false, List, [], ◌∷◌, find, Option, codes}, Str.{bytes_eq}}
use Rattle.gs_words.specs.{declared.names.CommandName.{CommandName}, declared.names.CommandName.TheVariants.{Path}}
use Rattle.gs_words.specs.declared.names.CommandName.TheVariants.{Shrink, Check, Solve, Play, Evaluate, Query, Make, Upgrade, Judge, Duel, Certify, Verify}

-- an option of a command: a flag, or an option with a value
pub record OptionOf : Type 0 where
  pub name : List ℕ
  pub is_required : Bool
  pub takes_value : Bool

-- the flag `--summary`
abbrev pub summary : OptionOf
summary = record { name = codes "summary"; is_required = false; takes_value = false }

-- `--classes` with a value
abbrev pub classes : OptionOf
classes = record { name = codes "classes"; is_required = false; takes_value = true }

-- a required option with a value
abbrev pub required_option : List ℕ → OptionOf
required_option name = record { name = name; is_required = true; takes_value = true }

-- a command of the program: the word that names it, and its options
pub record CommandEntry : Type 0 where
  pub word : List ℕ
  pub options : List OptionOf

-- the table of the commands
abbrev pub entry_of : CommandName → CommandEntry
entry_of Shrink = record { word = codes "shrink"; options = summary ∷ [] }
entry_of Check = record { word = codes "check"; options = classes ∷ summary ∷ [] }
entry_of Solve = record { word = codes "solve"; options = classes ∷ [] }
entry_of Play = record { word = codes "play"; options = classes ∷ required_option (codes "turns") ∷ [] }
entry_of Evaluate = record { word = codes "evaluate"; options = [] }
entry_of Query = record {
  word = codes "query";
  options = required_option (codes "player") ∷ required_option (codes "line") ∷ required_option (codes "signal") ∷ [];
}
entry_of Make = record {
  word = codes "make";
  options =
      required_option (codes "kind") ∷ required_option (codes "ranks") ∷ required_option (codes "suits") ∷ required_option (codes "cap") ∷ summary ∷ [];
}
entry_of Upgrade = record { word = codes "upgrade"; options = [] }
entry_of Judge = record { word = codes "judge"; options = [] }
entry_of Duel = record { word = codes "duel"; options = [] }
entry_of Certify = record { word = codes "certify"; options = [] }
entry_of Verify = record { word = codes "verify"; options = [] }
entry_of Path = record { word = codes "path"; options = classes ∷ [] }

-- the word that names a command
abbrev pub command_word : CommandName → List ℕ
command_word command = (entry_of command).word

-- the options of a command
abbrev pub options_of : CommandName → List OptionOf
options_of command = (entry_of command).options

-- all commands, in the order of the usage line
abbrev pub commands : List CommandName
commands = Shrink ∷ Check ∷ Solve ∷ Play ∷ Evaluate ∷ Query ∷ Make ∷ Upgrade ∷ Judge ∷ Duel ∷ Certify ∷ Verify ∷ Path ∷ []

-- the command that a word names
abbrev pub command_of : List ℕ → Option CommandName
command_of word = find (λ c. bytes_eq word (command_word c)) commands
