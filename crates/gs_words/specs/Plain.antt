-- Words that ask for a task: a command, options of it in any order, and at the end perhaps `--`.
use Rattle.std.specs.Prelude.{◌≡◌, ◌++◌, ℕ, Bool, true, false, not, ◌&&◌, ◌==◌, List, [], ◌∷◌, Option, Some, None, IsTrue, codes, if◌then◌else◌}
use Rattle.std.specs.{List.{list_all, list_any}, Str.{bytes_eq}}
use Rattle.gs_words.specs.{Commands.{OptionOf, entry_of, options_of}, Requests.{task_for}, Tasks.{Task}, declared.names.CommandName.{CommandName}}

-- an option as it is given: with its value in the next word, with its value behind `=` in the same word, or as a flag
pub data Given : Type 0 where
  valued : (name value : List ℕ) → Given
  joined : (name value : List ℕ) → Given
  flagged : List ℕ → Given

-- the name of an option that is given
abbrev pub name_of : Given → List ℕ
name_of (valued name value) = name
name_of (joined name value) = name
name_of (flagged name) = name

-- `--name`
abbrev pub long_word : List ℕ → List ℕ
long_word name = 45 ∷ 45 ∷ name

-- `--name=value`
abbrev pub joined_word : (name value : List ℕ) → List ℕ
joined_word name value = long_word name ++ 61 ∷ value

-- the words of the options in order
abbrev pub option_words : List Given → List (List ℕ)
option_words [] = []
option_words (valued name value ∷ rest) = long_word name ∷ value ∷ option_words rest
option_words (joined name value ∷ rest) = joined_word name value ∷ option_words rest
option_words (flagged name ∷ rest) = long_word name ∷ option_words rest

-- what stands behind the options: nothing, or `--`
abbrev pub end_words : Bool → List (List ℕ)
end_words false = []
end_words true = codes "--" ∷ []

-- a value in a word of its own does not begin with a hyphen, unless it is `-`
abbrev pub is_plain_value : List ℕ → Bool
is_plain_value [] = true
is_plain_value (b ∷ []) = true
is_plain_value (b ∷ c ∷ bytes) = not (b == 45)

-- the option is given in its form: with a value, or as a flag if it is one
abbrev pub is_given_as : OptionOf → Given → Bool
is_given_as option (valued name value) = bytes_eq name option.name && (option.takes_value && is_plain_value value)
is_given_as option (joined name value) = bytes_eq name option.name && option.takes_value
is_given_as option (flagged name) = bytes_eq name option.name && not option.takes_value

-- no option stands twice
abbrev pub stand_once : List Given → Bool
stand_once [] = true
stand_once (g ∷ gs) = list_all (λ other. not (bytes_eq (name_of g) (name_of other))) gs && stand_once gs

-- each is an option of the command in its form, and none stands twice
abbrev pub are_plain : CommandName → List Given → Bool
are_plain command gs = list_all (λ g. list_any (λ option. is_given_as option g) (options_of command)) gs && stand_once gs

-- what is given for an option: its value, or `true` for a flag
abbrev pub given_for : List Given → List ℕ → Option (List ℕ)
given_for [] option = None
given_for (valued name value ∷ rest) option = if bytes_eq name option then Some value else given_for rest option
given_for (joined name value ∷ rest) option = if bytes_eq name option then Some value else given_for rest option
given_for (flagged name ∷ rest) option = if bytes_eq name option then Some (codes "true") else given_for rest option

-- The words are a command and options of it, in any order, and at the end perhaps `--`. Each option is given at most once. What the options say makes the
-- task; so each required one is given, and each value is valid.
pub record AskFor (words : List (List ℕ)) (task : Task) : Type 0 where
  pub command : CommandName
  pub options : List Given
  pub is_ended : Bool
  pub plain : IsTrue (are_plain command options)
  pub are : words ≡ (entry_of command).word ∷ (option_words options ++ end_words is_ended)
  pub task_is : task_for command (given_for options) ≡ Some task
