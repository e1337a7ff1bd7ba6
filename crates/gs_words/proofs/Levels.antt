-- What the program reads of the words behind a command: a parse that comes to a level, and the level of each command.
use Rattle.std.proofs.Common.{◌≡◌, ◌++◌, ℕ, Bool, true, false, refl, List, [], ◌∷◌, Option, Some, None, codes, ap, ◌∙◌, fold, unwrap_or, append_assoc}
use Rattle.std.proofs.Common.{append-nil}
use Rattle.std.specs.{Prelude.{find}, List.{list_all}, Str.{bytes_eq}}
use Rattle.clap.specs.{Facts.{unwrap_or_range}, Lexer.{long_of}, Words.{App, Row, Rule, Text, built, fault_of, new_rule, subcommand_of}}
use Rattle.clap.specs.{Simple.{Shape, entered, label_of, names_of}, Walk.{takes_values, walk_from, walked}}
use Rattle.clap.specs.Walk.{Held, Names, Walk, action_of, answers_to, arg_by_id, arg_by_long, finished, idle, most_values, nothing_held, settled, stop_after}
use Rattle.clap.specs.{Faults.{built_fault, check_fault, defaults_fault, level_fault, turn_fault, values_fault, walk_fault}, Kinds.{Kinds}}
use Rattle.clap.specs.{declared.builder.ArgAction.{ArgAction}, declared.builder.range.ValueRange.{ValueRange}}
use Rattle.clap.specs.declared.builder.ArgAction.TheVariants.{Set, SetTrue}
use Rattle.clap.proofs.{FaultLemmas.{past, stopped_fault}, OnLiterals.{clap_on_literals}}
use Rattle.gs_words.specs.{Commands.{command_of, command_word, options_of}, Program.{program}, Requests.{request_of, task_in}, Plain.{joined_word, long_word}}
use Rattle.gs_words.specs.{declared.names.CommandName.{CommandName}, declared.names.CommandName.TheVariants.{Path}}
use Rattle.gs_words.specs.declared.names.CommandName.TheVariants.{Shrink, Check, Solve, Play, Query, Make}
use Rattle.gs_words.proofs.{AnyOrder.{has_good_default}, Every.{first_none}, Obeyed.{AreKnown}, Options.{IsFlag, IsNamed, IsValued}}

-- words after a command's name are kept for it
stop_more : (R : List Rule) (names : Names) (h : Held) (name : Text) (ws rest : List Text)
    → fold (walked R names) (record { held = h; waiting = idle; position = 1; is_trailing = false; stopped = Some (name, ws) }) rest
    ≡ record { held = h; waiting = idle; position = 1; is_trailing = false; stopped = Some (name, ws ++ rest) }
unfolding walked
stop_more R names h name ws [] = rw (append-nil ws)
stop_more R names h name ws (word ∷ rest) = stop_more R names h name (ws ++ word ∷ []) rest ∙ rw (append_assoc ws (word ∷ []) rest)

abbrev stopped_at : Text → List Text → Walk
stopped_at name ws = record { held = nothing_held; waiting = idle; position = 1; is_trailing = false; stopped = Some (name, ws) }

-- ---- a parse that comes to a level

-- no word is wanted before a level
pub record Opens (a : App) : Type 0 where
  pub defaults : defaults_fault (settled a.top.rules nothing_held).rows a.top.rules ≡ []
  pub checks : check_fault a.top (finished a.top.rules nothing_held) true ≡ []

-- a word leads to a level
pub record LeadsTo (a : App) (word : Text) (s : Shape) : Type 0 where
  pub step : walked a.top.rules (names_of a) (walk_from nothing_held) word ≡ stopped_at word []
  pub clean : turn_fault a.top (names_of a) (walk_from nothing_held) word ≡ []
  pub found : find (λ s. answers_to word (label_of s)) a.subs ≡ Some s
  pub name : s.name ≡ word

enters : (a : App) (word : Text) (s : Shape) (ws : List Text) → LeadsTo a word s
    → fold (walked a.top.rules (names_of a)) (walk_from nothing_held) (word ∷ ws) ≡ stopped_at word ws
enters a word s ws at = ap (λ (w : Walk). fold (walked a.top.rules (names_of a)) w ws) at.step ∙ stop_more a.top.rules (names_of a) nothing_held word [] ws

is_met : (a : App) (word : Text) (s : Shape) (ws : List Text) → LeadsTo a word s → walk_fault a.top (names_of a) (walk_from nothing_held) (word ∷ ws) ≡ []
unfolding walk_fault
is_met a word s ws at =
    past _ _ at.clean ∙ (ap (λ (w : Walk). walk_fault a.top (names_of a) w ws) at.step
    ∙ stopped_fault a.top (names_of a) (walk_from nothing_held) (word, []) ws)

-- words that are taken are taken by the level
pub taken_by : (a : App) (word : Text) (s : Shape) (ws : List Text) → LeadsTo a word s → built_fault a nothing_held (word ∷ ws) ≡ []
    → level_fault s [] nothing_held ws false [] ≡ []
taken_by a word s ws at h =
    let f = rw (is_met a word s ws at, enters a word s ws at, at.found) at h in
    first_none (level_fault s [] nothing_held ws false []) _ f

-- words that the level takes are taken
pub taken : (a : App) (word : Text) (s : Shape) (ws : List Text) → Opens a → LeadsTo a word s → level_fault s [] nothing_held ws false [] ≡ []
    → built_fault a nothing_held (word ∷ ws) ≡ []
taken a word s ws opens at h = rw (is_met a word s ws at, enters a word s ws at, at.found, h, opens.defaults, opens.checks) refl

pub rows : (a : App) (word : Text) (s : Shape) (ws : List Text) (end : Held) → LeadsTo a word s
    → (fold (walked s.rules []) (walk_from nothing_held) ws).held ≡ end
    → entered a (stop_after a.top.rules (names_of a) (word ∷ ws)) ≡ Some (word, finished s.rules end)
rows a word s ws end at e = ap (λ (w : Walk). entered a w.stopped) (enters a word s ws at) ∙ rw (at.found, at.name, e) refl

-- ---- the commands of the program

abbrev pub shape_of : CommandName → Shape
shape_of c = unwrap_or (find (λ s. answers_to (command_word c) (label_of s)) (built program).subs) (built program).top

pub opens : Opens (built program)
unfolding clap_on_literals
opens = record { defaults = refl; checks = refl }

abbrev rule_of : List Rule → Text → Rule
rule_of R n = unwrap_or (arg_by_long R n) (new_rule [])

-- the word of a command leads to a level that has its options
pub record IsCommand (c : CommandName) : Type 0 where
  pub named : command_of (command_word c) ≡ Some c
  pub leads : LeadsTo (built program) (command_word c) (shape_of c)
  pub known : AreKnown (shape_of c).rules (options_of c)
  pub defaults : list_all has_good_default (shape_of c).rules ≡ true

-- what a parse makes of an option's word and of its rule
abbrev OptionRead : Type 0
OptionRead = Option (Text × Option Text) × Bool × Option Rule × Text × Bool × Option Rule × ℕ × Bool × ArgAction × ValueRange

abbrev option_read : List Rule → Text → OptionRead
option_read R n =
    let a = rule_of R n in
    let dashed = long_word n in (
      long_of dashed,
      bytes_eq dashed (45 ∷ 45 ∷ []),
      arg_by_long R n,
      a.id,
      takes_values a,
      arg_by_id R n,
      most_values a,
      bytes_eq n a.id,
      action_of a,
      unwrap_or_range a.range,
    )

-- the same where the option takes so many values
abbrev read_as : List Rule → Text → Bool → ℕ → ArgAction → OptionRead
read_as R n takes count action =
    let a = Some (rule_of R n) in
    (Some (n, None), false, a, n, takes, a, count, true, action, record { start_inclusive = count; end_inclusive = count })

named : {R : List Rule} {n : Text} {takes : Bool} {count : ℕ} {action : ArgAction}
    → option_read R n ≡ read_as R n takes count action → IsNamed R n (rule_of R n)
named e = record { long = ap (λ p. p.0) e; dashes = ap (λ p. p.1) e; by_long = ap (λ p. p.2) e; id = ap (λ p. p.3) e }

-- so an option with a value is known, and a flag
valued : {R : List Rule} {n : Text} → option_read R n ≡ read_as R n true 1 Set → ((v : Text) → values_fault (rule_of R n) (v ∷ []) ≡ [])
    → ((v : Text) → long_of (joined_word n v) ≡ Some (n, Some v)) → ((v : Text) → bytes_eq (joined_word n v) (45 ∷ 45 ∷ []) ≡ false)
    → (a : Rule) × IsValued R n a
valued {R} {n} e passes joined dashes = (
  rule_of R n,
  record {
    named = named e;
    takes = ap (λ p. p.4) e;
    by_id = ap (λ p. p.5) e;
    most = ap (λ p. p.6) e;
    same = ap (λ p. p.7) e;
    set = ap (λ p. p.8) e;
    range = ap (λ p. p.9) e;
    passes = passes;
    joined = joined;
    joined_dashes = dashes;
  },
)

flag : {R : List Rule} {n : Text} → option_read R n ≡ read_as R n false 0 SetTrue → (rule_of R n).missing ≡ codes "true" ∷ []
    → values_fault (rule_of R n) (codes "true" ∷ []) ≡ [] → (a : Rule) × IsFlag R n a
flag {R} {n} e missing passes = (
  rule_of R n,
  record {
    named = named e;
    takes = ap (λ p. p.4) e;
    most = ap (λ p. p.6) e;
    set = ap (λ p. p.8) e;
    range = ap (λ p. p.9) e;
    missing = missing;
    passes = passes;
  },
)

-- what the word of a command is read as, and its level
abbrev command_read : Text → Option CommandName × Walk × Kinds × Option Shape
command_read word = (
  command_of word,
  walked (built program).top.rules (names_of (built program)) (walk_from nothing_held) word,
  turn_fault (built program).top (names_of (built program)) (walk_from nothing_held) word,
  find (λ s. answers_to word (label_of s)) (built program).subs,
)

command : {c : CommandName} → command_read (command_word c) ≡ (Some c, stopped_at (command_word c) [], [], Some (shape_of c))
    → (shape_of c).name ≡ command_word c → list_all has_good_default (shape_of c).rules ≡ true
    → AreKnown (shape_of c).rules (options_of c) → IsCommand c
command {c} e name defaults known =
    let leads : LeadsTo (built program) (command_word c) (shape_of c) =
    record { step = ap (λ p. p.1) e; clean = ap (λ p. p.2) e; found = ap (λ p. p.3) e; name = name } in
    record { named = ap (λ p. p.0) e; leads = leads; known = known; defaults = defaults }

pub is_command : (c : CommandName) → IsCommand c
unfolding clap_on_literals
is_command Shrink = command refl refl refl (flag refl refl refl, tt)
is_command Check = command refl refl refl (valued refl (λ v. refl) (λ v. refl) (λ v. refl), (flag refl refl refl, tt))
is_command Solve = command refl refl refl (valued refl (λ v. refl) (λ v. refl) (λ v. refl), tt)
is_command Play = command refl refl refl (valued refl (λ v. refl) (λ v. refl) (λ v. refl), (valued refl (λ v. refl) (λ v. refl) (λ v. refl), tt))
is_command Query = command refl refl refl (valued refl (λ v. refl) (λ v. refl) (λ v. refl), (valued refl (λ v. refl) (λ v. refl) (λ v. refl), (valued refl (λ v. refl) (λ v. refl) (λ v. refl), tt)))
is_command Make = command refl refl refl
    (valued refl (λ v. refl) (λ v. refl) (λ v. refl), (valued refl (λ v. refl) (λ v. refl) (λ v. refl), (valued refl (λ v. refl) (λ v. refl) (λ v. refl), (valued refl (λ v. refl) (λ v. refl) (λ v. refl), (flag refl refl refl, tt)))))
is_command Path = command refl refl refl (valued refl (λ v. refl) (λ v. refl) (λ v. refl), tt)
is_command c = command refl refl refl tt

pub asked : (words : List Text) (name : Text) (found : List Row) → fault_of program words ≡ [] → subcommand_of program words ≡ Some (name, found)
    → request_of words ≡ task_in (name, found)
unfolding request_of
asked words name found faults entered = rw (faults, entered) refl
