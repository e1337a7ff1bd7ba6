-- Words that ask for a task are read as that task.
use Rattle.std.proofs.Common.{◌≡◌, ◌++◌, ◌&&◌, ◌||◌, not, ℕ, Bool, true, false, refl, List, [], ◌∷◌, Option, Some, None, codes, ap, ◌∙◌, inl, inr}
use Rattle.std.proofs.lemmas.Bool.{and_parts, cases_Bool}
use Rattle.std.specs.{Prelude.{option_and_then}, List.{list_all, list_any}, Str.{bytes_eq}}
use Rattle.clap.specs.{Words.{Row, Text, built, first_of}, Takes.{is_given}, Walk.{finished}, Faults.{check_fault}}
use Rattle.gs_words.specs.{Commands.{OptionOf, command_word, options_of}, Plain.{AskFor, Given, are_plain, end_words, given_for, name_of, option_words, stand_once}}
use Rattle.gs_words.specs.{Program.{program}, Requests.{grouping_in, is_set, make_with, play_with, query_with, request_of, task_for, task_in}, Tasks.{Task}}
use Rattle.gs_words.specs.{Values.{kind_of, number_in}, declared.names.CommandName.{CommandName}}
use Rattle.gs_words.specs.declared.names.CommandName.TheVariants.{Shrink, Check, Solve, Play, Query, Make}
use Rattle.gs_words.specs.{declared.names.CommandName.TheVariants.{Path}, declared.request.Grouping.{Grouping}, declared.kind.Kind.{Kind}}
use Rattle.gs_words.proofs.{AnyOrder.{AreGiven, all_rows, taken_in_any_order}, Rows.{is_there, same_flag, same_value}}
use Rattle.gs_words.proofs.{Obeyed.{absent, all_given, are_given_as}, Levels.{asked, is_command, opens, rows, shape_of, taken}}

-- ---- what is given

-- what has to be given is given
abbrev has_required : (Text → Bool) → List OptionOf → Bool
has_required given os = list_all (λ o. not o.is_required || given o.name) os

either : (b p q : Bool) → (p ≡ true → q ≡ true) → (not b || p) ≡ true → (not b || q) ≡ true
either true p q f h = f h
either false p q f h = refl

still_required : (p q : Text → Bool) (os : List OptionOf) → ((name : Text) → p name ≡ true → q name ≡ true) → has_required p os ≡ true
    → has_required q os ≡ true
still_required p q [] f h = refl
still_required p q (o ∷ os) f h =
    let both = and_parts (not o.is_required || p o.name) (has_required p os) h in
    rw (either o.is_required (p o.name) (q o.name) (f o.name) both.0, still_required p q os f both.1) refl

abbrev is_there_of : List Given → Text → Bool
is_there_of gs name = list_any (λ g. bytes_eq (name_of g) name) gs

-- what has to be given to `make` is given
record HasAll (given : Text → Bool) : Type 0 where
  kind : given (codes "kind") ≡ true
  ranks : given (codes "ranks") ≡ true
  suits : given (codes "suits") ≡ true
  cap : given (codes "cap") ≡ true

has_all : (given : Text → Bool) → has_required given (options_of Make) ≡ true → HasAll given
has_all given h =
    let k = and_parts (given (codes "kind")) (given (codes "ranks") && (given (codes "suits") && (given (codes "cap") && true))) h in
    let r = and_parts (given (codes "ranks")) (given (codes "suits") && (given (codes "cap") && true)) k.1 in
    let s = and_parts (given (codes "suits")) (given (codes "cap") && true) r.1 in
    record { kind = k.0; ranks = r.0; suits = s.0; cap = (and_parts (given (codes "cap")) true s.1).0 }

-- what has to be given to `query` is given
record HasQuery (given : Text → Bool) : Type 0 where
  player : given (codes "player") ≡ true
  line : given (codes "line") ≡ true
  signal : given (codes "signal") ≡ true

has_query : (given : Text → Bool) → has_required given (options_of Query) ≡ true → HasQuery given
has_query given h =
    let l = and_parts (given (codes "player")) (given (codes "line") && (given (codes "signal") && true)) h in
    let s = and_parts (given (codes "line")) (given (codes "signal") && true) l.1 in
    record { player = l.0; line = s.0; signal = (and_parts (given (codes "signal")) true s.1).0 }

has_turns : (given : Text → Bool) → has_required given (options_of Play) ≡ true → given (codes "turns") ≡ true
has_turns given h = (and_parts (given (codes "turns")) true h).0

-- a level to which all is given that has to be wants no more
checked : (c : CommandName) (found : List Row) → has_required (λ name. is_given name found) (options_of c) ≡ true → check_fault (shape_of c) found false ≡ []
checked Play found h = rw (has_turns (λ name. is_given name found) h) refl
checked Query found h = let all = has_query (λ name. is_given name found) h in rw (all.player, all.line, all.signal) refl
checked Make found h = let all = has_all (λ name. is_given name found) h in rw (all.kind, all.ranks, all.suits, all.cap) refl
checked c found h = refl

-- ---- what makes a task is given

there : (gs : List Given) (name : Text) → (given_for gs name ≡ None → ⊥) → is_there_of gs name ≡ true
there gs name h =
    elim (cases_Bool (is_there_of gs name)) [
      | inl t ↦ t
      | inr f ↦ absurd (h (absent gs name f))
    ]

no_turns : (grouping : Option Grouping) (task : Task) → play_with grouping None ≡ Some task → ⊥
no_turns (Some g) task h = cc
no_turns None task h = cc

no_line : (player : Option ℕ) (signal : Option Text) (task : Task) → query_with player None signal ≡ Some task → ⊥
no_line (Some p) s task h = cc
no_line None s task h = cc

no_signal : (player : Option ℕ) (line : Option Text) (task : Task) → query_with player line None ≡ Some task → ⊥
no_signal (Some p) (Some l) task h = cc
no_signal (Some p) None task h = cc
no_signal None l task h = cc

no_ranks : (kind : Option Kind) (suits cap : Option ℕ) (summary : Bool) (task : Task) → make_with kind None suits cap summary ≡ Some task → ⊥
no_ranks (Some k) s c u task h = cc
no_ranks None s c u task h = cc

no_suits : (kind : Option Kind) (ranks cap : Option ℕ) (summary : Bool) (task : Task) → make_with kind ranks None cap summary ≡ Some task → ⊥
no_suits (Some k) (Some r) c u task h = cc
no_suits (Some k) None c u task h = cc
no_suits None r c u task h = cc

no_cap : (kind : Option Kind) (ranks suits : Option ℕ) (summary : Bool) (task : Task) → make_with kind ranks suits None summary ≡ Some task → ⊥
no_cap (Some k) (Some r) (Some s) u task h = cc
no_cap (Some k) (Some r) None u task h = cc
no_cap (Some k) None s u task h = cc
no_cap None r s u task h = cc

-- what is required is given where what is given makes a task
complete : (c : CommandName) (gs : List Given) (task : Task) → task_for c (given_for gs) ≡ Some task → has_required (is_there_of gs) (options_of c) ≡ true
complete Play gs task h =
    let t = there gs (codes "turns") (λ e. no_turns (grouping_in (given_for gs (codes "classes"))) task (rw e at h)) in
    rw t refl
complete Query gs task h =
    let line = given_for gs (codes "line") in
    let signal = given_for gs (codes "signal") in
    let player = option_and_then (number_in 1 2) (given_for gs (codes "player")) in
    let p = there gs (codes "player") (λ e. let bad : query_with None line signal ≡ Some task = rw e at h in cc) in
    let l = there gs (codes "line") (λ e. no_line player signal task (rw e at h)) in
    let s = there gs (codes "signal") (λ e. no_signal player line task (rw e at h)) in
    rw (p, l, s) refl
complete Make gs task h =
    let kind = option_and_then kind_of (given_for gs (codes "kind")) in
    let ranks = option_and_then (number_in 1 13) (given_for gs (codes "ranks")) in
    let suits = option_and_then (number_in 1 4) (given_for gs (codes "suits")) in
    let cap = option_and_then (number_in 0 8) (given_for gs (codes "cap")) in
    let u = is_set (given_for gs (codes "summary")) in
    let k = there gs (codes "kind") (λ e. let bad : make_with None ranks suits cap u ≡ Some task = rw e at h in cc) in
    let r = there gs (codes "ranks") (λ e. no_ranks kind suits cap u task (rw e at h)) in
    let s = there gs (codes "suits") (λ e. no_suits kind ranks cap u task (rw e at h)) in
    let c = there gs (codes "cap") (λ e. no_cap kind ranks suits u task (rw e at h)) in
    rw (k, r, s, c) refl
complete c gs task h = refl

checks : (c : CommandName) (gs : List Given) (given : AreGiven (shape_of c).rules gs) (task : Task) → task_for c (given_for gs) ≡ Some task
    → check_fault (shape_of c) (all_rows (shape_of c).rules gs given) false ≡ []
checks c gs given task h =
    let R = (shape_of c).rules in
    checked c (all_rows R gs given) (still_required (is_there_of gs) (λ name. is_given name (all_rows R gs given)) (options_of c)
    (λ name. is_there R gs given name) (complete c gs task h))

-- ---- what they ask for

-- what a command that is entered asks for
pub entered_for : (c : CommandName) (found : List Row) → task_in (command_word c, found) ≡ task_for c (λ option. first_of option found)
entered_for c found = ap (λ (o : Option CommandName). option_and_then (λ command. task_for command (λ option. first_of option found)) o) (is_command c).named

shrink_meant : (found : List Row) (gs : List Given) → is_set (first_of (codes "summary") found) ≡ is_set (given_for gs (codes "summary"))
    → task_for Shrink (λ option. first_of option found) ≡ task_for Shrink (given_for gs)
shrink_meant found gs s = rw s refl

check_meant : (found : List Row) (gs : List Given) → first_of (codes "classes") found ≡ given_for gs (codes "classes")
    → is_set (first_of (codes "summary") found) ≡ is_set (given_for gs (codes "summary"))
    → task_for Check (λ option. first_of option found) ≡ task_for Check (given_for gs)
check_meant found gs c s = rw (c, s) refl

play_meant : (found : List Row) (gs : List Given) → first_of (codes "classes") found ≡ given_for gs (codes "classes")
    → first_of (codes "turns") found ≡ given_for gs (codes "turns")
    → task_for Play (λ option. first_of option found) ≡ task_for Play (given_for gs)
play_meant found gs c t = rw (c, t) refl

query_meant : (found : List Row) (gs : List Given) → first_of (codes "player") found ≡ given_for gs (codes "player")
    → first_of (codes "line") found ≡ given_for gs (codes "line")
    → first_of (codes "signal") found ≡ given_for gs (codes "signal") → task_for Query (λ option. first_of option found) ≡ task_for Query (given_for gs)
query_meant found gs p l s = rw (p, l, s) refl

make_meant : (found : List Row) (gs : List Given) → first_of (codes "kind") found ≡ given_for gs (codes "kind")
    → first_of (codes "ranks") found ≡ given_for gs (codes "ranks") → first_of (codes "suits") found ≡ given_for gs (codes "suits")
    → first_of (codes "cap") found ≡ given_for gs (codes "cap") → is_set (first_of (codes "summary") found) ≡ is_set (given_for gs (codes "summary"))
    → task_for Make (λ option. first_of option found) ≡ task_for Make (given_for gs)
make_meant found gs k r s c u = rw (k, r, s, c, u) refl

solve_meant : (found : List Row) (gs : List Given) → first_of (codes "classes") found ≡ given_for gs (codes "classes")
    → task_for Solve (λ option. first_of option found) ≡ task_for Solve (given_for gs)
solve_meant found gs c = rw c refl

path_meant : (found : List Row) (gs : List Given) → first_of (codes "classes") found ≡ given_for gs (codes "classes")
    → task_for Path (λ option. first_of option found) ≡ task_for Path (given_for gs)
path_meant found gs c = rw c refl

pub same_task : (c : CommandName) (gs : List Given) (given : AreGiven (shape_of c).rules gs)
    → task_for c (λ option. first_of option (all_rows (shape_of c).rules gs given)) ≡ task_for c (given_for gs)
same_task Shrink gs given = shrink_meant (all_rows (shape_of Shrink).rules gs given) gs (same_flag (shape_of Shrink).rules gs given (codes "summary") refl)
same_task Check gs given = check_meant (all_rows (shape_of Check).rules gs given) gs (same_value (shape_of Check).rules gs given (codes "classes") refl)
    (same_flag (shape_of Check).rules gs given (codes "summary") refl)
same_task Solve gs given = solve_meant (all_rows (shape_of Solve).rules gs given) gs (same_value (shape_of Solve).rules gs given (codes "classes") refl)
same_task Play gs given = play_meant (all_rows (shape_of Play).rules gs given) gs (same_value (shape_of Play).rules gs given (codes "classes") refl)
    (same_value (shape_of Play).rules gs given (codes "turns") refl)
same_task Query gs given = query_meant (all_rows (shape_of Query).rules gs given) gs (same_value (shape_of Query).rules gs given (codes "player") refl)
    (same_value (shape_of Query).rules gs given (codes "line") refl) (same_value (shape_of Query).rules gs given (codes "signal") refl)
same_task Make gs given = make_meant (all_rows (shape_of Make).rules gs given) gs (same_value (shape_of Make).rules gs given (codes "kind") refl)
    (same_value (shape_of Make).rules gs given (codes "ranks") refl) (same_value (shape_of Make).rules gs given (codes "suits") refl)
    (same_value (shape_of Make).rules gs given (codes "cap") refl) (same_flag (shape_of Make).rules gs given (codes "summary") refl)
same_task Path gs given = path_meant (all_rows (shape_of Path).rules gs given) gs (same_value (shape_of Path).rules gs given (codes "classes") refl)
same_task c gs given = refl

-- words that ask for a task are read as it
pub plain_meant : (c : CommandName) (gs : List Given) (ended : Bool) (task : Task) → are_plain c gs ≡ true → task_for c (given_for gs) ≡ Some task
    → request_of (command_word c ∷ (option_words gs ++ end_words ended)) ≡ Some task
plain_meant c gs ended task plain is =
    let p = and_parts (are_given_as (options_of c) gs) (stand_once gs) plain in
    let s = shape_of c in
    let ws = option_words gs ++ end_words ended in
    let given = all_given s.rules (options_of c) gs (is_command c).known p.0 in
    let t = taken_in_any_order s ended gs given p.1 (is_command c).defaults in
    asked (command_word c ∷ ws) (command_word c) (finished s.rules t.end)
    (taken (built program) (command_word c) s ws opens (is_command c).leads (t.takes (checks c gs given task is)))
    (rows (built program) (command_word c) s ws t.end (is_command c).leads t.walks)
    ∙ (ap (λ l. task_in (command_word c, l)) t.found ∙ (entered_for c (all_rows s.rules gs given) ∙ (same_task c gs given ∙ is)))

pub asked_is_read : (words : List Text) (task : Task) → AskFor words task → request_of words ≡ Some task
asked_is_read words task a = ap request_of a.are ∙ plain_meant a.command a.options a.is_ended task a.plain a.task_is
