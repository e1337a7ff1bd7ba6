-- Words that are a request ask for it: they are a command and options of it, and perhaps `--`.
use Rattle.std.proofs.Common.{◌≡◌, ◌++◌, suc, arith, Bool, true, false, refl, sym, subst, List, [], ◌∷◌, Option, Some, None, codes, ap, ◌∙◌, inl, inr, fold, map}
use Rattle.std.proofs.{lemmas.Bool.{cases_Bool, false≢true}, lemmas.Slice.Eq.{bytes_eq-Decides}, lemmas.Bool.Decides.{nat_tests}}
use Rattle.std.specs.{Prelude.{find, option_and_then, if◌then◌else◌}, List.{All}, Str.{IsUtf8, bytes_eq}}
use Rattle.clap.specs.Walk.{Names, Row, Text, Walk, answers_to, arg_by_long, finished, idle, is_empty, nothing_held, subcommand_met, walk_from, walked}
use Rattle.clap.specs.{Words.{App, built, fault_of, subcommand_of}, Simple.{entered, names_of}, Kinds.{Kinds}}
use Rattle.clap.specs.Faults.{bundle_fault, long_fault, settle_fault, stray_fault, turn_fault, walk_fault, word_fault}
use Rattle.clap.proofs.OnLiterals.{clap_on_literals}
use Rattle.gs_words.specs.{Commands.{command_of, command_word, commands, options_of}, Plain.{AskFor, given_for}, Program.{program}}
use Rattle.gs_words.specs.{Requests.{request_of, is_taken, task_for, task_in}, Tasks.{Task}, declared.names.CommandName.{CommandName}}
use Rattle.gs_words.specs.declared.names.CommandName.TheVariants.{Shrink}
use Rattle.gs_words.proofs.{AnyOrder.{all_rows, taken_in_any_order}, Every.{first_none, no_bundle, no_index, no_long_help, no_short, no_stray, not_none, rules_for, then_none, unknown}}
use Rattle.gs_words.proofs.{Heard.{AreTexts, IsLevel, heard}, Levels.{is_command, rows, shape_of, taken_by}, Lexed.{Lexed, ends, long, joins, short, word, first_char, lexed}}
use Rattle.gs_words.proofs.{Obeyed.{all_given}, Options.{plain_is}, Plain.{entered_for, same_task}}

-- ---- the level of each command

level_by : (c : CommandName) → (shape_of c).rules ≡ rules_for (options_of c) → (shape_of c).args_override_self ≡ false → IsLevel (shape_of c) (options_of c)
level_by c rules once = record {
  known = (is_command c).known;
  once = once;
  longs = λ n h. rw rules (unknown (options_of c) n h);
  shorts = λ x. rw rules (no_short (options_of c) x);
  index = λ i. rw rules (no_index (options_of c) i);
}

is_level : (c : CommandName) → IsLevel (shape_of c) (options_of c)
unfolding clap_on_literals
is_level Shrink = level_by Shrink refl refl
is_level c = level_by c refl refl

-- ---- the words behind a command

asked_by : (c : CommandName) (ws : List Text) (task : Task) → AreTexts ws → fault_of program (command_word c ∷ ws) ≡ []
    → option_and_then task_in (subcommand_of program (command_word c ∷ ws)) ≡ Some task → AskFor (command_word c ∷ ws) task
asked_by c ws task u faults is =
    let s = shape_of c in
    let level = taken_by (built program) (command_word c) s ws (is_command c).leads faults in
    let walks = first_none (walk_fault s [] (walk_from nothing_held) ws) _ level in
    let end = (fold (walked s.rules []) (walk_from nothing_held) ws).held in
    let settles = first_none (settle_fault s.rules s.args_override_self end) _ (then_none (walk_fault s [] (walk_from nothing_held) ws) _ level) in
    let k = heard s (options_of c) (is_level c) ws u nothing_held refl (walks, settles) in
    let given = all_given s.rules (options_of c) k.gs (is_command c).known k.forms in
    let t = taken_in_any_order s k.ended k.gs given k.once (is_command c).defaults in
    let at : (fold (walked s.rules []) (walk_from nothing_held) ws).held ≡ t.end =
    ap (λ (l : List Text). (fold (walked s.rules []) (walk_from nothing_held) l).held) k.are ∙ t.walks in
    let found = rows (built program) (command_word c) s ws t.end (is_command c).leads at in
    let meant : task_in (command_word c, finished s.rules t.end) ≡ task_for c (given_for k.gs) =
    ap (λ (l : List Row). task_in (command_word c, l)) t.found ∙ (entered_for c (all_rows s.rules k.gs given) ∙ same_task c k.gs given) in
    record {
      command = c;
      options = k.gs;
      is_ended = k.ended;
      plain = rw (k.forms, k.once) refl;
      are = ap (λ (l : List Text). command_word c ∷ l) k.are;
      task_is = sym meant ∙ (sym (ap (λ (o : Option (Text × List Row)). option_and_then task_in o) found) ∙ is);
    }

-- ---- words that start with no command

found_is : (cs : List CommandName) (w : Text) (c : CommandName) → find (λ d. bytes_eq w (command_word d)) cs ≡ Some c → w ≡ command_word c
found_is [] w c h = cc
found_is (d ∷ cs) w c h =
    elim (cases_Bool (bytes_eq w (command_word d))) [
      | inl t ↦
          let same : Some d ≡ Some c = rw t at h in
          let e : d ≡ c = cc in
          (bytes_eq-Decides w (command_word d)).0 t ∙ ap command_word e
      | inr f ↦ found_is cs w c (rw f at h)
    ]

other_way : (a b : Text) → bytes_eq a b ≡ false → bytes_eq b a ≡ false
other_way a b h =
    elim (cases_Bool (bytes_eq b a)) [
      | inl t ↦ absurd (false≢true (sym h ∙ (bytes_eq-Decides a b).1 (sym ((bytes_eq-Decides b a).0 t))))
      | inr f ↦ f
    ]

none_met : (cs : List CommandName) (rest : Names) (w : Text) → find (λ c. bytes_eq w (command_word c)) cs ≡ None → find (answers_to w) rest ≡ None
    → find (answers_to w) (map (λ c. (command_word c, [])) cs ++ rest) ≡ None
none_met [] rest w h last = last
none_met (c ∷ cs) rest w h last =
    elim (cases_Bool (bytes_eq w (command_word c))) [
      | inl t ↦ let bad : Some c ≡ None = rw t at h in cc
      | inr f ↦ rw (other_way w (command_word c) f) (none_met cs rest w (rw f at h) last)
    ]

-- such a word is refused, unless it is `--`
unmet : (a : App) (l : IsLevel a.top []) (w : Text) (ws : List Text) → IsUtf8 w → subcommand_met (names_of a) idle w ≡ None
    → walk_fault a.top (names_of a) (walk_from nothing_held) (w ∷ ws) ≡ [] → w ≡ codes "--"
unfolding walk_fault
unmet a l w ws u none e = go (lexed w)
  where
    t : turn_fault a.top (names_of a) (walk_from nothing_held) w ≡ []
    t = first_none (turn_fault a.top (names_of a) (walk_from nothing_held) w) _ e

    f : word_fault a.top (names_of a) false idle w nothing_held ≡ []
    f = first_none (word_fault a.top (names_of a) false idle w nothing_held) _ t

    go : Lexed w → w ≡ codes "--"
    go (ends is) = is
    go (long n is longs dashes) =
        let bad : long_fault a.top.rules a.top.args_override_self (arg_by_long (rules_for []) n) None nothing_held ≡ [] =
        rw (none, dashes, longs, l.longs n refl) at f in
        absurd (no_long_help a.top.rules a.top.args_override_self n None nothing_held bad)
    go (joins n v is longs dashes) =
        let bad : long_fault a.top.rules a.top.args_override_self (arg_by_long (rules_for []) n) (Some v) nothing_held ≡ [] =
        rw (none, dashes, longs, l.longs n refl) at f in
        absurd (no_long_help a.top.rules a.top.args_override_self n (Some v) nothing_held bad)
    go (short x xs is shorts longs dashes) =
        let bad : bundle_fault a.top.rules a.top.args_override_self (x ∷ xs) nothing_held ≡ [] = rw (none, dashes, longs, shorts) at f in
        let c = first_char x xs (subst IsUtf8 is u) in
        absurd (no_bundle a.top.rules a.top.args_override_self x xs nothing_held c.0 l.shorts c.1 refl bad)
    go (word plain) =
        let i = plain_is w plain in
        let bad : stray_fault a.top ≡ [] = rw (none, i.dashes, i.long, i.short, l.index 1) at t in
        absurd (no_stray a.top bad)

-- ---- the program's own level

top_level : IsLevel (built program).top []
unfolding clap_on_literals
top_level = record { known = tt; once = refl; longs = λ n h. refl; shorts = λ x. refl; index = λ i. refl }

no_command : (w : Text) → command_of w ≡ None → bytes_eq (codes "help") w ≡ false → subcommand_met (names_of (built program)) idle w ≡ None
unfolding clap_on_literals
no_command w none other =
    let found : find (answers_to w) (names_of (built program)) ≡ None =
    none_met commands ((codes "help", []) ∷ []) w none (rw other refl) in
    rw found refl

-- after `--` no command is entered
trailing : Walk
trailing = record { held = nothing_held; waiting = idle; position = 1; is_trailing = true; stopped = None }

stays : (ws : List Text) → (fold (walked (built program).top.rules (names_of (built program))) trailing ws).stopped ≡ None
unfolding clap_on_literals trailing
stays [] = refl
stays (w ∷ ws) = stays ws

not_after : (ws : List Text) → subcommand_of program (codes "--" ∷ ws) ≡ None
unfolding clap_on_literals trailing
not_after ws = ap (entered (built program)) (stays ws)

helps : (ws : List Text) → fault_of program (codes "help" ∷ ws) ≡ [] → ⊥
unfolding clap_on_literals
helps ws e = not_none _ _ e

starts : (w : Text) (ws : List Text) (task : Task) → AreTexts (w ∷ ws) → fault_of program (w ∷ ws) ≡ []
    → option_and_then task_in (subcommand_of program (w ∷ ws)) ≡ Some task → command_of w ≡ None → ⊥
starts w ws task u faults is none =
    elim (cases_Bool (bytes_eq (codes "help") w)) [
      | inl t ↦
          let e : codes "help" ≡ w = (bytes_eq-Decides (codes "help") w).0 t in
          helps ws (rw (← e) at faults)
      | inr f ↦
          let top = (built program).top in
          let names = names_of (built program) in
          let e : w ≡ codes "--" =
          unmet (built program) top_level w ws u.0 (no_command w none f) (first_none (walk_fault top names (walk_from nothing_held) (w ∷ ws)) _ faults) in
          let bad : option_and_then task_in (subcommand_of program (codes "--" ∷ ws)) ≡ Some task = rw e at is in
          let worse : None ≡ Some task = rw (not_after ws) at bad in
          cc
    ]

-- ---- all words

no_kinds : (k : Kinds) → is_empty k ≡ true → k ≡ []
no_kinds [] h = refl
no_kinds (k ∷ ks) h = let no_way : is_empty (k ∷ ks) ≡ false = grind (arith, nat_tests) in cc

asks_by : (o : Option CommandName) (w : Text) (ws : List Text) (task : Task) → command_of w ≡ o → AreTexts (w ∷ ws) → fault_of program (w ∷ ws) ≡ []
    → option_and_then task_in (subcommand_of program (w ∷ ws)) ≡ Some task → AskFor (w ∷ ws) task
asks_by None w ws task e u faults is = absurd (starts w ws task u faults is e)
asks_by (Some c) w ws task e u faults is =
    let same = found_is commands w c e in
    subst (λ (x : Text). AskFor (x ∷ ws) task) (sym same)
    (asked_by c ws task u.1 (subst (λ (x : Text). fault_of program (x ∷ ws) ≡ []) same faults)
    (subst (λ (x : Text). option_and_then task_in (subcommand_of program (x ∷ ws)) ≡ Some task) same is))

nothing_asked : (task : Task) → option_and_then task_in (subcommand_of program []) ≡ Some task → ⊥
unfolding clap_on_literals
nothing_asked task h = let bad : None ≡ Some task = h in cc

read_as_asked : (words : List Text) (task : Task) → AreTexts words → (taken : Bool) → is_taken words ≡ taken
    → (if taken then option_and_then task_in (subcommand_of program words) else None) ≡ Some task → AskFor words task
read_as_asked words task u false e is = let bad : None ≡ Some task = is in cc
read_as_asked [] task u true e is = absurd (nothing_asked task is)
read_as_asked (w ∷ ws) task u true e is = asks_by (command_of w) w ws task refl u (no_kinds (fault_of program (w ∷ ws)) e) is

are_texts : (words : List Text) → All IsUtf8 words → AreTexts words
are_texts [] h = tt
are_texts (w ∷ ws) h = (h 0 [] (omega arith), are_texts ws (λ k d lt. h (suc k) d (omega arith)))

-- words that are a request ask for it
pub read_is_asked : (words : List Text) (task : Task) → All IsUtf8 words → request_of words ≡ Some task → AskFor words task
unfolding request_of
read_is_asked words task u is = read_as_asked words task (are_texts words u) (is_taken words) refl is
