-- Options in any order, as a parse of a command reads them.
use Rattle.std.proofs.Common.{◌≡◌, ◌++◌, ◌||◌, not, Bool, true, false, refl, List, [], ◌∷◌, fold, codes, if◌then◌else◌, ap, ◌∙◌, sym, append_assoc}
use Rattle.std.proofs.{Common.{append-nil, inl, inr, arith}, lemmas.Bool.{and_parts, cases_Bool}, lemmas.Bool.Decides.{nat_tests}}
use Rattle.std.specs.{List.{list_all}, Str.{bytes_eq}}
use Rattle.clap.specs.Walk.{Held, Row, Rule, Text, finished, has_row, is_empty, nothing_held, reacted, settled, used, walk_from, walked, with_default}
use Rattle.clap.specs.{Simple.{Shape}, Faults.{check_fault, default_fault, defaults_fault, given_default_fault, level_fault, settle_fault, use_fault, walk_fault}}
use Rattle.clap.specs.Kinds.{Kinds}
use Rattle.clap.proofs.FaultLemmas.{past}
use Rattle.clap.specs.Walk.{Walk}
use Rattle.gs_words.specs.Plain.{Given, valued, joined, flagged, end_words, is_plain_value, name_of, option_words, stand_once}
use Rattle.gs_words.proofs.Options.{IsValued, IsFlag, row_with, has_got, value_walk, value_clean, value_rows, value_settles, flag_walk, flag_clean, flag_rows}
use Rattle.gs_words.proofs.Options.{flag_uses, joined_clean, joined_rows, joined_uses, joined_walk, plain_is}

-- the option is one of R, in its form
abbrev pub IsGiven : List Rule → Given → Type 0
IsGiven R (valued n v) = (a : Rule) × IsValued R n a × (is_plain_value v ≡ true)
IsGiven R (joined n v) = (a : Rule) × IsValued R n a
IsGiven R (flagged n) = (a : Rule) × IsFlag R n a

abbrev pub AreGiven : List Rule → List Given → Type 0
AreGiven R [] = Unit {0}
AreGiven R (g ∷ gs) = IsGiven R g × AreGiven R gs

abbrev pub row_for : (R : List Rule) (g : Given) → IsGiven R g → Row
row_for R (valued n v) i = row_with i.0 v
row_for R (joined n v) i = row_with i.0 v
row_for R (flagged n) i = row_with i.0 (codes "true")

-- what the options are read as
abbrev pub rows_for : (R : List Rule) (gs : List Given) → AreGiven R gs → List Row
rows_for R [] i = []
rows_for R (g ∷ gs) i = row_for R g i.0 ∷ rows_for R gs i.1

pub not_true : (b : Bool) → not b ≡ true → b ≡ false
not_true true h = cc
not_true false h = refl

-- no option has a row yet
abbrev pub are_fresh : List Row → List Given → Bool
are_fresh rows gs = list_all (λ g. not (has_row (name_of g) rows)) gs

all_fresh : (gs : List Given) → are_fresh [] gs ≡ true
all_fresh [] = refl
all_fresh (g ∷ gs) = all_fresh gs

has_row_more : (id : Text) (rows : List Row) (r : Row) → has_row id rows ≡ false → bytes_eq r.id id ≡ false → has_row id (rows ++ r ∷ []) ≡ false
has_row_more id [] r h e = rw e
has_row_more id (x ∷ xs) r h e =
    elim (cases_Bool (bytes_eq x.id id)) [
      | inl t ↦ let bad = rw t at h in cc
      | inr f ↦ let rest : has_row id xs ≡ false = rw f at h in rw f (has_row_more id xs r rest e)
    ]

still_fresh : (rows : List Row) (r : Row) (n : Text) (gs : List Given) → r.id ≡ n → are_fresh rows gs ≡ true
    → list_all (λ g. not (bytes_eq n (name_of g))) gs ≡ true → are_fresh (rows ++ r ∷ []) gs ≡ true
still_fresh rows r n [] e f apart = refl
still_fresh rows r n (g ∷ gs) e f apart =
    let p = and_parts (not (has_row (name_of g) rows)) (are_fresh rows gs) f in
    let q = and_parts (not (bytes_eq n (name_of g))) (list_all (λ o. not (bytes_eq n (name_of o))) gs) apart in
    let other : bytes_eq r.id (name_of g) ≡ false = rw e (not_true (bytes_eq n (name_of g)) q.0) in
    rw (has_row_more (name_of g) rows r (not_true (has_row (name_of g) rows) p.0) other) (still_fresh rows r n gs e p.1 q.1)

-- what is behind the options changes nothing
pub ends_walk : (R : List Rule) (h : Held) (ended : Bool) → (fold (walked R []) (walk_from h) (end_words ended)).held ≡ h
unfolding walked
ends_walk R h false = refl
ends_walk R h true = refl

ends_clean : (s : Shape) (h : Held) (ended : Bool) → walk_fault s [] (walk_from h) (end_words ended) ≡ []
unfolding walk_fault
ends_clean s h false = refl
ends_clean s h true = refl

-- where a walk over options ends
record Ends (s : Shape) (ended : Bool) (h : Held) (rows : List Row) (gs : List Given) (given : AreGiven s.rules gs) : Type 0 where
  end : Held
  walks : (fold (walked s.rules []) (walk_from h) (option_words gs ++ end_words ended)).held ≡ end
  clean : walk_fault s [] (walk_from h) (option_words gs ++ end_words ended) ≡ []
  settles : settle_fault s.rules s.args_override_self end ≡ []
  found : (settled s.rules end).rows ≡ rows ++ rows_for s.rules gs given

-- an option with a value before the others, whose walk ends so
value_first : (s : Shape) (ended : Bool) (h : Held) (rows : List Row) (n v : Text) (gs : List Given) (a : Rule) (o : IsValued s.rules n a)
    (dash : is_plain_value v ≡ true) (more : AreGiven s.rules gs) → settle_fault s.rules s.args_override_self h ≡ []
    → Ends s ended (has_got s.rules n v h) (rows ++ row_with a v ∷ []) gs more → Ends s ended h rows (valued n v ∷ gs) ((a, o, dash), more)
value_first s ended h rows n v gs a o dash more clear rest =
    let ws = option_words gs ++ end_words ended in
    record {
      end = rest.end;
      walks = ap (λ (w : Walk). w.held) (value_walk s.rules h n a v ws o (plain_is v dash)) ∙ rest.walks;
      clean = value_clean s h n a v ws o (plain_is v dash) clear ∙ rest.clean;
      settles = rest.settles;
      found = rest.found ∙ append_assoc rows (row_with a v ∷ []) (rows_for s.rules gs more);
    }

joined_first : (s : Shape) (ended : Bool) (h : Held) (rows : List Row) (n v : Text) (gs : List Given) (a : Rule) (o : IsValued s.rules n a)
    (more : AreGiven s.rules gs) → settle_fault s.rules s.args_override_self h ≡ []
    → use_fault s.args_override_self a (v ∷ []) (settled s.rules h).rows ≡ []
    → Ends s ended (reacted s.rules a (v ∷ []) h) (rows ++ row_with a v ∷ []) gs more → Ends s ended h rows (joined n v ∷ gs) ((a, o), more)
joined_first s ended h rows n v gs a o more clear uses rest =
    let ws = option_words gs ++ end_words ended in
    record {
      end = rest.end;
      walks = ap (λ (w : Walk). w.held) (joined_walk s.rules h n v a ws o) ∙ rest.walks;
      clean = joined_clean s h n v a ws o clear uses ∙ rest.clean;
      settles = rest.settles;
      found = rest.found ∙ append_assoc rows (row_with a v ∷ []) (rows_for s.rules gs more);
    }

-- a flag before the others, whose walk ends so
flag_first : (s : Shape) (ended : Bool) (h : Held) (rows : List Row) (n : Text) (gs : List Given) (a : Rule) (o : IsFlag s.rules n a)
    (more : AreGiven s.rules gs) → settle_fault s.rules s.args_override_self h ≡ [] → use_fault s.args_override_self a [] (settled s.rules h).rows ≡ []
    → Ends s ended (reacted s.rules a [] h) (rows ++ row_with a (codes "true") ∷ []) gs more → Ends s ended h rows (flagged n ∷ gs) ((a, o), more)
flag_first s ended h rows n gs a o more clear uses rest =
    let ws = option_words gs ++ end_words ended in
    record {
      end = rest.end;
      walks = ap (λ (w : Walk). w.held) (flag_walk s.rules h n a ws o) ∙ rest.walks;
      clean = flag_clean s h n a ws o clear uses ∙ rest.clean;
      settles = rest.settles;
      found = rest.found ∙ append_assoc rows (row_with a (codes "true") ∷ []) (rows_for s.rules gs more);
    }

in_any_order : (s : Shape) (ended : Bool) (h : Held) (rows : List Row) (gs : List Given) (given : AreGiven s.rules gs)
    → settle_fault s.rules s.args_override_self h ≡ [] → (settled s.rules h).rows ≡ rows
    → are_fresh rows gs ≡ true → stand_once gs ≡ true → Ends s ended h rows gs given
in_any_order s ended h rows [] given clear e f once =
    record { end = h; walks = ends_walk s.rules h ended; clean = ends_clean s h ended; settles = clear; found = e ∙ sym (append-nil rows) }
in_any_order s ended h rows (valued n v ∷ gs) ((a, o, dash), more) clear e f once =
    let p = and_parts (not (has_row n rows)) (are_fresh rows gs) f in
    let q = and_parts (list_all (λ g. not (bytes_eq n (name_of g))) gs) (stand_once gs) once in
    let fresh : has_row a.id rows ≡ false = rw o.named.id (not_true (has_row n rows) p.0) in
    value_first s ended h rows n v gs a o dash more clear
    (in_any_order s ended (has_got s.rules n v h) (rows ++ row_with a v ∷ []) gs more (value_settles s h rows n v a o e fresh)
    (value_rows s h rows n v a o e fresh)
    (still_fresh rows (row_with a v) n gs o.named.id p.1 q.0) q.1)
in_any_order s ended h rows (joined n v ∷ gs) ((a, o), more) clear e f once =
    let p = and_parts (not (has_row n rows)) (are_fresh rows gs) f in
    let q = and_parts (list_all (λ g. not (bytes_eq n (name_of g))) gs) (stand_once gs) once in
    let fresh : has_row a.id rows ≡ false = rw o.named.id (not_true (has_row n rows) p.0) in
    let uses = rw (← e) at (joined_uses s.rules s.args_override_self n v a rows o fresh) in
    let used_rows : used a (v ∷ []) (settled s.rules h).rows ≡ rows ++ row_with a v ∷ [] = rw e (joined_rows s.rules n v a rows o fresh) in
    joined_first s ended h rows n v gs a o more clear uses
    (in_any_order s ended (reacted s.rules a (v ∷ []) h) (rows ++ row_with a v ∷ []) gs more refl used_rows
    (still_fresh rows (row_with a v) n gs o.named.id p.1 q.0) q.1)
in_any_order s ended h rows (flagged n ∷ gs) ((a, o), more) clear e f once =
    let p = and_parts (not (has_row n rows)) (are_fresh rows gs) f in
    let q = and_parts (list_all (λ g. not (bytes_eq n (name_of g))) gs) (stand_once gs) once in
    let fresh : has_row a.id rows ≡ false = rw o.named.id (not_true (has_row n rows) p.0) in
    let uses = rw (← e) at (flag_uses s.rules s.args_override_self n a rows o fresh) in
    let used_rows : used a [] (settled s.rules h).rows ≡ rows ++ row_with a (codes "true") ∷ [] = rw e (flag_rows s.rules n a rows o fresh) in
    flag_first s ended h rows n gs a o more clear uses
    (in_any_order s ended (reacted s.rules a [] h) (rows ++ row_with a (codes "true") ∷ []) gs more refl used_rows
    (still_fresh rows (row_with a (codes "true")) n gs o.named.id p.1 q.0) q.1)

-- ---- defaults

some_kind : (k : Kinds) → is_empty k ≡ true → k ≡ []
some_kind [] h = refl
some_kind (k ∷ ks) h = let no_way : is_empty (k ∷ ks) ≡ false = grind (arith, nat_tests) in cc

-- a default that is taken by its own rule, or none
abbrev pub has_good_default : Rule → Bool
has_good_default a = is_empty a.defaults || is_empty (given_default_fault a a.defaults)

no_fault : (rows : List Row) (a : Rule) → has_good_default a ≡ true → default_fault rows a ≡ []
no_fault rows a h = go (has_row a.id rows) (is_empty a.defaults) h
  where
    go : (b c : Bool) → (c || is_empty (given_default_fault a a.defaults)) ≡ true → (if b || c then [] else given_default_fault a a.defaults) ≡ []
    go true c e = refl
    go false true e = refl
    go false false e = some_kind (given_default_fault a a.defaults) e

no_faults : (rules : List Rule) (rows : List Row) → list_all has_good_default rules ≡ true → defaults_fault rows rules ≡ []
unfolding defaults_fault
no_faults [] rows h = refl
no_faults (a ∷ rest) rows h =
    let p = and_parts (has_good_default a) (list_all has_good_default rest) h in
    past _ _ (no_fault rows a p.0) ∙ no_faults rest (with_default rows a) p.1

-- ---- a level

-- a level whose walk passes and ends so has no fault
level_clean : (s : Shape) (ws : List Text) (end : Held) → (fold (walked s.rules []) (walk_from nothing_held) ws).held ≡ end
    → walk_fault s [] (walk_from nothing_held) ws ≡ []
    → settle_fault s.rules s.args_override_self end ≡ [] → defaults_fault (settled s.rules end).rows s.rules ≡ []
    → check_fault s (finished s.rules end) false ≡ []
    → level_fault s [] nothing_held ws false [] ≡ []
level_clean s ws end walks passes settles defaults checks = rw (passes, walks, settles, defaults, checks)

-- the rows of the options and of the defaults
abbrev pub all_rows : (R : List Rule) (gs : List Given) → AreGiven R gs → List Row
all_rows R gs given = fold with_default (rows_for R gs given) R

-- a level that is given its options, each once and in any order, takes the words if all that is required is there
pub record Taken (s : Shape) (ended : Bool) (gs : List Given) (given : AreGiven s.rules gs) : Type 0 where
  pub end : Held
  pub walks : (fold (walked s.rules []) (walk_from nothing_held) (option_words gs ++ end_words ended)).held ≡ end
  pub takes : check_fault s (all_rows s.rules gs given) false ≡ [] → level_fault s [] nothing_held (option_words gs ++ end_words ended) false [] ≡ []
  pub found : finished s.rules end ≡ all_rows s.rules gs given

pub taken_in_any_order : (s : Shape) (ended : Bool) (gs : List Given) (given : AreGiven s.rules gs) → stand_once gs ≡ true
    → list_all has_good_default s.rules ≡ true → Taken s ended gs given
taken_in_any_order s ended gs given once good =
    let e = in_any_order s ended nothing_held [] gs given refl refl (all_fresh gs) once in
    let found : finished s.rules e.end ≡ all_rows s.rules gs given = ap (λ l. fold with_default l s.rules) e.found in
    record {
      end = e.end;
      walks = e.walks;
      takes = λ checks. level_clean s (option_words gs ++ end_words ended) e.end e.walks e.clean e.settles (no_faults s.rules (settled s.rules e.end).rows good)
          (ap (λ l. check_fault s l false) found ∙ checks);
      found = found;
    }
