-- One option, as a parse of a command reads it.
use Rattle.std.proofs.Common.{◌≡◌, ◌==◌, ◌++◌, ◌||◌, not, ℕ, Bool, true, false, refl, List, [], ◌∷◌, Some, None, fold, codes, ap, ◌∙◌, append-nil, inl, inr}
use Rattle.std.proofs.lemmas.Bool.{cases_Bool}
use Rattle.std.specs.Str.{bytes_eq}
use Rattle.clap.specs.{Facts.{unwrap_or_range}, Lexer.{long_of, short_of}, Walk.{reading_by, settled, takes_values, used, walk_from, walked, without}}
use Rattle.clap.specs.Walk.{Held, Row, Rule, Text, Walk, option, action_of, arg_by_id, arg_by_long, at_row, has_row, more_values, most_values, reacted}
use Rattle.clap.specs.{Simple.{Shape}, Kinds.{or_else}, Faults.{settle_fault, turn_fault, use_fault, values_fault, walk_fault}}
use Rattle.clap.specs.{declared.builder.ArgAction.TheVariants.{Set, SetTrue}, declared.parser.matches.ValueSource.TheVariants.{CommandLine}}
use Rattle.clap.proofs.FaultLemmas.{past}
use Rattle.gs_words.specs.Plain.{is_plain_value, joined_word, long_word}

-- the option `--n` is a
pub record IsNamed (R : List Rule) (n : Text) (a : Rule) : Type 0 where
  pub long : long_of (long_word n) ≡ Some (n, None)
  pub dashes : bytes_eq (long_word n) (45 ∷ 45 ∷ []) ≡ false
  pub by_long : arg_by_long R n ≡ Some a
  pub id : a.id ≡ n

-- it takes one value
pub record IsValued (R : List Rule) (n : Text) (a : Rule) : Type 0 where
  pub named : IsNamed R n a
  pub takes : takes_values a ≡ true
  pub by_id : arg_by_id R n ≡ Some a
  pub most : most_values a ≡ 1
  pub same : bytes_eq n a.id ≡ true
  pub set : action_of a ≡ Set
  pub range : unwrap_or_range a.range ≡ record { start_inclusive = 1; end_inclusive = 1 }
  pub passes : (v : Text) → values_fault a (v ∷ []) ≡ []
  pub joined : (v : Text) → long_of (joined_word n v) ≡ Some (n, Some v)
  pub joined_dashes : (v : Text) → bytes_eq (joined_word n v) (45 ∷ 45 ∷ []) ≡ false

-- it takes none, and stands for `true`
pub record IsFlag (R : List Rule) (n : Text) (a : Rule) : Type 0 where
  pub named : IsNamed R n a
  pub takes : takes_values a ≡ false
  pub most : most_values a ≡ 0
  pub set : action_of a ≡ SetTrue
  pub range : unwrap_or_range a.range ≡ record { start_inclusive = 0; end_inclusive = 0 }
  pub missing : a.missing ≡ codes "true" ∷ []
  pub passes : values_fault a (codes "true" ∷ []) ≡ []

-- the row of an option with a value
abbrev pub row_with : Rule → Text → Row
row_with a v = record { id = a.id; values = v ∷ []; count = None; source = Some CommandLine; reading = reading_by a }

-- ---- an option with a value

unless : (b : Bool) → not b ≡ true → b ≡ false
unless true h = cc
unless false h = refl

-- the word is no option and not `--`
pub record IsWord (v : Text) : Type 0 where
  pub dashes : bytes_eq v (45 ∷ 45 ∷ []) ≡ false
  pub long : long_of v ≡ None
  pub short : short_of v ≡ None

one_byte : (b : ℕ) → IsWord (b ∷ [])
one_byte b =
    elim (cases_Bool (b == 45)) [
      | inl t ↦ record { dashes = rw t refl; long = rw t refl; short = rw t refl }
      | inr f ↦ record { dashes = rw f refl; long = rw f refl; short = rw f refl }
    ]

-- a plain value is
pub plain_is : (v : Text) → is_plain_value v ≡ true → IsWord v
plain_is [] h = record { dashes = refl; long = refl; short = refl }
plain_is (b ∷ []) h = one_byte b
plain_is (b ∷ c ∷ bs) h =
    let f : (b == 45) ≡ false = unless (b == 45) h in
    record { dashes = rw f refl; long = rw f refl; short = rw f refl }

-- the walk after the option's word, and after its value
abbrev pub waits_for : List Rule → Text → Held → Walk
waits_for R n h = record {
  held = record { rows = (settled R h).rows; pending = Some (n, []); skip = h.skip };
  waiting = option n;
  position = 1;
  is_trailing = false;
  stopped = None;
}

abbrev pub has_got : List Rule → Text → Text → Held → Held
has_got R n v h = record { rows = (settled R h).rows; pending = Some (n, v ∷ []); skip = h.skip }

pub option_step : (R : List Rule) (h : Held) (n : Text) (a : Rule) → IsValued R n a → walked R [] (walk_from h) (long_word n) ≡ waits_for R n h
unfolding walked
option_step R h n a o = rw (o.named.dashes, o.named.long, o.named.by_long, o.takes, o.named.id)

pub value_step : (R : List Rule) (h : Held) (n : Text) (a : Rule) (v : Text) → IsValued R n a → IsWord v
    → walked R [] (waits_for R n h) v ≡ walk_from (has_got R n v h)
unfolding walked
value_step R h n a v o w = rw (w.dashes, w.long, w.short, o.by_id, o.same, o.most)

option_fault : (s : Shape) (h : Held) (n : Text) (a : Rule) → IsValued s.rules n a → settle_fault s.rules s.args_override_self h ≡ []
    → turn_fault s [] (walk_from h) (long_word n) ≡ []
option_fault s h n a o settles = rw (o.named.dashes, o.named.long, o.named.by_long, o.takes, settles)

value_fault : (s : Shape) (h : Held) (n : Text) (a : Rule) (v : Text) → IsValued s.rules n a → IsWord v
    → turn_fault s [] (waits_for s.rules n h) v ≡ []
value_fault s h n a v o w = rw (w.dashes, w.long, w.short)

pub value_walk : (R : List Rule) (h : Held) (n : Text) (a : Rule) (v : Text) (rest : List Text) → IsValued R n a → IsWord v
    → fold (walked R []) (walk_from h) (long_word n ∷ v ∷ rest) ≡ fold (walked R []) (walk_from (has_got R n v h)) rest
value_walk R h n a v rest o w =
    ap (λ z. fold (walked R []) (walked R [] z v) rest) (option_step R h n a o) ∙ ap (λ z. fold (walked R []) z rest) (value_step R h n a v o w)

pub value_clean : (s : Shape) (h : Held) (n : Text) (a : Rule) (v : Text) (rest : List Text) → IsValued s.rules n a → IsWord v
    → settle_fault s.rules s.args_override_self h ≡ []
    → walk_fault s [] (walk_from h) (long_word n ∷ v ∷ rest) ≡ walk_fault s [] (walk_from (has_got s.rules n v h)) rest
unfolding walk_fault
value_clean s h n a v rest o w settles =
    past _ _ (option_fault s h n a o settles)
    ∙ (ap (λ z. or_else (turn_fault s [] z v) (walk_fault s [] (walked s.rules [] z v) rest)) (option_step s.rules h n a o)
    ∙ (past _ _ (value_fault s h n a v o w)
    ∙ ap (λ z. walk_fault s [] z rest) (value_step s.rules h n a v o w)))

-- ---- an option with its value in the same word

pub joined_step : (R : List Rule) (h : Held) (n v : Text) (a : Rule) → IsValued R n a
    → walked R [] (walk_from h) (joined_word n v) ≡ walk_from (reacted R a (v ∷ []) h)
unfolding walked
joined_step R h n v a o = rw (o.joined_dashes v, o.joined v, o.named.by_long, o.takes)

joined_fault : (s : Shape) (h : Held) (n v : Text) (a : Rule) → IsValued s.rules n a → settle_fault s.rules s.args_override_self h ≡ []
    → use_fault s.args_override_self a (v ∷ []) (settled s.rules h).rows ≡ []
    → turn_fault s [] (walk_from h) (joined_word n v) ≡ []
joined_fault s h n v a o settles uses = rw (o.joined_dashes v, o.joined v, o.named.by_long, o.takes, settles, uses)

pub joined_walk : (R : List Rule) (h : Held) (n v : Text) (a : Rule) (rest : List Text) → IsValued R n a
    → fold (walked R []) (walk_from h) (joined_word n v ∷ rest) ≡ fold (walked R []) (walk_from (reacted R a (v ∷ []) h)) rest
joined_walk R h n v a rest o = ap (λ z. fold (walked R []) z rest) (joined_step R h n v a o)

pub joined_clean : (s : Shape) (h : Held) (n v : Text) (a : Rule) (rest : List Text) → IsValued s.rules n a
    → settle_fault s.rules s.args_override_self h ≡ []
    → use_fault s.args_override_self a (v ∷ []) (settled s.rules h).rows ≡ []
    → walk_fault s [] (walk_from h) (joined_word n v ∷ rest) ≡ walk_fault s [] (walk_from (reacted s.rules a (v ∷ []) h)) rest
unfolding walk_fault
joined_clean s h n v a rest o settles uses =
    past _ _ (joined_fault s h n v a o settles uses) ∙ ap (λ z. walk_fault s [] z rest) (joined_step s.rules h n v a o)

-- ---- a flag

pub flag_step : (R : List Rule) (h : Held) (n : Text) (a : Rule) → IsFlag R n a → walked R [] (walk_from h) (long_word n) ≡ walk_from (reacted R a [] h)
unfolding walked
flag_step R h n a o = rw (o.named.dashes, o.named.long, o.named.by_long, o.takes)

flag_fault : (s : Shape) (h : Held) (n : Text) (a : Rule) → IsFlag s.rules n a → settle_fault s.rules s.args_override_self h ≡ []
    → use_fault s.args_override_self a [] (settled s.rules h).rows ≡ []
    → turn_fault s [] (walk_from h) (long_word n) ≡ []
flag_fault s h n a o settles uses = rw (o.named.dashes, o.named.long, o.named.by_long, o.takes, settles, uses)

pub flag_walk : (R : List Rule) (h : Held) (n : Text) (a : Rule) (rest : List Text) → IsFlag R n a
    → fold (walked R []) (walk_from h) (long_word n ∷ rest) ≡ fold (walked R []) (walk_from (reacted R a [] h)) rest
flag_walk R h n a rest o = ap (λ z. fold (walked R []) z rest) (flag_step R h n a o)

pub flag_clean : (s : Shape) (h : Held) (n : Text) (a : Rule) (rest : List Text) → IsFlag s.rules n a → settle_fault s.rules s.args_override_self h ≡ []
    → use_fault s.args_override_self a [] (settled s.rules h).rows ≡ []
    → walk_fault s [] (walk_from h) (long_word n ∷ rest) ≡ walk_fault s [] (walk_from (reacted s.rules a [] h)) rest
unfolding walk_fault
flag_clean s h n a rest o settles uses =
    past _ _ (flag_fault s h n a o settles uses) ∙ ap (λ z. walk_fault s [] z rest) (flag_step s.rules h n a o)

-- ---- the rows, where the option was not used before

both_false : (a b : Bool) → (a || b) ≡ false → (a ≡ false) × (b ≡ false)
both_false true b h = cc
both_false false b h = (refl, h)

pub absent_row : (id : Text) (change : Row → List Row) (missing rows : List Row) → has_row id rows ≡ false → at_row id change missing rows ≡ rows ++ missing
absent_row id change missing [] h = refl
absent_row id change missing (r ∷ rs) h =
    let p = both_false (bytes_eq r.id id) (has_row id rs) h in
    rw p.0 (ap (λ l. r ∷ l) (absent_row id change missing rs p.1))

gone : (id : Text) (rows : List Row) → has_row id rows ≡ false → without id rows ≡ rows
gone id rows fresh = absent_row id (λ _. []) [] rows fresh ∙ append-nil rows

pub value_rows : (s : Shape) (h : Held) (rows : List Row) (n v : Text) (a : Rule) → IsValued s.rules n a → (settled s.rules h).rows ≡ rows
    → has_row a.id rows ≡ false
    → (settled s.rules (has_got s.rules n v h)).rows ≡ rows ++ row_with a v ∷ []
value_rows s h rows n v a o e fresh =
    rw (o.by_id, o.set, e, gone a.id rows fresh) (absent_row a.id (more_values CommandLine (v ∷ [])) (row_with a v ∷ []) rows fresh)

pub value_settles : (s : Shape) (h : Held) (rows : List Row) (n v : Text) (a : Rule) → IsValued s.rules n a → (settled s.rules h).rows ≡ rows
    → has_row a.id rows ≡ false
    → settle_fault s.rules s.args_override_self (has_got s.rules n v h) ≡ []
value_settles s h rows n v a o e fresh = rw (o.by_id, o.most, o.range, o.set, e, fresh, o.passes v)

pub flag_rows : (R : List Rule) (n : Text) (a : Rule) (rows : List Row) → IsFlag R n a → has_row a.id rows ≡ false
    → used a [] rows ≡ rows ++ row_with a (codes "true") ∷ []
flag_rows R n a rows o fresh =
    rw (o.set, o.missing, gone a.id rows fresh) (absent_row a.id (more_values CommandLine (codes "true" ∷ [])) (row_with a (codes "true") ∷ []) rows fresh)

pub flag_uses : (R : List Rule) (again : Bool) (n : Text) (a : Rule) (rows : List Row) → IsFlag R n a → has_row a.id rows ≡ false
    → use_fault again a [] rows ≡ []
flag_uses R again n a rows o fresh = rw (o.most, o.range, o.set, o.missing, fresh) o.passes

pub joined_rows : (R : List Rule) (n v : Text) (a : Rule) (rows : List Row) → IsValued R n a → has_row a.id rows ≡ false
    → used a (v ∷ []) rows ≡ rows ++ row_with a v ∷ []
joined_rows R n v a rows o fresh =
    rw (o.set, gone a.id rows fresh) (absent_row a.id (more_values CommandLine (v ∷ [])) (row_with a v ∷ []) rows fresh)

pub joined_uses : (R : List Rule) (again : Bool) (n v : Text) (a : Rule) (rows : List Row) → IsValued R n a → has_row a.id rows ≡ false
    → use_fault again a (v ∷ []) rows ≡ []
joined_uses R again n v a rows o fresh = rw (o.most, o.range, o.set, fresh) (o.passes v)
