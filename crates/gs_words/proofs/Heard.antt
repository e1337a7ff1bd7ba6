-- What a command's level accepts are options of it, and perhaps `--`.
use Rattle.std.proofs.Common.{◌≡◌, ◌++◌, ◌||◌, ◌&&◌, not, ℕ, Bool, true, false, refl, sym, subst, List, [], ◌∷◌, Option, Some, None, codes, ap, inl, inr, fold}
use Rattle.std.proofs.{lemmas.Bool.{and_parts, cases_Bool, false≢true}, lemmas.Slice.Eq.{bytes_eq-Decides}}
use Rattle.std.specs.{Prelude.{is_some, if◌then◌else◌}, List.{list_all, list_any}, Str.{IsUtf8, bytes_eq}}
use Rattle.clap.specs.Walk.{Held, Row, Rule, Text, Waiting, Walk, idle, option, arg_by_index, arg_by_long, arg_by_short, has_row, reacted, settled, takes_values, walk_from, walked}
use Rattle.clap.specs.{Simple.{Shape}, Kinds.{Kinds, or_else}, Lexer.{long_of, short_of}}
use Rattle.clap.specs.Faults.{bundle_fault, long_fault, option_fault, react_fault, settle_fault, stray_fault, turn_fault, use_fault, walk_fault, word_fault}
use Rattle.clap.specs.declared.error.kind.ErrorKind.{ErrorKind}
use Rattle.gs_words.specs.{Commands.{OptionOf}, Plain.{Given, valued, joined, flagged, end_words, is_given_as, is_plain_value, joined_word, long_word, name_of, option_words, stand_once}}
use Rattle.gs_words.proofs.{AnyOrder.{are_fresh, not_true}, Lexed.{Lexed, ends, long, joins, short, word, first_char, lexed}, Obeyed.{AreKnown, IsKnown, are_given_as}}
use Rattle.gs_words.proofs.Options.{IsValued, IsFlag, IsWord, has_got, joined_rows, flag_rows, value_rows, plain_is, row_with, waits_for, value_step, option_step, joined_step, flag_step}
use Rattle.gs_words.proofs.Every.{either_false, first_none, no_bundle, no_long_help, no_stray, not_none, rules_for, then_none}

-- what is known of a command's level
pub record IsLevel (s : Shape) (os : List OptionOf) : Type 0 where
  pub known : AreKnown s.rules os
  pub once : s.args_override_self ≡ false
  pub longs : (n : Text) → list_any (λ o. bytes_eq o.name n) os ≡ false → arg_by_long s.rules n ≡ arg_by_long (rules_for []) n
  pub shorts : (x : ℕ) → arg_by_short s.rules x ≡ arg_by_short (rules_for []) x
  pub index : (i : ℕ) → arg_by_index s.rules i ≡ None

-- ---- an option that the command has

data Form (R : List Rule) (os : List OptionOf) (n : Text) : Type 0 where
  is_flag : (a : Rule) → IsFlag R n a → list_any (λ o. is_given_as o (flagged n)) os ≡ true → Form R os n
  is_valued : (a : Rule) → IsValued R n a → ((v : Text) → is_plain_value v ≡ true → list_any (λ o. is_given_as o (valued n v)) os ≡ true)
      → ((v : Text) → list_any (λ o. is_given_as o (joined n v)) os ≡ true) → Form R os n

or_later : (a b : Bool) → b ≡ true → (a || b) ≡ true
or_later true b h = refl
or_later false b h = h

or_first : (a b : Bool) → a ≡ true → (a || b) ≡ true
or_first true b h = refl
or_first false b h = cc

form_here : (R : List Rule) (os : List OptionOf) (name n : Text) (required takes : Bool) → name ≡ n → IsKnown R name takes
    → Form R (record { name = name; is_required = required; takes_value = takes } ∷ os) n
form_here R os name n required false e k =
    let same : bytes_eq n name ≡ true = (bytes_eq-Decides n name).1 (sym e) in
    is_flag k.0 (subst (λ (m : Text). IsFlag R m k.0) e k.1) (rw same refl)
form_here R os name n required true e k =
    let same : bytes_eq n name ≡ true = (bytes_eq-Decides n name).1 (sym e) in
    is_valued k.0 (subst (λ (m : Text). IsValued R m k.0) e k.1) (λ v plain. rw (same, plain) refl) (λ v. rw same refl)

form_later : (R : List Rule) (o : OptionOf) (os : List OptionOf) (n : Text) → Form R os n → Form R (o ∷ os) n
form_later R o os n (is_flag a f h) = is_flag a f (or_later (is_given_as o (flagged n)) _ h)
form_later R o os n (is_valued a f g h) =
    is_valued a f (λ v plain. or_later (is_given_as o (valued n v)) _ (g v plain)) (λ v. or_later (is_given_as o (joined n v)) _ (h v))

form : (R : List Rule) (os : List OptionOf) (n : Text) → AreKnown R os → list_any (λ o. bytes_eq o.name n) os ≡ true → Form R os n
form R [] n k h = absurd (false≢true h)
form R (o ∷ os) n k h =
    elim (cases_Bool (bytes_eq o.name n)) [
      | inl t ↦ form_here R os o.name n o.is_required o.takes_value ((bytes_eq-Decides o.name n).0 t) k.0
      | inr f ↦ form_later R o os n (form R os n k.1 (rw f at h))
    ]

-- ---- the turn of a word

abbrev stand : Held → Waiting → Bool → Walk
stand h waiting trailing = record { held = h; waiting = waiting; position = 1; is_trailing = trailing; stopped = None }

word_first : (s : Shape) (h : Held) (w : Text) → turn_fault s [] (stand h idle false) w ≡ [] → word_fault s [] false idle w h ≡ []
word_first s h w e = first_none (word_fault s [] false idle w h) _ e

waiting_first : (s : Shape) (h : Held) (n w : Text) → turn_fault s [] (stand h (option n) false) w ≡ [] → word_fault s [] false (option n) w h ≡ []
waiting_first s h n w e = first_none (word_fault s [] false (option n) w h) _ e

-- after `--` no word may come
no_trailing : (s : Shape) (os : List OptionOf) (l : IsLevel s os) (h : Held) (waiting : Waiting) (w : Text) (ws : List Text)
    → walk_fault s [] (stand h waiting true) (w ∷ ws) ≡ [] → ⊥
unfolding walk_fault
no_trailing s os l h waiting w ws e =
    let t : turn_fault s [] (stand h waiting true) w ≡ [] = first_none (turn_fault s [] (stand h waiting true) w) _ e in
    let bad : stray_fault s ≡ [] = rw (l.index 1) at t in
    no_stray s bad

-- a word that is no option is refused where nothing waits for it
no_word : (s : Shape) (os : List OptionOf) (l : IsLevel s os) (h : Held) (w : Text) → IsWord w → turn_fault s [] (stand h idle false) w ≡ [] → ⊥
no_word s os l h w i e =
    let bad : stray_fault s ≡ [] = rw (i.dashes, i.long, i.short, l.index 1) at e in
    no_stray s bad

-- ---- an option that waits for its value

unsettled : (R : List Rule) (again : Bool) (n : Text) (a : Rule) (h : Held) → IsValued R n a → settle_fault R again (waits_for R n h).held ≡ [] → ⊥
unsettled R again n a h o e =
    let bad = rw (o.by_id, o.range) at e in
    not_none _ _ bad

unsettled_long : (R : List Rule) (again : Bool) (o : Option Rule) (v : Option Text) (h : Held) → (settle_fault R again h ≡ [] → ⊥)
    → long_fault R again o v h ≡ [] → ⊥
unsettled_long R again None v h pends e = not_none _ _ e
unsettled_long R again (Some a) v h pends e = go (takes_values a) v e
  where
    go : (b : Bool) (v : Option Text)
        → (if b then option_fault R again a v h else (if is_some v then ErrorKind.TooManyValues ∷ [] else react_fault R again a [] h)) ≡ [] → ⊥
    go true None e = pends e
    go true (Some x) e = pends (first_none (settle_fault R again h) (use_fault again a (x ∷ []) (settled R h).rows) e)
    go false None e = pends (first_none (settle_fault R again h) (use_fault again a [] (settled R h).rows) e)
    go false (Some x) e = not_none _ _ e

-- each word is a text
abbrev pub AreTexts : List Text → Type 0
AreTexts [] = Unit {0}
AreTexts (w ∷ ws) = IsUtf8 w × AreTexts ws

-- the words start with a value
record Valued (ws : List Text) : Type 0 where
  v : Text
  rest : List Text
  are : ws ≡ v ∷ rest
  plain : is_plain_value v ≡ true

no_long_waits : (s : Shape) (os : List OptionOf) (l : IsLevel s os) (n : Text) (a : Rule) (h : Held) (o : IsValued s.rules n a) (w m : Text)
    (v : Option Text) → bytes_eq w (45 ∷ 45 ∷ []) ≡ false → long_of w ≡ Some (m, v) → turn_fault s [] (waits_for s.rules n h) w ≡ [] → ⊥
no_long_waits s os l n a h o w m v dashes is e =
    let held = (waits_for s.rules n h).held in
    let f : long_fault s.rules s.args_override_self (arg_by_long s.rules m) v held ≡ [] = rw (dashes, is) at (waiting_first s held n w e) in
    unsettled_long s.rules s.args_override_self (arg_by_long s.rules m) v held (unsettled s.rules s.args_override_self n a h o) f

no_short_waits : (s : Shape) (os : List OptionOf) (l : IsLevel s os) (h : Held) (waiting : Waiting) (w : Text) (x : ℕ) (xs : List ℕ) → IsUtf8 w
    → w ≡ 45 ∷ x ∷ xs → bytes_eq w (45 ∷ 45 ∷ []) ≡ false → long_of w ≡ None → short_of w ≡ Some (x ∷ xs) → h.skip ≡ 0
    → bundle_fault s.rules s.args_override_self (x ∷ xs) h ≡ [] → ⊥
no_short_waits s os l h waiting w x xs u is dashes longs shorts skip e =
    let c = first_char x xs (subst IsUtf8 is u) in
    no_bundle s.rules s.args_override_self x xs h c.0 l.shorts c.1 skip e

-- what follows an option that waits is its value
value_next : (s : Shape) (os : List OptionOf) (l : IsLevel s os) (n : Text) (a : Rule) (h : Held) (o : IsValued s.rules n a) → h.skip ≡ 0
    → (ws : List Text) → AreTexts ws
    → walk_fault s [] (waits_for s.rules n h) ws ≡ []
    → settle_fault s.rules s.args_override_self (fold (walked s.rules []) (waits_for s.rules n h) ws).held ≡ [] → Valued ws
unfolding walk_fault walked
value_next s os l n a h o skip [] u e settles = absurd (unsettled s.rules s.args_override_self n a h o settles)
value_next s os l n a h o skip (w ∷ rest) u e settles = go (lexed w)
  where
    t : turn_fault s [] (waits_for s.rules n h) w ≡ []
    t = first_none (turn_fault s [] (waits_for s.rules n h) w) _ e

    ended : (ws : List Text) → walk_fault s [] (waits_for s.rules n h) (codes "--" ∷ ws) ≡ []
        → settle_fault s.rules s.args_override_self (fold (walked s.rules []) (waits_for s.rules n h) (codes "--" ∷ ws)).held ≡ [] → ⊥
    ended [] e settles = unsettled s.rules s.args_override_self n a h o settles
    ended (x ∷ xs) e settles =
        no_trailing s os l (waits_for s.rules n h).held (option n) x xs (then_none (turn_fault s [] (waits_for s.rules n h) (codes "--")) _ e)

    go : Lexed w → Valued (w ∷ rest)
    go (ends is) =
        absurd (ended rest (subst (λ (x : Text). walk_fault s [] (waits_for s.rules n h) (x ∷ rest) ≡ []) is e)
        (subst (λ (x : Text). settle_fault s.rules s.args_override_self (fold (walked s.rules []) (waits_for s.rules n h) (x ∷ rest)).held ≡ []) is settles))
    go (long m is longs dashes) = absurd (no_long_waits s os l n a h o w m None dashes longs t)
    go (joins m v is longs dashes) = absurd (no_long_waits s os l n a h o w m (Some v) dashes longs t)
    go (short x xs is shorts longs dashes) =
        let held = (waits_for s.rules n h).held in
        let f : bundle_fault s.rules s.args_override_self (x ∷ xs) held ≡ [] = rw (dashes, longs, shorts) at (waiting_first s held n w t) in
        absurd (no_short_waits s os l held (option n) w x xs u.0 is dashes longs shorts skip f)
    go (word plain) = record { v = w; rest = rest; are = refl; plain = plain }

-- ---- an option more

-- the words are options that were not used before, and perhaps `--`
pub record Heard (s : Shape) (os : List OptionOf) (h : Held) (ws : List Text) : Type 0 where
  pub clear : settle_fault s.rules s.args_override_self h ≡ []
  pub gs : List Given
  pub ended : Bool
  pub are : ws ≡ option_words gs ++ end_words ended
  pub forms : are_given_as os gs ≡ true
  pub fresh : are_fresh (settled s.rules h).rows gs ≡ true
  pub once : stand_once gs ≡ true

no_row : (id : Text) (rows : List Row) (r : Row) → has_row id (rows ++ r ∷ []) ≡ false → (has_row id rows ≡ false) × (bytes_eq r.id id ≡ false)
no_row id [] r h = (refl, (either_false (bytes_eq r.id id) false h).0)
no_row id (x ∷ xs) r h =
    let p = either_false (bytes_eq x.id id) (has_row id (xs ++ r ∷ [])) h in
    let q = no_row id xs r p.1 in
    (rw (p.0, q.0) refl, q.1)

apart_from : (rows : List Row) (r : Row) (n : Text) (gs : List Given) → r.id ≡ n → are_fresh (rows ++ r ∷ []) gs ≡ true
    → (are_fresh rows gs ≡ true) × (list_all (λ g. not (bytes_eq n (name_of g))) gs ≡ true)
apart_from rows r n [] e h = (refl, refl)
apart_from rows r n (g ∷ gs) e h =
    let p = and_parts (not (has_row (name_of g) (rows ++ r ∷ []))) (are_fresh (rows ++ r ∷ []) gs) h in
    let q = no_row (name_of g) rows r (not_true (has_row (name_of g) (rows ++ r ∷ [])) p.0) in
    let rest = apart_from rows r n gs e p.1 in
    let other : bytes_eq n (name_of g) ≡ false = rw e at q.1 in
    (rw (q.0, rest.0) refl, rw (other, rest.1) refl)

one_more : (s : Shape) (os : List OptionOf) (h later : Held) (g : Given) (r : Row) (ws rest : List Text)
    → settle_fault s.rules s.args_override_self h ≡ [] → list_any (λ o. is_given_as o g) os ≡ true → r.id ≡ name_of g
    → has_row (name_of g) (settled s.rules h).rows ≡ false → (settled s.rules later).rows ≡ (settled s.rules h).rows ++ r ∷ []
    → ((gs : List Given) (ended : Bool) → rest ≡ option_words gs ++ end_words ended → ws ≡ option_words (g ∷ gs) ++ end_words ended)
    → Heard s os later rest → Heard s os h ws
one_more s os h later g r ws rest clear given id new rows words k =
    let p = apart_from (settled s.rules h).rows r (name_of g) k.gs id (subst (λ (l : List Row). are_fresh l k.gs ≡ true) rows k.fresh) in
    record {
      clear = clear;
      gs = g ∷ k.gs;
      ended = k.ended;
      are = words k.gs k.ended k.are;
      forms = rw (given, k.forms) refl;
      fresh = rw (new, p.0) refl;
      once = rw (p.1, k.once) refl;
    }

not_again : (b again : Bool) (k : Kinds) → again ≡ false → or_else (if b && not again then ErrorKind.ArgumentConflict ∷ [] else []) k ≡ [] → b ≡ false
not_again true again k e h = let bad = rw e at h in absurd (not_none _ _ bad)
not_again false again k e h = refl

flag_new : (R : List Rule) (again : Bool) (n : Text) (a : Rule) (rows : List Row) → IsFlag R n a → again ≡ false → use_fault again a [] rows ≡ []
    → has_row n rows ≡ false
flag_new R again n a rows o once e =
    let f = rw (o.most, o.range, o.set, o.missing, o.named.id) at e in
    not_again (has_row n rows) again _ once f

joined_new : (R : List Rule) (again : Bool) (n v : Text) (a : Rule) (rows : List Row) → IsValued R n a → again ≡ false → use_fault again a (v ∷ []) rows ≡ []
    → has_row n rows ≡ false
joined_new R again n v a rows o once e =
    let f = rw (o.most, o.range, o.set, o.named.id) at e in
    not_again (has_row n rows) again _ once f

value_new : (R : List Rule) (again : Bool) (n v : Text) (a : Rule) (h : Held) → IsValued R n a → again ≡ false
    → settle_fault R again (has_got R n v h) ≡ [] → has_row n (settled R h).rows ≡ false
value_new R again n v a h o once e =
    let f = rw (o.by_id, o.most, o.range, o.set, o.named.id) at e in
    not_again (has_row n (settled R h).rows) again _ once f

-- ---- the words

abbrev IsClean : Shape → Held → List Text → Type 0
IsClean s h ws = (walk_fault s [] (walk_from h) ws ≡ []) × (settle_fault s.rules s.args_override_self (fold (walked s.rules []) (walk_from h) ws).held ≡ [])

-- what is known of the words behind a word
abbrev Hears : Shape → List OptionOf → List Text → Type 0
Hears s os ws = (h : Held) → h.skip ≡ 0 → IsClean s h ws → Heard s os h ws

-- and of those behind the first of them
abbrev HearsLater : Shape → List OptionOf → List Text → Type 0
HearsLater s os [] = Unit {0}
HearsLater s os (v ∷ rest) = Hears s os rest

later_of : (s : Shape) (os : List OptionOf) (ws : List Text) (v : Text) (rest : List Text) → ws ≡ v ∷ rest → HearsLater s os ws → Hears s os rest
later_of s os ws v rest e k = subst (HearsLater s os) e k

flag_heard : (s : Shape) (os : List OptionOf) (l : IsLevel s os) (n : Text) (a : Rule) (o : IsFlag s.rules n a)
    → list_any (λ q. is_given_as q (flagged n)) os ≡ true → (ws : List Text) → Hears s os ws → Hears s os (long_word n ∷ ws)
unfolding walk_fault walked
flag_heard s os l n a o given ws k h skip clean =
    let R = s.rules in
    let again = s.args_override_self in
    let t : turn_fault s [] (walk_from h) (long_word n) ≡ [] = first_none (turn_fault s [] (walk_from h) (long_word n)) _ clean.0 in
    let r : react_fault R again a [] h ≡ [] = rw (o.named.dashes, o.named.long, o.named.by_long, o.takes) at (word_first s h (long_word n) t) in
    let settles = first_none (settle_fault R again h) (use_fault again a [] (settled R h).rows) r in
    let new = flag_new R again n a (settled R h).rows o l.once (then_none (settle_fault R again h) (use_fault again a [] (settled R h).rows) r) in
    let fresh : has_row a.id (settled R h).rows ≡ false = rw o.named.id new in
    let step = flag_step R h n a o in
    let rest = k (reacted R a [] h) skip (
      subst (λ (w : Walk). walk_fault s [] w ws ≡ []) step (then_none (turn_fault s [] (walk_from h) (long_word n)) _ clean.0),
      subst (λ (w : Walk). settle_fault R again (fold (walked R []) w ws).held ≡ []) step clean.1,
    ) in
    one_more s os h (reacted R a [] h) (flagged n) (row_with a (codes "true")) (long_word n ∷ ws) ws settles given o.named.id new
    (flag_rows R n a (settled R h).rows o fresh) (λ gs ended e. ap (λ (x : List Text). long_word n ∷ x) e) rest

joined_heard : (s : Shape) (os : List OptionOf) (l : IsLevel s os) (n v : Text) (a : Rule) (o : IsValued s.rules n a)
    → list_any (λ q. is_given_as q (joined n v)) os ≡ true → (ws : List Text) → Hears s os ws → Hears s os (joined_word n v ∷ ws)
unfolding walk_fault walked
joined_heard s os l n v a o given ws k h skip clean =
    let R = s.rules in
    let again = s.args_override_self in
    let word = joined_word n v in
    let t : turn_fault s [] (walk_from h) word ≡ [] = first_none (turn_fault s [] (walk_from h) word) _ clean.0 in
    let r : react_fault R again a (v ∷ []) h ≡ [] = rw (o.joined_dashes v, o.joined v, o.named.by_long, o.takes) at (word_first s h word t) in
    let settles = first_none (settle_fault R again h) (use_fault again a (v ∷ []) (settled R h).rows) r in
    let new = joined_new R again n v a (settled R h).rows o l.once (then_none (settle_fault R again h) (use_fault again a (v ∷ []) (settled R h).rows) r) in
    let fresh : has_row a.id (settled R h).rows ≡ false = rw o.named.id new in
    let step = joined_step R h n v a o in
    let rest = k (reacted R a (v ∷ []) h) skip (
      subst (λ (w : Walk). walk_fault s [] w ws ≡ []) step (then_none (turn_fault s [] (walk_from h) word) _ clean.0),
      subst (λ (w : Walk). settle_fault R again (fold (walked R []) w ws).held ≡ []) step clean.1,
    ) in
    one_more s os h (reacted R a (v ∷ []) h) (joined n v) (row_with a v) (word ∷ ws) ws settles given o.named.id new
    (joined_rows R n v a (settled R h).rows o fresh) (λ gs ended e. ap (λ (x : List Text). word ∷ x) e) rest

-- an option, and then its value in the next word
value_heard : (s : Shape) (os : List OptionOf) (l : IsLevel s os) (n v : Text) (a : Rule) (o : IsValued s.rules n a) → is_plain_value v ≡ true
    → list_any (λ q. is_given_as q (valued n v)) os ≡ true → (ws : List Text) → Hears s os ws → Hears s os (long_word n ∷ v ∷ ws)
unfolding walk_fault walked
value_heard s os l n v a o plain given ws k h skip clean =
    let R = s.rules in
    let again = s.args_override_self in
    let t : turn_fault s [] (walk_from h) (long_word n) ≡ [] = first_none (turn_fault s [] (walk_from h) (long_word n)) _ clean.0 in
    let settles : settle_fault R again h ≡ [] = rw (o.named.dashes, o.named.long, o.named.by_long, o.takes) at (word_first s h (long_word n) t) in
    let step = option_step R h n a o in
    let more = value_step R h n a v o (plain_is v plain) in
    let waits = subst (λ (w : Walk). walk_fault s [] w (v ∷ ws) ≡ []) step (then_none (turn_fault s [] (walk_from h) (long_word n)) _ clean.0) in
    let rest = k (has_got R n v h) skip (
      subst (λ (w : Walk). walk_fault s [] w ws ≡ []) more (then_none (turn_fault s [] (waits_for R n h) v) _ waits),
      subst (λ (w : Walk). settle_fault R again (fold (walked R []) w ws).held ≡ []) more
          (subst (λ (w : Walk). settle_fault R again (fold (walked R []) w (v ∷ ws)).held ≡ []) step clean.1),
    ) in
    let new = value_new R again n v a h o l.once rest.clear in
    let fresh : has_row a.id (settled R h).rows ≡ false = rw o.named.id new in
    one_more s os h (has_got R n v h) (valued n v) (row_with a v) (long_word n ∷ v ∷ ws) ws settles given o.named.id new
    (value_rows s h (settled R h).rows n v a o refl fresh) (λ gs ended e. ap (λ (x : List Text). long_word n ∷ v ∷ x) e) rest

-- an option that waits, and the words behind it
waits_heard : (s : Shape) (os : List OptionOf) (l : IsLevel s os) (n : Text) (a : Rule) (o : IsValued s.rules n a)
    → ((v : Text) → is_plain_value v ≡ true → list_any (λ q. is_given_as q (valued n v)) os ≡ true) → (ws : List Text) → AreTexts ws
    → HearsLater s os ws → Hears s os (long_word n ∷ ws)
unfolding walk_fault walked
waits_heard s os l n a o given ws u k h skip clean =
    let R = s.rules in
    let again = s.args_override_self in
    let step = option_step R h n a o in
    let v = value_next s os l n a h o skip ws u
    (subst (λ (w : Walk). walk_fault s [] w ws ≡ []) step (then_none (turn_fault s [] (walk_from h) (long_word n)) _ clean.0))
    (subst (λ (w : Walk). settle_fault R again (fold (walked R []) w ws).held ≡ []) step clean.1) in
    subst (λ (x : List Text). Heard s os h (long_word n ∷ x)) (sym v.are)
    (value_heard s os l n v.v a o v.plain (given v.v v.plain) v.rest (later_of s os ws v.v v.rest v.are k) h skip
    (subst (λ (x : List Text). IsClean s h (long_word n ∷ x)) v.are clean))

ended_heard : (s : Shape) (os : List OptionOf) (l : IsLevel s os) (ws : List Text) → Hears s os (codes "--" ∷ ws)
unfolding walk_fault walked
ended_heard s os l [] h skip clean = record { clear = clean.1; gs = []; ended = true; are = refl; forms = refl; fresh = refl; once = refl }
ended_heard s os l (w ∷ ws) h skip clean =
    absurd (no_trailing s os l h idle w ws (then_none (turn_fault s [] (walk_from h) (codes "--")) _ clean.0))

long_heard : (s : Shape) (os : List OptionOf) (l : IsLevel s os) (n : Text) (ws : List Text) → AreTexts ws → Hears s os ws → HearsLater s os ws
    → bytes_eq (long_word n) (45 ∷ 45 ∷ []) ≡ false → long_of (long_word n) ≡ Some (n, None) → Hears s os (long_word n ∷ ws)
unfolding walk_fault walked
long_heard s os l n ws u k later dashes longs h skip clean =
    elim (cases_Bool (list_any (λ o. bytes_eq o.name n) os)) [
      | inl t ↦
          elim (form s.rules os n l.known t) [
            | is_flag a o given ↦ flag_heard s os l n a o given ws k h skip clean
            | is_valued a o given as_one ↦ waits_heard s os l n a o given ws u later h skip clean
          ]
      | inr f ↦
          let t = first_none (turn_fault s [] (walk_from h) (long_word n)) _ clean.0 in
          let bad : long_fault s.rules s.args_override_self (arg_by_long (rules_for []) n) None h ≡ [] =
          rw (dashes, longs, l.longs n f) at (word_first s h (long_word n) t) in
          absurd (no_long_help s.rules s.args_override_self n None h bad)
    ]

joins_heard : (s : Shape) (os : List OptionOf) (l : IsLevel s os) (n v : Text) (ws : List Text) → Hears s os ws
    → bytes_eq (joined_word n v) (45 ∷ 45 ∷ []) ≡ false → long_of (joined_word n v) ≡ Some (n, Some v) → Hears s os (joined_word n v ∷ ws)
unfolding walk_fault walked
joins_heard s os l n v ws k dashes longs h skip clean =
    let word = joined_word n v in
    let t = first_none (turn_fault s [] (walk_from h) word) _ clean.0 in
    elim (cases_Bool (list_any (λ o. bytes_eq o.name n) os)) [
      | inl known ↦
          elim (form s.rules os n l.known known) [
            | is_flag a o given ↦
                let bad : ErrorKind.TooManyValues ∷ [] ≡ [] = rw (dashes, longs, o.named.by_long, o.takes) at (word_first s h word t) in
                absurd (not_none _ _ bad)
            | is_valued a o given as_one ↦ joined_heard s os l n v a o (as_one v) ws k h skip clean
          ]
      | inr f ↦
          let bad : long_fault s.rules s.args_override_self (arg_by_long (rules_for []) n) (Some v) h ≡ [] =
          rw (dashes, longs, l.longs n f) at (word_first s h word t) in
          absurd (no_long_help s.rules s.args_override_self n (Some v) h bad)
    ]

one_heard : (s : Shape) (os : List OptionOf) (l : IsLevel s os) (w : Text) (ws : List Text) → IsUtf8 w → AreTexts ws → Hears s os ws → HearsLater s os ws
    → Lexed w → Hears s os (w ∷ ws)
unfolding walk_fault walked
one_heard s os l w ws u us k later (ends is) h skip clean =
    subst (λ (x : Text). Hears s os (x ∷ ws)) (sym is) (ended_heard s os l ws) h skip clean
one_heard s os l w ws u us k later (long n is longs dashes) h skip clean =
    subst (λ (x : Text). Hears s os (x ∷ ws)) (sym is) (long_heard s os l n ws us k later (rw is at dashes) (rw is at longs)) h skip clean
one_heard s os l w ws u us k later (joins n v is longs dashes) h skip clean =
    subst (λ (x : Text). Hears s os (x ∷ ws)) (sym is) (joins_heard s os l n v ws k (rw is at dashes) (rw is at longs)) h skip clean
one_heard s os l w ws u us k later (short x xs is shorts longs dashes) h skip clean =
    let t = first_none (turn_fault s [] (walk_from h) w) _ clean.0 in
    let f : bundle_fault s.rules s.args_override_self (x ∷ xs) h ≡ [] = rw (dashes, longs, shorts) at (word_first s h w t) in
    absurd (no_short_waits s os l h idle w x xs u is dashes longs shorts skip f)
one_heard s os l w ws u us k later (word plain) h skip clean =
    absurd (no_word s os l h w (plain_is w plain) (first_none (turn_fault s [] (walk_from h) w) _ clean.0))

pub heard : (s : Shape) (os : List OptionOf) (l : IsLevel s os) (ws : List Text) → AreTexts ws → Hears s os ws
heard s os l [] u h skip clean = record { clear = clean.1; gs = []; ended = false; are = refl; forms = refl; fresh = refl; once = refl }
heard s os l (w ∷ []) u h skip clean = one_heard s os l w [] u.0 tt (heard s os l [] tt) tt (lexed w) h skip clean
heard s os l (w ∷ v ∷ ws) u h skip clean =
    one_heard s os l w (v ∷ ws) u.0 u.1 (heard s os l (v ∷ ws) u.1) (heard s os l ws u.1.1) (lexed w) h skip clean
