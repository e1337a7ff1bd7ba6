-- What the rows of options and defaults say of an option.
use Rattle.std.proofs.Common.{◌≡◌, ◌++◌, ◌||◌, not, Bool, true, false, refl, List, [], ◌∷◌, Some, None, fold, codes, if◌then◌else◌, ap, ◌∙◌, arith, inl, inr}
use Rattle.std.proofs.{lemmas.Bool.{and_parts, cases_Bool}, lemmas.Bool.Decides.{nat_tests}, lemmas.Slice.Eq.{bytes_eq-Decides}}
use Rattle.std.specs.{Prelude.{slice_get}, List.{list_all, list_any}, Str.{bytes_eq}}
use Rattle.clap.specs.{Walk.{Row, Rule, Text, default_rows, first_of, has_row, is_empty, more_values, reading_by, with_default}, Takes.{is_given}}
use Rattle.clap.specs.declared.parser.matches.ValueSource.TheVariants.{DefaultValue}
use Rattle.gs_words.specs.{Plain.{Given, valued, joined, flagged, given_for, name_of}, Requests.{is_set}}
use Rattle.gs_words.proofs.{Options.{absent_row}, AnyOrder.{AreGiven, all_rows, not_true, rows_for}}

-- ---- the options alone

first_of-rows_for : (R : List Rule) (gs : List Given) (given : AreGiven R gs) (id : Text) → first_of id (rows_for R gs given) ≡ given_for gs id
first_of-rows_for R [] given id = refl
first_of-rows_for R (valued n v ∷ gs) given id =
    elim (cases_Bool (bytes_eq n id)) [
      | inl t ↦ rw (given.0.1.named.id, t) refl
      | inr f ↦ rw (given.0.1.named.id, f) (first_of-rows_for R gs given.1 id)
    ]
first_of-rows_for R (joined n v ∷ gs) given id =
    elim (cases_Bool (bytes_eq n id)) [
      | inl t ↦ rw (given.0.1.named.id, t) refl
      | inr f ↦ rw (given.0.1.named.id, f) (first_of-rows_for R gs given.1 id)
    ]
first_of-rows_for R (flagged n ∷ gs) given id =
    elim (cases_Bool (bytes_eq n id)) [
      | inl t ↦ rw (given.0.1.named.id, t) refl
      | inr f ↦ rw (given.0.1.named.id, f) (first_of-rows_for R gs given.1 id)
    ]

is_given-rows_for : (R : List Rule) (gs : List Given) (given : AreGiven R gs) (id : Text) → list_any (λ g. bytes_eq (name_of g) id) gs ≡ true
    → is_given id (rows_for R gs given) ≡ true
is_given-rows_for R [] given id h = cc
is_given-rows_for R (valued n v ∷ gs) given id h =
    elim (cases_Bool (bytes_eq n id)) [
      | inl t ↦ rw (given.0.1.named.id, t) refl
      | inr f ↦ rw (given.0.1.named.id, f) (is_given-rows_for R gs given.1 id (rw f at h))
    ]
is_given-rows_for R (joined n v ∷ gs) given id h =
    elim (cases_Bool (bytes_eq n id)) [
      | inl t ↦ rw (given.0.1.named.id, t) refl
      | inr f ↦ rw (given.0.1.named.id, f) (is_given-rows_for R gs given.1 id (rw f at h))
    ]
is_given-rows_for R (flagged n ∷ gs) given id h =
    elim (cases_Bool (bytes_eq n id)) [
      | inl t ↦ rw (given.0.1.named.id, t) refl
      | inr f ↦ rw (given.0.1.named.id, f) (is_given-rows_for R gs given.1 id (rw f at h))
    ]

-- ---- one row more

first_of-other : (id : Text) (rows : List Row) (r : Row) → bytes_eq r.id id ≡ false → first_of id (rows ++ r ∷ []) ≡ first_of id rows
first_of-other id [] r e = rw e refl
first_of-other id (x ∷ xs) r e =
    elim (cases_Bool (bytes_eq x.id id)) [
      | inl t ↦ rw t refl
      | inr f ↦ rw f (first_of-other id xs r e)
    ]

first_of-absent : (id : Text) (rows : List Row) → has_row id rows ≡ false → first_of id rows ≡ None
first_of-absent id [] h = refl
first_of-absent id (x ∷ xs) h =
    elim (cases_Bool (bytes_eq x.id id)) [
      | inl t ↦ let bad = rw t at h in cc
      | inr f ↦ rw f (first_of-absent id xs (rw f at h))
    ]

first_of-new : (id : Text) (rows : List Row) (r : Row) → has_row id rows ≡ false → bytes_eq r.id id ≡ true
    → first_of id (rows ++ r ∷ []) ≡ slice_get r.values 0
first_of-new id [] r h e = rw e refl
first_of-new id (x ∷ xs) r h e =
    elim (cases_Bool (bytes_eq x.id id)) [
      | inl t ↦ let bad = rw t at h in cc
      | inr f ↦ rw f (first_of-new id xs r (rw f at h) e)
    ]

is_given-more : (id : Text) (rows : List Row) (r : Row) → is_given id rows ≡ true → is_given id (rows ++ r ∷ []) ≡ true
is_given-more id [] r h = cc
is_given-more id (x ∷ xs) r h =
    elim (cases_Bool (bytes_eq x.id id)) [
      | inl t ↦ rw t (rw t at h)
      | inr f ↦ rw f (is_given-more id xs r (rw f at h))
    ]

-- ---- defaults

-- the row of a default
abbrev default_row : Rule → Text → List Text → Row
default_row a d ds = record { id = a.id; values = d ∷ ds; count = None; source = Some DefaultValue; reading = reading_by a }

default_is : (a : Rule) (d : Text) (ds : List Text) (rows : List Row) → has_row a.id rows ≡ false
    → default_rows a.id (reading_by a) (d ∷ ds) rows ≡ rows ++ default_row a d ds ∷ []
default_is a d ds rows fresh = absent_row a.id (more_values DefaultValue (d ∷ ds)) (default_row a d ds ∷ []) rows fresh

not_empty : (d : Text) (ds : List Text) → is_empty (d ∷ ds) ≡ false
not_empty d ds = grind (arith, nat_tests)

-- it has no default, or is another option
abbrev pub is_kept : Text → Rule → Bool
is_kept id a = is_empty a.defaults || not (bytes_eq a.id id)

first_of-default : (id : Text) (rows : List Row) (a : Rule) → is_kept id a ≡ true → first_of id (with_default rows a) ≡ first_of id rows
first_of-default id rows a h = go (has_row a.id rows) a.defaults refl h
  where
    go : (b : Bool) (ds : List Text) → has_row a.id rows ≡ b → (is_empty ds || not (bytes_eq a.id id)) ≡ true
        → first_of id (if b then rows else default_rows a.id (reading_by a) ds rows) ≡ first_of id rows
    go true ds e k = refl
    go false [] e k = refl
    go false (d ∷ ds) e k =
        let other : not (bytes_eq a.id id) ≡ true = rw (not_empty d ds) at k in
        rw (default_is a d ds rows e) (first_of-other id rows (default_row a d ds) (not_true (bytes_eq a.id id) other))

-- its default is no `true`
abbrev pub is_quiet : Rule → Bool
is_quiet a = not (is_set (slice_get a.defaults 0))

is_set-default : (id : Text) (rows : List Row) (a : Rule) → is_quiet a ≡ true → is_set (first_of id (with_default rows a)) ≡ is_set (first_of id rows)
is_set-default id rows a h = go (has_row a.id rows) a.defaults refl h
  where
    go : (b : Bool) (ds : List Text) → has_row a.id rows ≡ b → not (is_set (slice_get ds 0)) ≡ true
        → is_set (first_of id (if b then rows else default_rows a.id (reading_by a) ds rows)) ≡ is_set (first_of id rows)
    go true ds e k = refl
    go false [] e k = refl
    go false (d ∷ ds) e k =
        elim (cases_Bool (bytes_eq a.id id)) [
          | inl t ↦
              let same : a.id ≡ id = (bytes_eq-Decides a.id id).0 t in
              let fresh : has_row id rows ≡ false = rw same at e in
              rw (
                default_is a d ds rows e,
                first_of-new id rows (default_row a d ds) fresh t,
                first_of-absent id rows fresh,
              ) (not_true (bytes_eq d (codes "true")) k)
          | inr f ↦ rw (default_is a d ds rows e) (ap is_set (first_of-other id rows (default_row a d ds) f))
        ]

is_given-default : (id : Text) (rows : List Row) (a : Rule) → is_given id rows ≡ true → is_given id (with_default rows a) ≡ true
is_given-default id rows a h = go (has_row a.id rows) a.defaults refl
  where
    go : (b : Bool) (ds : List Text) → has_row a.id rows ≡ b → is_given id (if b then rows else default_rows a.id (reading_by a) ds rows) ≡ true
    go true ds e = h
    go false [] e = h
    go false (d ∷ ds) e = rw (default_is a d ds rows e) (is_given-more id rows (default_row a d ds) h)

first_of-defaults : (id : Text) (rules : List Rule) (rows : List Row) → list_all (is_kept id) rules ≡ true
    → first_of id (fold with_default rows rules) ≡ first_of id rows
first_of-defaults id [] rows h = refl
first_of-defaults id (a ∷ rest) rows h =
    let p = and_parts (is_kept id a) (list_all (is_kept id) rest) h in
    first_of-defaults id rest (with_default rows a) p.1 ∙ first_of-default id rows a p.0

is_set-defaults : (id : Text) (rules : List Rule) (rows : List Row) → list_all is_quiet rules ≡ true
    → is_set (first_of id (fold with_default rows rules)) ≡ is_set (first_of id rows)
is_set-defaults id [] rows h = refl
is_set-defaults id (a ∷ rest) rows h =
    let p = and_parts (is_quiet a) (list_all is_quiet rest) h in
    is_set-defaults id rest (with_default rows a) p.1 ∙ is_set-default id rows a p.0

is_given-defaults : (id : Text) (rules : List Rule) (rows : List Row) → is_given id rows ≡ true → is_given id (fold with_default rows rules) ≡ true
is_given-defaults id [] rows h = h
is_given-defaults id (a ∷ rest) rows h = is_given-defaults id rest (with_default rows a) (is_given-default id rows a h)

-- ---- the options and the defaults

pub same_value : (R : List Rule) (gs : List Given) (given : AreGiven R gs) (id : Text) → list_all (is_kept id) R ≡ true
    → first_of id (all_rows R gs given) ≡ given_for gs id
same_value R gs given id h = first_of-defaults id R (rows_for R gs given) h ∙ first_of-rows_for R gs given id

pub same_flag : (R : List Rule) (gs : List Given) (given : AreGiven R gs) (id : Text) → list_all is_quiet R ≡ true
    → is_set (first_of id (all_rows R gs given)) ≡ is_set (given_for gs id)
same_flag R gs given id h = is_set-defaults id R (rows_for R gs given) h ∙ ap is_set (first_of-rows_for R gs given id)

pub is_there : (R : List Rule) (gs : List Given) (given : AreGiven R gs) (id : Text) → list_any (λ g. bytes_eq (name_of g) id) gs ≡ true
    → is_given id (all_rows R gs given) ≡ true
is_there R gs given id h = is_given-defaults id R (rows_for R gs given) (is_given-rows_for R gs given id h)
