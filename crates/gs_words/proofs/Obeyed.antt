-- Options that a command has, in their form.
use Rattle.std.proofs.Common.{◌≡◌, Bool, true, false, refl, List, [], ◌∷◌, None, subst, sym, inl, inr}
use Rattle.std.proofs.{lemmas.Bool.{and_parts, cases_Bool, false≢true}, lemmas.Slice.Eq.{bytes_eq-Decides}}
use Rattle.std.specs.{List.{list_all, list_any}, Str.{bytes_eq}}
use Rattle.clap.specs.Walk.{Rule, Text}
use Rattle.gs_words.specs.{Commands.{OptionOf}, Plain.{Given, valued, joined, flagged, given_for, is_given_as, is_plain_value, name_of}}
use Rattle.gs_words.proofs.{Options.{IsValued, IsFlag}, AnyOrder.{AreGiven, IsGiven}}

-- R has each of the options, in its form
abbrev pub IsKnown : List Rule → Text → Bool → Type 0
IsKnown R name false = (a : Rule) × IsFlag R name a
IsKnown R name true = (a : Rule) × IsValued R name a

abbrev pub AreKnown : List Rule → List OptionOf → Type 0
AreKnown R [] = Unit {0}
AreKnown R (o ∷ os) = IsKnown R o.name o.takes_value × AreKnown R os

one_given : (R : List Rule) (name : Text) (takes : Bool) (g : Given) → IsKnown R name takes
    → is_given_as (record { name = name; is_required = false; takes_value = takes }) g ≡ true → IsGiven R g
one_given R name false (valued n v) k h = absurd (false≢true (and_parts (bytes_eq n name) false h).1)
one_given R name true (valued n v) k h =
    let p = and_parts (bytes_eq n name) (is_plain_value v) h in
    let e : n ≡ name = (bytes_eq-Decides n name).0 p.0 in
    (k.0, subst (λ (m : Text). IsValued R m k.0) (sym e) k.1, p.1)
one_given R name false (joined n v) k h = absurd (false≢true (and_parts (bytes_eq n name) false h).1)
one_given R name true (joined n v) k h =
    let e : n ≡ name = (bytes_eq-Decides n name).0 (and_parts (bytes_eq n name) true h).0 in
    (k.0, subst (λ (m : Text). IsValued R m k.0) (sym e) k.1)
one_given R name false (flagged n) k h =
    let e : n ≡ name = (bytes_eq-Decides n name).0 (and_parts (bytes_eq n name) true h).0 in
    (k.0, subst (λ (m : Text). IsFlag R m k.0) (sym e) k.1)
one_given R name true (flagged n) k h = absurd (false≢true (and_parts (bytes_eq n name) false h).1)

known_given : (R : List Rule) (os : List OptionOf) (g : Given) → AreKnown R os → list_any (λ o. is_given_as o g) os ≡ true → IsGiven R g
known_given R [] g k h = absurd (false≢true h)
known_given R (o ∷ os) g k h =
    elim (cases_Bool (is_given_as o g)) [
      | inl t ↦ one_given R o.name o.takes_value g k.0 t
      | inr f ↦ known_given R os g k.1 (rw f at h)
    ]

-- each option is one of these, in its form
abbrev pub are_given_as : List OptionOf → List Given → Bool
are_given_as os gs = list_all (λ g. list_any (λ o. is_given_as o g) os) gs

pub all_given : (R : List Rule) (os : List OptionOf) (gs : List Given) → AreKnown R os → are_given_as os gs ≡ true → AreGiven R gs
all_given R os [] k h = tt
all_given R os (g ∷ gs) k h =
    let p = and_parts (list_any (λ o. is_given_as o g) os) (are_given_as os gs) h in
    (known_given R os g k p.0, all_given R os gs k p.1)

pub absent : (gs : List Given) (name : Text) → list_any (λ g. bytes_eq (name_of g) name) gs ≡ false → given_for gs name ≡ None
absent [] name h = refl
absent (valued n v ∷ gs) name h =
    elim (cases_Bool (bytes_eq n name)) [
      | inl t ↦ let bad = rw t at h in cc
      | inr f ↦ rw f (absent gs name (rw f at h))
    ]
absent (joined n v ∷ gs) name h =
    elim (cases_Bool (bytes_eq n name)) [
      | inl t ↦ let bad = rw t at h in cc
      | inr f ↦ rw f (absent gs name (rw f at h))
    ]
absent (flagged n ∷ gs) name h =
    elim (cases_Bool (bytes_eq n name)) [
      | inl t ↦ let bad = rw t at h in cc
      | inr f ↦ rw f (absent gs name (rw f at h))
    ]
