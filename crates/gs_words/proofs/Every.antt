-- Words that are a request are a command and options of it.
use Rattle.std.proofs.Common.{◌≡◌, ◌==◌, ◌++◌, ◌||◌, ℕ, Bool, true, false, refl, List, [], ◌∷◌, Option, Some, None, codes, inl, inr, map, length}
use Rattle.std.proofs.{lemmas.Bool.{cases_Bool}}
use Rattle.std.specs.{Prelude.{slice_get, drop, encode_utf8, if◌then◌else◌}, List.{list_any}, Str.{bytes_eq, chars}}
use Rattle.clap.specs.Walk.{Held, Rule, Text, arg_by_index, arg_by_long, arg_by_short, reacted, settled}
use Rattle.clap.specs.{Simple.{Shape, filled, filled_from, help_rule, with_index}, Kinds.{Kinds, or_else}}
use Rattle.clap.specs.Faults.{bundle_fault, flags_fault, long_fault, react_fault, settle_fault, short_fault, stray_fault, use_fault}
use Rattle.clap.specs.declared.error.kind.ErrorKind.{ErrorKind}
use Rattle.gs_words.specs.{Commands.{OptionOf}}
use Rattle.gs_words.specs.Program.{rule_for}

-- ---- faults

pub not_none : (k : ErrorKind) (ks : Kinds) → k ∷ ks ≡ [] → ⊥
not_none k ks h = cc

pub first_none : (a b : Kinds) → or_else a b ≡ [] → a ≡ []
first_none [] b h = refl
first_none (k ∷ ks) b h = h

pub then_none : (a b : Kinds) → or_else a b ≡ [] → b ≡ []
then_none [] b h = h
then_none (k ∷ ks) b h = absurd (not_none k ks h)

pub no_stray : (s : Shape) → stray_fault s ≡ [] → ⊥
no_stray s h = go s.is_leaf h
  where
    go : (b : Bool) → (if b then ErrorKind.UnknownArgument ∷ [] else ErrorKind.UnknownArgument ∷ ErrorKind.InvalidSubcommand ∷ []) ≡ [] → ⊥
    go true e = cc
    go false e = cc

-- ---- the options of a command, and `--help`

abbrev pub rules_for : List OptionOf → List Rule
rules_for os = filled_from 1 (map rule_for os ++ help_rule ∷ [])

pub either_false : (a b : Bool) → (a || b) ≡ false → (a ≡ false) × (b ≡ false)
either_false true b h = cc
either_false false b h = (refl, h)

pub unknown : (os : List OptionOf) (n : Text) → list_any (λ o. bytes_eq o.name n) os ≡ false → arg_by_long (rules_for os) n ≡ arg_by_long (rules_for []) n
unknown [] n h = refl
unknown (o ∷ os) n h =
    let p = either_false (bytes_eq o.name n) (list_any (λ q. bytes_eq q.name n) os) h in
    rw p.0 (unknown os n p.1)

pub no_short : (os : List OptionOf) (x : ℕ) → arg_by_short (rules_for os) x ≡ arg_by_short (rules_for []) x
no_short [] x = refl
no_short (o ∷ os) x = no_short os x

pub no_index : (os : List OptionOf) (i : ℕ) → arg_by_index (rules_for os) i ≡ None
no_index [] i = refl
no_index (o ∷ os) i = no_index os i

-- `--help` and what is no option are refused
abbrev help : Rule
help = with_index 1 (filled help_rule)

no_help : (R : List Rule) (again : Bool) (h : Held) → react_fault R again help [] h ≡ [] → ⊥
no_help R again h e = not_none _ _ (then_none (settle_fault R again h) (use_fault again help [] (settled R h).rows) e)

no_help_as : (R : List Rule) (again : Bool) (v : Option Text) (h : Held) → long_fault R again (Some help) v h ≡ [] → ⊥
no_help_as R again None h e = no_help R again h e
no_help_as R again (Some x) h e = not_none _ _ e

pub no_long_help : (R : List Rule) (again : Bool) (n : Text) (v : Option Text) (h : Held) → long_fault R again (arg_by_long (rules_for []) n) v h ≡ [] → ⊥
no_long_help R again n v h e =
    elim (cases_Bool (bytes_eq (codes "help") n)) [
      | inl t ↦ let f : long_fault R again (Some help) v h ≡ [] = rw t at e in no_help_as R again v h f
      | inr f ↦ let bad : ErrorKind.UnknownArgument ∷ [] ≡ [] = rw f at e in not_none _ _ bad
    ]

no_flag_help : (R : List Rule) (again : Bool) (x : ℕ) (rest : Text) (h : Held) (next : Held → Kinds)
    → short_fault R again (arg_by_short (rules_for []) x) rest h next ≡ [] → ⊥
no_flag_help R again x rest h next e =
    elim (cases_Bool (104 == x)) [
      | inl t ↦
          let f : short_fault R again (Some help) rest h next ≡ [] = rw t at e in
          no_help R again h (first_none (react_fault R again help [] h) (next (reacted R help [] h)) f)
      | inr f ↦ let bad : ErrorKind.UnknownArgument ∷ [] ≡ [] = rw f at e in not_none _ _ bad
    ]

pub no_bundle : (R : List Rule) (again : Bool) (x : ℕ) (xs : List ℕ) (h : Held) (y : ℕ)
    → ((z : ℕ) → arg_by_short R z ≡ arg_by_short (rules_for []) z) → slice_get (chars (x ∷ xs)) 0 ≡ Some y → h.skip ≡ 0
    → bundle_fault R again (x ∷ xs) h ≡ [] → ⊥
unfolding flags_fault
no_bundle R again x xs h y same first skip e =
    let rest = drop (length (encode_utf8 y)) (x ∷ xs) in
    let next : Held → Kinds = flags_fault R again (length xs) rest 0 in
    let e2 : short_fault R again (arg_by_short (rules_for []) y) rest (record h { skip = 0 }) next ≡ [] = rw (skip, first, same y) at e in
    no_flag_help R again y rest (record h { skip = 0 }) next e2
