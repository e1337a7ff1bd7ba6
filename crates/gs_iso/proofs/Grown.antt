-- The parts of the lists that were seen, after one more list.
use Rattle.std.proofs.{Common.{◌≡◌, List, [], ◌∷◌, ◌++◌, refl, sym, ap, ◌∙◌, Bool, true, false, cond, ◌||◌, Vec, Global}, lemmas.List.{map-append}}
use Rattle.std.specs.List.{list_any}
use lib.Pointwise.{pointwise}
use Rattle.indexmap.specs.IndexSet.{insert_key}
use Rattle.gs_model.specs.Rows.{rows}
use Rattle.gs_iso.specs.KeyNumbers.{same_parts}

-- a test of the parts is a test of the lists
any_parts : {X : Type 0} (test : List X → Bool) (keys : List (Vec X Global))
    → list_any test (rows keys) ≡ list_any (λ (k : Vec X Global). test k.items) keys
any_parts test [] = refl
any_parts test (k ∷ keys) = ap (λ b. test k.items || b) (any_parts test keys)

module _ {X : Type 0} (eq : X → X → Bool) (keys : List (Vec X Global)) where
  -- the lists stay where one of them has the parts
  pub parts_stay : (parts : List X) → list_any (λ (k : Vec X Global). pointwise eq parts k.items) keys ≡ true
      → rows keys ≡ insert_key (pointwise eq) (rows keys) parts
  parts_stay parts found = sym (ap (λ t. cond t (rows keys) (rows keys ++ parts ∷ [])) (any_parts (pointwise eq parts) keys ∙ found))

  -- the parts after a list is inserted
  pub parts_insert : (more : List (Vec X Global)) (key : Vec X Global) (parts : List X) → key.items ≡ parts → more ≡ insert_key (same_parts eq) keys key
      → rows more ≡ insert_key (pointwise eq) (rows keys) parts
  parts_insert more key parts is grown =
      ap rows grown ∙ by (list_any (same_parts eq key) keys) ∙ ap (λ t. cond t (rows keys) (rows keys ++ key.items ∷ []))
      (sym (any_parts (pointwise eq key.items) keys))
      ∙ ap (insert_key (pointwise eq) (rows keys)) is
    where
      by : (t : Bool) → rows (cond t keys (keys ++ key ∷ [])) ≡ cond t (rows keys) (rows keys ++ key.items ∷ [])
      by true = refl
      by false = map-append (λ (k : Vec X Global). k.items) keys (key ∷ [])
