-- Reading the values of a list one by one.
use Rattle.std.proofs.Common.{◌≡◌, ◌+◌, ◌<◌, ℕ, List, [], ◌∷◌, ◌++◌, length, map, drop, get_or, append_assoc, Option, Some, None, Result, Ok, Err, refl, sym, ap, ◌∙◌}
use Rattle.std.proofs.lemmas.List.{drop_more}
use Rattle.std.specs.{Prelude.{option_and_then, option_map}, Option.{ok_or}}
use Rattle.serde_json.specs.{Data.{Data}, View.{view}, declared.value.Value.{Value}}
use Rattle.gs_json.specs.Shapes.{each_in}
use Rattle.gs_json.proofs.Lists.{behind}
use Rattle.gs_strategy.specs.Faults.{Fault}

-- what passes is there
pub is_some : {A : Type 0} (o : Option A) (fault : Fault) (x : A) → ok_or o fault ≡ Ok x → o ≡ Some x
is_some (Some y) fault x h = cc
is_some None fault x h = absurd cc

module _ {B : Type 0} (read : Data → Option B) (vs : List Value) (at : ℕ) (v : Value) (here : v ≡ get_or vs at v) (in_list : at < length vs) (front : List B)
    (before : behind front (each_in read (map view (drop at vs))) ≡ each_in read (map view vs)) where
  -- what is still read: the value at the place, and the values behind it
  still : each_in read (map view (drop at vs))
      ≡ option_and_then (λ x. option_map (λ xs. x ∷ xs) (each_in read (map view (drop (at + 1) vs)))) (read (view v))
  still = ap (λ ws. each_in read (map view ws)) (drop_more vs at v in_list)
      ∙ ap (λ w. option_and_then (λ x. option_map (λ xs. x ∷ xs) (each_in read (map view (drop (at + 1) vs)))) (read (view w))) (sym here)

  -- the value at the place is read as `y`
  pub read_on : (y : B) (next : List B) → read (view v) ≡ Some y → next ≡ front ++ y ∷ []
      → behind next (each_in read (map view (drop (at + 1) vs))) ≡ each_in read (map view vs)
  read_on y next is more =
      ap (λ f. behind f rest) more ∙ joined rest ∙ ap (λ o. behind front (option_and_then (λ x. option_map (λ xs. x ∷ xs) rest) o)) (sym is)
      ∙ ap (behind front) (sym still) ∙ before
    where
      rest : Option (List B)
      rest = each_in read (map view (drop (at + 1) vs))

      joined : (o : Option (List B)) → behind (front ++ y ∷ []) o ≡ behind front (option_map (λ xs. y ∷ xs) o)
      joined (Some xs) = ap Some (append_assoc front (y ∷ []) xs)
      joined None = refl

  -- the value at the place cannot be read, so the list cannot be read
  pub none_read : read (view v) ≡ None → each_in read (map view vs) ≡ None
  none_read is = sym before ∙ ap (behind front) (still
      ∙ ap (option_and_then (λ x. option_map (λ xs. x ∷ xs) (each_in read (map view (drop (at + 1) vs))))) is)

  -- the fault for the value at the place is that for the list
  pub same_fault : (fault why : Fault) → ok_or (read (view v)) fault ≡ Err why → ok_or (each_in read (map view vs)) fault ≡ Err why
  same_fault fault why = by_read (read (view v)) refl
    where
      same : ◌≡◌ {A = Result B Fault} (Err fault) (Err why) → fault ≡ why
      same e = cc

      by_read : (o : Option B) → read (view v) ≡ o → ok_or o fault ≡ Err why → ok_or (each_in read (map view vs)) fault ≡ Err why
      by_read (Some y) is h = absurd cc
      by_read None is h = ap (λ t. ok_or t fault) (none_read is) ∙ ap (λ w. Err w) (same h)
