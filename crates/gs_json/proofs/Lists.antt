-- The items of an array as a list, and what a loop over them has read.
use Rattle.std.proofs.Common.{◌≡◌, List, [], ◌∷◌, ◌++◌, map, Option, Some, option_map, refl, ap}
use Rattle.std.specs.Prelude.{option_and_then}
use Rattle.serde_json.specs.{Data.{Data}, Find.{as_array}, View.{items_of, items_view, view}, declared.value.Value.{Value}}
use Rattle.gs_json.specs.Lines.{items_as_list}

-- what was read before, and what is still read
abbrev pub behind : {B : Type 0} → List B → Option (List B) → Option (List B)
behind front read = option_map (λ rest. front ++ rest) read

-- a list as an array's items, read again
pub items_list : (ds : List Data) → items_as_list (items_of ds) ≡ ds
items_list [] = refl
items_list (d ∷ ds) = ap (λ rest. d ∷ rest) (items_list ds)

-- the items of an array as a list of what they are seen as
pub list_of-view : (vs : List Value) → items_as_list (items_view vs) ≡ map view vs
list_of-view [] = refl
list_of-view (v ∷ vs) = ap (λ ds. view v ∷ ds) (list_of-view vs)

pub list_is : {B : Type 0} (each : List Data → Option B) (d : Data) (vs : List Value) → as_array d ≡ Some (items_view vs)
    → option_and_then (λ ds. each (items_as_list ds)) (as_array d) ≡ each (map view vs)
list_is each d vs e = rw (e, list_of-view vs) refl
