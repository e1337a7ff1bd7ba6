-- The items of an array as a list of what they are seen as.
use Rattle.std.proofs.Common.{◌≡◌, List, [], ◌∷◌, map, Ok, refl, ap}
use Rattle.toml.specs.{Data.{Data}, View.{view, items_view}, declared.value.Value.{Value}}
use Rattle.gs_file.specs.{declared.fault.Place.{Place}, Tables.{array_items, each, array_in, table_in, whole_number, tables_in, whole_numbers_in}}

pub list_of-view : (vs : List Value) → array_items (items_view vs) ≡ map view vs
list_of-view [] = refl
list_of-view (v ∷ vs) = ap (λ ds. view v ∷ ds) (list_of-view vs)

-- an array of tables, and one of integers, by its values
pub tables_are : (place : Place) (d : Data) (vs : List Value) → array_in place d ≡ Ok (items_view vs)
    → tables_in place d ≡ each (λ n. table_in place) 1 (map view vs)
unfolding tables_in
tables_are place d vs e = rw (e, list_of-view vs) refl

pub numbers_are : (place : Place) (d : Data) (vs : List Value) → array_in place d ≡ Ok (items_view vs)
    → whole_numbers_in place d ≡ each (λ n. whole_number place) 1 (map view vs)
unfolding whole_numbers_in
numbers_are place d vs e = rw (e, list_of-view vs) refl
