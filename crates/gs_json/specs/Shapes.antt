-- Whole numbers, lists and keys among the values of JSON.
use Rattle.std.specs.Prelude.{ℕ, List, [], ◌∷◌, Option, Some, option_and_then, option_map, unwrap_or}
use Rattle.serde_json.specs.{Data.{Data}, Events.{members_len}, Find.{as_array, as_number, as_object, as_u64}}
use Rattle.gs_json.specs.Lines.{items_as_list}

-- an unsigned whole number of 64 bits, if the value is one
abbrev pub whole_in : Data → Option ℕ
whole_in d = option_and_then as_u64 (as_number d)

-- the values of a list, each read by `read`, if all of them can be read
abbrev pub each_in : {A : Type 0} → (Data → Option A) → List Data → Option (List A)
each_in read [] = Some []
each_in read (d ∷ ds) = option_and_then (λ x. option_map (λ xs. x ∷ xs) (each_in read ds)) (read d)

-- the items of an array, each read by `read`, if the value is an array and all of them can be read
abbrev pub list_in : {A : Type 0} → (Data → Option A) → Data → Option (List A)
list_in read d = option_and_then (λ ds. each_in read (items_as_list ds)) (as_array d)

-- the number of keys of an object, and 0 for any other value
abbrev pub keys_in : Data → ℕ
keys_in d = unwrap_or (option_map members_len (as_object d)) 0
