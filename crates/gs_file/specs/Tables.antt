-- The values of a table by their keys and types. Source: TOML as `toml` reads it, and this project's game files.
use Rattle.std.specs.{Prelude.{ℕ, ℤ, pos, ◌+◌, ◌&&◌, List, [], ◌∷◌, Option, Some, None, Result, Ok, Err, nat_le, if◌then◌else◌}, Option.{ok_or}}
use Rattle.toml.specs.Data.{Data, Items, no_items, item, Members, get_member, as_str, as_integer, as_array, as_table}
use Rattle.gs_json.specs.Steps.{◌>>=◌}
use Rattle.gs_file.specs.{Faults.{Fault, missing_key, unknown_key, wrong_type, range}, Keys.{key_in, has_only}, declared.fault.Key.{Key}}
use Rattle.gs_file.specs.{declared.fault.Place.{Place}, declared.form.Form.{Form}}

-- the value of a required key, or the fault that it is missing
abbrev pub required : Form → Members → Place → Result Data Fault
required form table place = ok_or (get_member (key_in form place.key) table) (missing_key place)

-- the table has no keys but these
abbrev pub only : Form → List Key → ℕ → Members → Result (Unit {0}) Fault
only form keys round table = if has_only form keys table then Ok tt else Err (unknown_key round)

-- the integer that a value is, if it has this type
abbrev pub whole_number : Place → Data → Result ℤ Fault
whole_number place d = ok_or (as_integer d) (wrong_type place)

-- the string that a value is, if it has this type
abbrev pub text : Place → Data → Result (List ℕ) Fault
text place d = ok_or (as_str d) (wrong_type place)

-- the table that a value is, if it has this type
abbrev pub table_in : Place → Data → Result Members Fault
table_in place d = ok_or (as_table d) (wrong_type place)

-- the array that a value is, if it has this type
abbrev pub array_in : Place → Data → Result Items Fault
array_in place d = ok_or (as_array d) (wrong_type place)

-- the text of a value, or the empty text if it is absent
abbrev pub text_or_empty : Place → Option Data → Result (List ℕ) Fault
text_or_empty place None = Ok []
text_or_empty place (Some d) = text place d

-- the members of a list, each read in turn with its number from `n` on, or the first fault
abbrev pub each : {A B : Type 0} → (ℕ → A → Result B Fault) → ℕ → List A → Result (List B) Fault
each read n [] = Ok []
each read n (x ∷ xs) = do
  first ← read n x
  others ← each read (n + 1) xs
  Ok (first ∷ others)

-- the items of an array as a list
abbrev pub array_items : Items → List Data
array_items no_items = []
array_items (item d rest) = d ∷ array_items rest

-- the tables of an array that holds nothing else
unfoldable pub tables_in : Place → Data → Result (List Members) Fault
tables_in place d = do
  items ← array_in place d
  each (λ n. table_in place) 1 (array_items items)

-- the integers of an array that holds nothing else
unfoldable pub whole_numbers_in : Place → Data → Result (List ℤ) Fault
whole_numbers_in place d = do
  items ← array_in place d
  each (λ n. whole_number place) 1 (array_items items)

-- the number, if it is from low to high
abbrev pub within : Place → ℕ → ℕ → ℤ → Result ℕ Fault
within place low high (pos n) = if nat_le low n && nat_le n high then Ok n else Err (range place)
within place low high z = Err (range place)
