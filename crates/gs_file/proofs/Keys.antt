-- The keys of a map beside those of the table that it stands for.
use Rattle.std.proofs.Common.{◌≡◌, ◌&&◌, List, [], ◌∷◌, String, Global, BTreeMap, string_bytes, refl, ap}
use Rattle.std.specs.{List.{list_all}, BTreeMap.{keys}, Map.{keys_of}}
use Rattle.toml.specs.{View.{members_view, table_view}, declared.value.Value.{Value}}
use Rattle.gs_file.specs.{declared.fault.Key.{Key}, declared.form.Form.{Form}, Keys.{is_among, has_only}}

has_only_entries : (form : Form) (known : List Key) (es : List (String Global × Value))
    → list_all (λ k. is_among form known (string_bytes k)) (keys_of es) ≡ has_only form known (members_view es)
has_only_entries form known [] = refl
has_only_entries form known (e ∷ es) = ap (λ b. is_among form known (string_bytes e.0) && b) (has_only_entries form known es)

pub has_only_keys : (form : Form) (known : List Key) (table : BTreeMap (String Global) Value)
    → list_all (λ k. is_among form known (string_bytes k)) (keys table) ≡ has_only form known (table_view table)
has_only_keys form known table = has_only_entries form known table.entries
