use Rattle.std.proofs.Common.{◌≡◌, ◌++◌, map, drop}
use Rattle.serde_json.specs.{View.{items_of}, Written.{compact_text, items_text}}
use Rattle.gs_file.specs.JsonForm.{whole}
use Rattle.gs_strategy.specs.Texts.{numbers_data}
use Rattle.gs_strategy.proofs.Appended.{is_later}
use Rattle.gs_strategy.proofs.pieces.push_weights.Given as goal

abbrev pub invariant-loop-at : goal.invariant-loop-at
invariant-loop-at l = l.text.items ++ items_text (is_later l.at) (items_of (map whole (drop l.at l.weights)))
    ≡ l.fn.text.items ++ compact_text (numbers_data l.weights)
