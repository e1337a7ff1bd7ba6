use Rattle.std.proofs.Common.{◌≡◌, ◌++◌, map, drop}
use Rattle.serde_json.specs.{View.{items_of}, Written.{compact_text, items_text}}
use Rattle.gs_model.specs.Rows.{rows}
use Rattle.gs_strategy.specs.Texts.{classes_data, numbers_data}
use Rattle.gs_strategy.proofs.Appended.{is_later}
use Rattle.gs_strategy.proofs.pieces.push_classes.Given as goal

abbrev pub invariant-loop-at : goal.invariant-loop-at
invariant-loop-at l = l.text.items ++ items_text (is_later l.at) (items_of (map numbers_data (rows (drop l.at l.lists))))
    ≡ l.fn.text.items ++ compact_text (classes_data (rows l.lists))
