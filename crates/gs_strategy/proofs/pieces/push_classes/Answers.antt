use Rattle.std.proofs.Common.{List, ℕ, Vec, [], ◌∷◌, ◌++◌, ◌+◌, ◌∙◌, ap, append_assoc, arith, drop, false, map, refl, sym}
use Rattle.std.specs.declared.alloc.Global.{Global}
use Rattle.serde_json.specs.{Data.{item}, View.{items_of}, Written.{compact_text, items_text}}
use Rattle.gs_model.specs.Rows.{rows}
use Rattle.gs_strategy.specs.Texts.{numbers_data}
use Rattle.gs_strategy.proofs.Appended.{array_ended, item_appended}
use Rattle.gs_strategy.proofs.pieces.push_classes.Goals as goal

pub loop-at-preserved : goal.loop-at-preserved
loop-at-preserved c =
    let list : Vec ℕ Global = c.index-lists-at.result in
    item_appended (λ (ls : List (Vec ℕ Global)). items_of (map numbers_data (rows ls))) c.args.lists.now c.loop-at.at c.loop-at.text.items _
    c.loop-at.invariant list (numbers_data list.items) _ _ (omega (arith, c.loop-at-test.true)) (ap (λ (v : Vec ℕ Global). item (numbers_data v.items)
    (items_of (map numbers_data (rows (drop (c.loop-at.at + 1) c.args.lists.now))))) (sym c.index-lists-at.is))
    c.in_ok-push_comma.ensures
    (c.in_ok-push_list.ensures ∙ ap (λ (ns : List ℕ). c.push_comma.new.text.items ++ compact_text (numbers_data ns)) c.deref.ensures.value)

pub returns : goal.returns
returns c =
    array_ended (λ (ls : List (Vec ℕ Global)). items_of (map numbers_data (rows ls))) c.args.lists.now c.loop-at.at c.loop-at.text.items _
    c.loop-at.invariant _ (omega (arith, c.loop-at-test.false)) refl c.in_ok-push-2.ensures.items

pub loop-at-init : goal.loop-at-init
loop-at-init c =
    let rest : List ℕ = items_text false (items_of (map numbers_data (rows c.args.lists.now))) in
    ap (λ (t : List ℕ). t ++ rest) c.in_ok-push.ensures.items ∙ append_assoc c.args.text.now.items (91 ∷ []) rest
