use Rattle.std.proofs.{Common.{◌≡◌, [], ◌∷◌, Vec, ℕ, arith, ap, map, ◌∙◌}, lemmas.Grind.{common_steps}, lemmas.List.{map-append}}
use Rattle.std.specs.declared.alloc.Global.{Global}
use Rattle.serde_json.specs.View.{view}
use Rattle.gs_json.specs.Shapes.{each_in, list_in}
use Rattle.gs_model.specs.Rows.{rows}
use Rattle.gs_strategy.specs.{Faults.{shape}, Reading.{narrow_in, shaped}, declared.fault.FilePart.TheVariants.{Classes}}
use Rattle.gs_strategy.proofs.{Each.{is_some, read_on, same_fault}, Steps.{exits_over}}
use Rattle.gs_strategy.proofs.shapes.each_list.Goals as goal

pub returns-in_err-list : goal.returns-in_err-list
returns-in_err-list c =
    let vs = c.args.items.now in
    exits_over (λ (v : Vec (Vec ℕ Global) Global). rows v.items) (λ read. shaped Classes (list_in narrow_in (view c.item-item.result)) ≡ read)
    (λ read. shaped Classes (each_in (list_in narrow_in) (map view vs)) ≡ read) _ _ c.from_residual.ensures.1 c.in_err-list.ensures
    (same_fault (list_in narrow_in) vs c.loop-item.item-index c.item-item.result c.item-item.is (omega (arith, c.loop-item-test.true))
    (rows c.loop-item.lists.items) c.loop-item.invariant (shape Classes))

pub loop-item-preserved : goal.loop-item-preserved
loop-item-preserved c =
    read_on (list_in narrow_in) c.args.items.now c.loop-item.item-index c.item-item.result c.item-item.is (omega (arith, c.loop-item-test.true))
    (rows c.loop-item.lists.items) c.loop-item.invariant c.in_ok-list.list.items _
    (is_some (list_in narrow_in (view c.item-item.result)) (shape Classes) c.in_ok-list.list.items c.in_ok-list.ensures)
    (ap rows c.in_ok-push.ensures.items ∙ map-append (λ (v : Vec ℕ Global). v.items) c.loop-item.lists.items (c.in_ok-list.list ∷ []))

pub returns : goal.returns
returns c = grind (arith, common_steps)
