use Rattle.std.proofs.Common.{List, ℕ, [], ◌∷◌, ◌++◌, ◌∙◌, ap, append_assoc, arith, decimal, false, get_or, map, refl}
use Rattle.serde_json.specs.{View.{items_of}, Written.{items_text}}
use Rattle.gs_file.specs.JsonForm.{whole}
use Rattle.gs_strategy.proofs.Appended.{array_ended, item_appended}
use Rattle.gs_strategy.proofs.pieces.push_list.Goals as goal

pub loop-at-preserved : goal.loop-at-preserved
loop-at-preserved c =
    item_appended (λ (xs : List ℕ). items_of (map whole xs)) c.args.list.now c.loop-at.at c.loop-at.text.items _ c.loop-at.invariant 0
    (whole (get_or c.args.list.now c.loop-at.at 0)) _ _ (omega (arith, c.loop-at-test.true)) refl c.in_ok-push_comma.ensures
    (c.in_ok-push_number.ensures ∙ ap (λ (n : ℕ). c.push_comma.new.text.items ++ decimal n) c.from.ensures)

pub returns : goal.returns
returns c =
    array_ended (λ (xs : List ℕ). items_of (map whole xs)) c.args.list.now c.loop-at.at c.loop-at.text.items _ c.loop-at.invariant _
    (omega (arith, c.loop-at-test.false)) refl c.in_ok-push-2.ensures.items

pub loop-at-init : goal.loop-at-init
loop-at-init c =
    let rest : List ℕ = items_text false (items_of (map whole c.args.list.now)) in
    ap (λ (t : List ℕ). t ++ rest) c.in_ok-push.ensures.items ∙ append_assoc c.args.text.now.items (91 ∷ []) rest
