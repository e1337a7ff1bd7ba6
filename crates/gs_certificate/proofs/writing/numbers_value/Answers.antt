use Rattle.std.proofs.Common.{◌≡◌, ◌+◌, ◌<◌, ◌++◌, ◌∷◌, [], ℕ, List, length, get_or, map, take, sym, ap, ◌∙◌, rules, arith}
use Rattle.std.proofs.lemmas.List.{map-append, take_all, take_more}
use Rattle.std.specs.Prelude.{ℤ, pos}
use Rattle.serde_json.specs.{Data.{array}, View.{items_of, view}, declared.value.Value.{Value}}
use Rattle.serde_json.proofs.Views.{view-Array}
use Rattle.gs_certificate.specs.Texts.{number_data}
use Rattle.gs_certificate.proofs.writing.numbers_value.Goals as goal

pub loop-number-init : goal.loop-number-init
loop-number-init c = ap (map view) c.in_ok-values.ensures.items

-- a value more
one_more : (vs : List Value) (v : Value) (zs : List ℤ) (i : ℕ) → i < length zs → map view vs ≡ map number_data (take i zs)
    → view v ≡ number_data (get_or zs i (pos 0)) → map view (vs ++ v ∷ []) ≡ map number_data (take (i + 1) zs)
one_more vs v zs i lt before here =
    map-append view vs (v ∷ []) ∙ ap (λ ds. ds ++ view v ∷ []) before ∙ ap (λ d. map number_data (take i zs) ++ d ∷ []) here
    ∙ sym (map-append number_data (take i zs) (get_or zs i (pos 0) ∷ [])) ∙ ap (map number_data) (sym (take_more zs i (pos 0) lt))

pub loop-number-preserved : goal.loop-number-preserved
loop-number-preserved c =
    let zs : List ℤ = c.args.numbers.now in
    let here : view c.in_ok-value.value ≡ number_data (get_or zs c.loop-number.number-index (pos 0)) = search rules in
    ap (map view) c.in_ok-push.ensures.items
    ∙ one_more c.loop-number.values.items c.in_ok-value.value zs c.loop-number.number-index c.loop-number-test.true c.loop-number.invariant here

pub returns : goal.returns
returns c = view-Array c.loop-number.values ∙ ap (λ ds. array (items_of ds)) (c.loop-number.invariant
    ∙ ap (map number_data) (take_all c.loop-number.number-index c.args.numbers.now c.loop-number-test.false))

pub offset_bounds-numbers-number-index : goal.offset_bounds-numbers-number-index
offset_bounds-numbers-number-index c = omega arith
