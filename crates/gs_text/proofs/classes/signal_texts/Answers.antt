use Rattle.std.proofs.lemmas.Grind.{common_steps}
use Rattle.std.proofs.{Common.{◌∙◌, ◌++◌, ◌<◌, ℕ, List, [], ◌∷◌, map, take, length, string_bytes, ap, sym, arith}, lemmas.List.{map_more, map_push}}
use Rattle.gs_model.specs.Signals.{Signal, signals}
use Rattle.gs_tree.specs.{Texts.{signal_text}, Trees.{rules_of, deck_of}}
use Rattle.gs_text.proofs.classes.signal_texts.Goals as goal

pub loop-signal-preserved : goal.loop-signal-preserved
loop-signal-preserved c =
    let s = c.args.signals.now in
    let all : List Signal = signals (rules_of s) c.args.round in
    let i : ℕ = c.loop-signal.signal in
    let text : Signal → List ℕ = signal_text (deck_of s) in
    let here : i < length all = omega (arith, c.loop-signal-test.true, c.count-count.ensures.value) in
    ap (map string_bytes) c.in_ok-push.ensures.items
    ∙ (map_push string_bytes c.loop-signal.texts.items c.in_ok-text.field-0
    ∙ (ap (λ (ts : List (List ℕ)). ts ++ string_bytes c.in_ok-text.field-0 ∷ []) c.loop-signal.invariant
    ∙ (ap (λ (t : List ℕ). map text (take i all) ++ t ∷ []) c.in_ok-text.ensures ∙ sym (map_more text all i _ here))))

pub returns : goal.returns
returns c = grind (arith, common_steps)
