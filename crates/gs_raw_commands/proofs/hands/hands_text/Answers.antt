use Rattle.std.specs.List.{flat_map, range_with_len}
use Rattle.std.proofs.{Common.{◌≡◌, ◌<◌, ◌++◌, get_or, length, map, pos, string_bytes, sym, ap, ◌∙◌, arith}, lemmas.List.{get_or-map, length-map}}
use Rattle.gs_strategy.specs.{Values.{FractionParts}, Views.{parts_of}}
use Rattle.gs_tree.specs.Trees.{deck_of, rules_of}
use Rattle.gs_raw_commands.specs.Judging.{hand_line}
use Rattle.gs_raw_commands.proofs.Lines.{lines_more}
use Rattle.gs_raw_commands.proofs.hands.hands_text.Goals as goal

pub loop-signal-preserved : goal.loop-signal-preserved
loop-signal-preserved c =
    let d = deck_of c.args.signals.now in
    let g = rules_of c.args.signals.now in
    let xs = c.args.values.now in
    let n = c.loop-signal.signal in
    let v = c.index-values-signal.result in
    let l : n < length xs = omega (arith, c.requires, c.loop-signal-test.true, c.count-signal-end.ensures.value) in
    let at : parts_of v ≡ get_or (map parts_of xs) n (pos 0, pos 1) = ap parts_of c.index-values-signal.is
    ∙ sym (get_or-map parts_of xs n v (pos 0, pos 1) l) in
    lines_more (λ s. hand_line d g s (get_or (map parts_of xs) s (pos 0, pos 1))) (string_bytes c.loop-signal.text)
    (string_bytes c.push_hand.new.text) n c.loop-signal.invariant
    (c.in_ok-push_hand.ensures ∙ ap (λ (p : FractionParts). string_bytes c.loop-signal.text ++ hand_line d g n p) at)

pub returns : goal.returns
returns c =
    let d = deck_of c.args.signals.now in
    let g = rules_of c.args.signals.now in
    let xs = c.args.values.now in
    let end : c.loop-signal.signal ≡ length (map parts_of xs) =
    omega (arith, length-map xs parts_of, c.requires, c.loop-signal-test.false, c.loop-signal.auto.signal-end, c.count-signal-end.ensures.value) in
    c.loop-signal.invariant
    ∙ ap (λ n. flat_map (λ s. hand_line d g s (get_or (map parts_of xs) s (pos 0, pos 1))) (range_with_len 0 n)) end
