use Rattle.std.proofs.{Common.{◌≡◌, ◌-◌, ◌<◌, ℕ, List, [], ap, arith, get_or, length, string_bytes, sym, ◌∙◌}, lemmas.List.{get_or-map, length-map}}
use Rattle.gs_model.specs.Signals.{parents, signal_at, signals}
use Rattle.gs_model.proofs.Ranges.{length-parents}
use Rattle.gs_tree.specs.{Texts.{signal_text}, Trees.{deck_of, rules_of}}
use Rattle.gs_tree.proofs.Lookups.{is_child}
use Rattle.gs_text.proofs.classes.push_signal.Goals as goal

pub bounds-parents-signal : goal.bounds-parents-signal
bounds-parents-signal c =
    omega (
      arith,
      ap (λ (x : List ℕ). length x) c.parents_in-parents.ensures,
      length-parents (rules_of c.args.signals.now) c.args.round,
      c.requires.in_range,
    )

pub bounds-above-parent : goal.bounds-above-parent
bounds-above-parent c =
    let s = c.args.signals.now in
    let child = is_child (rules_of s) c.args.round c.args.signal (omega (arith, c.if-round-gt1.true)) c.requires.in_range in
    omega (
      arith,
      ap (λ (x : List ℕ). get_or x c.args.signal 0) c.parents_in-parents.ensures,
      child.parent_in,
      length-map c.args.above.now string_bytes,
      ap (λ (x : List (List ℕ)). length x) (c.requires.above c.if-round-gt1.true),
      length-map (signals (rules_of s) (c.args.round - 1)) (signal_text (deck_of s)),
    )

pub push_text_below-requires-clause-parent : goal.push_text_below-requires-clause-parent
push_text_below-requires-clause-parent c =
    let s = c.args.signals.now in
    let g = rules_of s in
    let d = deck_of s in
    let round : ℕ = c.args.round - 1 in
    let above = c.args.above.now in
    let k : ℕ = get_or c.parents_in-parents.result.now c.args.signal 0 in
    let told = c.requires.above c.if-round-gt1.true in
    let child = is_child g c.args.round c.args.signal (omega (arith, c.if-round-gt1.true)) c.requires.in_range in
    let owner : k ≡ get_or (parents g c.args.round) c.args.signal 0 = ap (λ (x : List ℕ). get_or x c.args.signal 0) c.parents_in-parents.ensures in
    let within : k < length (signals g round) = omega (arith, owner, child.parent_in) in
    let kept : k < length above =
    omega (arith, within, length-map above string_bytes, ap (λ (x : List (List ℕ)). length x) told, length-map (signals g round) (signal_text d)) in
    c.as_str.ensures.value ∙ ap string_bytes c.index-above-parent.is ∙ sym (get_or-map string_bytes above k c.index-above-parent.result [] kept)
    ∙ ap (λ (x : List (List ℕ)). get_or x k []) told ∙ get_or-map (signal_text d) (signals g round) k [] [] within
    ∙ ap (λ n. signal_text d (signal_at g round n)) owner

pub returns : goal.returns
returns c = grind (arith, c.push_str.ensures, c.as_str-2.ensures.value, c.in_ok-member.ensures)
