use Rattle.std.proofs.lemmas.Grind.{common_steps}
use Rattle.std.proofs.{Common.{◌≡◌, ◌+◌, ℕ, List, [], ◌∷◌, ◌++◌, ap, length, map, sym, ◌∙◌, arith}, lemmas.List.FromFn.{map-range_with_len_more}}
use Rattle.std.specs.List.{range_with_len}
use Rattle.gs_model.specs.{Classes.{class_of}, Frame.{at_round, frame_of, last_round, signal_count}, Signals.{signals}}
use Rattle.gs_model.proofs.Walked.{last_round_of}
use Rattle.gs_tree.specs.Trees.{rules_of}
use Rattle.gs_lossless.proofs.Descent.{count_last, list_long, playable}
use Rattle.gs_lossless.proofs.keys.ancestor_classes.Goals as goal

pub ancestor-requires-clause-last : goal.ancestor-requires-clause-last
ancestor-requires-clause-last c = omega (arith, c.requires.1, last_round_of (rules_of c.args.grouped.now.signals.now))

pub class_of-requires-clause-within : goal.class_of-requires-clause-within
class_of-requires-clause-within c =
    let g = rules_of c.args.grouped.now.signals.now in
    let n = list_long g c.args.grouped.now.classes.now c.args.grouped.now.parents c.args.round c.requires.0 (omega (arith, c.requires.1, last_round_of g)) in
    omega (arith, n, c.ancestor.ensures.within)

pub loop-signal-preserved : goal.loop-signal-preserved
loop-signal-preserved c =
    let g = rules_of c.args.grouped.now.signals.now in
    let key : ℕ → ℕ = λ x. class_of c.args.grouped.now.classes.now.lists c.args.round (at_round (frame_of g) c.args.round x) in
    let x = c.loop-signal.signal in
    let zero_on : 0 + x ≡ x = omega arith in
    c.in_ok-push.ensures.items
    ∙ ap (λ (xs : List ℕ). xs ++ c.class_of.result ∷ []) c.loop-signal.invariant
    ∙ ap (λ (n : ℕ). map key (range_with_len 0 x) ++ n ∷ [])
    (c.class_of.ensures.value ∙ ap (class_of c.args.grouped.now.classes.now.lists c.args.round) c.ancestor.ensures.value)
    ∙ sym (map-range_with_len_more key 0 x x zero_on)

pub returns : goal.returns
returns c =
    let g = rules_of c.args.grouped.now.signals.now in
    let key : ℕ → ℕ = λ x. class_of c.args.grouped.now.classes.now.lists c.args.round (at_round (frame_of g) c.args.round x) in
    let n = count_last g (playable c.args.grouped.now.signals.now) in
    let r = ap (λ k. length (signals g k)) c.rounds.ensures.value in
    let all : c.loop-signal.signal ≡ signal_count (frame_of g) (last_round (frame_of g)) = omega (arith, n, r, c.count-count.ensures.value) in
    c.loop-signal.invariant ∙ ap (λ (k : ℕ). map key (range_with_len 0 k)) all

pub class_of-requires-clause-top : goal.class_of-requires-clause-top
class_of-requires-clause-top c = grind arith

pub ancestor-requires-clause-in_range : goal.ancestor-requires-clause-in_range
ancestor-requires-clause-in_range c = grind (arith, common_steps)
