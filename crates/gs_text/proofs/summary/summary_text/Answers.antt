use Rattle.std.proofs.Common.{◌≡◌, ◌∙◌, ◌++◌, ◌+◌, ℕ, List, ap, arith, length, rules, string_bytes}
use Rattle.std.specs.{Prelude.{flat_map}, List.{range_with_len}}
use Rattle.gs_model.specs.{Classes.{class_count}, Deals.{deals}, Frame.{frame_of, total_weight}, Game.{round_count}, Signals.{signals}}
use Rattle.gs_tree.specs.Trees.{rules_of}
use Rattle.gs_text.specs.ClassText.{deals_line, round_line}
use Rattle.gs_text.proofs.Lines.{lines-more}
use Rattle.gs_text.proofs.summary.summary_text.Goals as goal

pub loop-index-preserved : goal.loop-index-preserved
loop-index-preserved c =
    let g = rules_of c.args.signals.now in
    let i = c.loop-index.index in
    let line : ℕ → List ℕ = λ round. round_line round (class_count c.args.classes.now.lists round) (length (signals g round)) in
    let told : string_bytes c.push_round_line.new.text ≡ string_bytes c.loop-index.text ++ line (i + 1) = search rules in
    lines-more line (deals_line (length (deals g)) (total_weight (frame_of g))) (string_bytes c.loop-index.text) (string_bytes c.push_round_line.new.text) i
    c.loop-index.invariant told

pub returns : goal.returns
returns c =
    let g = rules_of c.args.signals.now in
    let many : c.loop-index.index ≡ round_count g =
    omega (arith, c.loop-index-test.false, c.loop-index.auto.index-end, c.rounds-index-end.ensures.value) in
    c.loop-index.invariant
    ∙ ap (λ n. deals_line (length (deals g)) (total_weight (frame_of g))
    ++ flat_map (λ round. round_line round (class_count c.args.classes.now.lists round) (length (signals g round))) (range_with_len 1 n)) many
