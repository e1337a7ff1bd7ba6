use Rattle.std.proofs.Common.{◌≡◌, ◌∙◌, ap, arith, string_bytes}
use Rattle.std.specs.{Prelude.{[], flat_map}, List.{range_with_len}}
use Rattle.gs_model.specs.{Classes.{list_of}, Game.{round_count}}
use Rattle.gs_tree.specs.Trees.{rules_of, deck_of}
use Rattle.gs_text.specs.ClassText.{round_text, signal_texts}
use Rattle.gs_text.proofs.Lines.{lines-more}
use Rattle.gs_text.proofs.classes.class_text.Goals as goal

pub loop-index-preserved : goal.loop-index-preserved
loop-index-preserved c =
    let s = c.args.signals.now in
    lines-more (λ round. round_text round (signal_texts (deck_of s) (rules_of s) round) (list_of c.args.classes.now.lists round)) []
    (string_bytes c.loop-index.text) (string_bytes c.push_round.new.text) c.loop-index.index
    c.loop-index.invariant c.in_ok-push_round.ensures

pub returns : goal.returns
returns c =
    let s = c.args.signals.now in
    let many : c.loop-index.index ≡ round_count (rules_of s) =
    omega (arith, c.loop-index-test.false, c.loop-index.auto.index-end, c.rounds-index-end.ensures.value) in
    c.loop-index.invariant
    ∙ ap (λ n. flat_map (λ round. round_text round (signal_texts (deck_of s) (rules_of s) round) (list_of c.args.classes.now.lists round)) (range_with_len 1 n))
    many
