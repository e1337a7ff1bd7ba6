use Rattle.std.proofs.{Common.{◌≡◌, ◌++◌, ℕ, List, ap, append_assoc, arith, length, map, String, string_bytes, sym, ◌∙◌}, lemmas.List.{append-nil, length-map}}
use Rattle.std.specs.{Prelude.{flat_map}, List.{range_with_len, zip}}
use Rattle.std.specs.declared.alloc.Global.{Global}
use Rattle.gs_model.specs.{Classes.{class_count, list_of}, Signals.{signals}}
use Rattle.gs_tree.specs.{Texts.{signal_text}, Trees.{deck_of, rules_of}}
use Rattle.gs_text.specs.ClassText.{class_line, round_line, signal_texts}
use Rattle.gs_text.proofs.{Lines.{lines-more}, classes.push_round.Goals.{Start}}
use Rattle.gs_text.proofs.classes.push_round.Goals as goal

-- the line of the round, with its numbers of classes and signals
abbrev first : Start → List ℕ
first c = round_line c.args.round (class_count c.args.classes.now.lists c.args.round)
    (length (signal_texts (deck_of c.args.signals.now) (rules_of c.args.signals.now) c.args.round))

abbrev line : Start → ℕ → List ℕ
line c = class_line
    (zip (signal_texts (deck_of c.args.signals.now) (rules_of c.args.signals.now) c.args.round) (list_of c.args.classes.now.lists c.args.round))

pub loop-index-init : goal.loop-index-init
loop-index-init c =
    let s = c.args.signals.now in
    let old = string_bytes c.args.text.now in
    let total = c.count.ensures.value ∙ sym (length-map (signals (rules_of s) c.args.round) (signal_text (deck_of s))) in
    c.in_ok-push_round_line.ensures ∙ ap (λ n. old ++ round_line c.args.round n c.count.result) c.classes-count.ensures
    ∙ ap (λ n. old ++ round_line c.args.round (class_count c.args.classes.now.lists c.args.round) n) total
    ∙ sym (append-nil (old ++ first (goal.at.loop-index-init c).Start))

pub loop-index-preserved : goal.loop-index-preserved
loop-index-preserved c =
    let start = (goal.at.loop-index-preserved c).Start in
    lines-more (line start) (string_bytes c.args.text.now ++ first start) (string_bytes c.loop-index.text) (string_bytes c.push_class.new.text)
    c.loop-index.index c.loop-index.invariant c.in_ok-push_class.ensures

pub returns : goal.returns
returns c =
    let start = (goal.at.returns c).Start in
    let old = string_bytes c.args.text.now in
    let many : c.loop-index.index ≡ class_count c.args.classes.now.lists c.args.round =
    omega (arith, c.loop-index-test.false, c.loop-index.auto.index-end, c.classes-count.ensures) in
    c.loop-index.invariant ∙ append_assoc old (first start) (flat_map (line start) (range_with_len 1 c.loop-index.index))
    ∙ ap (λ n. old ++ (first start ++ flat_map (line start) (range_with_len 1 n))) many

pub push_class-requires-clause-lists : goal.push_class-requires-clause-lists
push_class-requires-clause-lists c = c.requires.lists

pub push_class-requires-clause-nexts : goal.push_class-requires-clause-nexts
push_class-requires-clause-nexts c = grind arith

pub push_class-requires-clause-above : goal.push_class-requires-clause-above
push_class-requires-clause-above c = λ more. ap (λ (xs : List (String Global)). map string_bytes xs) c.deref.ensures.value ∙ c.in_ok-above.ensures more

pub push_class-requires-clause-some : goal.push_class-requires-clause-some
push_class-requires-clause-some c = c.requires.some

pub push_class-requires-clause-last : goal.push_class-requires-clause-last
push_class-requires-clause-last c = c.requires.last
