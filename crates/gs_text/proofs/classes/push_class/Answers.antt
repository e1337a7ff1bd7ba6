use Rattle.std.proofs.Common.{◌≡◌, ◌<◌, ℕ, List, [], ap, append_assoc, arith, codes, get_or, length, string_bytes, sym, ◌∙◌, ◌++◌}
use Rattle.std.proofs.lemmas.List.{get_or-map, length-map}
use Rattle.gs_model.specs.{Classes.{list_of}, Signals.{signal_at, signals}}
use Rattle.gs_tree.specs.{Texts.{signal_text}, Trees.{deck_of, rules_of}}
use Rattle.gs_filter.proofs.Linked.{member_first}
use Rattle.gs_text.specs.ClassText.{signal_texts}
use Rattle.gs_text.proofs.{Lines.{told_all, told_more, told_none}, classes.push_class.Goals.{Start}}
use Rattle.gs_text.proofs.classes.push_class.Goals as goal

-- the round has a class for each of its signals
all : (c : Start) → length (signals (rules_of c.args.signals.now) c.args.round) ≡ length (list_of c.args.classes.now.lists c.args.round)
all c = sym (c.requires.lists.lengths c.args.round c.requires.some c.requires.last)

same : (c : Start) → length (signal_texts (deck_of c.args.signals.now) (rules_of c.args.signals.now) c.args.round)
    ≡ length (list_of c.args.classes.now.lists c.args.round)
same c = length-map (signals (rules_of c.args.signals.now) c.args.round) (signal_text (deck_of c.args.signals.now)) ∙ all c

pub loop-next-init : goal.loop-next-init
loop-next-init c =
    let s = c.args.signals.now in
    told_none (signal_texts (deck_of s) (rules_of s) c.args.round) c.args.classes.now.lists c.args.round c.args.class
    (same (goal.at.loop-next-init c).Start) c.first-next.result (string_bytes c.args.text.now) (string_bytes c.push_number.new.text)
    (member_first c.args.classes.now.lists c.args.round c.args.class c.first-next.result c.first-next.ensures.member c.first-next.ensures.value)
    c.in_ok-push_number.ensures

pub push_signal-requires-clause-in_range : goal.push_signal-requires-clause-in_range
push_signal-requires-clause-in_range c =
    omega (arith, c.loop-next-test.true, c.requires.nexts.long, all (goal.at.push_signal-requires-clause-in_range c).Start)

pub loop-next-preserved : goal.loop-next-preserved
loop-next-preserved c =
    let start = (goal.at.loop-next-preserved c).Start in
    let s = c.args.signals.now in
    let g = rules_of s in
    let d = deck_of s in
    let i : ℕ = c.loop-next.next in
    let shown : List ℕ = signal_text d (signal_at g c.args.round i) in
    let here : i < length (list_of c.args.classes.now.lists c.args.round) = omega (arith, c.loop-next-test.true, c.requires.nexts.long) in
    told_more (signal_texts d g c.args.round) c.args.classes.now.lists c.args.round c.args.class (same start) i (get_or c.args.nexts.now i 0)
    (string_bytes c.args.text.now) (string_bytes c.loop-next.text) (string_bytes c.push_signal.new.text) shown c.loop-next.invariant here
    (c.requires.nexts.each i c.loop-next-test.true) (get_or-map (signal_text d) (signals g c.args.round) i [] [] (omega (arith, here, all start)))
    (c.in_ok-push_signal.ensures ∙ ap (λ t. t ++ shown) c.in_ok-push_str.ensures.bytes ∙ append_assoc (string_bytes c.loop-next.text) (codes " ") shown)

pub returns : goal.returns
returns c =
    let s = c.args.signals.now in
    told_all (signal_texts (deck_of s) (rules_of s) c.args.round) c.args.classes.now.lists c.args.round c.args.class (same (goal.at.returns c).Start)
    c.loop-next.next (string_bytes c.args.text.now) (string_bytes c.loop-next.text) (string_bytes c.push_str-2.new.self) c.loop-next.invariant
    (omega (arith, c.loop-next-test.false, c.requires.nexts.long)) c.in_ok-push_str-2.ensures.bytes

pub overflow_cast-next-in-loop-next : goal.overflow_cast-next-in-loop-next
overflow_cast-next-in-loop-next c = grind arith

pub loop-next-smaller : goal.loop-next-smaller
loop-next-smaller c = grind arith

pub push_signal-requires-clause-some : goal.push_signal-requires-clause-some
push_signal-requires-clause-some c = c.requires.some

pub push_signal-requires-clause-last : goal.push_signal-requires-clause-last
push_signal-requires-clause-last c = c.requires.last
