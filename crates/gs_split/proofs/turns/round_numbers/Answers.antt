use Rattle.std.proofs.{Common.{◌∙◌, arith, rules, sym}, lemmas.Result.{IfOk-weaker}}
use Rattle.gs_model.specs.Frame.{frame_of}
use Rattle.gs_model.proofs.{Ranges.{signal_count_is}, Walked.{last_round_of}}
use Rattle.gs_tree.specs.Trees.{rules_of}
use Rattle.gs_split.proofs.Known.{known_numbers}
use Rattle.gs_split.proofs.turns.round_numbers.Goals as goal

pub count-requires-clause-in_range : goal.count-requires-clause-in_range
count-requires-clause-in_range c = omega (arith, c.requires.top, last_round_of (rules_of c.args.grouped.now.signals.now))

pub returns-then-known : goal.returns-then-known
returns-then-known c =
    let g = rules_of c.args.grouped.now.signals.now in
    let n = signal_count_is g c.args.round c.requires.some (omega (arith, c.requires.top, last_round_of g)) in
    IfOk-weaker c.vec.result _ _
    (λ v h. known_numbers (frame_of g) c.args.grouped.now.classes.now.lists c.args.round v.items c.count.result (h (λ y k. search rules))
    (c.count.ensures.value ∙ sym n) (c.requires.known c.if-known.true))
    c.vec.ensures.items_if_clones_equal
