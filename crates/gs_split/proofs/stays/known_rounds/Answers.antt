use Rattle.std.proofs.Common.{◌≡◌, ◌∙◌, ◌+◌, ℕ, List, length, ap, arith, sym, subst}
use Rattle.gs_model.specs.Frame.{frame_of, last_round}
use Rattle.gs_model.proofs.Walked.{last_round_of}
use Rattle.gs_tree.specs.Trees.{rules_of}
use Rattle.gs_split.proofs.Known.{AreKnownTo, all_known, known_more}
use Rattle.gs_split.proofs.stays.known_rounds.Goals as goal

pub stays-requires-clause-before : goal.stays-requires-clause-before
stays-requires-clause-before c =
    let all = c.args.before.now.classes.rounds ∙ ap (λ (ps : List (List ℕ)). length ps) c.requires.before in
    omega (arith, all, c.min.ensures, c.rounds-last.ensures.value, last_round_of (rules_of c.args.signals.now))

pub stays-requires-clause-top : goal.stays-requires-clause-top
stays-requires-clause-top c =
    let all = c.args.classes.now.classes.rounds ∙ ap (λ (ps : List (List ℕ)). length ps) c.requires.parents in
    omega (arith, all, c.min.ensures, c.rounds-last.ensures.value, last_round_of (rules_of c.args.signals.now))

pub loop-above-preserved : goal.loop-above-preserved
loop-above-preserved c =
    let g = rules_of c.args.signals.now in
    let f = frame_of g in
    let old = c.args.before.now.lists in
    let new = c.args.classes.now.lists in
    let n = c.loop-above.above in
    let last : c.rounds-last.result ≡ last_round f = omega (arith, c.rounds-last.ensures.value, last_round_of g) in
    subst (AreKnownTo f old new (n + 1)) (sym c.in_ok-push.ensures.items)
    (known_more f old new c.requires.turned n c.loop-above.known.items c.stays.result c.min.result (omega (arith, last, c.loop-above-test.true))
    (λ l. omega (arith, l, last, c.min.ensures)) (λ l. omega (arith, l, last, c.min.ensures)) c.stays.ensures c.loop-above.invariant)

pub returns : goal.returns
returns c =
    let f = frame_of (rules_of c.args.signals.now) in
    all_known f c.args.before.now.lists c.args.classes.now.lists c.loop-above.above c.loop-above.known.items
    (omega (arith, c.loop-above-test.false, c.loop-above.auto.above-end, c.rounds-last.ensures.value, last_round_of (rules_of c.args.signals.now)))
    c.loop-above.invariant
