use Rattle.std.proofs.{Common.{◌+◌, ◌≤◌, arith, subst}, lemmas.Grind.{common_steps}, lemmas.Result.{IfOk-from_err}}
use Rattle.gs_model.specs.{Frame.{frame_of}, Game.{round_count}}
use Rattle.gs_model.proofs.{Ranges.{signal_count_is}, Walked.{last_round_of}}
use Rattle.gs_tree.specs.Trees.{rules_of}
use Rattle.gs_lossless.specs.Stops.{MatchUnlike}
use Rattle.gs_lossless.proofs.{Descent.{list_long}, Scanned.{alike_more, first_unlike_from, not_single, refuted}, Settled.{lossless_by_firsts, over}, Unlike.{no_pair, nothing_said}}
use Rattle.gs_lossless.proofs.checking.first_unlike.Goals as goal

pub unlike_in-requires-clause-top : goal.unlike_in-requires-clause-top
unlike_in-requires-clause-top c =
    let g = rules_of c.args.grouped.now.signals.now in
    omega (arith, c.loop-before-test.true, c.rounds-before-end.ensures.value, last_round_of g)

pub class_of-class-requires-clause-within : goal.class_of-class-requires-clause-within
class_of-class-requires-clause-within c =
    let g = rules_of c.args.grouped.now.signals.now in
    let f = frame_of g in
    let l = c.args.grouped.now.classes.now in
    let round = c.loop-before.before + 1 in
    let top : round ≤ round_count g = omega (arith, c.loop-before-test.true, c.rounds-before-end.ensures.value) in
    let h = subst (MatchUnlike f l.lists round) c.in-Some.is c.in_ok-second.ensures in
    omega (arith, h.0, list_long g l c.args.grouped.now.parents round (omega arith) top, signal_count_is g round (omega arith) top)

pub returns-in-Some-clause-unlike : goal.returns-in-Some-clause-unlike
returns-in-Some-clause-unlike c =
    let g = rules_of c.args.grouped.now.signals.now in
    let f = frame_of g in
    let l = c.args.grouped.now.classes.now in
    first_unlike_from f l.lists c.loop-before.before c.first-first.result c.in-Some.second c.class_of-class.result
    (omega (arith, c.loop-before-test.true, c.rounds-before-end.ensures.value, last_round_of g))
    (subst (MatchUnlike f l.lists (c.loop-before.before + 1)) c.in-Some.is c.in_ok-second.ensures)
    c.class_of-class.ensures.value c.first-first.ensures.value c.loop-before.invariant

pub returns-in-Some-clause-refuted : goal.returns-in-Some-clause-refuted
returns-in-Some-clause-refuted c =
    let f = frame_of (rules_of c.args.grouped.now.signals.now) in
    λ _. refuted f c.args.grouped.now.classes.now c.args.grouped.now.parents (c.loop-before.before + 1) c.first-first.result c.in-Some.second
    (returns-in-Some-clause-unlike c)

pub returns-in-Some-clause-single : goal.returns-in-Some-clause-single
returns-in-Some-clause-single c =
    let f = frame_of (rules_of c.args.grouped.now.signals.now) in
    λ _. not_single f c.args.grouped.now.classes.now c.args.grouped.now.parents (c.loop-before.before + 1) c.first-first.result c.in-Some.second
    (returns-in-Some-clause-unlike c)

pub loop-before-preserved : goal.loop-before-preserved
loop-before-preserved c =
    let f = frame_of (rules_of c.args.grouped.now.signals.now) in
    let lists = c.args.grouped.now.classes.now.lists in
    alike_more f lists c.loop-before.before c.loop-before.invariant
    (subst (MatchUnlike f lists (c.loop-before.before + 1)) c.in_default.is c.in_ok-second.ensures)

pub returns-clause-lossless : goal.returns-clause-lossless
returns-clause-lossless c =
    let g = rules_of c.args.grouped.now.signals.now in
    let f = frame_of g in
    let l = c.args.grouped.now.classes.now in
    let classes = over f l c.args.grouped.now.parents l.classes in
    lossless_by_firsts f l.lists classes.filter (λ r s some top ls. c.loop-before.invariant r some (omega (arith, top, last_round_of g)) s ls)

pub first-first-requires-clause-top : goal.first-first-requires-clause-top
first-first-requires-clause-top c = grind (arith, common_steps)

pub class_of-class-requires-clause-top : goal.class_of-class-requires-clause-top
class_of-class-requires-clause-top c = grind (arith, common_steps)

pub returns-in_err-second : goal.returns-in_err-second
returns-in_err-second c =
    let failed = c.from_residual.ensures in
    record {
      lossless = IfOk-from_err _ _ failed.0;
      unlike = nothing_said _ _ _ failed.1;
      refuted = no_pair _ _ failed.1;
      single = no_pair _ _ failed.1;
    }
