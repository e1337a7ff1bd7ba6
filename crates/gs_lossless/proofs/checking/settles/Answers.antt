use Rattle.std.proofs.{Common.{◌≡◌, ℕ, ap, length, sym, ◌∙◌, subst, arith, ⊎_elim, Bool, true, false}, lemmas.Bool.{cases_lt}}
use Rattle.std.specs.Prelude.{is_some, not}
use Rattle.gs_model.specs.{Frame.{frame_of, last_round}, Signals.{signals}}
use Rattle.gs_model.proofs.{Ranges.{in_range, signal_count_is}, Walked.{last_round_of}}
use Rattle.gs_tree.specs.Trees.{rules_of}
use Rattle.gs_lossless.specs.{Amounts.{AgreesWithFirst}, Scans.{AgreeBelow}, declared.aspects.Aspect.TheVariants.{Children, Deals}}
use Rattle.gs_lossless.proofs.{Descent.{count_last, playable}, Scanned.{none_apart}, Settled.{lossless_by_last, over}}
use Rattle.gs_lossless.proofs.checking.settles.Goals as goal

pub first_apart-requires-clause-aspect : goal.first_apart-requires-clause-aspect
first_apart-requires-clause-aspect c =
    let g = rules_of c.args.grouped.now.signals.now in
    (omega (arith, c.loop-round.auto.round), omega (arith, c.loop-round-test.true, c.rounds-last.ensures.value, last_round_of g))

pub first_apart-requires-2-clause-aspect : goal.first_apart-requires-2-clause-aspect
first_apart-requires-2-clause-aspect c =
    let g = rules_of c.args.grouped.now.signals.now in
    (c.rounds-last.ensures.some, omega (arith, c.rounds-last.ensures.value, last_round_of g))

pub loop-round-preserved : goal.loop-round-preserved
loop-round-preserved c =
    let g = rules_of c.args.grouped.now.signals.now in
    let f = frame_of g in
    let lists = c.args.grouped.now.classes.now.lists in
    let here = none_apart f lists Children c.loop-round.round c.count-end.result c.in_ok-first_apart.field-0 (sym c.is_some.ensures ∙ c.if-is_some.false)
    c.in_ok-first_apart.ensures in
    λ r some l. ⊎_elim (λ under. c.loop-round.invariant r some under)
    (λ over. let e : c.loop-round.round ≡ r = omega (arith, l, over) in
    subst (λ (k : ℕ). AgreeBelow f lists Children k (length (signals g k))) e
    (subst (AgreeBelow f lists Children c.loop-round.round) c.count-end.ensures.value here))
    (cases_lt r c.loop-round.round)

not_turned : (b r : Bool) → b ≡ not r → r ≡ true → b ≡ false
not_turned b r e t = e ∙ ap not t

pub returns : goal.returns
returns c =
    let g = rules_of c.args.grouped.now.signals.now in
    let f = frame_of g in
    let l = c.args.grouped.now.classes.now in
    let p = playable c.args.grouped.now.signals.now in
    let classes = over f l c.args.grouped.now.parents l.classes in
    let top : c.rounds-last.result ≡ last_round f = c.rounds-last.ensures.value ∙ sym (last_round_of g) in
    λ t.
    let here = none_apart f l.lists Deals c.rounds-last.result c.count-end-2.result c.in_ok-first_apart-2.field-0
    (not_turned (is_some c.in_ok-first_apart-2.field-0) c.is_none.result c.is_none.ensures t) c.in_ok-first_apart-2.ensures in
    lossless_by_last f l.lists (in_range g p) classes.filter
    (λ s ls. subst (λ (k : ℕ). AgreesWithFirst f l.lists Deals k s) top
    (here s (omega (arith, ls, count_last g p, c.count-end-2.ensures.value, ap (λ (k : ℕ). length (signals g k)) c.rounds-last.ensures.value))))
    (λ r s some lr ls. c.loop-round.invariant r some (omega (arith, lr, top)) s
    (omega (arith, ls, signal_count_is g r some (omega (arith, lr, last_round_of g)))))

pub returns-then-is_some : goal.returns-then-is_some
returns-then-is_some c = grind arith
