use Rattle.std.proofs.Common.{◌≡◌, ◌+◌, ◌-◌, ◌<◌, ◌∷◌, [], ◌∙◌, suc, ℕ, List, Vec, Global, ap, arith, get_or, length, length-append, subst, sym}
use Rattle.std.proofs.lemmas.Grind.{common_steps}
use Rattle.gs_model.specs.{Signals.{parents}, Rows.{rows}}
use Rattle.gs_filter.proofs.RowLaws.{length-rows, row_read}
use Rattle.gs_tree.specs.Trees.{rules_of}
use Rattle.gs_iso.specs.Numbers.{IsNumbering, classes_above}
use Rattle.gs_iso.proofs.Listed.{AreClassesIn, AreReady, above_in, all_classes, classes_next, numbers_in, ready, rows_more}
use Rattle.gs_iso.proofs.signal_classes.class_lists.Goals.{After-deref-in-loop-done}
use Rattle.gs_iso.proofs.signal_classes.class_lists.Goals as goal

-- the classes of the round before
above : (c : After-deref-in-loop-done) → AreClassesIn (rules_of c.args.signals.now) c.loop-done.done c.last_classes.result.now
above c =
    above_in (rules_of c.args.signals.now) c.loop-done.lists.items c.loop-done.done c.last_classes.result.now c.loop-done.invariant.long
    (c.last_classes.ensures ∙ ap (λ (vs : List (Vec ℕ Global)). classes_above (rows vs)) c.deref.ensures.value) c.loop-done.invariant.each

-- the numbers of the round
numbered : (c : After-deref-in-loop-done) → IsNumbering (rules_of c.args.signals.now) (suc c.loop-done.done) c.deref-in-loop-done.result.now
numbered c =
    let all = c.args.numbers.now in
    let i = c.from-in-loop-done.result - 1 in
    let n = length-rows all in
    let in' : i < length all = omega (arith, n, c.requires.rounds, c.from-in-loop-done.ensures, c.loop-done-test.true, c.rounds-rounds.ensures.value) in
    numbers_in (rules_of c.args.signals.now) (rows all) i (suc c.loop-done.done) c.deref-in-loop-done.result.now c.requires (omega (arith, n, in'))
    (omega (arith, c.from-in-loop-done.ensures, c.loop-done-test.true, c.rounds-rounds.ensures.value))
    (c.deref-in-loop-done.ensures.value ∙ row_read all i c.index-numbers-from.result in' c.index-numbers-from.is)

parents_are : (c : After-deref-in-loop-done) → c.parents_in.result.now ≡ parents (rules_of c.args.signals.now) (suc c.loop-done.done)
parents_are c = let next : c.loop-done.done + 1 ≡ suc c.loop-done.done = omega arith in c.parents_in.ensures ∙ ap (parents (rules_of c.args.signals.now)) next

are_ready : (c : After-deref-in-loop-done) → AreReady c.last_classes.result.now c.parents_in.result.now c.deref-in-loop-done.result.now
are_ready c =
    ready (rules_of c.args.signals.now) c.loop-done.done c.last_classes.result.now c.parents_in.result.now c.deref-in-loop-done.result.now
    c.args.signals.now.game.now.limits
    (omega (arith, c.loop-done-test.true, c.rounds-rounds.ensures.value)) (above c) (parents_are c) (numbered c)

pub invariant_of-items : goal.invariant_of-items
invariant_of-items c =
    let r = are_ready (goal.at.invariant_of-items c).After-deref-in-loop-done in
    record { all = r.all; in_range = r.in_range }

pub round_classes-requires : goal.round_classes-requires
round_classes-requires c = (are_ready (goal.at.round_classes-requires c).After-deref-in-loop-done).few

pub loop-done-preserved : goal.loop-done-preserved
loop-done-preserved c =
    let at = (goal.at.loop-done-preserved c).After-deref-in-loop-done in
    let g = rules_of c.args.signals.now in
    let lists = c.loop-done.lists.items in
    let here = c.in_ok-here.here in
    let pushed = c.in_ok-push.ensures.items in
    let k = classes_next g c.loop-done.done c.last_classes.result.now c.deref-in-loop-done.result.now here.items (above at)
    (numbered at) c.in_ok-here.ensures.long c.parents_in.result.now (parents_are at) c.in_ok-here.ensures.classes in
    record {
      long = ap length pushed ∙ length-append lists (here ∷ []) ∙ ap (λ k. k + 1) c.loop-done.invariant.long;
      each = subst (λ (vs : List (Vec ℕ Global)). (k : ℕ) → k < length vs → AreClassesIn g (suc k) (get_or (rows vs) k [])) (sym pushed)
          (rows_more (λ k l. AreClassesIn g (suc k) l) lists here c.loop-done.invariant.each
          (subst (λ r. AreClassesIn g (suc r) here.items) (sym c.loop-done.invariant.long) k));
    }

pub returns : goal.returns
returns c =
    let n = length-rows c.loop-done.lists.items in
    all_classes (rules_of c.args.signals.now) (rows c.loop-done.lists.items)
    (omega (arith, n, c.loop-done.invariant.long, c.loop-done-test.false, c.loop-done.auto.done-end, c.rounds-rounds.ensures.value))
    (λ k l. c.loop-done.invariant.each k (omega (arith, l, n)))

pub bounds-numbers-from : goal.bounds-numbers-from
bounds-numbers-from c = grind (arith, common_steps)

pub loop-done-init : goal.loop-done-init
loop-done-init c = grind arith
