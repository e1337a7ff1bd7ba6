use Rattle.std.proofs.Common.{◌≡◌, ◌+◌, ◌-◌, subst, arith}
use Rattle.gs_model.specs.Classes.{IsClass}
use Rattle.gs_seq.proofs.EarlierRows.{below_more, up_is}
use Rattle.gs_seq.proofs.earlier.classes_below.Goals as goal

pub loop-before-preserved : goal.loop-before-preserved
loop-before-preserved c =
    let f = c.args.classes.now in
    let n = c.loop-before.before in
    let above = c.parent_class-above.result in
    let test = c.loop-before-test.true in
    let h : IsClass f.lists (c.args.round + 1) (n + 1) = (omega (arith, test), omega (arith, test, c.classes-before-end.ensures)) in
    let back : c.args.round + 1 - 1 ≡ c.args.round = omega arith in
    let own = subst (λ j. IsClass f.lists j above) back c.parent_class-above.ensures.class in
    below_more f c.args.round n c.loop-before.below.items c.index_mut.result.now c.push.new.self above c.loop-before.invariant own
    (up_is f c.args.round (n + 1) above c.requires.some c.requires.before_last h c.parent_class-above.ensures.value)
    c.index_mut.ensures.value c.in_ok-push.ensures.items

pub index_mut-requires : goal.index_mut-requires
index_mut-requires c = grind arith

pub returns : goal.returns
returns c = grind arith

pub overflow_add-before-in-loop-before : goal.overflow_add-before-in-loop-before
overflow_add-before-in-loop-before c = grind arith

pub parent_class-above-requires-clause-some : goal.parent_class-above-requires-clause-some
parent_class-above-requires-clause-some c = omega arith
