use Rattle.std.proofs.Common.{◌≡◌, ◌+◌, ◌-◌, ℕ, List, subst, rules, arith}
use Rattle.gs_filter.proofs.Linked.{AreLinked, linked_more, linked_none}
use Rattle.gs_filter.proofs.members.next_members.Goals as goal

pub loop-signal-init : goal.loop-signal-init
loop-signal-init c =
    linked_none c.args.classes.now.lists c.args.round _ c.signals-count.result c.in_ok-heads.heads.items c.in_ok-nexts.nexts.items c.classes.ensures
    c.signals-count.ensures (c.in_ok-heads.ensures.items_if_clones_equal (λ y k. search rules))
    (c.in_ok-nexts.ensures.items_if_clones_equal (λ y k. search rules))

pub returns : goal.returns
returns c = grind arith

pub loop-signal-preserved : goal.loop-signal-preserved
loop-signal-preserved c =
    let lists = c.args.classes.now.lists in
    let s : ℕ = c.loop-signal.signal - 1 in
    let heads : List ℕ = c.loop-signal.heads.items in
    let nexts : List ℕ = c.loop-signal.nexts.items in
    let class = c.class_of.ensures.class in
    let here : c.loop-signal.signal ≡ s + 1 = omega (arith, c.loop-signal-test.true) in
    linked_more lists c.args.round s c.class_of.result c.index.result.now heads nexts class.0 class.1 c.class_of.ensures.value c.index.ensures
    (subst (λ n. AreLinked lists c.args.round n heads nexts) here c.loop-signal.invariant)
