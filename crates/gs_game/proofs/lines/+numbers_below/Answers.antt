use Rattle.std.proofs.{Common.{◌≡◌, ◌∙◌, arith, ap}, lemmas.Grind.{common_steps}}
use Rattle.gs_model.specs.Betting.{act}
use Rattle.gs_bet.specs.{TreeView.{plain, plain_moves}, declared.shape.Act.{out-Act}}
use Rattle.gs_bet.proofs.TreeLaws.{plain-act, plain_act-out}
use Rattle.gs_game.specs.Counts.{move_ends, move_points}
use Rattle.gs_game.proofs.TreeSteps.{none_left, moves_step}
use Rattle.gs_game.proofs.lines.+numbers_below.Goals as goal

pub loop-next-init : goal.loop-next-init
loop-next-init t c =
    let is_act : plain c.args.tree.now ≡ act (out-Act c.in-Act.act).player (plain_moves c.deref-next-items.result.now) =
    rw (c.in-Act.is, c.deref-next-items.ensures.value) (plain-act c.in-Act.act ∙ plain_act-out c.in-Act.act) in
    record { points = rw is_act (omega arith); ends = rw is_act (omega arith); falls = rw is_act (omega arith) }

pub numbers_below-below-requires : goal.numbers_below-below-requires
numbers_below-below-requires t c =
    let step = moves_step c.deref-next-items.result.now c.loop-next.next-index c.next-item.result c.loop-next-test.true c.next-item.is in
    let fallen = rw step at c.loop-next.invariant.falls in
    let points = rw step at c.loop-next.invariant.points in
    let ends = rw step at c.loop-next.invariant.ends in
    (omega (arith, fallen, c.decreases), (omega (arith, points, c.requires.points), omega (arith, ends, c.requires.ends)))

pub loop-next-preserved : goal.loop-next-preserved
loop-next-preserved t c = grind (arith, common_steps)

pub overflow_add-numbers-in-loop-next : goal.overflow_add-numbers-in-loop-next
overflow_add-numbers-in-loop-next t c = grind (arith, common_steps)

pub overflow_add-numbers : goal.overflow_add-numbers
overflow_add-numbers t c = grind (arith, common_steps)

pub returns-after-loop-next-clause-ends : goal.returns-after-loop-next-clause-ends
returns-after-loop-next-clause-ends t c =
    let none = none_left c.deref-next-items.result.now c.loop-next.next-index c.loop-next-test.false in
    omega (arith, c.loop-next.invariant.ends, ap (move_ends c.args.more.ends) none)

pub returns-after-loop-next-clause-points : goal.returns-after-loop-next-clause-points
returns-after-loop-next-clause-points t c =
    let none = none_left c.deref-next-items.result.now c.loop-next.next-index c.loop-next-test.false in
    omega (arith, c.loop-next.invariant.points, ap (move_points c.args.more.points) none)
