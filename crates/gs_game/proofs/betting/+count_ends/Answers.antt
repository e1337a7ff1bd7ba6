use Rattle.std.proofs.{Common.{◌≡◌, ◌∙◌, arith, ap}, lemmas.Grind.{common_steps}}
use Rattle.gs_model.specs.Betting.{act}
use Rattle.gs_bet.specs.{TreeView.{plain, plain_moves}, declared.shape.Act.{out-Act}}
use Rattle.gs_bet.proofs.TreeLaws.{plain-act, plain_act-out}
use Rattle.gs_game.specs.Counts.{move_ends}
use Rattle.gs_game.proofs.TreeSteps.{none_left}
use Rattle.gs_game.proofs.betting.+count_ends.Goals as goal

pub loop-next-init : goal.loop-next-init
loop-next-init t c =
    let is_act : plain c.args.tree.now ≡ act (out-Act c.in-Act.act).player (plain_moves c.deref-next-items.result.now) =
    rw (c.in-Act.is, c.deref-next-items.ensures.value) (plain-act c.in-Act.act ∙ plain_act-out c.in-Act.act) in
    record { rest = rw is_act (omega arith); small = omega arith }

pub loop-next-preserved : goal.loop-next-preserved
loop-next-preserved t c = grind (arith, common_steps)

pub returns-after-loop-next : goal.returns-after-loop-next
returns-after-loop-next t c =
    let none = none_left c.deref-next-items.result.now c.loop-next.next-index c.loop-next-test.false in
    omega (arith, c.loop-next.invariant.rest, ap (move_ends c.args.more) none, c.loop-next.invariant.small)
