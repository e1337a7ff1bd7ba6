use Rattle.std.proofs.{Common.{◌≡◌, ◌∙◌, arith, rules}, lemmas.Grind.{common_steps}}
use Rattle.gs_bet.specs.{TreeView.{plain, plain_moves}, declared.shape.Act.{out-Act}}
use Rattle.gs_model.specs.Betting.{act}
use Rattle.gs_bet.proofs.TreeLaws.{plain-act, plain_act-out}
use Rattle.gs_game.proofs.{MoneyLaws.{fits_moves, fits_after, fits_behind, most_step}, TreeSteps.{moves_step}}
use Rattle.gs_game.specs.Money.{put_above}
use Rattle.gs_game.proofs.money.+most_above.Goals as goal

pub loop-next-init : goal.loop-next-init
loop-next-init t c =
    let is_act : plain c.args.tree.now ≡ act (out-Act c.in-Act.act).player (plain_moves c.deref-next-items.result.now) =
    rw (c.in-Act.is, c.deref-next-items.ensures.value) (plain-act c.in-Act.act ∙ plain_act-out c.in-Act.act) in
    record {
      most = rw is_act (omega arith);
      fits = fits_moves c.args.put.one c.args.put.two (out-Act c.in-Act.act).player _ (rw is_act at c.requires.fits);
      falls = rw is_act (omega arith);
      small = omega arith;
    }

pub most_above-requires : goal.most_above-requires
most_above-requires t c =
    let step = moves_step c.deref-next-items.result.now c.loop-next.next-index c.next-item.result c.loop-next-test.true c.next-item.is in (
      omega (arith, rw step at c.loop-next.invariant.falls, c.decreases),
      (
        fits_after c.args.put.one c.args.put.two (out-Act c.in-Act.act).player c.next-item.result.letter c.next-item.result.chips
            (plain c.next-item.result.next) _ _ _ _ c.loop-next.invariant.fits step c.after.ensures.one c.after.ensures.two,
        c.requires.above,
      ),
    )

pub loop-next-preserved : goal.loop-next-preserved
loop-next-preserved t c =
    let step = moves_step c.deref-next-items.result.now c.loop-next.next-index c.next-item.result c.loop-next-test.true c.next-item.is in
    let fallen = rw step at c.loop-next.invariant.falls in
    record {
      most = most_step (put_above c.args.above) c.args.put.one c.args.put.two (out-Act c.in-Act.act).player c.next-item.result.letter c.next-item.result.chips
          (plain c.next-item.result.next) _ _ _ _ _ _ _ _
          c.loop-next.invariant.most step c.most_above.ensures.most c.after.ensures.one c.after.ensures.two (search rules);
      falls = omega (arith, fallen);
      fits = fits_behind c.args.put.one c.args.put.two c.next-item.result.letter c.next-item.result.chips
          (plain c.next-item.result.next) _ _ c.loop-next.invariant.fits step;
      small = grind (arith, c.most_above.ensures.small);
    }

pub returns-after-loop-next-clause-most : goal.returns-after-loop-next-clause-most
returns-after-loop-next-clause-most t c = grind (arith, common_steps)

pub after-requires-clause-one : goal.after-requires-clause-one
after-requires-clause-one t c = grind arith

pub after-requires-clause-two : goal.after-requires-clause-two
after-requires-clause-two t c = grind arith

pub loop-next-smaller : goal.loop-next-smaller
loop-next-smaller t c = omega arith
