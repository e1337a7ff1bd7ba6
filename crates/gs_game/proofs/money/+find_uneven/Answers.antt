use Rattle.std.proofs.{Common.{◌≡◌, ◌∙◌, refl, arith, ◌+◌, List, Some, None, ap, drop, sym, ℕ}, lemmas.Grind.{common_steps}}
use Rattle.gs_model.specs.Betting.{act}
use Rattle.gs_bet.specs.{TreeView.{plain, plain_moves}, declared.shape.Act.{out-Act}}
use Rattle.gs_bet.proofs.TreeLaws.{plain-act, plain_act-out}
use Rattle.gs_game.specs.Money.{uneven_move, uneven_path}
use Rattle.gs_game.proofs.Searches.{below_move, not_found, was_found}
use Rattle.gs_game.proofs.{MoneyLaws.{fits_behind, fits_moves, fits_after}, TreeSteps.{moves_step}}
use Rattle.gs_game.proofs.money.+find_uneven.Goals as goal

pub loop-next-init : goal.loop-next-init
loop-next-init t c =
    let is_act : plain c.args.tree.now ≡ act (out-Act c.in-Act.act).player (plain_moves c.deref-next-items.result.now) =
    rw (c.in-Act.is, c.deref-next-items.ensures.value) (plain-act c.in-Act.act ∙ plain_act-out c.in-Act.act) in
    record {
      search = rw is_act refl;
      fits = fits_moves c.args.put.one c.args.put.two (out-Act c.in-Act.act).player _ (rw is_act at c.requires);
      path = refl;
      falls = rw is_act (omega arith);
    }

pub find_uneven-requires : goal.find_uneven-requires
find_uneven-requires t c =
    let step = moves_step c.deref-next-items.result.now c.loop-next.next-index c.next-item.result c.loop-next-test.true c.next-item.is in (
      omega (arith, rw step at c.loop-next.invariant.falls, c.decreases),
      fits_after c.args.put.one c.args.put.two (out-Act c.in-Act.act).player c.next-item.result.letter c.next-item.result.chips
          (plain c.next-item.result.next) _ _ _ _ c.loop-next.invariant.fits step c.after.ensures.one c.after.ensures.two,
    )

pub returns-after-loop-next : goal.returns-after-loop-next
returns-after-loop-next t c = grind (arith, common_steps)

pub loop-next-preserved : goal.loop-next-preserved
loop-next-preserved t c =
    let player = (out-Act c.in-Act.act).player in
    let one = c.args.put.one in
    let two = c.args.put.two in
    let m = c.next-item.result in
    let step = moves_step c.deref-next-items.result.now c.loop-next.next-index m c.loop-next-test.true c.next-item.is in
    let none = not_found c.push.new.self.items c.find_uneven.new.path.items c.in_ok-find_uneven-in-Act.field-0
    (uneven_path c.push.new.self.items c.after.result.one c.after.result.two (plain m.next)) c.if-branch.false c.in_ok-find_uneven-in-Act.ensures in
    let popped : c.pop.new.self.items ≡ c.loop-next.path.items = grind (arith, common_steps, c.pop.ensures.items, none.1, c.in_ok-push-in-Act.ensures.items) in
    let fallen = rw step at c.loop-next.invariant.falls in
    record {
      search = c.loop-next.invariant.search
          ∙ below_move c.loop-next.path.items c.push.new.self.items one two player m.letter m.chips c.after.result.one c.after.result.two (plain m.next) _ _
          None step c.in_ok-push-in-Act.ensures.items c.after.ensures.one c.after.ensures.two none.0
          ∙ ap (λ (path : List ℕ). uneven_move path one two player (plain_moves (drop (c.loop-next.next-index + 1) c.deref-next-items.result.now)))
          (sym popped);
      falls = omega (arith, fallen);
      fits = fits_behind one two m.letter m.chips (plain m.next) _ _ c.loop-next.invariant.fits step;
      path = popped ∙ c.loop-next.invariant.path;
    }

pub returns-then-branch : goal.returns-then-branch
returns-then-branch t c =
    let player = (out-Act c.in-Act.act).player in
    let m = c.next-item.result in
    let step = moves_step c.deref-next-items.result.now c.loop-next.next-index m c.loop-next-test.true c.next-item.is in
    let some = was_found c.push.new.self.items c.find_uneven.new.path.items c.in_ok-find_uneven-in-Act.field-0
    (uneven_path c.push.new.self.items c.after.result.one c.after.result.two (plain m.next)) c.if-branch.true c.in_ok-find_uneven-in-Act.ensures in
    c.loop-next.invariant.search
    ∙ below_move c.loop-next.path.items c.push.new.self.items c.args.put.one c.args.put.two player m.letter m.chips c.after.result.one c.after.result.two
    (plain m.next) _ _ (Some c.find_uneven.new.path.items) step c.in_ok-push-in-Act.ensures.items c.after.ensures.one c.after.ensures.two some

pub after-requires-clause-two : goal.after-requires-clause-two
after-requires-clause-two t c = grind arith

pub loop-next-smaller : goal.loop-next-smaller
loop-next-smaller t c = omega arith

pub after-requires-clause-one : goal.after-requires-clause-one
after-requires-clause-one t c = grind arith
