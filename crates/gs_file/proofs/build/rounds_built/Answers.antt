use Rattle.std.proofs.{Common.{◌≡◌, ◌++◌, ◌∷◌, [], subst, sym, All, arith}, lemmas.List.Elements.{All-push}}
use Rattle.std.proofs.lemmas.Result.{err_from_is_err_and}
use Rattle.gs_game.specs.Games.{HasFewCards, round_rules}
use Rattle.gs_file.specs.{Reading.{round_built}, Views.{ranged_view}}
use Rattle.gs_file.proofs.Loop.{breaks_off, grows, is_done, may_fail_so}
use Rattle.gs_file.proofs.build.rounds_built.Goals as goal

pub loop-index-preserved : goal.loop-index-preserved
loop-index-preserved c =
    let old = c.loop-index.rounds.items in
    let new = c.in_ok-round.round in
    let grown : c.push.new.self.items ≡ old ++ new ∷ [] = c.in_ok-push.ensures.items in
    record {
      so_far = grows round_rules round_built ranged_view c.args.sizes.now c.loop-index.index old new c.index-sizes-index.result
          c.index-sizes-index.result c.loop-index.invariant.so_far c.loop-index-test.true c.index-sizes-index.is c.in_ok-round.ensures.gives grown;
      few = subst (All HasFewCards) (sym grown) (All-push HasFewCards old new c.loop-index.invariant.few c.in_ok-round.ensures.few);
    }

pub returns : goal.returns
returns c = record {
  gives = is_done round_built ranged_view c.args.sizes.now c.loop-index.index _ c.loop-index.invariant.so_far c.loop-index-test.false;
  few = c.loop-index.invariant.few;
}

pub returns-in_err-round : goal.returns-in_err-round
returns-in_err-round c =
    let e = err_from_is_err_and c.from_residual.result c.from_residual.ensures.1 in
    let fails = may_fail_so _ _ _ c.in_err-round.ensures.gives (breaks_off round_built ranged_view c.args.sizes.now c.loop-index.index _
    c.loop-index.invariant.so_far c.index-sizes-index.result c.index-sizes-index.result c.loop-index-test.true c.index-sizes-index.is) in
    record { gives = rw (e.1, e.2) fails; few = rw e.1 tt }

pub loop-index-init : goal.loop-index-init
loop-index-init c = grind arith
