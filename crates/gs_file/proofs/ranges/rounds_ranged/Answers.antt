use Rattle.std.proofs.Common.{◌+◌, ap, refl, ◌∙◌, rules}
use Rattle.std.proofs.lemmas.Result.{err_from_is_err_and}
use Rattle.gs_file.specs.{Reading.{round_within}, Views.{ranged_view, round_view}}
use Rattle.gs_file.proofs.Loop.{breaks_off, grows, is_done}
use Rattle.gs_file.proofs.ranges.rounds_ranged.Goals as goal

pub loop-index-preserved : goal.loop-index-preserved
loop-index-preserved c = record {
  so_far = grows ranged_view round_within round_view c.args.rounds.now c.loop-index.index c.loop-index.ranged.items c.in_ok-round.round _ _
      c.loop-index.invariant.so_far c.loop-index-test.true refl c.in_ok-round.ensures c.in_ok-push.ensures.items;
  count = c.in_ok-push.ensures.len ∙ ap (λ k. k + 1) c.loop-index.invariant.count;
}

pub returns-clause-gives : goal.returns-clause-gives
returns-clause-gives c =
    is_done round_within round_view c.args.rounds.now c.loop-index.index _ c.loop-index.invariant.so_far c.loop-index-test.false

pub returns-clause-few : goal.returns-clause-few
returns-clause-few c = search rules

pub returns-in_err-round-clause-gives : goal.returns-in_err-round-clause-gives
returns-in_err-round-clause-gives c =
    let e = err_from_is_err_and c.from_residual.result c.from_residual.ensures.1 in
    rw (e.1, e.2) (breaks_off round_within round_view c.args.rounds.now c.loop-index.index _ c.loop-index.invariant.so_far _ _
    c.loop-index-test.true refl _ c.in_err-round.ensures)
