use Rattle.std.proofs.{Common.{ap, arith, length}, lemmas.Grind.{common_steps}, lemmas.List.{length-map}}
use Rattle.gs_filter.specs.Tallies.{tallies_of}
use Rattle.gs_model.specs.Rows.{rows}
use Rattle.gs_filter.proofs.{RowLaws.{length-rows}, ApartLaws.{ready_at}}
use Rattle.gs_filter.proofs.apart.first_apart.Goals as goal

pub first_apart_in-apart-requires : goal.first_apart_in-apart-requires
first_apart_in-apart-requires c =
    ready_at (rows c.args.parents.now) (rows c.args.lists.now) c.args.tallies.now c.requires.parents c.requires.agree c.requires.numbered c.requires.tallied
    c.loop-round.round c.of_round.result.now
    c.of_round-in-loop-round.result.now c.of_round-in-loop-round-2.result.now c.index-tallies-round.result (omega arith)
    (omega (arith, length-rows c.args.lists.now)) c.of_round.ensures c.of_round-in-loop-round.ensures
    c.of_round-in-loop-round-2.ensures c.index-tallies-round.is

pub returns : goal.returns
returns c = λ r some top. c.loop-round.invariant r some (omega (arith, length-rows c.args.lists.now))

pub returns-in-Some : goal.returns-in-Some
returns-in-Some c = grind (arith, common_steps)

pub loop-round-preserved : goal.loop-round-preserved
loop-round-preserved c = grind arith

pub bounds-tallies-round : goal.bounds-tallies-round
bounds-tallies-round c = omega (
  arith,
  ap length c.requires.tallied,
  length-map (rows c.args.lists.now) tallies_of,
  length-rows c.args.lists.now,
  c.loop-round-test.true,
  c.loop-round.auto.round,
)

pub overflow_add-round-end : goal.overflow_add-round-end
overflow_add-round-end c = omega (arith, c.requires.parents.few, c.requires.agree.rounds, length-rows c.args.lists.now)

pub overflow_cast-round-end : goal.overflow_cast-round-end
overflow_cast-round-end c = omega (arith, c.requires.parents.few, c.requires.agree.rounds, length-rows c.args.lists.now)
