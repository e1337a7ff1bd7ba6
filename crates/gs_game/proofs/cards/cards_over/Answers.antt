use Rattle.std.proofs.Math.ListN.{drop_of_length-le}
use Rattle.std.proofs.{Common.{arith, ap}, lemmas.Grind.{common_steps}}
use Rattle.std.specs.Prelude.{sum_by}
use Rattle.gs_game.specs.declared.game.Round.{Round}
use Rattle.gs_game.proofs.cards.cards_over.Goals as goal

pub loop-round-preserved : goal.loop-round-preserved
loop-round-preserved c = grind (arith, common_steps)

pub returns-clause-own : goal.returns-clause-own
returns-clause-own c =
    let none = drop_of_length-le c.args.rounds.now c.loop-round-test.false in
    omega (arith, c.loop-round.invariant.own, ap (sum_by (λ (r : Round). r.private)) none)

pub returns-clause-public : goal.returns-clause-public
returns-clause-public c =
    let none = drop_of_length-le c.args.rounds.now c.loop-round-test.false in
    omega (arith, c.loop-round.invariant.public, ap (sum_by (λ (r : Round). r.public)) none)
