use Rattle.std.proofs.{Common.{◌-◌, length, take, drop, arith}, lemmas.Grind.{common_steps}}
use Rattle.gs_bet.specs.TreeView.{plain}
use Rattle.gs_game.specs.Games.{plain_trees}
use Rattle.gs_game.proofs.{EvenRounds.{behind_first}, RoundSteps.{split_first}}
use Rattle.gs_game.proofs.lines.+numbers_in.Goals as goal

pub numbers_in-requires : goal.numbers_in-requires
numbers_in-requires t c =
    let e = split_first c.first-item.result c.args.rounds.now c.in-len1-up.len_at_least c.first-item.is in
    let points = rw e at c.requires.points in
    let ends = rw e at c.requires.ends in
    let behind = behind_first (plain c.first-item.result.tree.tree) (plain_trees (take (length c.args.rounds.now - 1) (drop 1 c.args.rounds.now))) 0 0
    (record { evens = rw e at c.requires.evens; few_points = omega (arith, points); few_ends = omega (arith, ends) }) in
    (grind (arith, common_steps), (behind.evens, (behind.points_in_them, behind.ends_in_them)))

pub numbers_below-requires-clause-points : goal.numbers_below-requires-clause-points
numbers_below-requires-clause-points t c = grind (arith, common_steps)

pub numbers_below-requires-clause-ends : goal.numbers_below-requires-clause-ends
numbers_below-requires-clause-ends t c = grind (arith, common_steps)

pub returns-in-empty-clause-points : goal.returns-in-empty-clause-points
returns-in-empty-clause-points t c = grind (arith, common_steps)

pub returns-in-empty-clause-ends : goal.returns-in-empty-clause-ends
returns-in-empty-clause-ends t c = grind (arith, common_steps)

pub returns-in-len1-up-clause-points : goal.returns-in-len1-up-clause-points
returns-in-len1-up-clause-points t c = grind (arith, common_steps)

pub returns-in-len1-up-clause-ends : goal.returns-in-len1-up-clause-ends
returns-in-len1-up-clause-ends t c = grind (arith, common_steps)
