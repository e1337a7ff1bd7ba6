use Rattle.std.proofs.{Common.{◌-◌, length, take, drop, arith}, lemmas.Grind.{common_steps}}
use Rattle.gs_bet.specs.TreeView.{plain}
use Rattle.gs_game.specs.Games.{plain_trees}
use Rattle.gs_game.proofs.{Evenly.{first_even, others_even, most_added}, MoneyLaws.{tree_sound}, RoundSteps.{split_first}}
use Rattle.gs_game.proofs.betting.+most_put.Goals as goal

pub most_put-requires : goal.most_put-requires
most_put-requires t c =
    let e = split_first c.first-item.result c.args.rounds.now c.in-len1-up.len_at_least c.first-item.is in (
      grind (arith, common_steps),
      (
        grind (arith, common_steps),
        others_even 1 1 (plain c.first-item.result.tree.tree) (plain_trees (take (length c.args.rounds.now - 1) (drop 1 c.args.rounds.now)))
            (rw e at c.requires.even),
      ),
    )

pub returns-in-len1-up-clause-most : goal.returns-in-len1-up-clause-most
returns-in-len1-up-clause-most t c before =
    let e = split_first c.first-item.result c.args.rounds.now c.in-len1-up.len_at_least c.first-item.is in
    let even = first_even 1 (plain c.first-item.result.tree.tree) (plain_trees (take (length c.args.rounds.now - 1) (drop 1 c.args.rounds.now)))
    (rw e at c.requires.even) in
    rw e (most_added (plain c.first-item.result.tree.tree) (plain_trees (take (length c.args.rounds.now - 1) (drop 1 c.args.rounds.now))) c.most_put.result
    c.most_above.result before (tree_sound (plain c.first-item.result.tree.tree) c.first-item.result.tree.sound) even c.most_put.ensures.most
    c.most_above.ensures.most)

pub returns-in-empty-clause-most : goal.returns-in-empty-clause-most
returns-in-empty-clause-most t c = grind (arith, common_steps)

pub most_above-requires-clause-fits : goal.most_above-requires-clause-fits
most_above-requires-clause-fits t c = grind arith
