use Rattle.std.proofs.{Common.{◌-◌, ◌^◌, ◌∙◌, length, take, drop, arith}, lemmas.Grind.{common_steps}}
use Rattle.gs_bet.specs.TreeView.{plain}
use Rattle.gs_game.specs.{Counts.{ends_in}, Games.{plain_trees}}
use Rattle.gs_game.proofs.{EndLaws.{cap_rest}, RoundSteps.{split_first}}
use Rattle.gs_game.proofs.betting.+count_lines.Goals as goal

pub returns-in-len1-up : goal.returns-in-len1-up
returns-in-len1-up t c =
    let e = split_first c.first-item.result c.args.rounds.now c.in-len1-up.len_at_least c.first-item.is in
    rw e (c.count_ends.ensures ∙ cap_rest (2 ^ 128 - 1) (ends_in (plain_trees (take (length c.args.rounds.now - 1) (drop 1 c.args.rounds.now))))
    c.count_lines.result (plain c.first-item.result.tree.tree) c.count_lines.ensures)

pub returns-in-empty : goal.returns-in-empty
returns-in-empty t c = grind (arith, common_steps)
