use Rattle.std.proofs.Common.{◌≤◌, ℕ, sym, subst}
use Rattle.gs_tree.proofs.Taken.{ways_small}
use Rattle.gs_tree.proofs.layer.few_ways.Goals as goal

pub returns-clause-few : goal.returns-clause-few
returns-clause-few c =
    let P : ℕ → Type 0 = λ n. n ≤ 729 in
    subst P (sym c.ways.ensures) (ways_small c.args.left.now c.args.group.now c.requires.in_range c.requires.few_copies c.requires.few_cards)
