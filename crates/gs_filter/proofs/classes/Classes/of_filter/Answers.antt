use Rattle.std.proofs.Common.{ℕ, List, Vec, Global, ap, arith, length}
use Rattle.gs_filter.proofs.RowLaws.{length-rows}
use Rattle.gs_filter.proofs.classes.Classes.of_filter.Goals as goal

pub tally_lists-requires-clause-few : goal.tally_lists-requires-clause-few
tally_lists-requires-clause-few c =
    let here = ap (λ (vs : List (Vec ℕ Global)). length vs) c.deref.ensures.value in
    omega (arith, here, c.requires.parents.few, c.requires.classes.rounds, length-rows c.args.lists.items)
